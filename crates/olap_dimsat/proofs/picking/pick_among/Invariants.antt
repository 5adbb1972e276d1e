use Rattle.std.specs.Prelude.{IfSome}
use Rattle.olap_clauses.specs.Trails.{IsOpen}
use Rattle.olap_dimsat.proofs.picking.pick_among.Given as goal

-- what was picked so far is open
abbrev pub invariant-edges : goal.invariant-edges
invariant-edges l = IfSome l.best (IsOpen l.trail)
