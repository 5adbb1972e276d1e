-- None of the categories so far is this one.
use Rattle.std.{proofs.Common.take, specs.Prelude.Contains}
use Rattle.olap_view.specs.Seen.{ids}
use Rattle.olap_view.proofs.tables.is_among.Given as goal

abbrev pub invariant-categories : goal.invariant-categories
invariant-categories l = Contains (ids (take l.d-index l.categories)) l.c.0 → ⊥
