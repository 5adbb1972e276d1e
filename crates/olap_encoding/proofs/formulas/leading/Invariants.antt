-- The names so far.
use Rattle.std.proofs.Common.{◌≤◌}
use Rattle.olap_ast.specs.Trees.{op_of}
use Rattle.olap_encoding.specs.Formulas.{IsLeading}
use Rattle.olap_encoding.proofs.formulas.leading.Given as goal

abbrev pub invariant-places : goal.invariant-places
invariant-places l = record {
  few : l.m ≤ l.j;
  leading : IsLeading l.names (op_of l.op) l.n l.j l.m;
}
