-- The cells of the members so far.
use Rattle.olap_view.specs.Columns.{IsTold}
use Rattle.olap_view.proofs.columns.cells.Given as goal

abbrev pub invariant-members : goal.invariant-members
invariant-members l = IsTold l.legal l.category.0 l.x l.cells.items
