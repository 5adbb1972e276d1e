-- The rows of the members so far begin one after the other.
use Rattle.olap_legal.specs.Laying.{AreStarts}
use Rattle.olap_legal.proofs.tables.starts_of.Given as goal

abbrev pub invariant-members : goal.invariant-members
invariant-members l = AreStarts l.instance l.slots l.x l.starts.items l.end
