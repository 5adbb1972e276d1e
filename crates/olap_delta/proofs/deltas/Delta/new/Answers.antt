-- What stands in the table may be stored.
use Rattle.olap_view.specs.Seen.{views_of}
use Rattle.olap_delta.proofs.StorableLemmas.{table_storable}
use Rattle.olap_delta.proofs.deltas.Delta.new.Goals as goal

pub invariant_of-result : goal.invariant_of-result
invariant_of-result c =
    table_storable c.in_ok-of.field-0 (views_of c.args.store.now) c.in_ok-of.ensures.views c.requires.fit
