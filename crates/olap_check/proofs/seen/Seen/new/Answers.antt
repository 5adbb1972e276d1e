-- No entry is there.
use Rattle.olap_check.proofs.SeenLemmas.{all_none, only_none}
use Rattle.olap_check.proofs.seen.Seen.new.Goals as goal

pub returns : goal.returns
returns c = λ i.
    all_none i _ _ c.in_ok-entries.entries.items
    (c.in_ok-entries.ensures.items_if_clones_equal (only_none _ (λ x q. q)))
