use Rattle.olap_instance.proofs.LinkingLemmas.{of-records}
use Rattle.olap_instance.proofs.linking.link_all.Goals as goal

pub returns : goal.returns
returns c = λ rows e. of-records _ rows _ _ e _ c.link_fields.ensures
