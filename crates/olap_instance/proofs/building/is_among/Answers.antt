use Rattle.std.proofs.Common.{rules}
use Rattle.olap_instance.{proofs.Among.{among, same-parent}, specs.DraftInside.number_of}
use Rattle.olap_instance.proofs.building.is_among.Goals as goal

pub returns : goal.returns
returns c = among _ number_of (number_of c.args.parent) (λ p. same-parent _ (λ m n. search rules) p c.args.parent)
    c.args.parents.now c.contains.result c.contains.ensures.value
