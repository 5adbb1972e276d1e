use Rattle.std.proofs.Common.{◌∙◌, sym, arith}
use Rattle.olap_instance.proofs.LookUps.{length-is}
use Rattle.olap_instance.proofs.instances.Instance.members.Goals as goal

pub returns-clause-count : goal.returns-clause-count
returns-clause-count c = rw (← c.self.view_is) (c.len.ensures ∙ sym (length-is c.self.inside c.self.invariant))

pub returns-clause-few : goal.returns-clause-few
returns-clause-few c = grind (arith, length-is)
