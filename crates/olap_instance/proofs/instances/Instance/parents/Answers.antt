use Rattle.std.proofs.Common.{arith}
use Rattle.olap_instance.proofs.LookUps.{in-parents, parents-are}
use Rattle.olap_instance.proofs.instances.Instance.parents.Goals as goal

pub of-requires : goal.of-requires
of-requires c = in-parents c.self.inside c.self.invariant c.args.m.0 (rw (← c.self.view_is) at c.requires)

pub returns-clause-list : goal.returns-clause-list
returns-clause-list c = grind (arith, parents-are)

pub returns-clause-places : goal.returns-clause-places
returns-clause-places c = rw (← c.self.view_is) (λ y b. c.self.invariant.instance.parents_are_members c.args.m.0 y b)
