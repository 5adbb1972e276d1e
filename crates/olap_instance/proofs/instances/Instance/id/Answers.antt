use Rattle.std.proofs.Common.{arith}
use Rattle.olap_instance.proofs.LookUps.{in-roster, member-is}
use Rattle.olap_instance.proofs.instances.Instance.id.Goals as goal

pub id-requires : goal.id-requires
id-requires c = in-roster c.self.inside c.self.invariant c.args.m.0 (rw (← c.self.view_is) at c.requires)

pub returns : goal.returns
returns c = grind (arith, member-is)
