use Rattle.std.proofs.Common.{◌∙◌, sym, arith}
use Rattle.olap_instance.proofs.LookUps.{found, unfound}
use Rattle.olap_instance.proofs.instances.Instance.find.Goals as goal

pub returns-in-Some-clause-place : goal.returns-in-Some-clause-place
returns-in-Some-clause-place c = grind (arith, found)

pub returns-in-Some-clause-inside : goal.returns-in-Some-clause-inside
returns-in-Some-clause-inside c = grind (arith, found)

pub returns-in-None-clause-place : goal.returns-in-None-clause-place
returns-in-None-clause-place c =
    rw (← c.self.view_is) (unfound c.self.inside c.self.invariant c.args.id.now (sym c.find.ensures ∙ c.in-None.is))
