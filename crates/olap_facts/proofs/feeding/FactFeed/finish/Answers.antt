-- The fact's member is of a bottom category.
use Rattle.std.{proofs.Common.subst, specs.Prelude.{IfOk, IfSome}}
use Rattle.olap_base.specs.{Graph.IsBottom, Instance.category_of}
use Rattle.olap_facts.specs.Feeding.{Feeding}
use Rattle.olap_facts.proofs.feeding.FactFeed.finish.Goals as goal

pub returns-clause-bottom : goal.returns-clause-bottom
returns-clause-bottom c =
    subst (λ (q : Feeding). IfOk c.finish.result (λ o. IfSome o (λ f.
    IsBottom q.graph (category_of q.instance f.member.0))))
    c.self.view_is c.finish.ensures.bottom
