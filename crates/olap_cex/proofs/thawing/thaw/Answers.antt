-- The draft, finished, is the instance.
use Rattle.std.{proofs.Common.{◌≡◌, ◌∙◌, ap, subst}, specs.Prelude.IfOk}
use Rattle.olap_instance.specs.Drafts.{instance_built}
use Rattle.olap_cex.proofs.DraftLemmas.{built}
use Rattle.olap_cex.proofs.thawing.thaw.Goals as goal

pub returns-clause-instance : goal.returns-clause-instance
returns-clause-instance c =
    let e = ap instance_built c.in_ok-add_parents.ensures
    ∙ built c.args.graph.now c.args.found.now c.requires.found c.in_ok-places.ensures.hierarchy in
    subst (λ x. IfOk c.finish.result (λ i. i ≡ x)) e c.finish.ensures.built
