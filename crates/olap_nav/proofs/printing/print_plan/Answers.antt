use Rattle.std.{proofs.Common.{ap, subst, sym, ◌∙◌}, specs.Prelude.All}
use Rattle.olap_base.specs.Graph.{IsCategory}
use Rattle.olap_nav.proofs.ChosenLemmas.{categories_all, chosen_all}
use Rattle.olap_ast.specs.Trees.{numbers_of}
use Rattle.olap_view.specs.Seen.{views_of}
use Rattle.olap_nav.proofs.printing.print_plan.Goals as goal

pub print_sources-requires : goal.print_sources-requires
print_sources-requires c =
    let views = views_of c.args.store.now in
    let is = IsCategory c.args.graph.now in
    subst (All is) (sym (ap numbers_of c.deref.ensures.value ∙ c.in_ok-sources.ensures))
    (chosen_all is 0 views c.args.mask (categories_all is views c.requires.categories))
