use Rattle.std.{proofs.Common.{◌≢◌, ◌↔◌, ap, sym, subst, ◌∙◌}, specs.Prelude.{All, AllPairs, IfOk, IsNone}}
use Rattle.olap_ast.specs.{Summarizable.IsSummarizable, Trees.numbers_of}
use Rattle.olap_base.specs.Graph.{IsCategory}
use Rattle.olap_nav.proofs.ChosenLemmas.{categories_all, chosen_all, chosen_differ}
use Rattle.olap_schema.specs.Schemas.{schema_of}
use Rattle.olap_view.specs.Seen.{views_of}
use Rattle.olap_nav.proofs.planning.pattern_against.Goals as goal

pub pattern_of-requires-clause-sources : goal.pattern_of-requires-clause-sources
pattern_of-requires-clause-sources c =
    let g = (schema_of c.args.schema.now).graph in
    let views = views_of c.args.store.now in
    subst (All (IsCategory g)) (sym (ap numbers_of c.deref.ensures.value ∙ c.in_ok-sources.ensures))
    (chosen_all (IsCategory g) 0 views c.args.mask (categories_all (IsCategory g) views c.requires.categories))

pub pattern_of-requires-clause-differ : goal.pattern_of-requires-clause-differ
pattern_of-requires-clause-differ c =
    subst (AllPairs ◌≢◌) (sym (ap numbers_of c.deref.ensures.value ∙ c.in_ok-sources.ensures))
    (chosen_differ 0 (views_of c.args.store.now) c.args.mask c.requires.store.categories)

pub returns-clause-none : goal.returns-clause-none
returns-clause-none c =
    let s = schema_of c.args.schema.now in
    subst (λ l. IfOk c.pattern_of.result (λ o. IsNone o ↔ IsSummarizable s c.args.target.0 l))
    (ap numbers_of c.deref.ensures.value ∙ c.in_ok-sources.ensures) c.pattern_of.ensures.none
