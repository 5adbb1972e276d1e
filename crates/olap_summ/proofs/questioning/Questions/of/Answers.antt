use Rattle.std.{proofs.Common.{◌∙◌, ap, refl, subst, sym, true≢false}, specs.Prelude.{All, IfErr}}
use Rattle.olap_base.specs.Graph.{IsCategory}
use Rattle.olap_ast.specs.{Summarizable.not_by_one, Trees.numbers_of}
use Rattle.olap_schema.specs.Schemas.{schema_of}
use Rattle.olap_summ.proofs.questioning.Questions.of.Goals as goal

pub returns-clause-made : goal.returns-clause-made
returns-clause-made c =
    let same = ap numbers_of (c.from_vec-kept.ensures ∙ c.in_ok-from_slice.ensures.items) in
    record {
      target = c.requires.target;
      sources = subst (All (IsCategory (schema_of c.args.schema.now).graph)) (sym same) c.requires.sources;
      asked = c.in_ok-formula.ensures ∙ ap (not_by_one c.args.target.0) (sym same);
    }

pub returns-clause-duplicate : goal.returns-clause-duplicate
returns-clause-duplicate c = (
  λ e. absurd (subst (λ r. IfErr r (λ _. ⊥)) e tt),
  λ n. absurd (n (c.are_distinct.ensures.0 c.if-not-are_distinct.false)),
)

pub returns-then-not-are_distinct-clause-duplicate : goal.returns-then-not-are_distinct-clause-duplicate
returns-then-not-are_distinct-clause-duplicate c = (
  λ e n. true≢false (sym (c.are_distinct.ensures.1 n) ∙ c.if-not-are_distinct.true),
  λ n. refl,
)
