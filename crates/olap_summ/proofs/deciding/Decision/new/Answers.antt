use Rattle.std.proofs.Common.{◌≤◌, ◌∙◌, true≢false, ap, arith, length, refl, sym}
use Rattle.olap_base.specs.Graph.{category_count}
use Rattle.olap_schema.specs.Schemas.{schema_of}
use Rattle.olap_summ.proofs.DecisionLemmas.{all_made, asked_at, asked_few, none_to_make, one_made}
use Rattle.olap_summ.proofs.deciding.Decision.new.Goals.{then-is_bottom+in_ok-search+in_ok-push, else-is_bottom}
use Rattle.olap_summ.specs.Decisions.{asked_by}
use Rattle.olap_summ.proofs.deciding.Decision.new.Goals as goal

pub new-requires-clause-question : goal.new-requires-clause-question
new-requires-clause-question c =
    asked_at (schema_of c.args.schema.now) c.args.questions.now c.categories.b c.requires

pub new-requires-clause-few : goal.new-requires-clause-few
new-requires-clause-few c =
    asked_few (schema_of c.args.schema.now) c.args.questions.now c.constraints-valid.ensures.valid c.requires

pub categories-preserved : goal.categories-preserved
categories-preserved c = elim c.if-is_bottom.branch [
  | then-is_bottom+in_ok-search+in_ok-push w ↦ rw (w.searches-is, w.in_ok-push.ensures.items)
      (one_made (schema_of c.args.schema.now) (asked_by c.args.questions.now) c.categories.b _
      (record { root = record { 0 = c.categories.b }; search = w.in_ok-search.search }) c.categories.invariant
      (rw c.graph-graph.ensures at (c.is_bottom.ensures.0 w.if-is_bottom.true)) refl
      (record { made = w.in_ok-search.ensures.made; root = w.in_ok-search.ensures.root }))
  | else-is_bottom w ↦ rw w.searches-is
      (none_to_make (schema_of c.args.schema.now) (asked_by c.args.questions.now) c.categories.b _
      c.categories.invariant (λ bottom.
      true≢false (sym (c.is_bottom.ensures.1 (rw c.graph-graph.ensures bottom)) ∙ w.if-is_bottom.false)))
]

pub returns : goal.returns
returns c =
    let s = schema_of c.args.schema.now in
    let count = c.categories-b-end.ensures.count ∙ ap category_count c.graph-graph.ensures in record {
      questions = c.requires;
      asked = c.categories.invariant.asked;
      ordered = c.categories.invariant.ordered;
      bottoms = all_made s (asked_by c.args.questions.now) c.categories.b c.categories.searches.items
          c.categories.invariant (let past : category_count s.graph ≤ c.categories.b = omega arith in past);
      edges = c.edges.ensures.count ∙ ap (λ g. length g.edges) c.graph-graph.ensures;
      categories = c.categories-2.ensures.count ∙ ap category_count c.graph-graph.ensures;
    }
