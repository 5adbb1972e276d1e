-- Whatever serves may still serve, and each question leaves fewer masks that may.
use Rattle.std.proofs.Common.{◌≡◌, ◌≤◌, ◌^◌, ℕ, length}
use Rattle.olap_base.specs.{Graph.category_count, Limits.most_views}
use Rattle.olap_nav.{proofs.ChoiceLemmas.marks, specs.Choices.MayServe, specs.Plans.Serves}
use Rattle.olap_schema.specs.Schemas.{schema_of}
use Rattle.olap_view.specs.Seen.{views_of}
use Rattle.olap_nav.proofs.planning.cheapest_plan.Given as goal

abbrev pub invariant-questions : goal.invariant-questions
invariant-questions l = record {
  count : length l.may_serve ≡ 2 ^ length l.store.views;
  few : length l.may_serve ≤ 2 ^ most_views;
  serving : (m : ℕ) → Serves (schema_of l.schema) (views_of l.store) l.target.0 m → MayServe l.may_serve m;
  room : length l.room.rows.items ≡ category_count (schema_of l.schema).graph;
}

abbrev pub decreases-questions : goal.decreases-questions
decreases-questions l = marks l.may_serve
