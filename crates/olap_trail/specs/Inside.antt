-- The fields of a trail: what they stand for, and keep.
use Rattle.std.specs.Prelude.{◌≡◌, ℕ, ◌+◌, ◌≤◌, None, length, slice_index_or, vec_capacity}
use Rattle.olap_base.specs.Graph.{IsHierarchy, category_count}
use Rattle.olap_base.specs.Limits.{most_categories, most_edges}
use Rattle.olap_bits.specs.CatSet.{IsOfWidth}
use Rattle.olap_trail.specs.Decisions.{AreDecisions, Decided, present_edges, status_in}
use Rattle.olap_trail.specs.Trails.{decisions_of}
use Rattle.olap_trail.specs.declared.trails.Trail.TheInside as trail

-- the decisions that were made
abbrev pub decided : {W : ℕ} → trail.Inside W → Decided
decided a = record { graph = a.graph; root = a.root.0; decisions = decisions_of a.decisions.items }

-- what a trail keeps: the edges that were decided present are drawn, and the table says what was decided
pub record IsTrail {W : ℕ} (a : trail.Inside W) : Type 0 where
  pub width : IsOfWidth W
  pub decisions : AreDecisions (decided a)
  pub hierarchy : IsHierarchy a.graph
  pub few : category_count a.graph ≤ most_categories
  pub few_edges : length a.graph.edges ≤ most_edges
  pub reserved : length a.graph.edges ≤ vec_capacity a.decisions
  pub count : a.drawn.count ≡ category_count a.graph
  pub room : a.drawn.room ≡ length a.graph.edges + 1
  pub edges : a.drawn.edges ≡ present_edges (decided a)
  pub size : length a.statuses.items ≡ length a.graph.edges
  pub statuses : (e : ℕ) → slice_index_or a.statuses.items e None ≡ status_in (decided a).decisions e
