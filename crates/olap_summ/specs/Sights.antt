-- Sights: what some legal instances were seen to have.
--     IsSeen           each mark is a fact of some legal instance
--     AreAllSettled    a declared category without a mark can't have a member
--     IsWitness        a frozen dimension was found, for some question
--     Keeps            no mark is lost
use Rattle.std.specs.Prelude.{◌≡◌, ◌<◌, ℕ, false, length, slice_index_or, true}
use Rattle.olap_base.specs.Graph.{category_count}
use Rattle.olap_ast.specs.Findings.{IsUnsatisfiable, IsUnused}
use Rattle.olap_ast.specs.Formula.{Formula}
use Rattle.olap_ast.specs.Schema.{Schema}
use Rattle.olap_dimsat.specs.OneFound.{IsOneFound}
use Rattle.olap_frozen.specs.declared.founding.Found.{Found}
use Rattle.olap_graph.specs.Lookups.{edge_at}
use Rattle.olap_summ.specs.declared.seeing.Seen.{Seen}

-- the category is marked
abbrev pub HasCategory : Seen → ℕ → Type 0
HasCategory seen c = slice_index_or seen.categories.items c false ≡ true

-- the edge is marked
abbrev pub HasUse : Seen → ℕ → Type 0
HasUse seen k = slice_index_or seen.edges.items k false ≡ true

-- some legal instance has a member of each marked category, and some legal instance uses each marked edge
pub record IsSeen (s : Schema) (seen : Seen) : Type 0 where
  pub category_places : length seen.categories.items ≡ category_count s.graph
  pub edge_places : length seen.edges.items ≡ length s.graph.edges
  pub categories : (c : ℕ) → HasCategory seen c → IsUnsatisfiable s c → ⊥
  pub edges : (k : ℕ) → HasUse seen k → IsUnused s (edge_at s.graph k) → ⊥

-- no declared category before the n-th is without a mark, but those that can't have a member
abbrev pub AreSettled : Schema → ℕ → Seen → Type 0
AreSettled s n seen =
    (c : ℕ) → 0 < c → c < n → slice_index_or seen.categories.items c false ≡ false → IsUnsatisfiable s c

abbrev pub AreAllSettled : Schema → Seen → Type 0
AreAllSettled s seen = AreSettled s (category_count s.graph) seen

-- it was found for some question at its root
abbrev pub IsWitness : Schema → Found → Type 0
IsWitness s found = (q : Formula) × IsOneFound s q found.frozen.root.0 found

-- no mark is lost
pub record Keeps (old new : Seen) : Type 0 where
  pub categories : (c : ℕ) → HasCategory old c → HasCategory new c
  pub edges : (k : ℕ) → HasUse old k → HasUse new k
