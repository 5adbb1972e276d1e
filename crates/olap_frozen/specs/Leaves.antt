-- A choice of edges and names as the program keeps it.
--     chosen_of    the definitions' value
--     IsSized      the value has an entry for each edge and each category
--     IsZeroAtAll  `All` has the index 0
--     IsLeaf       a sound choice, with the rows of what its categories reach
use Rattle.std.specs.Prelude.{◌≡◌, ◌<◌, ◌≤◌, ℕ, List, [], ◌∷◌, Bool, false, length, slice_index, slice_index_or}
use Rattle.std.specs.FinSet as set
use Rattle.olap_ast.specs.Frozen.{Frozen, chosen, instance_of, is_present, name_in}
use Rattle.olap_base.specs.Graph.{Graph, IsCategory, category_count}
use Rattle.olap_base.specs.Instance.{Instance}
use Rattle.olap_bits.specs.declared.sets.CatSet.{CatSet}
use Rattle.olap_names.specs.Names.{Named, candidates_of}
use Rattle.olap_frozen.specs.Chosen.{place_of}
use Rattle.olap_graph.specs.Rows.{row}
use Rattle.olap_frozen.specs.Rows.{AreRows}

-- the entries of the declared categories
abbrev pub of_declared : List ℕ → List ℕ
of_declared [] = []
of_declared (all ∷ rest) = rest

abbrev pub chosen_of : List Bool → List ℕ → Frozen
chosen_of edges names = record { edges = edges; names = of_declared names }

-- an entry for each edge and each category, and indexes of candidates
pub record IsSized (g : Graph) (k : Named) (edges : List Bool) (names : List ℕ) : Type 0 where
  pub edge_count : length edges ≡ length g.edges
  pub text_count : length k.texts ≡ category_count g
  pub name_count : length names ≡ category_count g
  pub in_range : (c : ℕ) → c < category_count g → slice_index names c ≤ length (slice_index_or k.texts c [])

-- `All` has the index 0
abbrev pub IsZeroAtAll : List ℕ → Type 0
IsZeroAtAll names = slice_index names 0 ≡ 0

-- each absent declared category has the index 0
abbrev pub AreAbsentZero : Graph → ℕ → List Bool → List ℕ → Type 0
AreAbsentZero g r edges names = (c : ℕ) → c < length names → is_present r (chosen g.edges edges) c ≡ false
    → slice_index names c ≡ 0

-- the choice is sized, the rows are those of its edges, and the root reaches the present categories
pub record IsLeaf {W : ℕ} (g : Graph) (k : Named) (r : ℕ) (edges : List Bool) (names : List ℕ)
    (table : List (CatSet W)) : Type 0 where
  pub root : IsCategory g r
  pub sized : IsSized g k edges names
  pub row_count : length table ≡ category_count g
  pub rows : AreRows g (chosen g.edges edges) table
  pub reached : (c : ℕ) → set.contains (row table r) c ≡ is_present r (chosen g.edges edges) c

-- the instance of a choice of edges and names
abbrev pub leaf_instance : Graph → Named → ℕ → List Bool → List ℕ → Instance
leaf_instance g k r edges names =
    instance_of g r (chosen g.edges edges) (name_in (candidates_of k) (chosen_of edges names))

-- the root reaches the category by chosen edges, or is it
abbrev pub leaf_present : Graph → ℕ → List Bool → ℕ → Bool
leaf_present g r edges c = is_present r (chosen g.edges edges) c

-- where the category's member stands in that instance
abbrev pub leaf_place : Graph → ℕ → List Bool → ℕ → ℕ
leaf_place g r edges c = place_of g r (chosen g.edges edges) c
