-- Tables that a finished graph keeps beside its lists, so that each look-up is quick.
--     drawn          a graph with these edges, whatever its names
--     IsMarked       the mark of a number is set
--     AreOut         for each category the edges out of it
--     AreBottoms     marks for the bottom categories
--     AreTables      these two, and the sets of what each category reaches
use Rattle.std.specs.Prelude.{◌≡◌, ◌≢◌, ℕ, ◌<◌, ◌↔◌, List, [], map, Bool, true, false, length, slice_index_or}
use Rattle.olap_base.specs.declared.ids.CatId.{CatId}
use Rattle.olap_base.specs.declared.ids.EdgeId.{EdgeId}
use Rattle.olap_base.specs.Graph.{Graph, HasEdge}
use Rattle.olap_bits.specs.declared.sets.CatSet.{CatSet}
use Rattle.olap_graph.specs.Lookups.{edges_from}
use Rattle.olap_graph.specs.Listing.{edge_of}
use Rattle.olap_graph.specs.Rows.{AreReached, Has}
use Rattle.olap_graph.specs.declared.listing.Ends.{Ends}
use Rattle.olap_graph.specs.declared.tables.Tables.{Tables}

-- a graph with these edges, whatever its names
abbrev pub drawn : List Ends → Graph
drawn ends = record { names = []; numbers = []; edges = map edge_of ends }

-- the mark of a number is set
abbrev pub IsMarked : List Bool → ℕ → Type 0
IsMarked marks c = slice_index_or marks c false ≡ true

-- the ends of each edge are among the first n categories
abbrev pub LiesWithin : Graph → ℕ → Type 0
LiesWithin g n = (c d : ℕ) → HasEdge g c d → (c < n) × (d < n)

-- for each of n categories the edges out of it
pub record AreOut (g : Graph) (n : ℕ) (out : List (List EdgeId)) : Type 0 where
  pub count : length out ≡ n
  pub edges : (c : ℕ) → c < n → map (λ e. e.0) (slice_index_or out c []) ≡ edges_from g c

-- of n categories exactly those other than `All` that are no edge's parent are marked
pub record AreBottoms (g : Graph) (n : ℕ) (marks : List Bool) : Type 0 where
  pub count : length marks ≡ n
  pub exact : (c : ℕ) → c < n → IsMarked marks c ↔ ((c ≢ 0) × ((d : ℕ) → HasEdge g d c → ⊥))

-- the tables of a graph of n categories
pub record AreTables (g : Graph) (n : ℕ) (t : Tables) : Type 0 where
  pub out : AreOut g n t.out.items
  pub reached : AreReached g n t.reached.items
  pub bottoms : AreBottoms g n t.bottoms.items

-- c is the first category but `All` whose set hasn't `All`
pub record IsFirstWithout {W : ℕ} (rows : List (CatSet W)) (c : CatId) : Type 0 where
  pub declared : (0 < c.0) × (c.0 < length rows)
  pub none : Has rows c.0 0 → ⊥
  pub before : (d : ℕ) → 0 < d → d < c.0 → Has rows d 0

-- the set of each category but `All` has `All`
abbrev pub HaveAll : {W : ℕ} → List (CatSet W) → Type 0
HaveAll rows = (d : ℕ) → 0 < d → d < length rows → Has rows d 0
