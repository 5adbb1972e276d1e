-- A set for each category: what it reaches by chosen edges.
--     JoinsBefore    one of the first k edges is chosen, and leads from c to d
--     AreRows        each row has what its category reaches
use Rattle.std.specs.Prelude.{◌≡◌, ◌≢◌, ◌<◌, ℕ, List, Bool, true, false, length, slice_index_or}
use Rattle.std.specs.FinSet as set
use Rattle.olap_base.specs.Reaching.{category_reaches}
use Rattle.olap_base.specs.Graph.{Graph, Edge, category_count}
use Rattle.olap_bits.specs.declared.sets.CatSet.{CatSet}
use Rattle.olap_graph.specs.Lookups.{edge_at}
use Rattle.olap_graph.specs.Rows.{AreJoined, Has, row}

-- one of the first k edges is chosen, and leads from c to d
abbrev pub JoinsBefore : Graph → List Bool → ℕ → ℕ → ℕ → Type 0
JoinsBefore g bits k c d = (i : ℕ) × (i < k) × (slice_index_or bits i false ≡ true)
    × (edge_at g i ≡ record { child = c; parent = d })

-- each row has its own number, and the parents by the chosen ones of the first k edges
abbrev pub AreDrawn : {W : ℕ} → Graph → List Bool → ℕ → List (CatSet W) → Type 0
AreDrawn g bits k rows = AreJoined (JoinsBefore g bits k) rows

-- the graph with these edges alone
abbrev pub with_edges : Graph → List Edge → Graph
with_edges g edges = record { names = g.names; numbers = g.numbers; edges = edges }

-- each row has what its category reaches
abbrev pub AreRows : {W : ℕ} → Graph → List Edge → List (CatSet W) → Type 0
AreRows g edges rows = (c d : ℕ) → c < category_count g
    → set.contains (row rows c) d ≡ category_reaches (with_edges g edges) c d

-- a chosen one of the first k edges leads from c to another category than d, whose row has d
abbrev pub IsPassed : {W : ℕ} → Graph → List Bool → List (CatSet W) → ℕ → ℕ → ℕ → Type 0
IsPassed g bits rows k c d = (e : ℕ) × JoinsBefore g bits k c e × (e ≢ d) × Has rows e d

-- c is reached from the root and not from d, and the edge from c to d goes past nothing
abbrev pub Fits : {W : ℕ} → Graph → List Bool → List (CatSet W) → ℕ → ℕ → ℕ → Type 0
Fits g bits rows r c d = Has rows r c × (Has rows d c → ⊥) × (IsPassed g bits rows (length g.edges) c d → ⊥)

-- each of the first n categories that r reaches reaches `All`
abbrev pub ReachAll : {W : ℕ} → List (CatSet W) → ℕ → ℕ → Type 0
ReachAll rows r n = (c : ℕ) → c < n → Has rows r c → Has rows c 0
