-- What is read off a trail.
use Rattle.std.proofs.Common.{◌≡◌, ◌≢◌, ℕ, zero, suc, ◌<◌, ◌≤◌, List, length, get_or, Bool, true, false, refl, sym, ◌∙◌, arith}
use Rattle.std.proofs.lemmas.{Bool.{false_from_ne_true, eqb-true}, List.ext_get_or}
use Rattle.std.specs.Prelude.{◌==◌, slice_index, slice_index_or}
use Rattle.olap_base.specs.Graph.{Graph, category_count}
use Rattle.olap_ast.specs.Frozen.{Frozen, chosen, is_present}
use Rattle.olap_frozen.{proofs.LeafLemmas.{declared_length, declared_at}, specs.Leaves.{chosen_of, of_declared}}
use Rattle.olap_graph.specs.Lookups.{edge_at}
use Rattle.olap_encoding.proofs.{ChosenEdges.child_present, EdgeBits.bit_chosen}
use Rattle.olap_dimsat.{proofs.Truths.none_is_zero, specs.Reads.index_in}
use Rattle.olap_dimsat.specs.Tasks.{Task, IsOne, constant_count, graph_of}

-- the child of a present edge is present
pub bit_present : (g : Graph) (r : ℕ) (bits : List Bool) (e c d : ℕ) → e < length g.edges
    → edge_at g e ≡ record { child = c; parent = d } → get_or bits e false ≡ true
    → is_present r (chosen g.edges bits) c ≡ true
bit_present g r bits e c d l q b = child_present r (chosen g.edges bits) c d
    (rw (← q) (bit_chosen g.edges bits e (record { child = 0; parent = 0 }) l b))

-- an index is none past the constants
pub index_small : (t : Task) (f : Frozen) (c : ℕ) → IsOne t f → c < category_count (graph_of t)
    → index_in f c ≤ constant_count t c
index_small t f zero one h = omega arith
index_small t f (suc c) one h = one.in_range c (let n = one.name_count in omega arith)

-- an absent category has no index
pub index_absent : (t : Task) (f : Frozen) (c : ℕ) → IsOne t f → c < category_count (graph_of t)
    → is_present t.question.root (chosen (graph_of t).edges f.edges) c ≡ false → index_in f c ≡ 0
index_absent t f zero one h p = refl
index_absent t f (suc c) one h p = one.absent c (let n = one.name_count in omega arith) p

-- the first name is no constant
pub zero_not_suc : (i k : ℕ) → i ≡ 0 → (i == suc k) ≡ false
zero_not_suc i k e = false_from_ne_true (i == suc k) (λ t. let q = eqb-true i (suc k) t in omega arith)

-- a name that is no constant is the first one
pub no_constant : (t : Task) (f : Frozen) (c n : ℕ) → IsOne t f → c < category_count (graph_of t)
    → n ≡ constant_count t c
    → ((k : ℕ) → k < n → (index_in f c == suc k) ≡ false) → index_in f c ≡ 0
no_constant t f c n one h e none = none_is_zero (index_in f c) n (let s = index_small t f c one h in omega arith) none

-- the index of a declared category is its entry
pub index_of_choice : (edges : List Bool) (names : List ℕ) (c : ℕ) → c ≢ 0
    → index_in (chosen_of edges names) c ≡ slice_index names c
index_of_choice edges names zero n = absurd (n refl)
index_of_choice edges names (suc c) n = declared_at names c

-- a frozen dimension is the choice that has its edges and names
pub is_choice : (t : Task) (f : Frozen) (edges : List Bool) (names : List ℕ) → IsOne t f
    → length edges ≡ length (graph_of t).edges
    → length names ≡ category_count (graph_of t)
    → ((e : ℕ) → e < length edges → slice_index_or f.edges e false ≡ slice_index_or edges e false)
    → ((c : ℕ) → c < length names → index_in f c ≡ slice_index names c) → f ≡ chosen_of edges names
is_choice t f edges names one l m es ns =
    let p : f.edges ≡ edges = ext_get_or false f.edges edges (one.edge_count ∙ sym l)
    (λ i h. es i (let n = one.edge_count in omega arith)) in
    let q : f.names ≡ of_declared names = ext_get_or 0 f.names (of_declared names)
    (one.name_count ∙ sym (declared_length names (length (graph_of t).names) m))
    (λ i h. ns (suc i) (let n = one.name_count in omega arith) ∙ sym (declared_at names i)) in
    λ i. record { edges = p i; names = q i }
