-- Meanings of the search's variables in a frozen dimension.
--     Means        what a meaning says of a frozen dimension
--     Fits         the variables have the values of their meanings
--     AreOrdered   each meaning speaks of literals of earlier variables
--     valuation    the one valuation, by recursion
use Rattle.std.specs.Prelude.{◌≡◌, ℕ, zero, suc, ◌<◌, ◌≤◌, List, [], Bool, true, false, not, IsTrue, ◌↔◌, ◌==◌, nat_le, ◌&&◌, if◌then◌else◌, length, slice_index, slice_index_or}
use Rattle.olap_base.specs.Graph.{Edge, Graph}
use Rattle.olap_base.specs.Reaching.{category_reaches}
use Rattle.olap_ast.specs.Schema.{Schema}
use Rattle.olap_ast.specs.Frozen.{Frozen, chosen, is_present}
use Rattle.olap_pool.specs.Literals.{Holds}
use Rattle.olap_encoding.specs.Choices.{IsPresent, IsReaching}
use Rattle.olap_encoding.specs.Literals.{Valuation, value}
use Rattle.olap_encoding.specs.declared.meanings.Meaning.{Meaning}
use Rattle.olap_encoding.specs.declared.meanings.Meaning.TheVariants.{Always, On, Named, UpTo, Present, Reaching, Both, Differ}

-- the chosen edges of a frozen dimension
abbrev pub edges_of : Schema → Frozen → List Edge
edges_of s f = chosen s.graph.edges f.edges

-- the index of a category's name; `All` has none
abbrev pub index_of : Frozen → ℕ → ℕ
index_of f zero = 0
index_of f (suc c) = slice_index f.names c

-- the edge is chosen
abbrev pub IsOn : Frozen → ℕ → Type 0
IsOn f e = IsTrue (slice_index_or f.edges e false)

-- exactly one holds
abbrev pub IsEither : Type 0 → Type 0 → Type 0
IsEither A B = (A ↔ B) → ⊥

-- what a meaning says of a frozen dimension with root r, where v gives the literals that it speaks of their values
abbrev pub Means : Schema → ℕ → Frozen → Valuation → Meaning → Type 0
Means s r f v Always = Unit {0}
Means s r f v (On e) = IsOn f e
Means s r f v (Named c k) = index_of f c ≡ k
Means s r f v (UpTo c k) = index_of f c ≤ k
Means s r f v (Present c) = IsPresent r (edges_of s f) c
Means s r f v (Reaching c d) = IsReaching r (edges_of s f) c d
Means s r f v (Both a b) = Holds v a × Holds v b
Means s r f v (Differ a b) = IsEither (Holds v a) (Holds v b)

-- the meaning of a variable
abbrev pub meaning_at : List Meaning → ℕ → Meaning
meaning_at ms x = slice_index_or ms x Always

-- each variable has the value of its meaning
pub record Fits (s : Schema) (r : ℕ) (f : Frozen) (ms : List Meaning) (v : Valuation) : Type 0 where
  pub at : (x : ℕ) → x < length ms → IsTrue (v x) ↔ Means s r f v (meaning_at ms x)

-- a meaning speaks of literals of variables below n only
abbrev pub IsBelow : ℕ → Meaning → Type 0
IsBelow n Always = Unit {0}
IsBelow n (On e) = Unit {0}
IsBelow n (Named c k) = Unit {0}
IsBelow n (UpTo c k) = Unit {0}
IsBelow n (Present c) = Unit {0}
IsBelow n (Reaching c d) = Unit {0}
IsBelow n (Both a b) = (a.variable < n) × (b.variable < n)
IsBelow n (Differ a b) = (a.variable < n) × (b.variable < n)

-- each meaning speaks of earlier variables only
pub record AreOrdered (ms : List Meaning) : Type 0 where
  pub below : (x : ℕ) → x < length ms → IsBelow x (meaning_at ms x)

-- ---- the valuation of a frozen dimension

-- the graph of the chosen edges
abbrev pub chosen_graph : List Edge → Graph
chosen_graph es = record { names = []; numbers = []; edges = es }

-- whether the meaning holds
abbrev pub truth_of : Schema → ℕ → Frozen → Valuation → Meaning → Bool
truth_of s r f v Always = true
truth_of s r f v (On e) = slice_index_or f.edges e false
truth_of s r f v (Named c k) = index_of f c == k
truth_of s r f v (UpTo c k) = nat_le (index_of f c) k
truth_of s r f v (Present c) = is_present r (edges_of s f) c
truth_of s r f v (Reaching c d) = is_present r (edges_of s f) c && category_reaches (chosen_graph (edges_of s f)) c d
truth_of s r f v (Both a b) = value v a && value v b
truth_of s r f v (Differ a b) = if value v a then not (value v b) else value v b

-- the first n variables have the values of their meanings, one after the other
unfoldable pub valuation : Schema → ℕ → Frozen → List Meaning → ℕ → Valuation
valuation s r f ms zero x = false
valuation s r f ms (suc n) x =
    if x == n then truth_of s r f (valuation s r f ms n) (meaning_at ms n) else valuation s r f ms n x
