-- A line's bytes are those of one line only.
use Rattle.std.proofs.Common.{◌≡◌, ◌⊎◌, ℕ, zero, suc, ◌<◌, ◌^◌, List, length, Option, Some, None, refl, ap, sym, ◌∙◌, inl, inr, arith}
use Rattle.std.{proofs.lemmas.Fmt.decimal_injective, specs.Fmt.decimal}
use Rattle.olap_base.{proofs.GeneralLemmas.some_same, specs.Graph.{Graph, IsCategory, IsHierarchy}}
use Rattle.olap_ast.specs.Schema.{Schema}
use Rattle.olap_graph.proofs.{NamesApart.names_differ, TableLemmas.has_edge_at}
use Rattle.olap_graph.specs.Lookups.{edge_at, name_of_category}
use Rattle.olap_proof.proofs.LineLemmas.{name_plain, pair_once, unparted}
use Rattle.olap_proof.{proofs.ReadingLemmas.{joined_once, line_joined, word_plain, words_differ}, specs.Closing.IsAbout}
use Rattle.olap_proof.specs.Lines.{Line, Line.Asked, Line.Clash, Line.Cycle, Line.Dead, Line.EdgeOrNot, Line.Loose, Line.NameOf, Line.Shortcut, Line.Unmet, Line.Unreached, Line.WayOrNot, edge_words, line_text, way_words}
use Rattle.olap_proof.specs.{Reading.{first_of, rest_of, word_text}, declared.lines.Word.Word}
use Rattle.olap_proof.specs.declared.lines.Word.TheVariants as word

-- what stands after the first word
data Args : Type 0 where
  Nothing : Args
  Named : (category : ℕ) → Args
  Paired : (child parent : ℕ) → Args
  Edged : (edge : ℕ) → Args
  Numbered : (place : ℕ) → Args

-- what a line says after its first word
abbrev args_of : Line → Args
args_of (EdgeOrNot e) = Edged e
args_of (NameOf c) = Named c
args_of (WayOrNot a b) = Paired a b
args_of (Dead c) = Named c
args_of (Loose e) = Edged e
args_of (Unreached c) = Named c
args_of (Clash a b) = Paired a b
args_of (Unmet n) = Numbered n
args_of l = Nothing

-- its bytes
abbrev rest_text : Graph → Args → Option (List ℕ)
rest_text g Nothing = None
rest_text g (Named c) = Some (name_of_category g c)
rest_text g (Paired a b) = Some (way_words g a b)
rest_text g (Edged e) = Some (edge_words g e)
rest_text g (Numbered n) = Some (decimal (suc n))

-- and how that is spelt
rest_is : (g : Graph) (l : Line) → rest_text g (args_of l) ≡ rest_of g l
rest_is g (EdgeOrNot e) = refl
rest_is g l = refl

-- what it names is in the schema
abbrev IsArg : Schema → Args → Type 0
IsArg s Nothing = Unit {0}
IsArg s (Named c) = IsCategory s.graph c
IsArg s (Paired a b) = IsCategory s.graph a × IsCategory s.graph b
IsArg s (Edged e) = e < length s.graph.edges
IsArg s (Numbered n) = n < length s.constraints

-- a line about the schema says something of the schema
about : (s : Schema) (l : Line) → IsAbout s l → IsArg s (args_of l)
about s (EdgeOrNot e) a = a
about s l a = a

-- the sort of what stands after a word; the bytes tell an edge from a category
abbrev sort_of : Args → ℕ
sort_of Nothing = 0
sort_of (Named c) = 1
sort_of (Paired a b) = 2
sort_of (Edged e) = 1
sort_of (Numbered n) = 3

-- what sort of thing stands after a word
abbrev sort_behind : Word → ℕ
sort_behind word.Reach = 2
sort_behind word.Cycle = 0
sort_behind word.Shortcut = 0
sort_behind word.Steps = 2
sort_behind word.Constraint = 3
sort_behind word.Question = 0
sort_behind w = 1

-- and it does
sort_is : (l : Line) → sort_of (args_of l) ≡ sort_behind (first_of l)
sort_is (EdgeOrNot e) = refl
sort_is l = refl

-- ---- the line again

-- the first number of what stands there
abbrev first_arg : Args → ℕ
first_arg Nothing = 0
first_arg (Named c) = c
first_arg (Paired a b) = a
first_arg (Edged e) = e
first_arg (Numbered n) = n

-- and the second
abbrev second_arg : Args → ℕ
second_arg (Paired a b) = b
second_arg a = 0

-- the line that begins with `loose`
abbrev loose_line : Args → Line
loose_line (Named c) = Unreached c
loose_line (Edged e) = Loose e
loose_line a = Asked

-- the line of a word and what stands after it
abbrev line_with : Word → Args → Line
line_with word.Edge x = EdgeOrNot (first_arg x)
line_with word.Name x = NameOf (first_arg x)
line_with word.Reach x = WayOrNot (first_arg x) (second_arg x)
line_with word.Dead x = Dead (first_arg x)
line_with word.Cycle x = Cycle
line_with word.Shortcut x = Shortcut
line_with word.Loose x = loose_line x
line_with word.Steps x = Clash (first_arg x) (second_arg x)
line_with word.Constraint x = Unmet (first_arg x)
line_with word.Question x = Asked

-- each line is that of its word and what stands after it
again : (l : Line) → line_with (first_of l) (args_of l) ≡ l
again (EdgeOrNot e) = refl
again l = refl

-- ---- once

-- two edges are between different categories
edges_apart : (g : Graph) → IsHierarchy g → (e f : ℕ) → e < length g.edges → f < length g.edges
    → edge_at g e ≡ edge_at g f → e ≡ f
edges_apart g h e f l m same = elim (ordered e f) [
  | inl q ↦ q
  | inr o ↦ elim o [
    | inl b ↦ absurd (h.edges_differ e f (record { child = 0; parent = 0 }) b m same)
    | inr b ↦ absurd (h.edges_differ f e (record { child = 0; parent = 0 }) b l (sym same))
  ]
]
  where
    ordered : (c d : ℕ) → (c ≡ d) ⊎ ((c < d) ⊎ (d < c))
    ordered zero zero = inl refl
    ordered zero (suc d) = inr (inl (omega arith))
    ordered (suc c) zero = inr (inr (omega arith))
    ordered (suc c) (suc d) = elim (ordered c d) [
      | inl q ↦ inl (ap suc q)
      | inr o ↦ elim o [
        | inl b ↦ inr (inl (omega (arith, b)))
        | inr b ↦ inr (inr (omega (arith, b)))
      ]
    ]

-- and have different words
edge_once : (g : Graph) → IsHierarchy g → (e f : ℕ) → e < length g.edges → f < length g.edges
    → edge_words g e ≡ edge_words g f → e ≡ f
edge_once g h e f l m q =
    let x = edge_at g e in
    let y = edge_at g f in
    let i = h.categories x.child x.parent (has_edge_at g e l) in
    let j = h.categories y.child y.parent (has_edge_at g f m) in
    let p = pair_once g h x.child x.parent y.child y.parent i.0 i.1 j.0 j.1 q in
    let same : x ≡ y = ap (λ c. record { child = c; parent = x.parent }) p.0
    ∙ ap (λ d. record { child = y.child; parent = d }) p.1 in
    edges_apart g h e f l m same

-- what is spelt alike is one
args_once : (s : Schema) → IsHierarchy s.graph → length s.constraints < 2 ^ 64 → (x y : Args) → IsArg s x → IsArg s y
    → sort_of x ≡ sort_of y → rest_text s.graph x ≡ rest_text s.graph y → x ≡ y
args_once s h few Nothing Nothing a b t q = refl
args_once s h few (Named c) (Named d) a b t q = ap Named (names_differ s.graph h c d a b (some_same _ _ q))
args_once s h few (Named c) (Edged e) a b t q =
    absurd (unparted 32 (name_of_category s.graph c) (name_of_category s.graph (edge_at s.graph e).child)
    (name_of_category s.graph (edge_at s.graph e).parent) (name_plain s.graph h c a 32 (omega arith))
    (sym (some_same _ _ q)))
args_once s h few (Paired c d) (Paired e f) a b t q =
    let p = pair_once s.graph h c d e f a.0 a.1 b.0 b.1 (some_same _ _ q) in
    ap (λ x. Paired x d) p.0 ∙ ap (λ y. Paired e y) p.1
args_once s h few (Edged e) (Named c) a b t q =
    absurd (unparted 32 (name_of_category s.graph c) (name_of_category s.graph (edge_at s.graph e).child)
    (name_of_category s.graph (edge_at s.graph e).parent) (name_plain s.graph h c b 32 (omega arith)) (some_same _ _ q))
args_once s h few (Edged e) (Edged f) a b t q = ap Edged (edge_once s.graph h e f a b (some_same _ _ q))
args_once s h few (Numbered n) (Numbered m) a b t q =
    let same : suc n ≡ suc m =
    decimal_injective (suc n) (suc m) (omega (arith, a, few)) (omega (arith, b, few)) (some_same _ _ q) in
    ap Numbered (omega (arith, same))
args_once s h few x y a b t q = absurd (omega (arith, t))

-- two lines about a schema with the same bytes are one
pub line_once : (s : Schema) → IsHierarchy s.graph → length s.constraints < 2 ^ 64 → (l m : Line) → IsAbout s l
    → IsAbout s m → line_text s.graph l ≡ line_text s.graph m → l ≡ m
line_once s h few l m a b q =
    let g = s.graph in
    let p = joined_once (word_text (first_of l)) (word_text (first_of m)) (rest_of g l) (rest_of g m)
    (word_plain (first_of l)) (word_plain (first_of m)) (line_joined g l ∙ q ∙ sym (line_joined g m)) in
    let word : first_of l ≡ first_of m = words_differ (first_of l) (first_of m) p.0 in
    let args : args_of l ≡ args_of m =
    args_once s h few (args_of l) (args_of m) (about s l a) (about s m b)
    (sort_is l ∙ ap sort_behind word ∙ sym (sort_is m)) (rest_is g l ∙ p.1 ∙ sym (rest_is g m)) in
    sym (again l) ∙ ap (λ w. line_with w (args_of l)) word ∙ ap (λ x. line_with (first_of m) x) args ∙ again m
