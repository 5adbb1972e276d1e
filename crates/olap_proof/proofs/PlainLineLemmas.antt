-- No line that does something has an LF in it.
use Rattle.std.proofs.Common.{◌≡◌, ◌⊎◌, ℕ, suc, ◌<◌, ◌≤◌, ◌^◌, List, [], ◌∷◌, length, true, false, refl, sym, subst, ◌∙◌, inl, inr, codes, arith}
use Rattle.std.proofs.{Math.ListN.get_or-eq_default, lemmas.Fmt.decimal_is_IsNumeral}
use Rattle.std.proofs.lemmas.{List.Elements.Contains-append_cases, Str.Parse.digit_from_value}
use Rattle.std.specs.{Char.digit_value, Fmt.decimal, List.list_any, Prelude.{Contains, ◌==◌}, Str.Parse.AllDigits}
use Rattle.olap_base.{proofs.ListLemmas.{Contains-nil, list_any_is}, specs.Deciding.contains_cases}
use Rattle.olap_base.specs.Graph.{Graph, IsHierarchy, category_count}
use Rattle.olap_ast.specs.{Formula.Formula, Frozen.Candidates, Schema.Schema}
use Rattle.olap_graph.specs.Lookups.{name_of_category, names_of}
use Rattle.olap_proof.proofs.{DoingLemmas.step_does, LineLemmas.name_plain, StepLemmas.{step_bottom, step_head}}
use Rattle.olap_proof.specs.{Certificates.{Open, Open.At, Open.Bottom, Open.Head, Steps, head_text}, Closing.IsAbout}
use Rattle.olap_proof.specs.Lines.{Line, Line.Asked, Line.Clash, Line.Cycle, Line.Dead, Line.EdgeOrNot, Line.Loose, Line.NameOf, Line.Shortcut, Line.Unmet, Line.Unreached, Line.WayOrNot, line_text, way_words, words}
use Rattle.olap_proof.specs.declared.forms.Form.{Form, TheVariants.{Long, Short}}

-- no LF is in the text
abbrev pub IsWhole : List ℕ → Type 0
IsWhole text = Contains text 10 → ⊥

-- a text of which this can be computed
computed : (text : List ℕ) → list_any (λ b. b == 10) text ≡ false → IsWhole text
computed text e c =
    let t = (list_any_is (λ b. b == 10) text).1 (10, c, refl) in
    let z : true ≡ false = sym t ∙ e in cc

-- two words
both_whole : (w v : List ℕ) → IsWhole w → IsWhole v → IsWhole (words w v)
both_whole w v a b c = elim (Contains-append_cases w (32 ∷ v) 10 c) [
  | inl m ↦ a m
  | inr m ↦ elim (contains_cases 10 32 v m) [
    | inl same ↦ omega (arith, same)
    | inr n ↦ b n
  ]
]

-- ---- numbers

-- digits have no LF
digits_whole : (ds : List ℕ) → AllDigits 10 ds → IsWhole ds
digits_whole [] a c = Contains-nil 10 c
digits_whole (d ∷ ds) a c = elim (contains_cases 10 d ds c) [
  | inl same ↦ none d same a.0
  | inr m ↦ digits_whole ds a.1 m
]
  where
    none : (d : ℕ) → d ≡ 10 → digit_value d < 10 → ⊥
    none d e l = let r = digit_from_value d l in omega (arith, r.0, e)

-- so numbers haven't
number_whole : (n : ℕ) → n < 2 ^ 64 → IsWhole (decimal n)
number_whole n l = digits_whole (decimal n) (decimal_is_IsNumeral n l).0.1

-- ---- names

-- of any number: one that is no category has no name
pub name_whole : (g : Graph) → IsHierarchy g → (c : ℕ) → IsWhole (name_of_category g c)
name_whole g h c = elim (within c (category_count g)) [
  | inl l ↦ name_plain g h c l 10 (omega arith)
  | inr m ↦ subst IsWhole (sym (get_or-eq_default (names_of g) [] (omega (arith, m)))) (Contains-nil 10)
]
  where
    within : (c n : ℕ) → (c < n) ⊎ (n ≤ c)
    within c n = grind arith

-- ---- lines

-- nor have names of two categories
way_whole : (g : Graph) → IsHierarchy g → (a b : ℕ) → IsWhole (way_words g a b)
way_whole g h a b = both_whole (name_of_category g a) (name_of_category g b) (name_whole g h a) (name_whole g h b)

-- nor has a line about the schema
pub line_whole : (s : Schema) → IsHierarchy s.graph → length s.constraints < 2 ^ 64 → (l : Line) → IsAbout s l
    → IsWhole (line_text s.graph l)
line_whole s h few (EdgeOrNot e) a =
    both_whole (codes "edge") _ (computed (codes "edge") refl) (way_whole s.graph h _ _)
line_whole s h few (NameOf c) a = both_whole (codes "name") _ (computed (codes "name") refl) (name_whole s.graph h c)
line_whole s h few (WayOrNot x y) a =
    both_whole (codes "reach") _ (computed (codes "reach") refl) (way_whole s.graph h x y)
line_whole s h few (Dead c) a = both_whole (codes "dead") _ (computed (codes "dead") refl) (name_whole s.graph h c)
line_whole s h few Cycle a = computed (codes "cycle") refl
line_whole s h few Shortcut a = computed (codes "shortcut") refl
line_whole s h few (Loose e) a = both_whole (codes "loose") _ (computed (codes "loose") refl) (way_whole s.graph h _ _)
line_whole s h few (Unreached c) a =
    both_whole (codes "loose") _ (computed (codes "loose") refl) (name_whole s.graph h c)
line_whole s h few (Clash x y) a =
    both_whole (codes "steps") _ (computed (codes "steps") refl) (way_whole s.graph h x y)
line_whole s h few (Unmet n) a =
    both_whole (codes "constraint") _ (computed (codes "constraint") refl)
    (number_whole (suc n) (omega (arith, a, few)))
line_whole s h few Asked a = computed (codes "question") refl

-- nor the first line of all
head_whole : (f : Form) → IsWhole (head_text f)
head_whole Long = computed (codes "certificate 1") refl
head_whole Short = computed (codes "short certificate 1") refl

-- a line that does something
pub step_whole : (f : Form) (s : Schema) (q : Formula) (k : Candidates) → IsHierarchy s.graph
    → length s.constraints < 2 ^ 64 → (line : List ℕ) (o : Open) (new : List Open) → Steps f s q k line o new
    → IsWhole line
step_whole f s q k h few line Head new step =
    subst IsWhole (sym (step_head f s q k step refl).0) (head_whole f)
step_whole f s q k h few line (Bottom b) new step =
    subst IsWhole (sym (step_bottom f s q k step b refl).0)
    (both_whole (codes "bottom") (name_of_category s.graph b) (computed (codes "bottom") refl) (name_whole s.graph h b))
step_whole f s q k h few line (At p) new step =
    let m = step_does f s q k p line new step in
    subst IsWhole (sym m.1) (line_whole s h few m.0 m.2)
