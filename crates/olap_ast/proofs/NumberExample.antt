-- The smallest example with numbers: the size 9, where sizes are below 10.
use Rattle.std.proofs.Common.{◌≡◌, ℕ, ℤ, pos, zero, suc, ◌<◌, ◌≤◌, ◌<ℤ◌, ◌≤ℤ◌, List, [], ◌∷◌, length, map, true, false, refl, ap, sym, subst, ◌∙◌, inl, inr, arith, lit≤}
use Rattle.std.proofs.lemmas.{Fmt.decimal_digit, Int.ints, List.Elements.{All-contains, All-from_recursion}}
use Rattle.std.specs.Prelude.{Contains, ◌≢◌, All, AllPairs, codes, IsSome, IsTrue, slice_index}
use Rattle.olap_base.{proofs.ListLemmas.{contains_head, Contains-nil, Contains-only}, specs.Above.HasOneMemberEach}
use Rattle.olap_base.specs.{Deciding.contains_cases, Graph.{IsHierarchy, IsLetterOrDigit, is_number}}
use Rattle.olap_base.specs.Instance.{IsMember, Reaches, category_of, name_of}
use Rattle.olap_numerals.specs.{Comparing.{Op.Less, is_numbered}, Numerals.{canonical, number_of}}
use Rattle.olap_numerals.specs.Representatives.{AreNumberNames, IsLeast, IsNear, IsNumberName}
use Rattle.olap_ast.proofs.{AtomLemmas.has_kinds, CandidatesExist.candidates_exist, Examples.{head, name_is, small}}
use Rattle.olap_ast.proofs.{OneMember.{hierarchy, is_instance, lawful, numerals, one_member}, OrderedLists.head_before}
use Rattle.olap_ast.specs.{Constants.IsNameOf, Example.{NineIsFrozen, nine, size_below_all, sizes}}
use Rattle.olap_ast.specs.Formula.{Formula.Compare, Formula.Truth}
use Rattle.olap_ast.specs.Frozen.{AreCandidates, Candidates, IsFrozen, IsFrozenInstance, chosen, is_present, thawed}
use Rattle.olap_ast.specs.{Schema.{Constraint, IsLegal, Meets}, Valid.IsFormulaAt}

-- ---- the instance

-- the letters of Size
size : All IsLetterOrDigit (105 ∷ 122 ∷ 101 ∷ [])
size = All-from_recursion IsLetterOrDigit (105 ∷ 122 ∷ 101 ∷ []) (
  small 105 (lit≤ tt) (lit≤ tt),
  (small 122 (lit≤ tt) (lit≤ tt), (small 101 (lit≤ tt) (lit≤ tt), tt)),
)

-- the graph is a hierarchy
is_hierarchy : IsHierarchy sizes.graph
is_hierarchy = hierarchy (codes "Size") true (codes "Size") (codes "9") (name_is (105 ∷ 122 ∷ 101 ∷ []) size)

-- the member's id isn't `all`
id_is : codes "Size" ≢ codes "all"
unfolding head
id_is e = let q : ◌≡◌ {A = ℕ} 83 97 = ap head e in omega arith

-- its name spells a number below 10
below_ten : IsTrue (is_numbered (codes "9") Less (pos 10))
unfolding number_of
below_ten = refl

-- its name is a numeral
spelled : IsTrue true → IsSome (number_of (codes "9"))
unfolding number_of
spelled b = refl

-- so the constraint is met
met : (c : Constraint) → Contains sizes.constraints c → Meets nine c
met c h = subst (λ d. Meets nine d) (Contains-only (record { root = 1; formula = Compare 1 Less (pos 10) }) c h) at
  where
    at : Meets nine (record { root = 1; formula = Compare 1 Less (pos 10) })
    at zero m = (0, m, inl refl, below_ten)
    at (suc zero) m = absurd (let e : 0 ≡ 1 = m.1 in omega arith)
    at (suc (suc x)) m = absurd (let l = m.0 in omega arith)

-- the size 9 below `all` is legal
legal : IsLegal sizes nine
legal = record {
  is_instance = is_instance (codes "Size") true (codes "Size") (codes "9") id_is;
  numerals = numerals (codes "Size") true (codes "Size") (codes "9") spelled;
  lawful = lawful (codes "Size") true (codes "Size") (codes "9");
  meets = met;
}

-- ---- the candidates

-- the one constant
abbrev ten : List ℤ
ten = pos 10 ∷ []

-- the formula is of the graph
formulas : (c : Constraint) → Contains sizes.constraints c → IsFormulaAt sizes.graph c.root c.formula
formulas c h = subst (λ (d : Constraint). IsFormulaAt sizes.graph d.root d.formula)
    (Contains-only (record { root = 1; formula = Compare 1 Less (pos 10) }) c h)
    (omega arith, refl, (omega (arith, ints), omega (arith, ints)))

-- there are candidates
some : (k : Candidates) × AreCandidates sizes Truth k
some = candidates_exist sizes Truth (has_kinds sizes 1 Truth formulas tt)

-- 10 is the least constant
ten_is_least : IsLeast ten (pos 10)
ten_is_least = record {
  is_one = contains_head (pos 10) [];
  least = λ n c. subst (λ z. pos 10 ≤ℤ z) (Contains-only (pos 10) n c) (omega (arith, ints));
}

-- 9 is a number that names are made of
nine_is_name : IsNumberName ten (pos 9)
nine_is_name = ((omega (arith, ints), omega (arith, ints)), inr (inr (inl (pos 10, ten_is_least, refl))))

-- and none of these is less
none_less : (a : ℤ) → IsNear ten a → pos 9 ≤ℤ a
none_less a (inl c) = let e = Contains-only (pos 10) a c in omega (arith, ints, e)
none_less a (inr (inl t)) = let e = Contains-only (pos 10) t.0 t.1 in let q = t.2 in omega (arith, ints, e, q)
none_less a (inr (inr (inl t))) = let e = Contains-only (pos 10) t.0 t.1.is_one in let q = t.2 in
    omega (arith, ints, e, q)
none_less a (inr (inr (inr t))) = absurd (cc t.0)

-- its numeral
nine_spelled : canonical (pos 9) ≡ codes "9"
nine_spelled = decimal_digit 9 (omega arith)

-- so it is the first one's number
first_is : (first : List ℕ) (others : List (List ℕ)) → AreNumberNames ten first others → first ≡ codes "9"
first_is first others r = go r.numbers r.spelled r.ascending r.sound (r.complete (pos 9) nine_is_name)
  where
    go : (ns : List ℤ) → first ∷ others ≡ map canonical ns → AllPairs ◌<ℤ◌ ns
        → ((a : ℤ) → Contains ns a → IsNumberName ten a) → Contains ns (pos 9) → first ≡ codes "9"
    go [] e o s c = absurd (Contains-nil (pos 9) c)
    go (n ∷ ns) e o s c =
        let h : first ≡ canonical n = cc in
        elim (contains_cases (pos 9) n ns c) [
          | inl q ↦ h ∙ ap canonical q ∙ nine_spelled
          | inr d ↦
              let l = All-contains (λ m. n <ℤ m) ns (pos 9) (head_before ◌<ℤ◌ n ns o) d in
              let g = none_less n (s n (contains_head n ns)).1 in absurd (omega (arith, ints, l, g))
        ]

-- the choice stands for the instance
stands_for_nine : (k : Candidates) → AreCandidates sizes Truth k → thawed sizes k 1 size_below_all ≡ nine
stands_for_nine k ok = ap (λ name. one_member (codes "Size") name) (first_is (k.first 1) (k.texts 1) (ok.names 0))

-- ---- the frozen dimension

-- it is the instance of one
frozen_nine : IsFrozenInstance sizes Truth 1 nine
frozen_nine = record {
  legal = legal;
  one_each = one_each;
  root = 0;
  root_is = (omega arith, refl);
  reached = reached;
  named = named;
  true_at_root = tt;
}
  where
    one_each : HasOneMemberEach nine
    one_each zero zero h l e = refl
    one_each zero (suc zero) h l e = absurd (let q : 1 ≡ 0 = e in omega arith)
    one_each (suc zero) zero h l e = absurd (let q : 0 ≡ 1 = e in omega arith)
    one_each (suc zero) (suc zero) h l e = refl
    one_each x y h l e = absurd (omega arith)

    reached : (y : ℕ) → IsMember nine y → Reaches nine 0 y
    reached zero h = inl refl
    reached (suc zero) h = inr (record { between = []; chain = (contains_head 1 [], tt) })
    reached (suc (suc y)) h = absurd (omega arith)

    named : (y : ℕ) → IsMember nine y → category_of nine y ≢ 0
        → IsNameOf (is_number sizes.graph (category_of nine y)) sizes Truth (category_of nine y) (name_of nine y)
    named zero h n = (pos 9, nine_is_name, sym nine_spelled)
    named (suc zero) h n = absurd (n refl)
    named (suc (suc y)) h n = absurd (omega arith)

-- so the choice is one
frozen : (k : Candidates) → AreCandidates sizes Truth k → IsFrozen sizes Truth 1 k size_below_all
frozen k ok = record {
  edge_count = refl;
  name_count = refl;
  in_range = in_range;
  absent = absent;
  stands_for = subst (λ i. IsFrozenInstance sizes Truth 1 i) (sym (stands_for_nine k ok)) frozen_nine;
}
  where
    in_range : (c : ℕ) → c < 1 → slice_index size_below_all.names c ≤ length (k.texts (suc c))
    in_range zero h = omega arith
    in_range (suc c) h = absurd (omega arith)

    absent : (c : ℕ) → c < 1 → is_present 1 (chosen sizes.graph.edges size_below_all.edges) (suc c) ≡ false
        → slice_index size_below_all.names c ≡ 0
    absent zero h e = refl
    absent (suc c) h e = absurd (omega arith)

-- the law
pub nine_is_frozen : NineIsFrozen
nine_is_frozen = record {
  hierarchy = is_hierarchy;
  legal = legal;
  candidates = some;
  thawed_is = stands_for_nine;
  frozen = frozen;
}
