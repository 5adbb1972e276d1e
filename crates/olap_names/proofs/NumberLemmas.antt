-- The numbers that a category's names are made of: the same for the same constants, and no more than there is room for.
use Rattle.std.proofs.Common.{◌≡◌, ◌⊎◌, ◌↔◌, ◌+◌, ◌*◌, ◌<◌, ◌≤◌, ℕ, ℤ, pos, ◌+ℤ◌, ◌<ℤ◌, List, [], ◌∷◌, ◌++◌, length, get_or, map, drop, true, Option, Some, None, refl, ap, sym, subst, inl, inr, arith}
use Rattle.std.proofs.lemmas.{Bool.eqb-true, Int.ints, List.{length-append, length-map}}
use Rattle.std.proofs.lemmas.List.Elements.{Contains-append_left, Contains-append_right, Contains-push}
use Rattle.std.specs.{Ordering.int_eq, Prelude.{AllPairs, Contains, ◌==◌}}
use Rattle.olap_base.proofs.ListLemmas.{Contains-from_map, Contains-map, Contains-nil, Distinct, Distinct-from_AllPairs, Distinct-map, contains_head, first_true, second_true}
use Rattle.olap_ast.{proofs.ComparedLemmas.atom_on_numbers, specs.Atoms.{AreAscending, Comparison, numbers_on}}
use Rattle.olap_ast.specs.Pairs.{distinct_numbers, is_same_number}
use Rattle.olap_numerals.proofs.{EnteringLemmas.name_cases, OrderLemmas.same_number}
use Rattle.olap_numerals.proofs.RepresentativeLemmas.{representatives_answer_alike, zero_small}
use Rattle.olap_numerals.specs.Numerals.{canonical}
use Rattle.olap_numerals.specs.Representatives.{AreNumberNames, AreRepresentatives, AreSmall, IsLastNear, IsLeast, IsNear, IsNumberName, IsUpTo, before_least, least, representative}
use Rattle.olap_names.proofs.Counting.{few_distinct, in_fold}

-- ---- a category has no more numbers than there are pairs

-- pairs that the test takes for one are equal
same_number_pair : (a b : Comparison) → is_same_number a b ≡ true → a ≡ b
same_number_pair a b e =
    let c = eqb-true a.category b.category (first_true (a.category == b.category) (int_eq a.number b.number) e) in
    let t = same_number a.number b.number (second_true (a.category == b.category) (int_eq a.number b.number) e) in
    λ i. record { category = c i; number = t i }

-- ascending numbers are distinct
number_distinct : (ns : List ℤ) → AllPairs ◌<ℤ◌ ns → Distinct ns
number_distinct ns o = Distinct-from_AllPairs ns (λ i j d below inside e.
    let b : get_or ns i d <ℤ get_or ns j d = o i j d below inside in
    let q : get_or ns i d ≡ get_or ns j d = e in
    absurd (omega (arith, ints)))

-- a category has no more numbers than there are distinct pairs
pub few_numbers : (d : ℕ) (es : List Comparison) (ns : List ℤ) → AreAscending (numbers_on d es) ns
    → length ns ≤ length (distinct_numbers es)
few_numbers d es ns o =
    let pair : ℤ → Comparison = λ n. record { category = d; number = n } in
    let l = few_distinct (map pair ns) (distinct_numbers es)
    (Distinct-map pair ns (number_distinct ns o.ordered) (λ x y c e q. ap (λ (a : Comparison). a.number) q))
    (λ a c. let t = Contains-from_map pair ns a c in
    in_fold is_same_number same_number_pair es [] a
    (inr (subst (λ w. Contains es w) t.2 (atom_on_numbers d es t.0 (o.sound t.0 t.1))))) in
    let e = length-map ns pair in
    omega (arith, l, e)

-- ---- the same constants

-- two lists have the same numbers
abbrev pub AreSame : List ℤ → List ℤ → Type 0
AreSame ns ms = (a : ℤ) → Contains ns a ↔ Contains ms a

-- and so the same least one
least_too : (ns ms : List ℤ) → AreSame ns ms → (n : ℤ) → IsLeast ns n → IsLeast ms n
least_too ns ms same n l = record {
  is_one = (same n).0 l.is_one;
  least = λ m c. l.least m ((same m).1 c);
}

-- one is empty if the other is
none_too : (ns ms : List ℤ) → AreSame ns ms → ns ≡ [] → ms ≡ []
none_too ns [] same e = refl
none_too ns (m ∷ ms) same e =
    absurd (Contains-nil m (subst (λ l. Contains l m) e ((same m).1 (contains_head m ms))))

-- the same numbers are near them
near_too : (ns ms : List ℤ) → AreSame ns ms → (a : ℤ) → IsNear ns a → IsNear ms a
near_too ns ms same a (inl c) = inl ((same a).0 c)
near_too ns ms same a (inr (inl t)) = inr (inl (t.0, (same t.0).0 t.1, t.2))
near_too ns ms same a (inr (inr (inl t))) = inr (inr (inl (t.0, least_too ns ms same t.0 t.1, t.2)))
near_too ns ms same a (inr (inr (inr t))) = inr (inr (inr (none_too ns ms same t.0, t.1)))

-- and so the same numbers stand for all
pub representatives_too : (ns ms reps : List ℤ) → AreSame ns ms → AreRepresentatives ns reps
    → AreRepresentatives ms reps
representatives_too ns ms reps same r = record {
  ascending = r.ascending;
  sound = λ a c. let n = r.sound a c in (n.0, near_too ns ms same a n.1);
  complete = λ a n. r.complete a (n.0, near_too ms ns (λ x. ((same x).1, (same x).0)) a n.1);
}

-- ---- how many they are

-- the numbers, those one more, and one below the least
abbrev around : List ℤ → List ℤ
around ns = (ns ++ map (λ n. n +ℤ pos 1) ns) ++ before_least (least ns) ∷ []

-- a number or one more is among these
up_around : (ns : List ℤ) (a : ℤ) → IsUpTo ns a → Contains (around ns) a
up_around ns a u =
    Contains-append_left (ns ++ map (λ n. n +ℤ pos 1) ns) (before_least (least ns) ∷ []) a (go u.1)
  where
    go : Contains ns a ⊎ ((n : ℤ) × Contains ns n × (a ≡ n +ℤ pos 1)) → Contains (ns ++ map (λ n. n +ℤ pos 1) ns) a
    go (inl c) = Contains-append_left ns (map (λ n. n +ℤ pos 1) ns) a c
    go (inr t) = Contains-append_right ns (map (λ n. n +ℤ pos 1) ns) a
        (subst (λ w. Contains (map (λ n. n +ℤ pos 1) ns) w) (sym t.2) (Contains-map (λ n. n +ℤ pos 1) ns t.0 t.1))

-- what stands below the least is one number
last_is : (l : Option ℤ) (a : ℤ) → IsLastNear l a → a ≡ before_least l
last_is None a e = e
last_is (Some n) a e = e.1

-- each number that names are made of is among these
in_around : (ns : List ℤ) (a : ℤ) → IsNumberName ns a → Contains (around ns) a
in_around ns a n = elim ((name_cases ns a).1 n) [
  | inl u ↦ up_around ns a u
  | inr l ↦ subst (λ w. Contains (around ns) w) (sym (last_is (least ns) a l))
      (Contains-push (ns ++ map (λ n. n +ℤ pos 1) ns) (before_least (least ns)))
]

-- so there are no more than twice as many, and one
pub few_representatives : (ns reps : List ℤ) → AreRepresentatives ns reps → length reps ≤ 2 * length ns + 1
few_representatives ns reps r =
    let l = few_distinct reps (around ns) (number_distinct reps r.ascending) (λ a c. in_around ns a (r.sound a c)) in
    let e = length-append (ns ++ map (λ n. n +ℤ pos 1) ns) (before_least (least ns) ∷ []) in
    let f = length-append ns (map (λ n. n +ℤ pos 1) ns) in
    let g = length-map ns (λ n. n +ℤ pos 1) in
    omega (arith, l, e, f, g)

-- and there is one at least
pub some_representative : (ns reps : List ℤ) → AreSmall ns → AreRepresentatives ns reps → 0 < length reps
some_representative ns reps small r =
    let c = r.complete (representative ns (pos 0)) (representatives_answer_alike ns (pos 0) small zero_small).0 in
    let l = c.1 in
    omega arith

-- ---- numerals

-- the first numeral and the others are the numerals of all
pub spelled_is : (ns : List ℤ) (d : ℤ) → 0 < length ns
    → canonical (get_or ns 0 d) ∷ map canonical (drop 1 ns) ≡ map canonical ns
spelled_is [] d h = absurd (omega arith)
spelled_is (n ∷ ns) d h = refl

-- the numbers found for the distinct constants are those of the category
pub names_are : (d : ℕ) (all : List Comparison) (ns reps : List ℤ) (first : List ℕ) (others : List (List ℕ))
    → AreAscending (numbers_on d all) ns → AreRepresentatives ns reps → first ∷ others ≡ map canonical reps
    → AreNumberNames (numbers_on d all) first others
names_are d all ns reps first others o r e =
    let t = representatives_too ns (numbers_on d all) reps (λ a. (o.sound a, o.complete a)) r in record {
      numbers = reps;
      spelled = e;
      ascending = t.ascending;
      sound = t.sound;
      complete = t.complete;
    }

-- so a category has no more further names than two for each distinct pair
pub few_names : (d : ℕ) (all : List Comparison) (ns reps : List ℤ) (first : List ℕ) (others : List (List ℕ))
    → AreAscending (numbers_on d all) ns → AreRepresentatives ns reps → first ∷ others ≡ map canonical reps
    → length others ≤ 2 * length (distinct_numbers all)
few_names d all ns reps first others o r e =
    let l = few_representatives ns reps r in
    let f = few_numbers d all ns o in
    let g = ap length e in
    let m = length-map reps canonical in
    omega (arith, l, f, g, m)
