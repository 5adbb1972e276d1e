-- There are no more distinct pairs where fewer atoms stand.
use Rattle.std.proofs.Common.{◌≡◌, ◌≤◌, Bool, true, false, cond, ◌||◌, List, [], ◌∷◌, ◌++◌, length, fold, refl, ap, sym, ◌∙◌}
use Rattle.std.proofs.lemmas.{Bool.eqb-true, Cmp.{int_eq_equiv, nat_eq_equiv}, List.Folds.list_any-append}
use Rattle.std.proofs.lemmas.Map.{Keys.IsDistinct-push, Made.length-le_from_is_member, Steps.list_any_congr}
use Rattle.std.proofs.lemmas.{Map.Views.{Contains-from_any, list_any-from_Contains}, Slice.Eq.bytes_eq-Decides}
use Rattle.std.specs.Cmp.{IsEquivalence, and_equiv, on_equiv, Lexicographic.on_texts_equal}
use Rattle.std.specs.{List.{IsDistinct, list_any}, Ordering.int_eq, Prelude.Contains, Str.bytes_eq}
use Rattle.olap_numerals.proofs.OrderLemmas.{same_number}
use Rattle.olap_base.proofs.{GeneralLemmas.or_false, ListLemmas.{first_true, second_true}}
use Rattle.olap_ast.specs.Atoms.{Comparison, Equality}
use Rattle.olap_ast.specs.{Pairs.{distinct_numbers, distinct_pairs, is_same_number, is_same_pair}, Valid.with_new}

-- ---- lists to which each new element is added once

-- three of which one is so, grouped either way
or_assoc : (a b c : Bool) → ((a || b) || c) ≡ (a || (b || c))
or_assoc true b c = refl
or_assoc false b c = refl

module _ (A : Type 0) (same : A → A → Bool) (laws : IsEquivalence same) where
  -- the element stands among these
  abbrev has : List A → A → Bool
  has xs q = list_any (same q) xs

  distinct-with_new : (xs : List A) (a : A) → IsDistinct same xs → IsDistinct same (with_new same xs a)
  distinct-with_new xs a d = go (has xs a) refl
    where
      go : (b : Bool) → has xs a ≡ b → IsDistinct same (cond b xs (xs ++ a ∷ []))
      go true e = d
      go false e = IsDistinct-push laws xs a d e

  has-with_new : (xs : List A) (a q : A) → has (with_new same xs a) q ≡ (has xs q || same q a)
  has-with_new xs a q = go (has xs a) (same q a) refl refl
    where
      go : (b c : Bool) → has xs a ≡ b → same q a ≡ c → has (cond b xs (xs ++ a ∷ [])) q ≡ (has xs q || c)
      go true true e f =
          let t : has xs q ≡ true = list_any_congr laws q a xs f ∙ e in
          rw t refl
      go true false e f = sym (or_false (has xs q))
      go false c e f = list_any-append (same q) xs (a ∷ [])
          ∙ ap (λ x. has xs q || x) (or_false (same q a) ∙ f)

  distinct-fold : (atoms xs : List A) → IsDistinct same xs → IsDistinct same (fold (with_new same) xs atoms)
  distinct-fold [] xs d = d
  distinct-fold (a ∷ atoms) xs d = distinct-fold atoms (with_new same xs a) (distinct-with_new xs a d)

  has-fold : (atoms xs : List A) (q : A) → has (fold (with_new same) xs atoms) q ≡ (has xs q || has atoms q)
  has-fold [] xs q = sym (or_false (has xs q))
  has-fold (a ∷ atoms) xs q =
      has-fold atoms (with_new same xs a) q ∙ ap (λ b. b || has atoms q) (has-with_new xs a q)
      ∙ or_assoc (has xs q) (same q a) (has atoms q)

  few : ((a b : A) → same a b ≡ true → a ≡ b) → (atoms others : List A)
      → ((a : A) → Contains atoms a → Contains others a)
      → length (fold (with_new same) [] atoms) ≤ length (fold (with_new same) [] others)
  unfolding IsDistinct
  few is atoms others f =
      length-le_from_is_member laws (fold (with_new same) [] atoms) (fold (with_new same) [] others)
      (distinct-fold atoms [] tt)
      (λ q h. has-fold others [] q ∙ list_any-from_Contains laws q others
      (f q (Contains-from_any is q atoms (sym (has-fold atoms [] q) ∙ h))))

-- ---- pairs

-- pairs that the test takes for one are equal
same_is : (a b : Equality) → is_same_pair a b ≡ true → a ≡ b
same_is a b e =
    let c = eqb-true a.category b.category (first_true _ (bytes_eq a.text b.text) e) in
    let t = (bytes_eq-Decides a.text b.text).0 (second_true _ (bytes_eq a.text b.text) e) in
    λ i. record { category = c i; text = t i }

-- no more pairs than the other atoms have
pub few_pairs : (atoms others : List Equality) → ((a : Equality) → Contains atoms a → Contains others a)
    → length (distinct_pairs atoms) ≤ length (distinct_pairs others)
few_pairs = few Equality is_same_pair
    (and_equiv (on_equiv (λ (a : Equality). a.category) nat_eq_equiv) (on_texts_equal (λ (a : Equality). a.text)))
    same_is

-- the same of numbers
same_number_is : (a b : Comparison) → is_same_number a b ≡ true → a ≡ b
same_number_is a b e =
    let c = eqb-true a.category b.category (first_true _ (int_eq a.number b.number) e) in
    let n = same_number a.number b.number (second_true _ (int_eq a.number b.number) e) in
    λ i. record { category = c i; number = n i }

-- the same of numbers
pub few_numbers : (atoms others : List Comparison) → ((a : Comparison) → Contains atoms a → Contains others a)
    → length (distinct_numbers atoms) ≤ length (distinct_numbers others)
few_numbers = few Comparison is_same_number
    (and_equiv (on_equiv (λ (a : Comparison). a.category) nat_eq_equiv)
    (on_equiv (λ (a : Comparison). a.number) int_eq_equiv))
    same_number_is
