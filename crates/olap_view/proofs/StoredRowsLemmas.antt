-- The rows of stored views while they are read: numbers of summaries, and one row more.
--     put-is    one row more
use Rattle.std.proofs.Common.{◌≡◌, ◌≢◌, ◌+◌, ◌<◌, ◌≤◌, ◌∷◌, ◌++◌, ◌∙◌, [], ℕ, zero, suc, true, cond, List, length, get_or, set, count_by, nat_lt, Some, None, option_map, refl, sym, ap, subst, arith}
use Rattle.std.proofs.lemmas.{Bool.Decides.nat_tests, List.{get_or-set_same, get_or-set_other, length-set, length_push}}
use Rattle.std.{proofs.lemmas.List.Sums.{count_by-le-length, sum_by-set}, specs.List.slice_get}
use Rattle.olap_view.specs.{Seen.summary_of, StoredRows.{HasPut, IsPlaced, numbered, stored_at}}
use Rattle.olap_view.specs.declared.stored_rows.StoredRows.{StoredRows}
use native.Mathlib.Decide.{ℕ_discrete}
use Rattle.olap_view.specs.declared.summaries.Summary as told

-- ---- the summary of a number

-- what stands in a list stays where one more comes after it
get-kept : {A : Type 0} (xs : List A) (x : A) (k : ℕ) → k < length xs → slice_get (xs ++ x ∷ []) k ≡ slice_get xs k
get-kept [] x k h = absurd (omega arith)
get-kept (y ∷ xs) x zero h = refl
get-kept (y ∷ xs) x (suc k) h = get-kept xs x k (omega arith)

-- the new one stands at the end
get-new : {A : Type 0} (xs : List A) (x : A) → slice_get (xs ++ x ∷ []) (length xs) ≡ Some x
get-new [] x = refl
get-new (y ∷ xs) x = get-new xs x

-- a place that is taken keeps its summary
numbered-kept : (xs : List told.Summary) (s : told.Summary) (p : ℕ) → p ≤ length xs
    → numbered (xs ++ s ∷ []) p ≡ numbered xs p
numbered-kept xs s zero h = refl
numbered-kept xs s (suc k) h = ap (option_map summary_of) (get-kept xs s k (omega arith))

-- the new place has the new summary
numbered-new : (xs : List told.Summary) (s : told.Summary) (p : ℕ) → p ≡ length xs + 1
    → numbered (xs ++ s ∷ []) p ≡ Some (summary_of s)
numbered-new xs s zero e = absurd (omega arith)
numbered-new xs s (suc k) e = let q : k ≡ length xs = omega arith in
    ap (λ j. option_map summary_of (slice_get (xs ++ s ∷ []) j)) q ∙ ap (option_map summary_of) (get-new xs s)

-- a number that some summary has is not that of none
numbered-some : (xs : List told.Summary) (p : ℕ) → p ≤ length xs → numbered xs p ≡ None → p ≡ 0
numbered-some xs zero h e = refl
numbered-some xs (suc k) h e = absurd (go xs k (omega arith) e)
  where
    go : (xs : List told.Summary) (k : ℕ) → k < length xs → option_map summary_of (slice_get xs k) ≡ None → ⊥
    go [] k h e = omega arith
    go (x ∷ xs) zero h e = cc
    go (x ∷ xs) (suc k) h e = go xs k (omega arith) e

-- ---- one row more

module _ (t : StoredRows) (y : ℕ) (p : IsPlaced t) (h : y < length t.places.items) (n : stored_at t y ≡ None) where
  abbrev places : List ℕ
  places = t.places.items

  abbrev count : ℕ
  count = length t.summaries.items

  -- the member has no row yet
  free : get_or places y 0 ≡ 0
  free = numbered-some t.summaries.items (get_or places y 0) (p.inside y) n

  -- whether a number is a summary's, as a number
  abbrev one : ℕ → ℕ
  one k = cond (nat_lt 0 k) 1 0

  -- one place more is taken
  counted : count_by (λ k. nat_lt 0 k) (set places y (count + 1)) ≡ count + 1
  counted =
      let more = sum_by-set one places y (count + 1) 0 h in
      let before : one (get_or places y 0) ≡ 0 = ap one free in
      let test : nat_lt 0 (count + 1) ≡ true = grind (arith, nat_tests) in
      let after : one (count + 1) ≡ 1 = ap (λ b. cond b 1 0) test in
      let all = p.count in
      omega (arith, more, before, after, all)

  -- there is a number for one row more
  pub room : count + 1 ≤ length places
  room = let c = counted in let l = length-set places y (count + 1) in
      let m = count_by-le-length (λ k. nat_lt 0 k) (set places y (count + 1)) in omega (arith, c, l, m)

  module _ (s : told.Summary) (new : StoredRows) (e : new.places.items ≡ set places y (count + 1))
      (f : new.summaries.items ≡ t.summaries.items ++ s ∷ []) where
    at-own : get_or new.places.items y 0 ≡ count + 1
    at-own = ap (λ l. get_or l y 0) e ∙ get_or-set_same places y (count + 1) 0 h

    at-other : (z : ℕ) → z ≢ y → get_or new.places.items z 0 ≡ get_or places z 0
    at-other z q = ap (λ l. get_or l z 0) e ∙ get_or-set_other places y z (count + 1) 0 q

    longer : length new.summaries.items ≡ count + 1
    longer = ap length f ∙ length_push t.summaries.items s

    same-size : length new.places.items ≡ length places
    same-size = ap length e ∙ length-set places y (count + 1)

    pub put-is : new.categories ≡ t.categories → HasPut y (summary_of s) t new
    put-is c = record {
      same_categories = c;
      same_members = same-size;
      more = longer;
      placed = record {
        few = let l = same-size in let b = p.few in omega arith;
        inside = λ z. elim (ℕ_discrete z y) [
          | yes q ↦ let l = longer in let o = subst (λ w. get_or new.places.items w 0 ≡ count + 1) (sym q) at-own in
              omega arith
          | no q ↦ let l = longer in let o = at-other z q in let b = p.inside z in omega arith
        ];
        count = ap (count_by (λ k. nat_lt 0 k)) e ∙ counted ∙ sym longer;
      };
      here = ap (λ l. numbered l (get_or new.places.items y 0)) f
          ∙ numbered-new t.summaries.items s (get_or new.places.items y 0) at-own;
      elsewhere = λ z q. ap (λ l. numbered l (get_or new.places.items z 0)) f
          ∙ ap (numbered (t.summaries.items ++ s ∷ [])) (at-other z q)
          ∙ numbered-kept t.summaries.items s (get_or places z 0) (p.inside z);
    }
