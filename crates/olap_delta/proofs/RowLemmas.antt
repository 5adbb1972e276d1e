-- What a value makes of the total of some values.
use Rattle.std.proofs.Common.{◌≡◌, ◌≢◌, ℕ, ◌+◌, ◌-◌, ◌*◌, ◌^◌, ◌<◌, ◌≤◌, List, [], ◌∷◌, length, map, Bool, true, false, cond, ◌||◌, refl, sym, ap, subst, ◌∙◌, ℤ, pos, neg_ℤ, ◌+ℤ◌, ◌-ℤ◌, ◌≤ℤ◌, ◌<ℤ◌, Option, Some, None, IfSome, w64, arith}
use Rattle.std.proofs.lemmas.{Bool.or_parts, Bool.Decides.{Decides-int_eq, nat_tests, not_from_Decides}, Int.ints}
use Rattle.std.{proofs.lemmas.List.Elements.{All-cons, All-head, All-nil, All-tail}, specs.Int.{int_min, int_max}}
use Rattle.std.specs.{Ordering.int_eq, Prelude.{All, ◌==◌, int_lt, nat_le, not, MatchResult, Ok, Err}}
use Rattle.olap_base.{proofs.GeneralLemmas.either_fits, proofs.TotalLemmas.totals_of_values, specs.Limits.most_count}
use Rattle.olap_base.specs.Summaries.{Summary, joined, of_value, total, ◌⊕◌}
use Rattle.olap_view.{proofs.StoreLawLemmas.in-bounds, specs.StoredNumbers.is_sum}
use Rattle.olap_delta.specs.{Changes.{appended, retracted}, declared.kinds.DeltaKind.DeltaKind}
use mir.Val.{SFits}
use Rattle.olap_delta.specs.declared.kinds.DeltaKind.TheVariants as kind

-- what stands at a row that may be stored, but for its sum
pub record IsSmall (s : Summary) : Type 0 where
  pub few : s.count ≤ most_count
  pub least : SFits w64 s.least
  pub greatest : SFits w64 s.greatest

-- what is there twice is the same
pub some_same : {A : Type 0} (a b : A) → ◌≡◌ {A = Option A} (Some a) (Some b) → a ≡ b
some_same a b e = cc

-- ---- the values of a total

-- between the least and the greatest of them
within : (low high : ℤ) (vs : List ℤ)
    → IfSome (total (map of_value vs)) (λ s. (low ≤ℤ s.least) × (s.greatest ≤ℤ high))
    → All (λ v. (low ≤ℤ v) × (v ≤ℤ high)) vs
within low high [] h = All-nil (λ v. (low ≤ℤ v) × (v ≤ℤ high))
within low high (v ∷ []) h = All-cons (λ w. (low ≤ℤ w) × (w ≤ℤ high)) v [] h (All-nil (λ w. (low ≤ℤ w) × (w ≤ℤ high)))
within low high (v ∷ w ∷ vs) h = go (total (map of_value (w ∷ vs))) h (within low high (w ∷ vs))
  where
    least : (a b : ℤ) → low ≤ℤ int_min a b → (low ≤ℤ a) × (low ≤ℤ b)
    least a b l = (grind (arith, ints), grind (arith, ints))

    greatest : (a b : ℤ) → int_max a b ≤ℤ high → (a ≤ℤ high) × (b ≤ℤ high)
    greatest a b l = (grind (arith, ints), grind (arith, ints))

    go : (o : Option Summary) → IfSome (Some (of_value v) ⊕ o) (λ s. (low ≤ℤ s.least) × (s.greatest ≤ℤ high))
        → (IfSome o (λ s. (low ≤ℤ s.least) × (s.greatest ≤ℤ high)) → All (λ x. (low ≤ℤ x) × (x ≤ℤ high)) (w ∷ vs))
        → All (λ x. (low ≤ℤ x) × (x ≤ℤ high)) (v ∷ w ∷ vs)
    go None h rest = All-cons (λ x. (low ≤ℤ x) × (x ≤ℤ high)) v (w ∷ vs) h (rest tt)
    go (Some s) h rest =
        let a = least v s.least h.0 in
        let b = greatest v s.greatest h.1 in
        All-cons (λ x. (low ≤ℤ x) × (x ≤ℤ high)) v (w ∷ vs) (a.0, b.0) (rest (a.1, b.1))

-- this many values of 64 bits
abbrev IsOf : List ℤ → Summary → Type 0
IsOf vs s = (s.count ≡ length vs) × (neg_ℤ (pos (length vs * 2 ^ 63)) ≤ℤ s.sum) × (s.sum ≤ℤ pos (length vs * 2 ^ 63))

-- what they come to
total_within : (vs : List ℤ) → All (λ v. (neg_ℤ (pos (2 ^ 63)) ≤ℤ v) × (v ≤ℤ pos (2 ^ 63))) vs
    → IfSome (total (map of_value vs)) (IsOf vs)
total_within [] a = tt
total_within (v ∷ vs) a =
    go (total (map of_value vs)) refl
    (total_within vs (All-tail (λ v. (neg_ℤ (pos (2 ^ 63)) ≤ℤ v) × (v ≤ℤ pos (2 ^ 63))) v vs a))
  where
    first : (neg_ℤ (pos (2 ^ 63)) ≤ℤ v) × (v ≤ℤ pos (2 ^ 63))
    first = All-head (λ v. (neg_ℤ (pos (2 ^ 63)) ≤ℤ v) × (v ≤ℤ pos (2 ^ 63))) v vs a

    alone : (ws : List ℤ) → total (map of_value ws) ≡ None → ws ≡ []
    alone [] e = refl
    alone (w ∷ ws) e = absurd (never (total (map of_value ws)) e)
      where
        never : (o : Option Summary) → Some (of_value w) ⊕ o ≡ None → ⊥
        never None q = cc
        never (Some s) q = cc

    go : (o : Option Summary) → total (map of_value vs) ≡ o → IfSome o (IsOf vs)
        → IfSome (Some (of_value v) ⊕ o) (IsOf (v ∷ vs))
    go None e h = let n = ap length (alone vs e) in let a = first.0 in let b = first.1 in
        (omega arith, omega (arith, ints), omega (arith, ints))
    go (Some s) e h = let a = first.0 in let b = first.1 in let c = h.0 in let d = h.1 in let f = h.2 in
        (omega arith, omega (arith, ints), omega (arith, ints))

-- what values come to, where their least and their greatest are of 64 bits
pub total_of : (vs : List ℤ) (s : Summary) → total (map of_value vs) ≡ Some s → IsSmall s
    → (neg_ℤ (pos (s.count * 2 ^ 63)) ≤ℤ s.sum) × (s.sum ≤ℤ pos (s.count * 2 ^ 63))
total_of vs s e q =
    let f = q.least in let g = q.greatest in
    let low : neg_ℤ (pos (2 ^ 63)) ≤ℤ s.least = omega (arith, ints) in
    let high : s.greatest ≤ℤ pos (2 ^ 63) = omega (arith, ints) in
    let t : IsOf vs s = subst (λ (o : Option Summary). IfSome o (IsOf vs)) e
    (total_within vs (within (neg_ℤ (pos (2 ^ 63))) (pos (2 ^ 63)) vs
    (subst (λ (o : Option Summary). IfSome o (λ s. (neg_ℤ (pos (2 ^ 63)) ≤ℤ s.least) × (s.greatest ≤ℤ pos (2 ^ 63))))
    (sym e) (low, high)))) in
    let a = t.0 in let b = t.1 in let c = t.2 in (omega (arith, ints), omega (arith, ints))

-- the count of a summary, or another number
abbrev count_or : ℕ → Option Summary → ℕ
count_or d None = d
count_or d (Some t) = t.count

-- two values at least, where some are less than others
pub two_at_least : (vs : List ℤ) (s : Summary) → total (map of_value vs) ≡ Some s → s.least <ℤ s.greatest → 2 ≤ s.count
two_at_least [] s e l = absurd (cc)
two_at_least (v ∷ []) s e l = grind (arith, some_same, ints)
two_at_least (v ∷ w ∷ vs) s e l = grind (arith, totals_of_values)

-- ---- one value more

-- a small row with one value more is small
pub joined_small : (s : Summary) (v : ℤ) → s.count < most_count → SFits w64 v → IsSmall s
    → IsSmall (joined s (of_value v))
joined_small s v l f q = grind (arith, either_fits)

-- what appending a value gives, or it is `Full`
abbrev pub Appends : Option Summary → ℤ → Option Summary → Type 0
Appends o v after = MatchResult (appended o v) (λ s. (Some s ≡ after) × IsSmall s) (λ k. k ≡ kind.Full)

-- appending a value to the total of some gives the total with it, or is `Full`
pub appended_total : (vs : List ℤ) (v : ℤ) → SFits w64 v → IfSome (total (map of_value vs)) IsSmall
    → Appends (total (map of_value vs)) v (total (map of_value vs) ⊕ Some (of_value v))
appended_total vs v f = go (total (map of_value vs)) refl
  where
    test : (s : Summary) (full fits : Bool) → (full ≡ false → (fits ≡ true) × IsSmall (joined s (of_value v)))
        → MatchResult {T = Summary} {E = DeltaKind}
        (cond full (Err kind.Full) (cond (not fits) (Err kind.Bound) (Ok (joined s (of_value v)))))
        (λ t. (Some t ≡ Some (joined s (of_value v))) × IsSmall t) (λ k. k ≡ kind.Full)
    test s true fits h = refl
    test s false true h = (refl, (h refl).1)
    test s false false h = let e = (h refl).0 in absurd (cc)

    go : (o : Option Summary) → total (map of_value vs) ≡ o → IfSome o IsSmall → Appends o v (o ⊕ Some (of_value v))
    go None e h = (refl, record { few = omega arith; least = f; greatest = f })
    go (Some s) e h = test s (s.count == most_count) (is_sum (s.sum +ℤ v)) (λ t.
        let n : s.count ≢ most_count = differ s.count most_count t in
        let few = h.few in
        let less : s.count < most_count = omega arith in
        let b = total_of vs s e h in
        let low = b.0 in let high = b.1 in
        (in-bounds (s.sum +ℤ v) (omega (arith, ints)) (omega (arith, ints)), joined_small s v less f h))
      where
        differ : (a b : ℕ) → (a == b) ≡ false → a ≢ b
        differ a b e = grind (arith, nat_tests)

-- ---- one value less

-- what retracting a value gives, or it is `Extreme`
abbrev pub Retracts : Option Summary → ℤ → Option Summary → Type 0
Retracts o v after = MatchResult (retracted o v) (λ s. (Some s ≡ after) × IsSmall s) (λ k. k ≡ kind.Extreme)

-- equal whole numbers pass the test
same_test : (x y : ℤ) → x ≡ y → int_eq x y ≡ true
same_test x y e = (Decides-int_eq x y).1 e

-- a value is never outside the bounds of a total that has it
outside : (v a b : ℤ) → (int_lt v (int_min v a) || int_lt (int_max v b) v) ≡ false
outside v a b = grind (arith, ints)

-- what lies strictly between a least and a greatest that it is counted in
between : (v a b : ℤ) → int_eq v (int_min v a) ≡ false → int_eq v (int_max v b) ≡ false
    → (a <ℤ v) × (v <ℤ b) × (int_min v a ≡ a) × (int_max v b ≡ b)
between v a b e f = grind (arith, not_from_Decides, Decides-int_eq, ints)

-- retracting a value from a total that has it gives the total of the others, or is `Extreme`
pub retracted_total : (vs : List ℤ) (v : ℤ) → IfSome (Some (of_value v) ⊕ total (map of_value vs)) IsSmall
    → Retracts (Some (of_value v) ⊕ total (map of_value vs)) v (total (map of_value vs))
retracted_total vs v = go (total (map of_value vs)) refl
  where
    test : (out extreme short fits : Bool) (t : Summary) (after : Option Summary) → out ≡ false
        → (extreme ≡ false → (short ≡ false) × (fits ≡ true) × (Some t ≡ after) × IsSmall t)
        → MatchResult {T = Summary} {E = DeltaKind}
        (cond out (Err kind.Outside) (cond extreme (Err kind.Extreme) (cond short (Err kind.Short)
        (cond (not fits) (Err kind.Bound) (Ok t))))) (λ t. (Some t ≡ after) × IsSmall t) (λ k. k ≡ kind.Extreme)
    test true extreme short fits t after e h = absurd (cc)
    test false true short fits t after e h = refl
    test false false true fits t after e h = let q = (h refl).0 in absurd (cc)
    test false false false true t after e h = ((h refl).2, (h refl).3)
    test false false false false t after e h = let q = (h refl).1 in absurd (cc)

    go : (o : Option Summary) → total (map of_value vs) ≡ o → IfSome (Some (of_value v) ⊕ o) IsSmall
        → Retracts (Some (of_value v) ⊕ o) v o
    go None e h = test (int_lt v v || int_lt v v) (int_eq v v || int_eq v v) (nat_le 1 2) (is_sum (v -ℤ v))
        (record { count = 1 - 1; sum = v -ℤ v; least = v; greatest = v }) None (grind (arith, ints))
        (λ t. let a = or_parts (int_eq v v) (int_eq v v) t in let b = same_test v v refl in absurd (cc))
    go (Some s) e h = test (int_lt v (int_min v s.least) || int_lt (int_max v s.greatest) v)
        (int_eq v (int_min v s.least) || int_eq v (int_max v s.greatest))
        (nat_le (1 + s.count) 2) (is_sum ((v +ℤ s.sum) -ℤ v))
        (record {
          count = (1 + s.count) - 1;
          sum = (v +ℤ s.sum) -ℤ v;
          least = int_min v s.least;
          greatest = int_max v s.greatest;
        })
        (Some s) (outside v s.least s.greatest) (λ t.
        let a = or_parts (int_eq v (int_min v s.least)) (int_eq v (int_max v s.greatest)) t in
        let b = between v s.least s.greatest a.0 a.1 in
        let low = b.0 in let high = b.1 in
        let order : s.least <ℤ s.greatest = omega (arith, ints) in
        let two = two_at_least vs s e order in
        let few = h.few in
        let small : IsSmall s = record {
          few = omega arith;
          least = subst (SFits w64) b.2 h.least;
          greatest = subst (SFits w64) b.3 h.greatest;
        } in
        let range = total_of vs s e small in
        let from = range.0 in let to = range.1 in
        let count : (1 + s.count) - 1 ≡ s.count = omega arith in
        let sum : (v +ℤ s.sum) -ℤ v ≡ s.sum = omega (arith, ints) in
        let same : record {
          count = (1 + s.count) - 1;
          sum = (v +ℤ s.sum) -ℤ v;
          least = int_min v s.least;
          greatest = int_max v s.greatest;
        } ≡ s =
        λ i. record { count = count i; sum = sum i; least = b.2 i; greatest = b.3 i } in (
          long s.count two,
          ap is_sum sum ∙ in-bounds s.sum (omega (arith, ints)) (omega (arith, ints)),
          ap Some same,
          subst IsSmall (sym same) small,
        ))
      where
        long : (n : ℕ) → 2 ≤ n → nat_le (1 + n) 2 ≡ false
        long n h = grind (arith, nat_tests)
