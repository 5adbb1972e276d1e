-- What a first fault is, place by place.
use Rattle.std.proofs.Common.{◌≡◌, ◌+◌, ◌<◌, ◌≤◌, ◌++◌, ◌∷◌, ◌∙◌, ◌⊎◌, ◌↔◌, ℕ, zero, suc, List, [], length, take, slice_get, Option, Some, None, refl, sym, ap, inl, inr, arith, append_assoc}
use Rattle.std.proofs.lemmas.{Bool.Decides.eqb_tells, List.length-append}
use Rattle.olap_records.specs.{FaultLaws.{IsFirstFault, Passes}, Faults.{first_fault, or_after}}

module _ {R K : Type 0} (fault : List R → R → Option K) where
  -- the record after those before it
  at-seam : (before after : List R) (r : R) → slice_get (before ++ r ∷ after) (length before) ≡ Some r
  at-seam [] after r = refl
  at-seam (x ∷ xs) after r = at-seam xs after r

  -- the records before a seam
  front : (before after : List R) → take (length before) (before ++ after) ≡ before
  front [] after = refl
  front (x ∷ xs) after = ap (λ (t : List R). x ∷ t) (front xs after)

  -- at a place, or past it
  at-or-past : (n j : ℕ) → n ≤ j → (j ≡ n) ⊎ (n + 1 ≤ j)
  at-or-past n j l = elim (eqb_tells j n) [ inl t ↦ inl t.1 | inr m ↦ let ne = m.1 in inr (omega arith) ]

  -- the record after those before it passes, where it has no fault after them
  passes-here : (before after : List R) (r : R) → fault before r ≡ None
      → Passes fault (before ++ r ∷ after) (length before)
  passes-here before after r f q s =
      let same : Some r ≡ Some q = sym (at-seam before after r) ∙ s in
      let rq : r ≡ q = cc in
      rw (front before (r ∷ after), ← rq) f

  -- each record from the place n on passes
  abbrev PassFrom : ℕ → List R → Type 0
  PassFrom n rows = (j : ℕ) → n ≤ j → Passes fault rows j

  -- past the end there is no record
  past-end : (xs : List R) (j : ℕ) → length xs ≤ j → (q : R) → slice_get (xs ++ []) j ≡ Some q → ⊥
  past-end [] j l q s = cc s
  past-end (x ∷ xs) zero l q s = omega arith
  past-end (x ∷ xs) (suc j) l q s = past-end xs j (omega arith) q s

  -- if there is no fault from here on, each record from here on passes
  pass-from : (before rs : List R) → first_fault fault before rs ≡ None → PassFrom (length before) (before ++ rs)
  pass-from before [] e = λ j l q s. absurd (past-end before j l q s)
  pass-from before (r ∷ rs) e = by (fault before r) refl e (pass-from (before ++ r ∷ []) rs)
    where
      by : (o : Option K) → fault before r ≡ o
          → or_after (length before) o (first_fault fault (before ++ r ∷ []) rs) ≡ None
          → (first_fault fault (before ++ r ∷ []) rs ≡ None
          → PassFrom (length (before ++ r ∷ [])) ((before ++ r ∷ []) ++ rs))
          → PassFrom (length before) (before ++ r ∷ rs)
      by (Some k) f e again = cc e
      by None f e again = λ j l. elim (at-or-past (length before) j l) [
        | inl h ↦ rw h (passes-here before rs r f)
        | inr h ↦
            let n = length-append before (r ∷ []) in
            let rest : Passes fault ((before ++ r ∷ []) ++ rs) j = again e j (omega arith) in
            rw (append_assoc before (r ∷ []) rs) at rest
      ]

  -- the record at i has the fault k, and each from the place n on to it passes
  abbrev IsFirstFrom : ℕ → List R → ℕ → K → Type 0
  IsFirstFrom n rows i k = (r : R) × (slice_get rows i ≡ Some r) × (fault (take i rows) r ≡ Some k)
      × ((j : ℕ) → n ≤ j → j < i → Passes fault rows j)

  -- the first record's own fault is the first
  here : (before after : List R) (r : R) (i : ℕ) (k l : K) → fault before r ≡ Some l
      → ◌≡◌ {A = Option (ℕ × K)} (Some (length before, l)) (Some (i, k))
      → IsFirstFrom (length before) (before ++ r ∷ after) i k
  here before after r i k l f e =
      let p : ◌≡◌ {A = ℕ × K} (length before, l) (i, k) = cc in
      let ei : length before ≡ i = ap (λ (q : ℕ × K). q.0) p in
      let ek : l ≡ k = ap (λ (q : ℕ × K). q.1) p in (
        r,
        rw (← ei) (at-seam before after r),
        rw (← ei, front before (r ∷ after), f) (ap Some ek),
        λ j a b. absurd (omega arith),
      )

  -- the first fault after a record that passes is the first from it on
  later : (before after : List R) (r : R) (i : ℕ) (k : K) → fault before r ≡ None
      → IsFirstFrom (length before + 1) (before ++ r ∷ after) i k
      → IsFirstFrom (length before) (before ++ r ∷ after) i k
  later before after r i k f h = (
    h.0,
    h.1,
    h.2,
    λ j a b. elim (at-or-past (length before) j a) [
      | inl e ↦ rw e (passes-here before after r f)
      | inr l ↦ h.3 j l b
    ],
  )

  -- the fault that is found from here on is the first from here on
  first-from : (before rs : List R) (i : ℕ) (k : K) → first_fault fault before rs ≡ Some (i, k)
      → IsFirstFrom (length before) (before ++ rs) i k
  first-from before [] i k e = cc e
  first-from before (r ∷ rs) i k e = by (fault before r) refl e (first-from (before ++ r ∷ []) rs i k)
    where
      by : (o : Option K) → fault before r ≡ o
          → or_after (length before) o (first_fault fault (before ++ r ∷ []) rs) ≡ Some (i, k)
          → (first_fault fault (before ++ r ∷ []) rs ≡ Some (i, k)
          → IsFirstFrom (length (before ++ r ∷ [])) ((before ++ r ∷ []) ++ rs) i k)
          → IsFirstFrom (length before) (before ++ r ∷ rs) i k
      by (Some l) f e again = here before rs r i k l f e
      by None f e again =
          later before rs r i k f
          (rw (append_assoc before (r ∷ []) rs, length-append before (r ∷ [])) at (again e))

  -- the fault that is found is the first
  first-to : (rows : List R) (i : ℕ) (k : K) → first_fault fault [] rows ≡ Some (i, k) → IsFirstFault fault rows i k
  first-to rows i k e = let h = first-from [] rows i k e in
      record { record_at = h.0; stands = h.1; fails = h.2; none_before = λ j b. h.3 j (omega arith) b }

  -- where none is found, each record passes
  pass-to : (rows : List R) → first_fault fault [] rows ≡ None → (j : ℕ) → Passes fault rows j
  pass-to rows e j = pass-from [] rows e j (omega arith)

  -- a record that has a fault doesn't pass
  not-both : (rows : List R) (i : ℕ) (k : K) → IsFirstFault fault rows i k → Passes fault rows i → ⊥
  not-both rows i k h p = let n = p h.record_at h.stands in cc (n, h.fails)

  -- there is one first fault at most
  same-first : (rows : List R) (i j : ℕ) (k l : K) → IsFirstFault fault rows i k → IsFirstFault fault rows j l
      → ◌≡◌ {A = ℕ × K} (i, k) (j, l)
  same-first rows i j k l a b = elim (eqb_tells i j) [
    | inl t ↦ at-one t.1
    | inr n ↦ absurd
        (elim (less i j n.1)
        [ inl h ↦ not-both rows i k a (b.none_before i h) | inr h ↦ not-both rows j l b (a.none_before j h) ])
  ]
    where
      less : (i j : ℕ) → (i ≡ j → ⊥) → (i < j) ⊎ (j < i)
      less i j n = grind arith

      at-one : i ≡ j → ◌≡◌ {A = ℕ × K} (i, k) (j, l)
      at-one e =
          let r : Some a.record_at ≡ Some b.record_at = sym a.stands ∙ ap (slice_get rows) e ∙ b.stands in
          let s : a.record_at ≡ b.record_at = cc in
          let f : Some k ≡ Some l = sym a.fails ∙ ap (λ (n : ℕ). fault (take n rows) a.record_at) e
          ∙ ap (fault (take j rows)) s ∙ b.fails in
          let g : k ≡ l = cc in
          ap (λ (n : ℕ). (n, k)) e ∙ ap (λ (m : K). (j, m)) g

  -- `first_fault` is a place and a kind exactly if they are the first fault
  pub first-iff : (rows : List R) (i : ℕ) (k : K)
      → (first_fault fault [] rows ≡ Some (i, k)) ↔ IsFirstFault fault rows i k
  first-iff rows i k = (first-to rows i k, λ h. by (first_fault fault [] rows) refl h)
    where
      by : (o : Option (ℕ × K)) → first_fault fault [] rows ≡ o → IsFirstFault fault rows i k → o ≡ Some (i, k)
      by None e h = absurd (not-both rows i k h (pass-to rows e i))
      by (Some p) e h = ap Some (same-first rows p.0 i p.1 k (first-to rows p.0 p.1 e) h)

  -- it is nothing exactly if each record passes
  pub none-iff : (rows : List R) → (first_fault fault [] rows ≡ None) ↔ ((j : ℕ) → Passes fault rows j)
  none-iff rows = (pass-to rows, λ h. by (first_fault fault [] rows) refl h)
    where
      by : (o : Option (ℕ × K)) → first_fault fault [] rows ≡ o → ((j : ℕ) → Passes fault rows j) → o ≡ None
      by None e h = refl
      by (Some p) e h = absurd (not-both rows p.0 p.1 (first-to rows p.0 p.1 e) (h p.0))
