-- What sets of masks have, and when a mask is bad.
use Rattle.std.proofs.Common.{◌≡◌, ◌≢◌, not, ℕ, suc, ◌+◌, ◌-◌, ◌<◌, ◌≤◌, ◌⊎◌, ◌↔◌, ◌||◌, Bool, List, [], ◌∷◌, length, ◌++◌, drop, get_or, true, false, eqb, refl, ap, sym, subst, ◌∙◌, inl, inr, arith}
use Rattle.std.proofs.lemmas.Bool.{cases_eq, eq-eqb, ne_eqb, or_cases, or_left, or_right}
use Rattle.std.proofs.lemmas.{List.{append-nil, drop_all, drop_more}, Nat.and_le_l}
use Rattle.std.specs.{Cmp.nat_cmp_total, Int.Bits.bit_and, List.range_with_len, Ordering.nat_cmp, Prelude.IsTrue}
use Rattle.olap_base.{proofs.GeneralLemmas.{below_or_same, one_time}, specs.OneFact.HoldsTimes}
use Rattle.olap_base.specs.Views.{ExactlyOne, NoneOf}
use Rattle.olap_bits.{proofs.CatSetLemmas.in_insert, specs.Sets.members, specs.declared.sets.CatSet.CatSet}
use Rattle.olap_cube_summ.specs.Masks.{CanBeBad, Has, IsBad, IsIn, OneCanBeBad, all_of}
use Rattle.std.specs.FinSet as set

-- ---- sets

module _ (s t : CatSet 4) (n : ℕ) (within : n < 256) (e : members t ≡ set.insert (members s) n) where
  in_new : IsIn t n
  in_new = (
    within,
    ap (λ w. set.contains w n) e ∙ in_insert (members s) n n
        ∙ or_left (eqb n n) (set.contains (members s) n) (eq-eqb n n refl),
  )

  in_old : (m : ℕ) → IsIn s m → IsIn t m
  in_old m h = (
    h.0,
    ap (λ w. set.contains w m) e ∙ in_insert (members s) n m
        ∙ or_right (eqb m n) (set.contains (members s) m) h.1,
  )

  -- what a set has after a mask is put in
  pub in_with : (m : ℕ) → IsIn t m ↔ ((m ≡ n) ⊎ IsIn s m)
  in_with m = (
    λ h. elim (cases_eq m n) [
      | inl q ↦ inl q
      | inr q ↦ inr (
        h.0,
        sym (ap (λ b. b || set.contains (members s) m) (ne_eqb m n q)) ∙ sym (in_insert (members s) n m)
            ∙ ap (λ w. set.contains w m) (sym e) ∙ h.1,
      )
    ],
    λ h. elim h [
      | inl q ↦ subst (λ w. IsIn t w) (sym q) in_new
      | inr o ↦ in_old m o
    ],
  )

-- nothing is in the empty set
pub in_empty : (t : CatSet 4) → members t ≡ set.empty → (m : ℕ) → IsIn t m → ⊥
in_empty t e m h =
    let q : false ≡ true = sym (set.contains-empty nat_cmp m) ∙ ap (λ w. set.contains w m) (sym e) ∙ h.1 in
    cc

-- what two sets have together
pub in_union : (s t u : CatSet 4) → members u ≡ set.union (members s) (members t) → (m : ℕ)
    → IsIn u m ↔ (IsIn s m ⊎ IsIn t m)
in_union s t u e m = (
  λ h. elim (or_cases (set.contains (members s) m) (set.contains (members t) m) (sym both ∙ h.1)) [
    | inl a ↦ inl (h.0, a)
    | inr a ↦ inr (h.0, a)
  ],
  λ h. elim h [
    | inl a ↦ (a.0, both ∙ or_left (set.contains (members s) m) (set.contains (members t) m) a.1)
    | inr a ↦ (a.0, both ∙ or_right (set.contains (members s) m) (set.contains (members t) m) a.1)
  ],
)
  where
    both : set.contains (members u) m ≡ (set.contains (members s) m || set.contains (members t) m)
    both = ap (λ w. set.contains w m) e ∙ set.contains-union nat_cmp_total (members s) (members t) m

-- ---- bad masks

-- what holds of none holds 0 times
times_none : {A : Type 0} (P : A → Type 0) (xs : List A) (n : ℕ) → NoneOf P xs → HoldsTimes P xs n → n ≡ 0
times_none P [] n o h = h
times_none P (x ∷ xs) n o (inl t) = absurd (o.0 t.0)
times_none P (x ∷ xs) n o (inr t) = times_none P xs n o.1 t.1

-- what holds of exactly one holds once
time_one : {A : Type 0} (P : A → Type 0) (xs : List A) (n : ℕ) → ExactlyOne P xs → HoldsTimes P xs n → n ≡ 1
time_one P [] n o h = absurd o
time_one P (x ∷ xs) n (inl o) (inl t) =
    let z : n ≡ suc t.1 = t.2 in let m : t.1 ≡ 0 = times_none P xs t.1 o.1 t.3 in omega arith
time_one P (x ∷ xs) n (inl o) (inr t) = absurd (t.0 o.0)
time_one P (x ∷ xs) n (inr o) (inl t) = absurd (o.0 t.0)
time_one P (x ∷ xs) n (inr o) (inr t) = time_one P xs n o.1 t.1

-- a mask is bad exactly if not one of its bits is counted
pub bad_by_count : (n m count : ℕ) → HoldsTimes (Has m) (range_with_len 0 n) count → count ≢ 1 → IsBad n m
bad_by_count n m count h other o = other (time_one (Has m) (range_with_len 0 n) count o h)

-- a mask in which one source was counted isn't bad
pub good_by_count : (n m count : ℕ) → HoldsTimes (Has m) (range_with_len 0 n) count → count ≡ 1 → IsBad n m → ⊥
good_by_count n m count h e bad = bad (one_time (Has m) (range_with_len 0 n)
    (subst (λ w. HoldsTimes (Has m) (range_with_len 0 n) w) e h))

-- ---- what masks can become

-- masks met with the patterns of a set: what can be bad with the set is what can be so after it
pub next_set : (n : ℕ) (sets : List (CatSet 4)) (masks met next : CatSet 4)
    → ((m : ℕ) → IsIn met m ↔ ((s p : ℕ) × IsIn masks s × IsIn next p × (m ≡ bit_and s p)))
    → OneCanBeBad n sets met ↔ OneCanBeBad n (next ∷ sets) masks
next_set n sets masks met next h = (
  λ o. let t = (h o.0).0 o.1 in (t.0, t.2, (t.1, t.3, subst (λ w. CanBeBad n sets w) t.4 o.2)),
  λ o. (
    bit_and o.0 o.2.0,
    (h (bit_and o.0 o.2.0)).1 (o.0, o.2.0, o.1, o.2.1, refl),
    o.2.2,
  ),
)

-- before any set there is one mask alone
pub first_mask : (n a : ℕ) (sets : List (CatSet 4)) (none one : CatSet 4) → a < 256
    → members none ≡ set.empty → members one ≡ set.insert (members none) a
    → OneCanBeBad n sets one ↔ CanBeBad n sets a
first_mask n a sets none one small e f = let w = in_with none one a small f in (
  λ o. elim ((w o.0).0 o.1) [
    | inl q ↦ subst (λ m. CanBeBad n sets m) q o.2
    | inr h ↦ absurd (in_empty none e o.0 h)
  ],
  λ b. (a, (w a).1 (inl refl), b),
)

-- ---- steps of loops

module _ (s : CatSet 4) (mask : ℕ) (patterns : CatSet 4) where
  -- the set has what the mask has in common with the patterns below p, beside what another has
  abbrev pub AreMet : ℕ → CatSet 4 → Type 0
  AreMet p met = (m : ℕ) → IsIn met m
      ↔ (IsIn s m ⊎ ((q : ℕ) × (q < p) × IsIn patterns q × (m ≡ bit_and mask q)))

  pub met_with : (p : ℕ) (met next : CatSet 4) → mask < 256 → IsIn patterns p
      → members next ≡ set.insert (members met) (bit_and mask p) → AreMet p met → AreMet (p + 1) next
  met_with p met next small i e a m =
      let w = in_with met next (bit_and mask p) (let l = and_le_l mask p in omega arith) e in (
        λ h. elim ((w m).0 h) [
          | inl q ↦ inr (p, omega arith, i, q)
          | inr o ↦ elim ((a m).0 o) [ inl x ↦ inl x | inr x ↦ inr (x.0, (let l = x.1 in omega arith), x.2, x.3) ]
        ],
        λ h. (w m).1 (elim h [
          | inl x ↦ inr ((a m).1 (inl x))
          | inr x ↦ elim (below_or_same x.0 p x.1) [
            | inl l ↦ inr ((a m).1 (inr (x.0, l, x.2, x.3)))
            | inr q ↦ inl (x.3 ∙ ap (bit_and mask) q)
          ]
        ]),
      )

  pub met_without : (p : ℕ) (met : CatSet 4) → (IsIn patterns p → ⊥) → AreMet p met → AreMet (p + 1) met
  met_without p met out a m = (
    λ h. elim ((a m).0 h) [ inl x ↦ inl x | inr x ↦ inr (x.0, (let l = x.1 in omega arith), x.2, x.3) ],
    λ h. (a m).1 (elim h [
      | inl x ↦ inl x
      | inr x ↦ elim (below_or_same x.0 p x.1) [
        | inl l ↦ inr (x.0, l, x.2, x.3)
        | inr q ↦ absurd (out (subst (λ w. IsIn patterns w) q x.2))
      ]
    ]),
  )

module _ (masks patterns : CatSet 4) where
  -- the set has what the masks below n have in common with the patterns
  abbrev pub AreAllMet : ℕ → CatSet 4 → Type 0
  AreAllMet n met = (m : ℕ) → IsIn met m
      ↔ ((s p : ℕ) × (s < n) × IsIn masks s × IsIn patterns p × (m ≡ bit_and s p))

  pub none_met : (met : CatSet 4) → members met ≡ set.empty → AreAllMet 0 met
  none_met met e m = (λ h. absurd (in_empty met e m h), λ t. absurd (let l = t.2 in omega arith))

  pub all_met_with : (n : ℕ) (met next : CatSet 4) → IsIn masks n
      → ((m : ℕ) → IsIn next m ↔ (IsIn met m ⊎ ((p : ℕ) × IsIn patterns p × (m ≡ bit_and n p))))
      → AreAllMet n met → AreAllMet (n + 1) next
  all_met_with n met next i e a m = (
    λ h. elim ((e m).0 h) [
      | inl o ↦ let t = (a m).0 o in (t.0, t.1, (let l = t.2 in omega arith), t.3, t.4, t.5)
      | inr t ↦ (n, t.0, omega arith, i, t.1, t.2)
    ],
    λ t. (e m).1 (elim (below_or_same t.0 n t.2) [
      | inl l ↦ inl ((a m).1 (t.0, t.1, l, t.3, t.4, t.5))
      | inr q ↦ inr (t.1, t.4, t.5 ∙ ap (λ w. bit_and w t.1) q)
    ]),
  )

  pub all_met_without : (n : ℕ) (met : CatSet 4) → (IsIn masks n → ⊥) → AreAllMet n met → AreAllMet (n + 1) met
  all_met_without n met out a m = (
    λ h. let t = (a m).0 h in (t.0, t.1, (let l = t.2 in omega arith), t.3, t.4, t.5),
    λ t. (a m).1 (elim (below_or_same t.0 n t.2) [
      | inl l ↦ (t.0, t.1, l, t.3, t.4, t.5)
      | inr q ↦ absurd (out (subst (λ w. IsIn masks w) q t.3))
    ]),
  )

-- the next of the sets
pub set_taken : (n : ℕ) (sets after : List (CatSet 4)) (k : ℕ) (masks met next : CatSet 4) (P : Type 0)
    → k < length sets → next ≡ get_or sets k next
    → ((m : ℕ) → IsIn met m ↔ ((s p : ℕ) × IsIn masks s × IsIn next p × (m ≡ bit_and s p)))
    → P ↔ OneCanBeBad n (drop k sets ++ after) masks → P ↔ OneCanBeBad n (drop (k + 1) sets ++ after) met
set_taken n sets after k masks met next P l e h a =
    let q : drop k sets ≡ next ∷ drop (k + 1) sets = rw (sym e) at (drop_more sets k next l) in
    let s = next_set n (drop (k + 1) sets ++ after) masks met next h in (
      λ p. s.1 (rw q at (a.0 p)),
      λ o. a.1 (rw q (s.0 o)),
    )

-- all sets are taken
pub sets_taken : (n : ℕ) (sets after : List (CatSet 4)) (k : ℕ) (met : CatSet 4) (P : Type 0) → length sets ≤ k
    → P ↔ OneCanBeBad n (drop k sets ++ after) met → P ↔ OneCanBeBad n after met
sets_taken n sets after k met P l a = rw drop_all at a

-- one of the masks is bad
pub found_bad : (r : Bool) (n mask : ℕ) (sets : List (CatSet 4)) (first last : CatSet 4)
    → OneCanBeBad n sets first ↔ CanBeBad n sets mask
    → OneCanBeBad n (sets ++ []) first ↔ OneCanBeBad n [] last
    → IsTrue r ↔ ((m : ℕ) × IsIn last m × IsBad n m) → IsTrue r ↔ CanBeBad n sets mask
found_bad r n mask sets first last a b t =
    let c = rw append-nil at b in
    (λ h. a.0 (c.1 (t.0 h)), λ h. t.1 (c.0 (a.1 h)))

-- what was found of the masks so far is the answer for a set between others
pub found_bad_with : (r : Bool) (n a : ℕ) → a ≡ all_of n → (done rest : List (CatSet 4))
    (first before set between last : CatSet 4)
    → OneCanBeBad n (done ++ set ∷ rest) first ↔ CanBeBad n (done ++ set ∷ rest) a
    → OneCanBeBad n (done ++ set ∷ rest) first ↔ OneCanBeBad n (set ∷ rest) before
    → ((m : ℕ) → IsIn between m ↔ ((s p : ℕ) × IsIn before s × IsIn set p × (m ≡ bit_and s p)))
    → OneCanBeBad n (rest ++ []) between ↔ OneCanBeBad n [] last
    → IsTrue r ↔ ((m : ℕ) × IsIn last m × IsBad n m) → IsTrue r ↔ CanBeBad n (done ++ set ∷ rest) (all_of n)
found_bad_with r n start is done rest first before set between last a b h c t =
    let d = rw append-nil at c in
    let e = next_set n rest before between set h in (
      λ y. rw is at (a.0 (b.1 (e.0 (d.1 (t.0 y))))),
      λ y. t.1 (d.0 (e.1 (b.0 (a.1 (rw is y))))),
    )

-- what the count of all sources says
pub judged : (n m left count : ℕ) → left ≤ 0 → HoldsTimes (Has m) (range_with_len left (n - left)) count
    → IsTrue (not (eqb count 1)) ↔ IsBad n m
judged n m left count l h = go (cases_eq count 1)
  where
    z : left ≡ 0
    z = omega arith

    all : HoldsTimes (Has m) (range_with_len 0 n) count
    all = subst (λ w. HoldsTimes (Has m) (range_with_len 0 w) count) (let q : n - 0 ≡ n = omega arith in q)
        (subst (λ w. HoldsTimes (Has m) (range_with_len w (n - w)) count) z h)

    go : (count ≡ 1) ⊎ (count ≢ 1) → IsTrue (not (eqb count 1)) ↔ IsBad n m
    go (inl e) = (
      λ t. absurd (let q : false ≡ true = sym (ap not (eq-eqb count 1 e)) ∙ t in cc),
      λ b. absurd (good_by_count n m count all e b),
    )
    go (inr e) = (λ t. bad_by_count n m count all e, λ b. ap not (ne_eqb count 1 e))

-- the patterns below p with which the mask can become bad
abbrev pub ArePossible : (n mask : ℕ) (patterns : CatSet 4) (rest : List (CatSet 4)) → ℕ → CatSet 4 → Type 0
ArePossible n mask patterns rest p found = (q : ℕ)
    → IsIn found q ↔ ((q < p) × IsIn patterns q × CanBeBad n rest (bit_and mask q))

-- a pattern with which the mask can become bad is put into the set
pub possible_with : (n mask : ℕ) (patterns : CatSet 4) (rest : List (CatSet 4)) (p : ℕ) (found next : CatSet 4)
    → IsIn patterns p → CanBeBad n rest (bit_and mask p) → members next ≡ set.insert (members found) p
    → ArePossible n mask patterns rest p found → ArePossible n mask patterns rest (p + 1) next
possible_with n mask patterns rest p found next i b e a q = let w = in_with found next p i.0 e in (
  λ h. elim ((w q).0 h) [
    | inl r ↦ (
      (let z = r in omega arith),
      subst (IsIn patterns) (sym r) i,
      subst (λ v. CanBeBad n rest (bit_and mask v)) (sym r) b,
    )
    | inr o ↦ let t = (a q).0 o in ((let l = t.0 in omega arith), t.1, t.2)
  ],
  λ t. (w q).1 (elim (below_or_same q p t.0) [ inl l ↦ inr ((a q).1 (l, t.1, t.2)) | inr r ↦ inl r ]),
)

-- any other is left out
pub possible_without : (n mask : ℕ) (patterns : CatSet 4) (rest : List (CatSet 4)) (p : ℕ) (found : CatSet 4)
    → (IsIn patterns p → CanBeBad n rest (bit_and mask p) → ⊥) → ArePossible n mask patterns rest p found
    → ArePossible n mask patterns rest (p + 1) found
possible_without n mask patterns rest p found out a q = (
  λ h. let t = (a q).0 h in ((let l = t.0 in omega arith), t.1, t.2),
  λ t. (a q).1 (elim (below_or_same q p t.0) [
    | inl l ↦ (l, t.1, t.2)
    | inr r ↦ absurd (out (subst (IsIn patterns) r t.1) (subst (λ v. CanBeBad n rest (bit_and mask v)) r t.2))
  ]),
)
