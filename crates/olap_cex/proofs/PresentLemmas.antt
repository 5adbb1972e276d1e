-- The present categories, one after another.
use Rattle.std.proofs.Common.{◌≡◌, ℕ, zero, suc, ◌+◌, ◌-◌, ◌<◌, ◌≤◌, List, [], ◌∷◌, ◌++◌, length, get_or, Bool, true, false, cond, ◌||◌, refl, sym, ◌∙◌, ap, subst, inl, inr, arith}
use Rattle.std.proofs.lemmas.Bool.{or_left, or_right, or_cases, eqb-true, eq-eqb, Decides.eqb_tells}
use Rattle.std.proofs.lemmas.List.{append-nil, length-append, map-id, Elements.filter-append}
use Rattle.std.proofs.lemmas.List.FromFn.{length-range_with_len, map-range_with_len_more}
use Rattle.std.specs.{List.{range_with_len, list_any}, Prelude.{◌==◌, ◌≢◌, filter}}
use Rattle.olap_ast.specs.Frozen.{chosen, is_present}
use Rattle.olap_base.{proofs.ListLemmas.{list_any_is, length-filter}, specs.Above.place_in, specs.Graph.Edge}
use Rattle.olap_frozen.proofs.ChosenLemmas.{chosen_place, place_chosen}
use Rattle.olap_cex.specs.Present.{first_present, has_end}

-- the edge past the end
abbrev pub nowhere : Edge
nowhere = record { child = 0; parent = 0 }

-- the root is present
pub root_present : (r : ℕ) (es : List Edge) (c : ℕ) → c ≡ r → is_present r es c ≡ true
root_present r es c e = or_left (c == r) (list_any (has_end c) es) (eq-eqb c r e)

-- an end of a chosen edge is present
pub end_present : (r : ℕ) (es : List Edge) (bits : List Bool) (c i : ℕ) → i < length es → get_or bits i false ≡ true
    → has_end c (get_or es i nowhere) ≡ true → is_present r (chosen es bits) c ≡ true
end_present r es bits c i h b t = or_right (c == r) (list_any (has_end c) (chosen es bits))
    ((list_any_is (has_end c) (chosen es bits)).1
    (get_or es i nowhere, place_chosen es bits (get_or es i nowhere) nowhere i h b refl, t))

-- what is neither the root nor such an end is absent
pub no_end_absent : (r : ℕ) (es : List Edge) (bits : List Bool) (c : ℕ) → c ≢ r
    → ((i : ℕ) → i < length es → get_or bits i false ≡ true → has_end c (get_or es i nowhere) ≡ true → ⊥)
    → is_present r (chosen es bits) c ≡ false
no_end_absent r es bits c n none = go (is_present r (chosen es bits) c) refl
  where
    go : (b : Bool) → is_present r (chosen es bits) c ≡ b → is_present r (chosen es bits) c ≡ false
    go false p = p
    go true p = elim (or_cases (c == r) (list_any (has_end c) (chosen es bits)) p) [
      | inl e ↦ absurd (n (eqb-true c r e))
      | inr e ↦
          let t = (list_any_is (has_end c) (chosen es bits)).0 e in
          let u = chosen_place es bits t.0 nowhere t.1 in
          absurd (none u.0 u.1 u.2 (subst (λ w. has_end c w ≡ true) (sym u.3) t.2))
    ]

-- ---- lists of them

-- one number more
range_push : (n : ℕ) → range_with_len 1 (n + 1) ≡ range_with_len 1 n ++ (n + 1) ∷ []
range_push n =
    sym (map-id (range_with_len 1 (n + 1))) ∙ map-range_with_len_more (λ k. k) 1 n (n + 1) (omega arith)
    ∙ ap (λ ks. ks ++ (n + 1) ∷ []) (map-id (range_with_len 1 n))

module _ (r : ℕ) (es : List Edge) (c : ℕ) (some : 1 ≤ c) where
  push : first_present r es c ≡ first_present r es (c - 1) ++ filter (is_present r es) (c ∷ [])
  push =
      let e : c ≡ (c - 1) + 1 = omega arith in
      ap (first_present r es) e ∙ ap (filter (is_present r es)) (range_push (c - 1))
      ∙ filter-append (is_present r es) (range_with_len 1 (c - 1)) (((c - 1) + 1) ∷ [])
      ∙ ap (λ k. first_present r es (c - 1) ++ filter (is_present r es) (k ∷ [])) (sym e)

  pub present_more : is_present r es c ≡ true → first_present r es c ≡ first_present r es (c - 1) ++ c ∷ []
  present_more p = push ∙ ap (λ b. first_present r es (c - 1) ++ cond b (c ∷ []) []) p

  pub absent_more : is_present r es c ≡ false → first_present r es c ≡ first_present r es (c - 1)
  absent_more p = push ∙ ap (λ b. first_present r es (c - 1) ++ cond b (c ∷ []) []) p
      ∙ append-nil (first_present r es (c - 1))

-- a kept number's place is how many are kept before it
pub place_counts : (p : ℕ → Bool) (a n c : ℕ) → a ≤ c → c < a + n → p c ≡ true
    → place_in (filter p (range_with_len a n)) c ≡ length (filter p (range_with_len a (c - a)))
place_counts p a zero c l h t = absurd (omega arith)
place_counts p a (suc n) c l h t = elim (eqb_tells a c) [
  | inl e ↦
      let z : c - a ≡ 0 = let q = e.1 in omega arith in
      let k : p a ≡ true = ap p e.1 ∙ t in
      rw (z, k, e.0) refl
  | inr e ↦
      let z : c - a ≡ suc (c - (a + 1)) = let q = e.1 in omega arith in
      let u = e.1 in
      rw z (go (p a) (place_counts p (a + 1) n c (omega arith) (omega arith) t) e.0)
]
  where
    go : (b : Bool)
        → place_in (filter p (range_with_len (a + 1) n)) c ≡ length (filter p (range_with_len (a + 1) (c - (a + 1))))
        → a == c ≡ false
        → place_in (cond b (a ∷ filter p (range_with_len (a + 1) n)) (filter p (range_with_len (a + 1) n))) c
        ≡ length (cond b (a ∷ filter p (range_with_len (a + 1) (c - (a + 1))))
        (filter p (range_with_len (a + 1) (c - (a + 1)))))
    go true e f = rw f (ap suc e)
    go false e f = e

-- ---- found by looking at one edge after another

-- an edge that was looked at has the category as an end
pub seen_present : (r : ℕ) (es : List Edge) (bits : List Bool) (c i d p : ℕ) → i < length es
    → get_or bits i false ≡ true → get_or es i nowhere ≡ record { child = d; parent = p }
    → (d == c) || (p == c) ≡ true → is_present r (chosen es bits) c ≡ true
seen_present r es bits c i d p h b e t =
    end_present r es bits c i h b (ap (has_end c) e ∙ t)

-- one more edge that hasn't
pub none_more : (es : List Edge) (bits : List Bool) (c i d p : ℕ) → d ≢ c → p ≢ c
    → get_or es i nowhere ≡ record { child = d; parent = p } → has_end c (get_or es i nowhere) ≡ true → ⊥
none_more es bits c i d p n m e t = elim (or_cases (d == c) (p == c) (sym (ap (has_end c) e) ∙ t)) [
  | inl q ↦ n (eqb-true d c q)
  | inr q ↦ m (eqb-true p c q)
]

-- ---- how many there are

-- one category more that is present
pub count_more : (r : ℕ) (es : List Edge) (c : ℕ) {old new : ℕ} → 1 ≤ c → is_present r es c ≡ true
    → old ≡ length (first_present r es (c - 1)) → new ≡ old + 1 → new ≡ length (first_present r es (c + 1 - 1))
count_more r es c {old} {new} l p e n =
    let step : c + 1 - 1 ≡ c = omega arith in
    let more = ap (λ (xs : List ℕ). length xs) (present_more r es c l p)
    ∙ length-append (first_present r es (c - 1)) (c ∷ []) in
    let same = ap (λ k. length (first_present r es k)) step in
    omega arith

-- one more that isn't
pub count_same : (r : ℕ) (es : List Edge) (c : ℕ) {old new : ℕ} → 1 ≤ c → is_present r es c ≡ false
    → old ≡ length (first_present r es (c - 1)) → new ≡ old → new ≡ length (first_present r es (c + 1 - 1))
count_same r es c l p e n =
    let step : c + 1 - 1 ≡ c = omega arith in
    n ∙ e ∙ ap (λ (xs : List ℕ). length xs) (sym (absent_more r es c l p))
    ∙ ap (λ k. length (first_present r es k)) (sym step)

-- no more are present than there are
pub count_few : (r : ℕ) (es : List Edge) (n : ℕ) → length (first_present r es n) ≤ n
count_few r es n =
    let a = length-filter (is_present r es) (range_with_len 1 n) in
    let b = length-range_with_len 1 n in
    omega arith
