-- Marks on masks: one that is taken away, how many are left, and the cheapest of those that are marked.
use Rattle.std.proofs.Common.{◌≡◌, ℕ, zero, suc, ◌+◌, ◌<◌, ◌≤◌, List, [], ◌∷◌, length, Bool, true, false, cond, refl, sym, subst, ◌⊎◌, inl, inr, Option, Some, None, arith}
use Rattle.olap_base.specs.Views.{View}
use Rattle.olap_nav.specs.{Choices.{IsCheapest, IsCheapestOf, MayServe}, Plans.{IsNoDearer, rows_in}}
use Rattle.olap_nav.specs.declared.choice.Plan.{Plan}

-- each mark of the second list stands in the first
abbrev pub IsWithin : List Bool → List Bool → Type 0
IsWithin new old = (m : ℕ) → MayServe new m → MayServe old m

-- how many marks there are
abbrev pub marks : List Bool → ℕ
marks [] = 0
marks (b ∷ bits) = cond b (suc (marks bits)) (marks bits)

-- a mark stands inside
pub inside : (bits : List Bool) (m : ℕ) → MayServe bits m → m < length bits
inside [] m h = absurd (let z : false ≡ true = h in cc)
inside (b ∷ bits) zero h = omega arith
inside (b ∷ bits) (suc m) h = let k = inside bits m h in omega arith

-- marks within others are no more than these
no_more : (new old : List Bool) → length new ≡ length old → IsWithin new old → marks new ≤ marks old
no_more [] [] e w = omega arith
no_more [] (y ∷ old) e w = omega arith
no_more (x ∷ new) [] e w = absurd (let z : suc (length new) ≡ 0 = e in cc)
no_more (x ∷ new) (y ∷ old) e w =
    let l : length new ≡ length old = let z : suc (length new) ≡ suc (length old) = e in omega arith in
    go x y (w 0) (no_more new old l (λ m h. w (suc m) h))
  where
    go : (x y : Bool) → (x ≡ true → y ≡ true) → marks new ≤ marks old
        → cond x (suc (marks new)) (marks new) ≤ cond y (suc (marks old)) (marks old)
    go true true f r = omega arith
    go true false f r = absurd (let z : false ≡ true = f refl in cc)
    go false true f r = omega arith
    go false false f r = r

-- a mark that is gone makes them fewer
pub fewer : (new old : List Bool) (m : ℕ) → length new ≡ length old → IsWithin new old → MayServe old m
    → (MayServe new m → ⊥) → marks new < marks old
fewer new [] m e w h n = absurd (let z : false ≡ true = h in cc)
fewer [] (y ∷ old) m e w h n = absurd (let z : 0 ≡ suc (length old) = e in cc)
fewer (x ∷ new) (y ∷ old) zero e w h n =
    let l : length new ≡ length old = let z : suc (length new) ≡ suc (length old) = e in omega arith in
    go x y h n (no_more new old l (λ m h. w (suc m) h))
  where
    go : (x y : Bool) → y ≡ true → (x ≡ true → ⊥) → marks new ≤ marks old
        → cond x (suc (marks new)) (marks new) < cond y (suc (marks old)) (marks old)
    go true y h n r = absurd (n refl)
    go false true h n r = omega arith
    go false false h n r = absurd (let z : false ≡ true = h in cc)
fewer (x ∷ new) (y ∷ old) (suc m) e w h n =
    let l : length new ≡ length old = let z : suc (length new) ≡ suc (length old) = e in omega arith in
    go x y (w 0) (fewer new old m l (λ k. w (suc k)) h n)
  where
    go : (x y : Bool) → (x ≡ true → y ≡ true) → marks new < marks old
        → cond x (suc (marks new)) (marks new) < cond y (suc (marks old)) (marks old)
    go true true f r = omega arith
    go true false f r = absurd (let z : false ≡ true = f refl in cc)
    go false true f r = omega arith
    go false false f r = r

-- ---- the cheapest so far

module _ (views : List (View ℕ ℕ)) (bits : List Bool) (next : Plan) (here : MayServe bits next.mask)
    (rows : next.rows ≡ rows_in views next.mask) where
  -- what costs no more than each earlier one and the next
  until : (best : Plan) → ((m : ℕ) → m < next.mask → MayServe bits m → IsNoDearer views best.mask m)
      → IsNoDearer views best.mask next.mask → (m : ℕ) → m < next.mask + 1 → MayServe bits m
      → IsNoDearer views best.mask m
  until best f g m h k = elim (which m next.mask h) [
    | inl l ↦ f m l k
    | inr e ↦ subst (IsNoDearer views best.mask) (sym e) g
  ]
    where
      which : (m n : ℕ) → m < n + 1 → (m < n) ⊎ (m ≡ n)
      which m n h = grind arith

  -- the next is the first
  pub first_is : IsCheapest views bits next.mask None → IsCheapestOf views bits (next.mask + 1) next
  first_is none = record {
    before = omega arith;
    may_serve = here;
    rows = rows;
    cheapest = until next (λ m l k. absurd (none m l k)) (inr (refl, omega arith));
  }

  -- the next is cheaper
  pub next_is : (best : Plan) → IsCheapestOf views bits next.mask best → next.rows < best.rows
      → IsCheapestOf views bits (next.mask + 1) next
  next_is best b less = record {
    before = omega arith;
    may_serve = here;
    rows = rows;
    cheapest = until next (λ m l k. elim (b.cheapest m l k) [
      | inl d ↦ inl (let e = b.rows in let f = rows in omega arith)
      | inr d ↦ inl (let e = b.rows in let f = rows in let g = d.0 in omega arith)
    ]) (inr (refl, omega arith));
  }

  -- the next isn't
  pub best_is : (best : Plan) → IsCheapestOf views bits next.mask best → best.rows ≤ next.rows
      → IsCheapestOf views bits (next.mask + 1) best
  best_is best b most = record {
    before = let h = b.before in omega arith;
    may_serve = b.may_serve;
    rows = b.rows;
    cheapest = until best b.cheapest (no_dearer (rows_in views best.mask) (rows_in views next.mask) best.mask next.mask
        (let e = b.rows in let f = rows in omega arith) (let h = b.before in omega arith));
  }
    where
      no_dearer : (a d m n : ℕ) → a ≤ d → m ≤ n → (a < d) ⊎ ((a ≡ d) × (m ≤ n))
      no_dearer a d m n h k = elim (cases a d h) [ inl l ↦ inl l | inr e ↦ inr (e, k) ]
        where
          cases : (a d : ℕ) → a ≤ d → (a < d) ⊎ (a ≡ d)
          cases a d h = grind arith

-- if there is no cheapest, none may serve
pub none_left : (views : List (View ℕ ℕ)) (bits : List Bool) (n : ℕ) (best : Option Plan) → IsCheapest views bits n best
    → ((p : Plan) → best ≡ Some p → ⊥) → (m : ℕ) → m < n → MayServe bits m → ⊥
none_left views bits n None c none = c
none_left views bits n (Some p) c none = absurd (none p refl)
