-- Lemmas on lists that lower crates lack.
use Rattle.std.proofs.Common.{◌≡◌, ℕ, zero, suc, ◌<◌, List, [], ◌∷◌, ◌++◌, length, get_or, map, set, take, Bool, true, false, cond, refl, sym, ◌∙◌, ap, subst, inl, inr, arith}
use Rattle.std.{proofs.lemmas.Bool.Decides.eqb_tells, specs.Prelude.{◌≢◌, Contains, filter}}
use Rattle.olap_base.{proofs.ListLemmas.{Contains-nil, contains_head, Distinct, map_same}, specs.Above.place_in}
use Rattle.olap_base.specs.{Deciding.{contains_cons, contains_cases}, Graph.Edge}
use Rattle.olap_ast.specs.Frozen.{chosen}

-- nothing is left of a list where each item fails the test
pub filter_none : {A : Type 0} (p : A → Bool) (xs : List A) → ((x : A) → Contains xs x → p x ≡ false)
    → filter p xs ≡ []
filter_none p [] n = refl
filter_none p (x ∷ xs) n =
    rw (n x (contains_head x xs)) (filter_none p xs (λ y c. n y (contains_cons y xs x c)))

-- one map after another is a third, where it is so at each element
pub map_twice : {A B C : Type 0} (f : B → C) (g : A → B) (h : A → C) (xs : List A)
    → ((x : A) → Contains xs x → f (g x) ≡ h x) → map f (map g xs) ≡ map h xs
map_twice f g h [] s = refl
map_twice f g h (x ∷ xs) s =
    ap (λ y. y ∷ map f (map g xs)) (s x (contains_head x xs))
    ∙ ap (λ t. h x ∷ t) (map_twice f g h xs (λ y c. s y (contains_cons y xs x c)))

-- an item of the first of two lists has its place there
pub place_in_front : (xs ys : List ℕ) (y : ℕ) → Contains xs y → place_in (xs ++ ys) y ≡ place_in xs y
place_in_front [] ys y c = absurd (Contains-nil y c)
place_in_front (x ∷ xs) ys y c = elim (eqb_tells x y) [
  | inl e ↦ rw e.0 refl
  | inr e ↦ elim (contains_cases y x xs c) [
    | inl q ↦ absurd (e.1 q)
    | inr d ↦ rw e.0 (ap suc (place_in_front xs ys y d))
  ]
]

-- a new item's place is after all others
pub place_behind : (xs : List ℕ) (y : ℕ) → (Contains xs y → ⊥) → place_in (xs ++ y ∷ []) y ≡ length xs
place_behind [] y n = elim (eqb_tells y y) [ inl e ↦ rw e.0 refl | inr e ↦ absurd (e.1 refl) ]
place_behind (x ∷ xs) y n = elim (eqb_tells x y) [
  | inl e ↦ absurd (n (subst (λ w. Contains (x ∷ xs) w) e.1 (contains_head x xs)))
  | inr e ↦ rw e.0 (ap suc (place_behind xs y (λ c. n (contains_cons y xs x c))))
]

-- the list at the place of one element gets one more at its end
pub set_at_place : {A : Type 0} (old new : ℕ → List A) (xs : List ℕ) (c : ℕ) (v : A) → Distinct xs → Contains xs c
    → ((y : ℕ) → y ≢ c → new y ≡ old y) → new c ≡ old c ++ v ∷ []
    → set (map old xs) (place_in xs c) (get_or (map old xs) (place_in xs c) [] ++ v ∷ []) ≡ map new xs
set_at_place old new [] c v d h same at = absurd (Contains-nil c h)
set_at_place {A} old new (x ∷ xs) c v d h same at = elim (eqb_tells x c) [
  | inl e ↦
      let first : old x ++ v ∷ [] ≡ new x = ap (λ z. old z ++ v ∷ []) e.1 ∙ sym at ∙ ap new (sym e.1) in
      let rest : map old xs ≡ map new xs = map_same old new xs (λ y k. sym (same y (λ q. d.0
      (subst (λ w. Contains xs w) (q ∙ sym e.1) k)))) in
      rw e.0 (ap (λ y. y ∷ map old xs) first ∙ ap (λ t. new x ∷ t) rest)
  | inr e ↦ elim (contains_cases c x xs h) [
    | inl q ↦ absurd (e.1 q)
    | inr k ↦ rw e.0 (ap (λ y. y ∷ set (map old xs) (place_in xs c) (get_or (map old xs) (place_in xs c) [] ++ v ∷ []))
        (sym (same x e.1))
        ∙ ap (λ t. new x ∷ t) (set_at_place old new xs c v d.1 k same at))
  ]
]

-- ---- edges chosen one after another

-- of no edges none is chosen
chosen_none : (es : List Edge) (bits : List Bool) → chosen (take 0 es) bits ≡ []
chosen_none [] bits = refl
chosen_none (x ∷ es) bits = refl

-- one edge more that is chosen
pub chosen_more : (es : List Edge) (bits : List Bool) (k : ℕ) (z : Edge) → k < length es → get_or bits k false ≡ true
    → chosen (take (suc k) es) bits ≡ chosen (take k es) bits ++ get_or es k z ∷ []
chosen_more [] bits k z h b = absurd (omega arith)
chosen_more (e ∷ es) [] k z h b = absurd (cc)
chosen_more (e ∷ es) (a ∷ bits) zero z h b = rw b (ap (λ t. e ∷ t) (chosen_none es bits))
chosen_more (e ∷ es) (a ∷ bits) (suc k) z h b = go a (chosen_more es bits k z (omega arith) b)
  where
    go : (t : Bool) → chosen (take (suc k) es) bits ≡ chosen (take k es) bits ++ get_or es k z ∷ []
        → cond t (e ∷ chosen (take (suc k) es) bits) (chosen (take (suc k) es) bits)
        ≡ cond t (e ∷ chosen (take k es) bits) (chosen (take k es) bits) ++ get_or es k z ∷ []
    go true q = ap (λ t. e ∷ t) q
    go false q = q

-- one edge more that isn't
pub chosen_same : (es : List Edge) (bits : List Bool) (k : ℕ) → k < length es → get_or bits k false ≡ false
    → chosen (take (suc k) es) bits ≡ chosen (take k es) bits
chosen_same [] bits k h b = absurd (omega arith)
chosen_same (e ∷ es) [] zero h b = refl
chosen_same (e ∷ es) [] (suc k) h b = refl
chosen_same (e ∷ es) (a ∷ bits) zero h b = rw b (chosen_none es bits)
chosen_same (e ∷ es) (a ∷ bits) (suc k) h b =
    ap (λ t. cond a (e ∷ t) t) (chosen_same es bits k (omega arith) b)
