-- The least of what is chosen, dimension by dimension: in each the least of those with which the rest can still end
-- badly.
use Rattle.std.proofs.Common.{◌≡◌, List, [], ◌∷◌, ◌⊎◌, sym, subst, inl, inr}

-- D is a dimension, X what can be chosen in it, ordered by a key, M what is left by the choices so far
module _ {D X K M : Type 0} (In : D → X → Type 0) (key : X → K) (after : K → K → Type 0) (left : M → X → M)
    (Bad : M → Type 0) where
  -- one is chosen in each dimension, and what is left is bad
  abbrev pub Ends : List D → M → List X → Type 0
  Ends [] m [] = Bad m
  Ends [] m (x ∷ xs) = ⊥
  Ends (d ∷ ds) m [] = ⊥
  Ends (d ∷ ds) m (x ∷ xs) = In d x × Ends ds (left m x) xs

  -- something can be chosen so
  abbrev pub CanEnd : List D → M → Type 0
  CanEnd ds m = (xs : List X) × Ends ds m xs

  -- in each dimension none is before it with which the rest can end
  abbrev pub Greedy : List D → M → List X → Type 0
  Greedy [] m [] = Bad m
  Greedy [] m (x ∷ xs) = ⊥
  Greedy (d ∷ ds) m [] = ⊥
  Greedy (d ∷ ds) m (x ∷ xs) =
      In d x × ((y : X) → In d y → CanEnd ds (left m y) → after (key x) (key y) → ⊥) × Greedy ds (left m x) xs

  -- the keys are not after the others, as lists
  abbrev pub NotAfter : List X → List X → Type 0
  NotAfter [] ys = Unit {0}
  NotAfter (x ∷ xs) [] = ⊥
  NotAfter (x ∷ xs) (y ∷ ys) = after (key y) (key x) ⊎ ((key x ≡ key y) × NotAfter xs ys)

  -- the greedy choice ends
  pub greedy_ends : (ds : List D) (m : M) (xs : List X) → Greedy ds m xs → Ends ds m xs
  greedy_ends [] m [] g = g
  greedy_ends (d ∷ ds) m (x ∷ xs) g = (g.0, greedy_ends ds (left m x) xs g.2)
  greedy_ends ds m xs g = g

  -- no choice that ends is before it, where what is left depends on the key alone
  pub greedy_least : ((d : D) (x y : X) → In d x → In d y → key x ≡ key y → (m : M) → left m x ≡ left m y)
      → ((a b : K) → after a b ⊎ ((a ≡ b) ⊎ after b a))
      → (ds : List D) (m : M) (xs ys : List X) → Greedy ds m xs → Ends ds m ys → NotAfter xs ys
  greedy_least one order [] m [] ys g e = tt
  greedy_least one order (d ∷ ds) m (x ∷ xs) [] g e = absurd e
  greedy_least one order (d ∷ ds) m (x ∷ xs) (y ∷ ys) g e = elim (order (key x) (key y)) [
    | inl a ↦ absurd (g.1 y e.0 (ys, e.1) a)
    | inr s ↦ elim s [
      | inl q ↦ inr (
        q,
        greedy_least one order ds (left m x) xs ys g.2
            (subst (λ n. Ends ds n ys) (sym (one d x y g.0 e.0 q m)) e.1),
      )
      | inr b ↦ inl b
    ]
  ]
  greedy_least one order ds m xs ys g e = absurd g
