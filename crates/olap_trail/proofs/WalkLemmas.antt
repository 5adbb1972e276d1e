-- Walks along a list of edges, and along the list with one edge more.
use Rattle.std.proofs.Common.{◌≡◌, ℕ, ◌⊎◌, ◌↔◌, List, [], ◌∷◌, ◌++◌, refl, ap, sym, subst, ◌∙◌, inl, inr}
use Rattle.std.proofs.lemmas.List.Elements.{Contains-append_left, Contains-push, Contains-push_cases}
use Rattle.olap_base.specs.Graph.{Edge}
use Rattle.olap_base.specs.Steps.{Climb, Climb.climb, Climb-append, Climb-steps, Steps, Steps.here, Steps.step, Steps-climb}
use Rattle.olap_trail.specs.Drawing.{IsCyclic, Joins}

-- a walk, and then another one or none
pub then_climb : {R : ℕ → ℕ → Type 0} {x y z : ℕ} → Climb R x z → (z ≡ y) ⊎ Climb R z y → Climb R x y
then_climb {R} {x} c (inl e) = subst (λ w. Climb R x w) e c
then_climb c (inr d) = Climb-append c (Climb-steps d)

-- a walk or none is some steps
pub or_steps : {R : ℕ → ℕ → Type 0} {x y : ℕ} → (x ≡ y) ⊎ Climb R x y → Steps R x y
or_steps {R} {x} (inl e) = subst (λ w. Steps R x w) e here
or_steps (inr c) = Climb-steps c

module _ (es : List Edge) (c p : ℕ) where
  -- the edges, and one more
  abbrev pub more : List Edge
  more = es ++ (record { child = c; parent = p }) ∷ []

  -- a walk leads from x to y without the new edge, or to its child and on from its parent
  abbrev pub Grows : ℕ → ℕ → Type 0
  Grows x y = Climb (Joins es) x y ⊎ (((x ≡ c) ⊎ Climb (Joins es) x c) × ((p ≡ y) ⊎ Climb (Joins es) p y))

  -- an edge of the list is one of the longer list
  pub joins_more : (x y : ℕ) → Joins es x y → Joins more x y
  joins_more x y h =
      Contains-append_left es ((record { child = c; parent = p }) ∷ []) (record { child = x; parent = y }) h

  -- so is the new edge
  pub joins_new : Joins more c p
  joins_new = Contains-push es (record { child = c; parent = p })

  -- an edge of the longer list is one of the list, or the new one
  pub joins_cases : (x y : ℕ) → Joins more x y → Joins es x y ⊎ ((x ≡ c) × (p ≡ y))
  joins_cases x y h = elim (Contains-push_cases es (record { child = c; parent = p })
      (record { child = x; parent = y }) h) [
        | inl k ↦ inl k
        | inr e ↦ inr (ap (λ (z : Edge). z.child) (sym e), ap (λ (z : Edge). z.parent) e)
      ]

  -- steps along the list are steps along the longer one
  steps_more : {x y : ℕ} → Steps (Joins es) x y → Steps (Joins more) x y
  steps_more here = here
  steps_more (step {x = x} {y = y} j s) = step (joins_more x y j) (steps_more s)

  -- and so is a walk
  pub climb_more : {x y : ℕ} → Climb (Joins es) x y → Climb (Joins more) x y
  climb_more {x} (climb {z = z} j s) = climb (joins_more x z j) (steps_more s)

  -- an edge, and then such a walk or none
  first : (x z y : ℕ) → Joins more x z → (z ≡ y) ⊎ Grows z y → Grows x y
  first x z y j t = elim (joins_cases x z j) [
    | inl k ↦ elim t [
      | inl e ↦ inl (climb k (or_steps (inl e)))
      | inr g ↦ elim g [
        | inl w ↦ inl (climb k (Climb-steps w))
        | inr w ↦ inr (inr (climb k (or_steps w.0)), w.1)
      ]
    ]
    | inr q ↦ elim t [
      | inl e ↦ inr (inl q.0, inl (q.1 ∙ e))
      | inr g ↦ elim g [
        | inl w ↦ inr (inl q.0, inr (subst (λ a. Climb (Joins es) a y) (sym q.1) w))
        | inr w ↦ inr (inl q.0, w.1)
      ]
    ]
  ]

  -- an edge and then steps
  grows_steps : {x z y : ℕ} → Joins more x z → Steps (Joins more) z y → Grows x y
  grows_steps {x} {z} j here = first x z z j (inl refl)
  grows_steps {x} {z} {y} j (step k s) = first x z y j (inr (grows_steps k s))

  -- what a walk with the new edge is
  pub grows : {x y : ℕ} → Climb (Joins more) x y → Grows x y
  grows (climb j s) = grows_steps j s

  -- and the other way round
  pub climb_grown : {x y : ℕ} → Grows x y → Climb (Joins more) x y
  climb_grown (inl w) = climb_more w
  climb_grown {x} {y} (inr w) = Steps-climb (or_steps (lift w.0)) (climb joins_new (or_steps (lift w.1)))
    where
      lift : {a b : ℕ} → (a ≡ b) ⊎ Climb (Joins es) a b → (a ≡ b) ⊎ Climb (Joins more) a b
      lift (inl e) = inl e
      lift (inr v) = inr (climb_more v)

  -- a cycle with the new edge is one without it, or leads from its parent to its child
  pub cyclic_more : IsCyclic more ↔ (IsCyclic es ⊎ ((p ≡ c) ⊎ Climb (Joins es) p c))
  cyclic_more = (
    λ t. elim (grows t.1) [
      | inl w ↦ inl (t.0, w)
      | inr w ↦ inr (round t.0 w.1 w.0)
    ],
    λ o. elim o [
      | inl t ↦ (t.0, climb_more t.1)
      | inr w ↦ (c, climb_grown (inr (inl refl, w)))
    ],
  )
    where
      round : (z : ℕ) → (p ≡ z) ⊎ Climb (Joins es) p z → (z ≡ c) ⊎ Climb (Joins es) z c
          → (p ≡ c) ⊎ Climb (Joins es) p c
      round z (inl e) t = subst (λ a. (a ≡ c) ⊎ Climb (Joins es) a c) (sym e) t
      round z (inr w) t = inr (then_climb w t)
