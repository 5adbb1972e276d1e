-- The set of the ends of chosen edges, edge by edge.
use Rattle.std.proofs.Common.{◌≡◌, ℕ, ◌+◌, ◌<◌, List, length, get_or, Bool, true, false, refl, ap, sym, subst, ◌∙◌, ◌↔◌, inl, inr, arith}
use Rattle.std.proofs.lemmas.Bool.{or_left, or_right, or_cases, eqb-true, eq-eqb}
use Rattle.std.specs.{FinSet.{FinSet, contains, empty, insert, contains-empty}, List.list_any, Ordering.nat_cmp}
use Rattle.std.specs.Prelude.{◌==◌, ◌||◌}
use Rattle.olap_ast.specs.Frozen.{chosen}
use Rattle.olap_base.{proofs.ListLemmas.{same_truth, list_any_is}, specs.Graph.Edge}
use Rattle.olap_frozen.proofs.ChosenLemmas.{chosen_place, place_chosen}
use Rattle.olap_graph.proofs.RowLemmas.{has_insert, newest}
use Rattle.olap_cex.{proofs.PresentLemmas.nowhere, specs.Present.has_end}

-- the category is an end of a chosen one of the first k edges
abbrev pub IsEndBefore : List Edge → List Bool → ℕ → ℕ → Type 0
IsEndBefore es bits k c =
    (i : ℕ) × (i < k) × (get_or bits i false ≡ true) × (has_end c (get_or es i nowhere) ≡ true)

-- the set has exactly the ends of the chosen ones of the first k edges
abbrev pub AreEnds : List Edge → List Bool → ℕ → FinSet nat_cmp → Type 0
AreEnds es bits k s = (c : ℕ) → (contains s c ≡ true) ↔ IsEndBefore es bits k c

-- of no edges there are none
pub ends_none : (es : List Edge) (bits : List Bool) (s : FinSet nat_cmp) → s ≡ empty → AreEnds es bits 0 s
ends_none es bits s e c = (
  λ m. absurd (let z : false ≡ true = sym (contains-empty nat_cmp c) ∙ ap (λ t. contains t c) (sym e) ∙ m in cc),
  λ t. absurd (omega (arith, t.1)),
)

-- an end of an earlier edge is one by one edge more
lift : (es : List Edge) (bits : List Bool) (k c : ℕ) → IsEndBefore es bits k c → IsEndBefore es bits (k + 1) c
lift es bits k c t = (t.0, omega (arith, t.1), t.2, t.3)

-- an edge that isn't chosen
pub ends_less : (es : List Edge) (bits : List Bool) (k : ℕ) (s : FinSet nat_cmp) → get_or bits k false ≡ false
    → AreEnds es bits k s → AreEnds es bits (k + 1) s
ends_less es bits k s f are c = (
  λ m. lift es bits k c ((are c).0 m),
  λ t. elim (newest t.0 k t.1) [
    | inl l ↦ (are c).1 (t.0, l.1, t.2, t.3)
    | inr e ↦ absurd (let z : false ≡ true = sym f ∙ ap (λ i. get_or bits i false) (sym e) ∙ t.2 in cc)
  ],
)

-- a chosen edge
pub ends_more : (es : List Edge) (bits : List Bool) (k d p : ℕ) (s t : FinSet nat_cmp) → get_or bits k false ≡ true
    → get_or es k nowhere ≡ record { child = d; parent = p } → t ≡ insert (insert s d) p
    → AreEnds es bits k s → AreEnds es bits (k + 1) t
ends_more es bits k d p s t bit edge e are c = (to, from)
  where
    to : contains t c ≡ true → IsEndBefore es bits (k + 1) c
    to m = elim ((has_insert (insert s d) p c).0 (ap (λ x. contains x c) (sym e) ∙ m)) [
      | inl q ↦ (k, omega arith, bit, ap (has_end c) edge ∙ or_right (d == c) (p == c) (eq-eqb p c q))
      | inr m ↦ elim ((has_insert s d c).0 m) [
        | inl q ↦ (k, omega arith, bit, ap (has_end c) edge ∙ or_left (d == c) (p == c) (eq-eqb d c q))
        | inr m ↦ lift es bits k c ((are c).0 m)
      ]
    ]

    here : (d == c) || (p == c) ≡ true → contains (insert (insert s d) p) c ≡ true
    here h = (has_insert (insert s d) p c).1 (elim (or_cases (d == c) (p == c) h) [
      | inl q ↦ inr ((has_insert s d c).1 (inl (eqb-true d c q)))
      | inr q ↦ inl (eqb-true p c q)
    ])

    from : IsEndBefore es bits (k + 1) c → contains t c ≡ true
    from b = ap (λ x. contains x c) e ∙ elim (newest b.0 k b.1) [
      | inl l ↦ (has_insert (insert s d) p c).1 (inr ((has_insert s d c).1 (inr ((are c).1 (b.0, l.1, b.2, b.3)))))
      | inr q ↦ here (sym (ap (has_end c) (ap (λ i. get_or es i nowhere) q ∙ edge)) ∙ b.3)
    ]

-- of all edges: an end of one that is chosen
pub ends_all : (es : List Edge) (bits : List Bool) (k : ℕ) (s : FinSet nat_cmp) → length es ≡ k
    → AreEnds es bits k s → (c : ℕ) → contains s c ≡ list_any (has_end c) (chosen es bits)
ends_all es bits k s n are c = same_truth (contains s c) (list_any (has_end c) (chosen es bits)) to from
  where
    to : contains s c ≡ true → list_any (has_end c) (chosen es bits) ≡ true
    to m =
        let t = (are c).0 m in
        (list_any_is (has_end c) (chosen es bits)).1 (
          get_or es t.0 nowhere,
          place_chosen es bits (get_or es t.0 nowhere) nowhere t.0 (let l = t.1 in omega arith) t.2 refl,
          t.3,
        )

    from : list_any (has_end c) (chosen es bits) ≡ true → contains s c ≡ true
    from e =
        let t = (list_any_is (has_end c) (chosen es bits)).0 e in
        let u = chosen_place es bits t.0 nowhere t.1 in
        (are c).1 (u.0, (let l = u.1 in omega arith), u.2, subst (λ w. has_end c w ≡ true) (sym u.3) t.2)
