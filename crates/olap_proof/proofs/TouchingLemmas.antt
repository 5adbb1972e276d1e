-- Which categories are known to have a member: the root, and the ends of what was seen.
--     touched_both, touched_none    what adding both ends does
use Rattle.std.proofs.Common.{◌≡◌, ℕ, ◌+◌, ◌<◌, ◌⊎◌, ◌↔◌, List, length, Bool, true, false, eqb, refl, ap, sym, subst, ◌∙◌, inl, inr, arith}
use Rattle.std.proofs.lemmas.Bool.{or_cases, eqb-true, eq-eqb}
use Rattle.std.specs.{FinSet.{FinSet, contains, contains-empty, empty, insert, union}, List.list_any, Ordering.nat_cmp}
use Rattle.std.specs.Prelude.{◌||◌, ◌==◌, Contains}
use Rattle.olap_base.{proofs.ListLemmas.list_any_is, specs.Graph.{Edge, HasEdge}}
use Rattle.olap_bits.proofs.CatSetLemmas.{in_insert}
use Rattle.olap_graph.{proofs.RowLemmas.has_union, specs.Lookups.edge_at}
use Rattle.olap_trail.specs.{Trails.decisions_of, declared.decisions.Decision.{Decision as OneDecision}}
use Rattle.olap_proof.proofs.{SeenLemmas.{leading_seen, seen_present, seen_way}, WalkingLemmas.false_true}
use Rattle.olap_proof.specs.Places.{Place, is_known, leading_edges, leading_graph}
use Rattle.olap_proof.specs.Seen.{LeadsHere, TouchedByDecisions, decision_at}
use Rattle.olap_proof.specs.Walking.{IsIn, IsTouched, IsTouchedFrom, TouchedFrom, TouchedUpTo}

-- what is in a set after a number is put in
pub put_in : (s : FinSet nat_cmp) (k x : ℕ) → IsIn (insert s k) x ↔ (IsIn s x ⊎ (k ≡ x))
put_in s k x = (
  λ h. elim (or_cases (eqb x k) (contains s x) (sym (in_insert s k x) ∙ h)) [
    | inl a ↦ inr (sym (eqb-true x k a))
    | inr a ↦ inl a
  ],
  λ h. in_insert s k x ∙ (elim h [
    | inl a ↦ later (eqb x k) (contains s x) a
    | inr a ↦ ap (λ b. b || contains s x) (eq-eqb x k (sym a))
  ]),
)
  where
    later : (a b : Bool) → b ≡ true → a || b ≡ true
    later true b h = refl
    later false b h = h

-- both ends were added
pub touched_both : (old new : FinSet nat_cmp) (joins : Bool) (c d : ℕ) → joins ≡ true
    → new ≡ insert (insert old c) d → IsTouched old joins c d new
touched_both old new joins c d j e = λ x. (
  λ h. elim ((put_in (insert old c) d x).0 (subst (λ s. IsIn s x) e h)) [
    | inl a ↦ elim ((put_in old c x).0 a) [ inl b ↦ inl b | inr b ↦ inr (j, inl b) ]
    | inr a ↦ inr (j, inr a)
  ],
  λ h. subst (λ s. IsIn s x) (sym e) (elim h [
    | inl a ↦ (put_in (insert old c) d x).1 (inl ((put_in old c x).1 (inl a)))
    | inr a ↦ elim a.1 [
      | inl b ↦ (put_in (insert old c) d x).1 (inl ((put_in old c x).1 (inr b)))
      | inr b ↦ (put_in (insert old c) d x).1 (inr b)
    ]
  ]),
)

-- one edge more
pub touched_by : (takes : ℕ → Bool) (child parent : ℕ → ℕ) (i : ℕ) (old mid new : FinSet nat_cmp)
    → ((x : ℕ) → IsIn mid x ↔ TouchedUpTo old takes child parent i x)
    → IsTouched mid (takes i) (child i) (parent i) new
    → (x : ℕ) → IsIn new x ↔ TouchedUpTo old takes child parent (i + 1) x
touched_by takes child parent i old mid new h one x = (
  λ m. elim ((one x).0 m) [
    | inl a ↦ elim ((h x).0 a) [
      | inl b ↦ inl b
      | inr b ↦ inr (b.0, omega (arith, b.1), b.2, b.3)
    ]
    | inr a ↦ inr (i, omega arith, a.0, a.1)
  ],
  λ m. elim m [
    | inl a ↦ (one x).1 (inl ((h x).1 (inl a)))
    | inr a ↦ elim (last a.0 i a.1) [
      | inl before ↦ (one x).1 (inl ((h x).1 (inr (a.0, before, a.2, a.3))))
      | inr e ↦ (one x).1 (inr (subst (λ n. (takes n ≡ true) × ((child n ≡ x) ⊎ (parent n ≡ x))) e (a.2, a.3)))
    ]
  ],
)
  where
    last : (k i : ℕ) → k < i + 1 → (k < i) ⊎ (k ≡ i)
    last k i l = grind arith

-- nothing was seen at first
pub touched_at_first : (takes : ℕ → Bool) (child parent : ℕ → ℕ) (s : FinSet nat_cmp) (x : ℕ)
    → IsIn s x ↔ TouchedUpTo s takes child parent 0 x
touched_at_first takes child parent s x = (
  λ h. inl h,
  λ h. elim h [ inl a ↦ a | inr a ↦ absurd (let l = a.1 in omega arith) ],
)

-- ---- what leads from a category

-- it and those were added, if there are some
pub touched_some : (old to new : FinSet nat_cmp) (c d : ℕ) → new ≡ union (insert old c) to → IsIn to d
    → IsTouchedFrom old c to new
touched_some old to new c d e m = λ x. (
  λ h. elim ((has_union (insert old c) to x).0 (subst (λ s. IsIn s x) e h)) [
    | inl a ↦ elim ((put_in old c x).0 a) [ inl b ↦ inl b | inr b ↦ inr (d, m, inl b) ]
    | inr a ↦ inr (x, a, inr refl)
  ],
  λ h. subst (λ s. IsIn s x) (sym e) ((has_union (insert old c) to x).1 (elim h [
    | inl a ↦ inl ((put_in old c x).1 (inl a))
    | inr a ↦ elim a.2 [
      | inl b ↦ inl ((put_in old c x).1 (inr b))
      | inr b ↦ inr (subst (λ y. IsIn to y) b a.1)
    ]
  ])),
)

-- or none was
pub touched_from_none : (old to : FinSet nat_cmp) (c : ℕ) → to ≡ empty → IsTouchedFrom old c to old
touched_from_none old to c e = λ x. (
  λ h. inl h,
  λ h. elim h [
    | inl a ↦ a
    | inr a ↦ absurd (false_true (contains {R = nat_cmp} empty a.0) (contains-empty nat_cmp a.0)
        (subst (λ s. IsIn s a.0) e a.1))
  ],
)

-- one category more
pub touched_more : (Leads : ℕ → ℕ → Type 0) (i : ℕ) (old mid new to : FinSet nat_cmp)
    → ((x : ℕ) → IsIn mid x ↔ TouchedFrom old Leads i x) → ((d : ℕ) → IsIn to d ↔ Leads i d)
    → IsTouchedFrom mid i to new → (x : ℕ) → IsIn new x ↔ TouchedFrom old Leads (i + 1) x
touched_more Leads i old mid new to h set_is one x = (
  λ m. elim ((one x).0 m) [
    | inl a ↦ elim ((h x).0 a) [
      | inl b ↦ inl b
      | inr b ↦ inr (b.0, b.1, omega (arith, b.2), b.3, b.4)
    ]
    | inr a ↦ inr (i, a.0, omega arith, (set_is a.0).0 a.1, a.2)
  ],
  λ m. elim m [
    | inl a ↦ (one x).1 (inl ((h x).1 (inl a)))
    | inr a ↦ elim (last a.0 i a.2) [
      | inl before ↦ (one x).1 (inl ((h x).1 (inr (a.0, a.1, before, a.3, a.4))))
      | inr e ↦ (one x).1 (inr (
        a.1,
        (set_is a.1).1 (subst (λ n. Leads n a.1) e a.3),
        subst (λ n. (n ≡ x) ⊎ (a.1 ≡ x)) e a.4,
      ))
    ]
  ],
)
  where
    last : (k i : ℕ) → k < i + 1 → (k < i) ⊎ (k ≡ i)
    last k i l = grind arith

-- nothing leads from none
pub touched_from_first : (Leads : ℕ → ℕ → Type 0) (s : FinSet nat_cmp) (x : ℕ) → IsIn s x ↔ TouchedFrom s Leads 0 x
touched_from_first Leads s x = (
  λ h. inl h,
  λ h. elim h [ inl a ↦ a | inr a ↦ absurd (let l = a.2 in omega arith) ],
)

-- ---- what is known

-- an end of an edge that leads on has a member
end_of : (p : Place) (c d x : ℕ) → HasEdge (leading_graph p) c d → (c ≡ x) ⊎ (d ≡ x) → is_known p x ≡ true
end_of p c d x h end = later (x == p.decided.root)
    (list_any (λ (e : Edge). (e.child == x) || (e.parent == x)) (leading_edges p))
    ((list_any_is (λ (e : Edge). (e.child == x) || (e.parent == x)) (leading_edges p)).1 (
      record { child = c; parent = d },
      h,
      elim end [
        | inl a ↦ ap (λ b. b || (d == x)) (eq-eqb c x a)
        | inr a ↦ later (c == x) (d == x) (eq-eqb d x a)
      ],
    ))
  where
    later : (a b : Bool) → b ≡ true → a || b ≡ true
    later true b h = refl
    later false b h = h

-- what was touched is what is known
pub known_is : (p : Place) (ds : List OneDecision) (n : ℕ) → p.decided.decisions ≡ decisions_of ds
    → ((c d : ℕ) → LeadsHere p.ways c d → c < n) → (first mid new : FinSet nat_cmp)
    → first ≡ insert empty p.decided.root
    → ((x : ℕ) → IsIn mid x ↔ TouchedByDecisions first p.decided.graph ds (length ds) x)
    → ((x : ℕ) → IsIn new x ↔ TouchedFrom mid (LeadsHere p.ways) n x)
    → (x : ℕ) → IsIn new x ↔ (is_known p x ≡ true)
known_is p ds n listed within first mid new begun byDecisions byWays x = (
  λ h. elim ((byWays x).0 h) [
    | inl a ↦ elim ((byDecisions x).0 a) [
      | inl b ↦ elim ((put_in empty p.decided.root x).0 (subst (λ s. IsIn s x) begun b)) [
        | inl c ↦ absurd (false_true (contains {R = nat_cmp} empty x) (contains-empty nat_cmp x) c)
        | inr c ↦ ap (λ t. t || list_any (λ (e : Edge). (e.child == x) || (e.parent == x)) (leading_edges p))
            (eq-eqb x p.decided.root (sym c))
      ]
      | inr b ↦ end_of p (edge_at p.decided.graph (decision_at ds b.0).edge.0).child
          (edge_at p.decided.graph (decision_at ds b.0).edge.0).parent x (seen_present p ds listed b.0 b.1 b.2) b.3
    ]
    | inr a ↦ end_of p a.0 a.1 x (seen_way p a.0 a.1 a.3) a.4
  ],
  λ h. elim (or_cases (x == p.decided.root)
      (list_any (λ (e : Edge). (e.child == x) || (e.parent == x)) (leading_edges p)) h) [
        | inl a ↦ (byWays x).1 (inl ((byDecisions x).1 (inl (subst (λ s. IsIn s x) (sym begun)
            ((put_in empty p.decided.root x).1 (inr (sym (eqb-true x p.decided.root a))))))))
        | inr a ↦ found ((list_any_is (λ (e : Edge). (e.child == x) || (e.parent == x)) (leading_edges p)).0 a)
      ],
)
  where
    ends : (c d : ℕ) → (c == x) || (d == x) ≡ true → (c ≡ x) ⊎ (d ≡ x)
    ends c d e = elim (or_cases (c == x) (d == x) e) [ inl a ↦ inl (eqb-true c x a) | inr a ↦ inr (eqb-true d x a) ]

    moved : {c d a b : ℕ} → a ≡ c → b ≡ d → (c ≡ x) ⊎ (d ≡ x) → (a ≡ x) ⊎ (b ≡ x)
    moved p q (inl e) = inl (p ∙ e)
    moved p q (inr e) = inr (q ∙ e)

    found : (e : Edge) × Contains (leading_edges p) e × ((e.child == x) || (e.parent == x) ≡ true) → IsIn new x
    found w = elim (leading_seen p ds listed w.0.child w.0.parent w.1) [
      | inl s ↦ (byWays x).1 (inl ((byDecisions x).1
          (inr (s.0, s.1, s.2, moved s.3 s.4 (ends w.0.child w.0.parent w.2)))))
      | inr s ↦
          (byWays x).1 (inr (w.0.child, w.0.parent, within w.0.child w.0.parent s, s, ends w.0.child w.0.parent w.2))
    ]
