-- A set for each category, step by step, and what the sets hold in the end.
use Rattle.std.proofs.Common.{◌≡◌, ◌≢◌, ℕ, suc, ◌+◌, ◌<◌, ◌≤◌, ◌⊎◌, ◌↔◌, List, length, get_or, set, map, true, false, refl, ap, sym, subst, ◌∙◌, inl, inr, arith, eqb, eqb-true, eq-eqb}
use Rattle.std.proofs.{Math.ListN.length-set, lemmas.Bool.{or_cases, or_left, or_right, cases_eq}}
use Rattle.std.proofs.lemmas.List.{get_or-map, get_or_past, length-map, map-set, get_or-set_same, get_or-set_other}
use Rattle.std.specs.Cmp.{nat_cmp_total}
use Rattle.std.specs.{FinSet.{FinSet, contains, empty, insert, union, contains-empty, contains-union}, Ordering.nat_cmp}
use Rattle.olap_base.specs.{Deciding.{Through, through_from_Steps, Steps-from_through}, Graph.{Edge, Graph, HasEdge}}
use Rattle.olap_base.specs.Steps.{Steps, Steps.here, Steps.step, Steps-from_reaches, reaches_from_Steps}
use Rattle.olap_bits.{proofs.CatSetLemmas.in_insert, specs.Sets.members, specs.declared.sets.CatSet.CatSet}
use Rattle.olap_graph.{proofs.TableLemmas.{edge_at-drawn, has_edge_at, nowhere, place_of_edge}, specs.Listing.edge_of}
use Rattle.olap_graph.specs.Lookups.{edge_at}
use Rattle.olap_graph.specs.Rows.{AreDrawn, AreJoined, AreOwn, AreReached, Has, IsClosure, JoinsBefore, Passes, row}
use Rattle.olap_graph.specs.{Tables.{LiesWithin, drawn}, declared.listing.Ends.Ends}

-- ---- one set

-- below c + 1 is below c, or c
pub newest : (a c : ℕ) → a < c + 1 → (a ≢ c) × (a < c) ⊎ (a ≡ c)
newest a c h = grind arith

module _ {W : ℕ} (rows : List (CatSet W)) where
  -- there is a set for each place
  inside : (c : ℕ) → c < length rows → c < length (map members rows)
  inside c h = let e = length-map rows members in omega (arith, e)

  -- what was set is read
  pub row_same : (c : ℕ) (x : CatSet W) → c < length rows → row (set rows c x) c ≡ members x
  row_same c x h = ap (λ l. get_or l c empty) (map-set members rows c x)
      ∙ get_or-set_same (map members rows) c (members x) empty (inside c h)

  -- and the other sets stay
  pub row_other : (c d : ℕ) (x : CatSet W) → d ≢ c → row (set rows c x) d ≡ row rows d
  row_other c d x n = ap (λ l. get_or l d empty) (map-set members rows c x)
      ∙ get_or-set_other (map members rows) c d (members x) empty n

  -- a set's members, read at its place
  pub row_at : (c : ℕ) (x : CatSet W) → c < length rows → members (get_or rows c x) ≡ row rows c
  row_at c x h = sym (get_or-map members rows c x empty h)

  -- the same for a set that was read
  pub row_read : (c : ℕ) (x : CatSet W) → c < length rows → x ≡ get_or rows c x → members x ≡ row rows c
  row_read c x h e = ap members e ∙ row_at c x h

-- in a set with k are k and what was in it
pub has_insert : (s : FinSet nat_cmp) (k q : ℕ) → (contains (insert s k) q ≡ true) ↔ ((k ≡ q) ⊎ (contains s q ≡ true))
has_insert s k q = (
  λ e. elim (or_cases (eqb q k) (contains s q) (sym (in_insert s k q) ∙ e)) [
    | inl a ↦ inl (sym (eqb-true q k a))
    | inr b ↦ inr b
  ],
  λ t. in_insert s k q ∙ elim t [
    | inl e ↦ or_left (eqb q k) (contains s q) (eq-eqb q k (sym e))
    | inr b ↦ or_right (eqb q k) (contains s q) b
  ],
)

-- in a union is what is in one of the two
pub has_union : (s t : FinSet nat_cmp) (q : ℕ)
    → (contains (union s t) q ≡ true) ↔ ((contains s q ≡ true) ⊎ (contains t q ≡ true))
has_union s t q = (
  λ e. or_cases (contains s q) (contains t q) (sym (contains-union nat_cmp_total s t q) ∙ e),
  λ o. contains-union nat_cmp_total s t q ∙ elim o [
    | inl a ↦ or_left (contains s q) (contains t q) a
    | inr b ↦ or_right (contains s q) (contains t q) b
  ],
)

-- equal sets have the same
pub has_at : (s t : FinSet nat_cmp) (q : ℕ) (P : Type 0) → s ≡ t → (contains t q ≡ true) ↔ P → (contains s q ≡ true) ↔ P
has_at s t q P e i = (λ h. i.0 (ap (λ u. contains u q) (sym e) ∙ h), λ p. ap (λ u. contains u q) e ∙ i.1 p)

-- the sets so far have a number, and so has the next
pub has_so_far : {W : ℕ} (rows : List (CatSet W)) (c d : ℕ) (x : CatSet W) → c < length rows → x ≡ get_or rows c x
    → contains (members x) d ≡ true → ((a : ℕ) → 0 < a → a < c → Has rows a d) → (a : ℕ) → 0 < a → a < c + 1
    → Has rows a d
has_so_far rows c d x h e m f a p l = elim (newest a c l) [
  | inl t ↦ f a p t.1
  | inr q ↦ ap (λ k. contains (row rows k) d) q ∙ ap (λ s. contains s d) (sym (row_read rows c x h e)) ∙ m
]

-- a category whose set has something is one of them
pub has_inside : {W : ℕ} (rows : List (CatSet W)) (c d : ℕ) → Has rows c d → c < length rows
has_inside rows c d m = elim (below_or_past c (length rows)) [
  | inl l ↦ l
  | inr g ↦ absurd (
      let none : row rows c ≡ empty = get_or_past (map members rows) c empty
      (let e = length-map rows members in omega (arith, e)) in
      let z : false ≡ true = sym (contains-empty nat_cmp d) ∙ ap (λ s. contains s d) (sym none) ∙ m in cc)
]
  where
    below_or_past : (c n : ℕ) → (c < n) ⊎ (n ≤ c)
    below_or_past c n = grind arith

-- ---- each set alone

-- one more set has its own number alone
pub own_more : {W : ℕ} (rows : List (CatSet W)) (c : ℕ) (x e : CatSet W) → members x ≡ insert (members e) c
    → members e ≡ empty → c < length rows → ((a d : ℕ) → a < c → Has rows a d ↔ (a ≡ d))
    → (a d : ℕ) → a < c + 1 → Has (set rows c x) a d ↔ (a ≡ d)
own_more rows c x e i z h f a d l = elim (newest a c l) [
  | inl t ↦ has_at (row (set rows c x) a) (row rows a) d (a ≡ d) (row_other rows c a x t.0) (f a d t.1)
  | inr q ↦ subst (λ b. Has (set rows c x) b d ↔ (b ≡ d)) (sym q)
      (has_at (row (set rows c x) c) (insert empty c) d (c ≡ d)
      (row_same rows c x h ∙ i ∙ ap (λ s. insert s c) z) (
        λ m. elim ((has_insert empty c d).0 m) [
          | inl p ↦ p
          | inr b ↦ absurd (let u : false ≡ true = sym (contains-empty nat_cmp d) ∙ b in cc)
        ],
        λ p. (has_insert empty c d).1 (inl p),
      ))
]

-- ---- one more that is joined

-- the relation stays the same
pub joined_same : {W : ℕ} (J K : ℕ → ℕ → Type 0) (rows : List (CatSet W)) → ((a b : ℕ) → K a b ↔ J a b)
    → AreJoined J rows → AreJoined K rows
joined_same J K rows same joined a b h = (
  λ m. elim ((joined a b h).0 m) [ inl e ↦ inl e | inr j ↦ inr ((same a b).1 j) ],
  λ o. (joined a b h).1 (elim o [ inl e ↦ inl e | inr k ↦ inr ((same a b).0 k) ]),
)

-- the relation joins c to d too
pub joined_more : {W : ℕ} (J K : ℕ → ℕ → Type 0) (c d : ℕ) (rows : List (CatSet W)) (x : CatSet W)
    → ((a b : ℕ) → K a b ↔ (J a b ⊎ ((c ≡ a) × (d ≡ b)))) → c < length rows → members x ≡ insert (row rows c) d
    → AreJoined J rows → AreJoined K (set rows c x)
joined_more J K c d rows x more h e joined a b l =
    let inner : a < length rows = let n = length-set rows c x in omega (arith, l) in
    elim (cases_eq a c) [
      | inl q ↦ has_at (row (set rows c x) a) (insert (row rows c) d) b ((a ≡ b) ⊎ K a b)
          (ap (row (set rows c x)) q ∙ row_same rows c x h ∙ e) (
            λ m. elim ((has_insert (row rows c) d b).0 m) [
              | inl p ↦ inr ((more a b).1 (inr (sym q, p)))
              | inr o ↦ elim ((joined a b inner).0 (ap (λ z. contains (row rows z) b) q ∙ o)) [
                | inl p ↦ inl p
                | inr j ↦ inr ((more a b).1 (inl j))
              ]
            ],
            λ o. (has_insert (row rows c) d b).1 (elim o [
              | inl p ↦ inr (ap (λ z. contains (row rows z) b) (sym q) ∙ (joined a b inner).1 (inl p))
              | inr k ↦ elim ((more a b).0 k) [
                | inl j ↦ inr (ap (λ z. contains (row rows z) b) (sym q) ∙ (joined a b inner).1 (inr j))
                | inr p ↦ inl p.1
              ]
            ]),
          )
      | inr n ↦ has_at (row (set rows c x) a) (row rows a) b ((a ≡ b) ⊎ K a b) (row_other rows c a x n) (
        λ m. elim ((joined a b inner).0 m) [ inl p ↦ inl p | inr j ↦ inr ((more a b).1 (inl j)) ],
        λ o. (joined a b inner).1 (elim o [
          | inl p ↦ inl p
          | inr k ↦ elim ((more a b).0 k) [
            | inl j ↦ inr j
            | inr p ↦ absurd (n (sym p.0))
          ]
        ]),
      )
    ]

-- edges with the same ends are one
pub same_edge : {a c b d : ℕ} → c ≡ a → d ≡ b
    → ◌≡◌ {A = Edge} (record { child = c; parent = d }) (record { child = a; parent = b })
same_edge p q = λ i. record { child = p i; parent = q i }

-- ---- one edge more

-- what the first k edges join the first k + 1 join
joins_lift : (g : Graph) (k a b : ℕ) → JoinsBefore g k a b → JoinsBefore g (k + 1) a b
joins_lift g k a b t = (t.0, omega (arith, t.1), t.2)

-- what the first k + 1 edges join the first k do, or the last
joins_cases : (g : Graph) (k a b : ℕ) → JoinsBefore g (k + 1) a b
    → JoinsBefore g k a b ⊎ (edge_at g k ≡ record { child = a; parent = b })
joins_cases g k a b t = elim (newest t.0 k t.1) [
  | inl l ↦ inl (t.0, l.1, t.2)
  | inr e ↦ inr (ap (edge_at g) (sym e) ∙ t.2)
]

-- the ends of the edge at a place
pub ends_within : (ends : List Ends) (n k : ℕ) → LiesWithin (drawn ends) n → k < length ends
    → ((get_or ends k nowhere).child.0 < n) × ((get_or ends k nowhere).parent.0 < n)
ends_within ends n k within h =
    let l : k < length (map edge_of ends) = omega (arith, length-map ends edge_of) in
    let e = edge_at-drawn ends k h in
    let t = within (edge_at (drawn ends) k).child (edge_at (drawn ends) k).parent (has_edge_at (drawn ends) k l) in (
      subst (λ c. c < n) (ap (λ (x : Edge). x.child) e) t.0,
      subst (λ c. c < n) (ap (λ (x : Edge). x.parent) e) t.1,
    )

-- so the edge at k adds its two ends
one_more : (g : Graph) (k c d : ℕ) → edge_at g k ≡ record { child = c; parent = d } → (a b : ℕ)
    → JoinsBefore g (k + 1) a b ↔ (JoinsBefore g k a b ⊎ ((c ≡ a) × (d ≡ b)))
one_more g k c d edge a b = (
  λ t. elim (joins_cases g k a b t) [
    | inl j ↦ inl j
    | inr p ↦ inr (ap (λ (z : Edge). z.child) (sym edge ∙ p), ap (λ (z : Edge). z.parent) (sym edge ∙ p))
  ],
  λ o. elim o [
    | inl j ↦ joins_lift g k a b j
    | inr p ↦ (k, omega arith, edge ∙ same_edge p.0 p.1)
  ],
)

-- sets that have their own numbers alone are drawn by no edges
pub draw_none : {W : ℕ} (g : Graph) (rows : List (CatSet W)) → AreOwn rows → AreDrawn g 0 rows
draw_none g rows own a b h = (
  λ m. inl ((own a b h).0 m),
  λ o. elim o [ inl e ↦ (own a b h).1 e | inr t ↦ absurd (omega (arith, t.1)) ],
)

-- with the edge's parent put into its child's set, one edge more is drawn
pub draw_more : {W : ℕ} (g : Graph) (k c d : ℕ) (rows : List (CatSet W)) (x : CatSet W)
    → edge_at g k ≡ record { child = c; parent = d } → c < length rows → members x ≡ insert (row rows c) d
    → AreDrawn g k rows → AreDrawn g (k + 1) (set rows c x)
draw_more g k c d rows x edge h e drawn =
    joined_more (JoinsBefore g k) (JoinsBefore g (k + 1)) c d rows x (one_more g k c d edge) h e drawn

-- all edges are drawn
edges_joined : {W : ℕ} (ends : List Ends) (rows : List (CatSet W)) → AreDrawn (drawn ends) (length ends) rows
    → AreJoined (HasEdge (drawn ends)) rows
edges_joined ends rows a =
    joined_same (JoinsBefore (drawn ends) (length ends)) (HasEdge (drawn ends)) rows (λ c d. (placed c d, joined c d)) a
  where
    joined : (c d : ℕ) → JoinsBefore (drawn ends) (length ends) c d → HasEdge (drawn ends) c d
    joined c d t =
        let e = t.2 in
        let l : t.0 < length (map edge_of ends) = omega (arith, t.1, length-map ends edge_of) in
        subst (λ b. HasEdge (drawn ends) c b) (ap (λ (x : Edge). x.parent) e)
        (subst (λ b. HasEdge (drawn ends) b (edge_at (drawn ends) t.0).parent) (ap (λ (x : Edge). x.child) e)
        (has_edge_at (drawn ends) t.0 l))

    placed : (c d : ℕ) → HasEdge (drawn ends) c d → JoinsBefore (drawn ends) (length ends) c d
    placed c d j =
        let t = place_of_edge (drawn ends) c d j in
        (t.0, omega (arith, t.1, length-map ends edge_of), t.2)

-- ---- one category more to go through

-- the sets before c have passed through k, the others are as before
pub record IsPassing {W : ℕ} (old new : List (CatSet W)) (k c : ℕ) : Type 0 where
  pub count : length new ≡ length old
  pub done : (a d : ℕ) → a < c → Has new a d ↔ Passes old k a d
  pub left : (a : ℕ) → c ≤ a → row new a ≡ row old a

-- where k isn't in c's set, that stays
pub pass_skip : {W : ℕ} (old new : List (CatSet W)) (k c : ℕ) → contains (row new c) k ≡ false
    → IsPassing old new k c → IsPassing old new k (c + 1)
pass_skip old new k c n p = record {
  count = p.count;
  done = λ a d h. elim (newest a c h) [
    | inl t ↦ p.done a d t.1
    | inr e ↦ subst (λ b. Has new b d ↔ Passes old k b d) (sym e) (
      λ m. inl (ap (λ s. contains s d) (sym (p.left c (omega arith))) ∙ m),
      λ o. elim o [
        | inl m ↦ ap (λ s. contains s d) (p.left c (omega arith)) ∙ m
        | inr t ↦ absurd (let z : false ≡ true = sym n ∙ ap (λ s. contains s k) (p.left c (omega arith)) ∙ t.0 in cc)
      ],
    )
  ];
  left = λ a h. p.left a (omega arith);
}

-- where it is, k's set is put into it
pub pass_more : {W : ℕ} (old new : List (CatSet W)) (k c : ℕ) (x : CatSet W) → contains (row new c) k ≡ true
    → c < length new → members x ≡ union (row new c) (row old k) → IsPassing old new k c
    → IsPassing old (set new c x) k (c + 1)
pass_more old new k c x n h e p = record {
  count = length-set new c x ∙ p.count;
  done = λ a d l. elim (newest a c l) [
    | inl t ↦ has_at (row (set new c x) a) (row new a) d (Passes old k a d) (row_other new c a x t.0) (p.done a d t.1)
    | inr q ↦ subst (λ b. Has (set new c x) b d ↔ Passes old k b d) (sym q)
        (has_at (row (set new c x) c) (union (row new c) (row old k)) d (Passes old k c d) (row_same new c x h ∙ e) (
          λ m. elim ((has_union (row new c) (row old k) d).0 m) [
            | inl a ↦ inl (ap (λ s. contains s d) (sym (p.left c (omega arith))) ∙ a)
            | inr b ↦ inr (ap (λ s. contains s k) (sym (p.left c (omega arith))) ∙ n, b)
          ],
          λ o. (has_union (row new c) (row old k) d).1 (elim o [
            | inl a ↦ inl (ap (λ s. contains s d) (p.left c (omega arith)) ∙ a)
            | inr t ↦ inr t.1
          ]),
        ))
  ];
  left = λ a l. row_other new c a x (omega arith) ∙ p.left a (omega arith);
}

-- ---- steps through more and more categories

-- of n categories the set of each has those to which steps by way of the first k lead
pub record IsThrough {W : ℕ} (R : ℕ → ℕ → Type 0) (n k : ℕ) (rows : List (CatSet W)) : Type 0 where
  pub count : length rows ≡ n
  pub each : (c d : ℕ) → c < n → Has rows c d ↔ Through R k c d

-- by way of no category, steps lead where the sets say
pub through_start : {W : ℕ} (rows : List (CatSet W)) → ((c : ℕ) → c < length rows → Has rows c c)
    → IsThrough (Has rows) (length rows) 0 rows
unfolding Through
through_start rows own = record {
  count = refl;
  each = λ c d h. (
    λ m. inr m,
    λ o. elim o [ inl e ↦ subst (λ b. Has rows c b) e (own c h) | inr m ↦ m ],
  );
}

-- when all have passed through k, one category more
pub through_more : {W : ℕ} (R : ℕ → ℕ → Type 0) (n k : ℕ) (old new : List (CatSet W)) → k < n → IsThrough R n k old
    → length new ≡ length old → ((c d : ℕ) → c < length old → Has new c d ↔ Passes old k c d)
    → IsThrough R n (k + 1) new
unfolding Through
through_more R n k old new l f same p =
    let size = f.count in
    let e : suc k ≡ k + 1 = omega arith in
    subst (λ j. IsThrough R n j new) e (record {
      count = same ∙ size;
      each = λ c d h. let i : c < length old = omega arith in (
        λ m. elim ((p c d i).0 m) [
          | inl a ↦ inl ((f.each c d h).0 a)
          | inr t ↦ inr ((f.each c k h).0 t.0, (f.each k d l).0 t.1)
        ],
        λ o. (p c d i).1 (elim o [
          | inl a ↦ inl ((f.each c d h).1 a)
          | inr t ↦ inr ((f.each c k h).1 t.0, (f.each k d l).1 t.1)
        ]),
      );
    })

-- by way of all categories, the sets are closed
pub through_end : {W : ℕ} (old new : List (CatSet W)) (k : ℕ) → k ≡ length old
    → IsThrough (Has old) (length old) k new → IsClosure old new
through_end old new k e f = record {
  count = f.count;
  each = λ c d h. (
    λ m. Steps-from_through (Has old) k c d ((f.each c d h).0 m),
    λ s. (f.each c d h).1 (subst (λ j. Through (Has old) j c d) (sym e)
        (through_from_Steps (Has old) (length old) (has_inside old) s)),
  );
}

-- ---- what the closure of what is joined has

-- steps along the sets are steps along what is joined
joined_steps : {W : ℕ} (J : ℕ → ℕ → Type 0) (rows : List (CatSet W)) → AreJoined J rows → {c d : ℕ}
    → Steps (Has rows) c d → Steps J c d
joined_steps J rows joined here = here
joined_steps J rows joined (step {x = x} {y = y} {z = z} m s) =
    let rest = joined_steps J rows joined s in
    elim ((joined x y (has_inside rows x y m)).0 m) [
      | inl e ↦ subst (λ w. Steps J w z) (sym e) rest
      | inr j ↦ step j rest
    ]

-- and the other way round
steps_joined : {W : ℕ} (J : ℕ → ℕ → Type 0) (rows : List (CatSet W)) → AreJoined J rows
    → ((c d : ℕ) → J c d → c < length rows) → {c d : ℕ} → Steps J c d → Steps (Has rows) c d
steps_joined J rows joined within here = here
steps_joined J rows joined within (step {x = x} {y = y} j s) =
    step ((joined x y (within x y j)).1 (inr j)) (steps_joined J rows joined within s)

-- so the closure has what steps lead to
pub closure_joined : {W : ℕ} (J : ℕ → ℕ → Type 0) (old new : List (CatSet W)) → AreJoined J old
    → ((c d : ℕ) → J c d → c < length old) → IsClosure old new → (c d : ℕ) → c < length old
    → Has new c d ↔ Steps J c d
closure_joined J old new joined within f c d h = (
  λ m. joined_steps J old joined ((f.each c d h).0 m),
  λ s. (f.each c d h).1 (steps_joined J old joined within s),
)

-- and that of the drawn edges has what categories reach
pub reached_by_closure : {W : ℕ} (ends : List Ends) (n : ℕ) (old new : List (CatSet W)) → LiesWithin (drawn ends) n
    → length old ≡ n → AreDrawn (drawn ends) (length ends) old → IsClosure old new → AreReached (drawn ends) n new
reached_by_closure ends n old new within size a f = record {
  count = f.count ∙ size;
  each = λ c d h.
      let i = closure_joined (HasEdge (drawn ends)) old new (edges_joined ends old a)
      (λ x y e. let w = (within x y e).0 in omega (arith, w, size)) f c d (omega (arith, h, size)) in (
        λ m. reaches_from_Steps (i.0 m),
        λ r. i.1 (Steps-from_reaches r),
      );
}
