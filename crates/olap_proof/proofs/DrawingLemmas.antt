-- Tables of what each category reaches: what drawing and closing them does.
use Rattle.std.proofs.Common.{◌≡◌, ℕ, ◌+◌, ◌<◌, ◌⊎◌, ◌↔◌, List, length, get_or, set, Bool, true, false, refl, ap, sym, subst, ◌∙◌, inl, inr, arith}
use Rattle.std.{proofs.Math.ListN.length-set, proofs.lemmas.Bool.cases_eq, specs.FinSet.{contains, insert, union}}
use Rattle.olap_base.proofs.GeneralLemmas.{below_or_same}
use Rattle.olap_base.specs.Graph.{CategoryReaches, Edge, Graph, HasEdge, category_count}
use Rattle.olap_base.specs.Steps.{Steps, Steps.here, Steps.step, Steps-append, Steps-from_reaches, reaches_from_Steps}
use Rattle.olap_bits.specs.{Sets.members, declared.sets.CatSet.CatSet}
use Rattle.olap_graph.proofs.RowLemmas.{has_insert, has_inside, has_union, row_other, row_read, row_same}
use Rattle.olap_graph.specs.{Lookups.edge_at, Rows.{AreOwn, Has, IsClosure, row}}
use Rattle.olap_trail.specs.{Trails.decisions_of, declared.decisions.Decision.{Decision as OneDecision}}
use Rattle.olap_proof.{proofs.SeenLemmas.{leading_seen, seen_present, seen_way}, specs.KeptWays.leading_way}
use Rattle.olap_proof.specs.{Places.{Place, leading_graph}, Seen.{AreOfGraph, LeadsHere, SeenDecisions, decision_at}}
use Rattle.olap_proof.specs.{Tables.{Draws, IsTable}, Walking.{IsIn, SeenFrom, SeenUpTo}}

-- ---- one set more

-- where no edge was seen nothing is drawn
pub draws_none : {W : ℕ} (g : Graph) (Seen : ℕ → ℕ → Type 0) (rows : List (CatSet W)) → ((c d : ℕ) → Seen c d → ⊥)
    → Draws g Seen rows rows
draws_none g Seen rows none = record {
  count = refl;
  kept = λ c d h. h;
  sound = λ all. all;
  drawn = λ c d s. absurd (none c d s);
}

-- and less was drawn of less
pub draws_less : {W : ℕ} (g : Graph) (Seen Less : ℕ → ℕ → Type 0) (old new : List (CatSet W)) → Draws g Seen old new
    → ((c d : ℕ) → Less c d → Seen c d) → Draws g Less old new
draws_less g Seen Less old new h less = record {
  count = h.count;
  kept = h.kept;
  sound = h.sound;
  drawn = λ c d s. h.drawn c d (less c d s);
}

-- the set of k gets what is reached from k
pub draws_join : {W : ℕ} (g : Graph) (Seen After : ℕ → ℕ → Type 0) (New : ℕ → Type 0) (old mid : List (CatSet W))
    (k : ℕ) (x : CatSet W) → Draws g Seen old mid → k < length mid
    → ((d : ℕ) → IsIn (members x) d ↔ (Has mid k d ⊎ New d)) → ((d : ℕ) → New d → CategoryReaches g k d)
    → ((c d : ℕ) → After c d → Seen c d ⊎ ((c ≡ k) × New d)) → Draws g After old (set mid k x)
draws_join {W} g Seen After New old mid k x h l is reached cases = record {
  count = length-set mid k x ∙ h.count;
  kept = λ c d m. stays c d (h.kept c d m);
  sound = λ all c d m. elim (cases_eq c k) [
    | inl e ↦ elim ((is d).0 (here c d e m)) [
      | inl o ↦ subst (λ y. CategoryReaches g y d) (sym e) (h.sound all k d o)
      | inr n ↦ subst (λ y. CategoryReaches g y d) (sym e) (reached d n)
    ]
    | inr n ↦ h.sound all c d (ap (λ s. contains s d) (sym (row_other mid k c x n)) ∙ m)
  ];
  drawn = λ c d s. elim (cases c d s) [
    | inl o ↦ stays c d (h.drawn c d o)
    | inr n ↦ there c d n.0 ((is d).1 (inr n.1))
  ];
}
  where
    here : (c d : ℕ) → c ≡ k → Has (set mid k x) c d → IsIn (members x) d
    here c d e m = ap (λ s. contains s d) (sym (ap (row (set mid k x)) e ∙ row_same mid k x l)) ∙ m

    there : (c d : ℕ) → c ≡ k → IsIn (members x) d → Has (set mid k x) c d
    there c d e m = ap (λ s. contains s d) (ap (row (set mid k x)) e ∙ row_same mid k x l) ∙ m

    stays : (c d : ℕ) → Has mid c d → Has (set mid k x) c d
    stays c d m = elim (cases_eq c k) [
      | inl e ↦ there c d e ((is d).1 (inl (ap (λ y. contains (row mid y) d) (sym e) ∙ m)))
      | inr n ↦ ap (λ s. contains s d) (row_other mid k c x n) ∙ m
    ]

-- ---- edges and ways, one after another

module _ {W : ℕ} (g : Graph) (takes : ℕ → Bool) (edge : ℕ → Edge) (i : ℕ) (old mid : List (CatSet W))
    (h : Draws g (SeenUpTo takes (λ j. (edge j).child) (λ j. (edge j).parent) i) old mid) where
  -- the edges so far, and one more
  abbrev Seen : ℕ → ℕ → ℕ → Type 0
  Seen n = SeenUpTo takes (λ j. (edge j).child) (λ j. (edge j).parent) n

  -- one edge more is drawn
  pub draws_edge : (k : ℕ) (e : Edge) (r x : CatSet W) {rows : List (CatSet W)} → edge i ≡ e → k ≡ e.child
      → e.child < length mid → r ≡ get_or mid k r → members x ≡ insert (members r) e.parent
      → HasEdge g (edge i).child (edge i).parent → rows ≡ set mid k x → Draws g (Seen (i + 1)) old rows
  draws_edge k e r x ends at l read own joined is =
      let inside : k < length mid = omega (arith, l, at) in
      let from = ap (λ (y : Edge). y.child) ends ∙ sym at in
      let to = ap (λ (y : Edge). y.parent) ends in
      let new = own ∙ ap (λ s. insert s e.parent) (row_read mid k r inside read) in
      rw is (draws_join g (Seen i) (Seen (i + 1)) (λ d. (edge i).parent ≡ d) old mid k x h inside
      (λ d. let m = has_insert (row mid k) e.parent d in (
        λ y. elim (m.0 (subst (λ s. IsIn s d) new y)) [ inl a ↦ inr (to ∙ a) | inr b ↦ inl b ],
        λ o. subst (λ s. IsIn s d) (sym new) (m.1 (elim o [ inl b ↦ inr b | inr a ↦ inl (sym to ∙ a) ])),
      ))
      (λ d a. subst (λ y. CategoryReaches g y d) from
      (subst (λ y. CategoryReaches g (edge i).child y) a (reaches_from_Steps (step joined here))))
      (λ a b s. elim (below_or_same s.0 i s.1) [
        | inl z ↦ inl (s.0, z, s.2, s.3, s.4)
        | inr z ↦ inr (sym s.3 ∙ ap (λ j. (edge j).child) z ∙ from, ap (λ j. (edge j).parent) (sym z) ∙ s.4)
      ]))

  -- one that isn't taken is passed over
  pub draws_skip : {rows : List (CatSet W)} → takes i ≡ false → rows ≡ mid → Draws g (Seen (i + 1)) old rows
  draws_skip not is = rw is (draws_less g (Seen i) (Seen (i + 1)) old mid h
      (λ a b s. elim (below_or_same s.0 i s.1) [
        | inl z ↦ (s.0, z, s.2, s.3, s.4)
        | inr z ↦ absurd (let w : false ≡ true = sym not ∙ ap takes (sym z) ∙ s.2 in cc)
      ]))

-- all to which ways lead from one category more
pub draws_all : {W : ℕ} (g : Graph) (Leads : ℕ → ℕ → Type 0) (i : ℕ) (old mid : List (CatSet W)) (x to : CatSet W)
    → Draws g (SeenFrom Leads i) old mid → i < length mid → members x ≡ union (row mid i) (members to)
    → ((d : ℕ) → IsIn (members to) d ↔ Leads i d) → ((c d : ℕ) → Leads c d → HasEdge g c d)
    → Draws g (SeenFrom Leads (i + 1)) old (set mid i x)
draws_all g Leads i old mid x to h l e is edge =
    draws_join g (SeenFrom Leads i) (SeenFrom Leads (i + 1)) (Leads i) old mid i x h l
    (λ d. (
      λ m. elim ((has_union (row mid i) (members to) d).0 (subst (λ s. IsIn s d) e m)) [
        | inl a ↦ inl a
        | inr b ↦ inr ((is d).0 b)
      ],
      λ o. subst (λ s. IsIn s d) (sym e) ((has_union (row mid i) (members to) d).1 (elim o [
        | inl a ↦ inl a
        | inr b ↦ inr ((is d).1 b)
      ])),
    ))
    (λ d a. reaches_from_Steps (step (edge i d a) here))
    (λ a b s. elim (below_or_same a i s.0) [
      | inl z ↦ inl (z, s.1)
      | inr z ↦ inr (z, subst (λ y. Leads y b) z s.1)
    ])

-- one drawing after another
pub draws_then : {W : ℕ} (g : Graph) (Seen After : ℕ → ℕ → Type 0) (old mid new : List (CatSet W))
    → Draws g Seen old mid → Draws g After mid new → Draws g (λ c d. Seen c d ⊎ After c d) old new
draws_then g Seen After old mid new h k = record {
  count = k.count ∙ h.count;
  kept = λ c d m. k.kept c d (h.kept c d m);
  sound = λ all. k.sound (h.sound all);
  drawn = λ c d s. elim s [
    | inl a ↦ k.kept c d (h.drawn c d a)
    | inr b ↦ k.drawn c d b
  ];
}

-- ---- closed

-- where each set is that of its category alone, it has only what is reached
own_sound : {W : ℕ} (g : Graph) (rows : List (CatSet W)) → AreOwn rows → (c d : ℕ) → Has rows c d
    → CategoryReaches g c d
own_sound g rows own c d m = inl ((own c d (has_inside rows c d m)).0 m)

-- drawn sets have their own category
pub own_drawn : {W : ℕ} (g : Graph) (Seen : ℕ → ℕ → Type 0) (rows drawn : List (CatSet W)) → AreOwn rows
    → Draws g Seen rows drawn → (c : ℕ) → c < length drawn → Has drawn c c
own_drawn g Seen rows drawn own h c l = h.kept c c ((own c c (let e = h.count in omega (arith, l, e))).1 refl)

-- closed sets, drawn by all edges, have exactly what is reached
pub closed_table : {W : ℕ} (g : Graph) (n : ℕ) (Seen : ℕ → ℕ → Type 0) (rows drawn closed : List (CatSet W))
    → length rows ≡ n → AreOwn rows → Draws g Seen rows drawn → ((c d : ℕ) → HasEdge g c d → Seen c d)
    → IsClosure drawn closed → IsTable g n closed
closed_table g n Seen rows drawn closed size own h all f = record {
  count = f.count ∙ h.count ∙ size;
  each = λ c l x.
      let inside : c < length drawn = let e = h.count in omega (arith, l, e, size) in (
        λ m. reaches_from_Steps (down ((f.each c x inside).0 m)),
        λ r. (f.each c x inside).1 (up (Steps-from_reaches r)),
      );
}
  where
    down : {a b : ℕ} → Steps (Has drawn) a b → Steps (HasEdge g) a b
    down here = here
    down (step {x = a} {y = b} m w) =
        Steps-append (Steps-from_reaches (h.sound (own_sound g rows own) a b m)) (down w)

    up : {a b : ℕ} → Steps (HasEdge g) a b → Steps (Has drawn) a b
    up here = here
    up (step {x = a} {y = b} e w) = step (h.drawn a b (all a b e)) (up w)

-- ---- what is known to be there

module _ {W : ℕ} (p : Place) (g : Graph) (ds : List OneDecision) (rows mid new : List (CatSet W))
    (same : p.decided.graph ≡ g) (listed : p.decided.decisions ≡ decisions_of ds)
    (first : (h : Graph) → ((k : ℕ) → k < length ds → (decision_at ds k).present ≡ true
    → HasEdge h (edge_at g (decision_at ds k).edge.0).child (edge_at g (decision_at ds k).edge.0).parent)
    → Draws h (SeenDecisions g ds (length ds)) rows mid)
    (second : (h : Graph) → ((c d : ℕ) → LeadsHere p.ways c d → HasEdge h c d)
    → Draws h (SeenFrom (LeadsHere p.ways) (length mid)) mid new) where
  -- decisions and then ways are drawn
  pub leading_drawn : Draws (leading_graph p)
      (λ x y. SeenDecisions g ds (length ds) x y ⊎ SeenFrom (LeadsHere p.ways) (length mid) x y) rows new
  leading_drawn =
      let lead = leading_graph p in
      draws_then lead (SeenDecisions g ds (length ds)) (SeenFrom (LeadsHere p.ways) (length mid)) rows mid new
      (first lead (λ k l h.
      let e = (decision_at ds k).edge.0 in
      subst (λ (x : Graph). HasEdge lead (edge_at x e).child (edge_at x e).parent) same
      (seen_present p ds listed k l h)))
      (second lead (seen_way p))

  -- so all that is known is drawn
  pub leading_all : AreOfGraph g p.ways → length mid ≡ category_count g → (x y : ℕ) → HasEdge (leading_graph p) x y
      → SeenDecisions g ds (length ds) x y ⊎ SeenFrom (LeadsHere p.ways) (length mid) x y
  leading_all ways size x y e = elim (leading_seen p ds listed x y e) [
    | inl s ↦ inl (subst (λ (h : Graph). SeenDecisions h ds (length ds) x y) same s)
    | inr s ↦ inr (subst (λ n. x < n) (sym size) (ways (leading_way x y) s).0, s)
  ]
