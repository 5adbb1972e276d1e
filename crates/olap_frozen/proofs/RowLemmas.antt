-- A set for each category, edge by edge, and what the sets hold in the end.
use Rattle.std.proofs.Common.{◌≡◌, ℕ, ◌+◌, ◌<◌, List, length, get_or, set, Bool, true, false, ap, sym, subst, ◌∙◌, ◌↔◌, ◌⊎◌, inl, inr, arith}
use Rattle.std.specs.Cmp.{nat_cmp_total}
use Rattle.std.specs.{FinSet.{contains, contains-empty, empty, insert, is_subset, is_subset-contains}, Ordering.nat_cmp}
use Rattle.olap_base.{proofs.ListLemmas.same_truth, specs.Graph.{Graph, Edge, IsHierarchy, category_count}}
use Rattle.olap_base.specs.Reaching.{category_reaches, category_reaches_is}
use Rattle.olap_base.specs.Steps.{Steps, Steps-from_reaches, reaches_from_Steps}
use Rattle.olap_ast.{proofs.ChosenLemmas.chosen_in, specs.Frozen.chosen}
use Rattle.olap_bits.specs.{Sets.members, declared.sets.CatSet.CatSet}
use Rattle.olap_graph.proofs.RowLemmas.{closure_joined, has_insert, joined_more, joined_same, newest, same_edge}
use Rattle.olap_graph.specs.{Lookups.edge_at, Rows.{AreOwn, Has, IsClosure, Passes, row}}
use Rattle.olap_frozen.{proofs.ChosenLemmas.joins_before, specs.Chosen.Joins}
use Rattle.olap_frozen.specs.Rows.{AreDrawn, AreRows, JoinsBefore, with_edges}

-- ---- one edge more

-- what earlier edges join is joined by one edge more
joins_lift : (g : Graph) (bits : List Bool) (k a b : ℕ) → JoinsBefore g bits k a b → JoinsBefore g bits (k + 1) a b
joins_lift g bits k a b t = (t.0, omega (arith, t.1), t.2, t.3)

-- what one edge more joins was joined before, or is joined by this edge
joins_cases : (g : Graph) (bits : List Bool) (k a b : ℕ) → JoinsBefore g bits (k + 1) a b
    → JoinsBefore g bits k a b ⊎ ((get_or bits k false ≡ true) × (edge_at g k ≡ record { child = a; parent = b }))
joins_cases g bits k a b t = grind (arith, newest)

-- without edges each set has its own category alone
pub draw_none : {W : ℕ} (g : Graph) (bits : List Bool) (rows : List (CatSet W)) → AreOwn rows → AreDrawn g bits 0 rows
draw_none g bits rows own a b h = (
  λ m. inl ((own a b h).0 m),
  λ o. elim o [ inl e ↦ (own a b h).1 e | inr t ↦ absurd (omega (arith, t.1)) ],
)

-- an edge that isn't chosen
pub draw_skip : {W : ℕ} (g : Graph) (bits : List Bool) (k : ℕ) (rows : List (CatSet W)) → get_or bits k false ≡ false
    → AreDrawn g bits k rows → AreDrawn g bits (k + 1) rows
draw_skip g bits k rows f d = grind (arith, joined_same, joins_cases, joins_lift)

-- a chosen edge
pub draw_more : {W : ℕ} (g : Graph) (bits : List Bool) (k c d : ℕ) (rows : List (CatSet W)) (x : CatSet W)
    → get_or bits k false ≡ true → edge_at g k ≡ record { child = c; parent = d } → c < length rows
    → members x ≡ insert (row rows c) d → AreDrawn g bits k rows → AreDrawn g bits (k + 1) (set rows c x)
draw_more g bits k c d rows x bit edge h e drawn =
    joined_more (JoinsBefore g bits k) (JoinsBefore g bits (k + 1)) c d rows x (λ a b. (
      λ t. elim (joins_cases g bits k a b t) [
        | inl j ↦ inl j
        | inr p ↦ inr (ap (λ (z : Edge). z.child) (sym edge ∙ p.1), ap (λ (z : Edge). z.parent) (sym edge ∙ p.1))
      ],
      λ o. elim o [
        | inl j ↦ joins_lift g bits k a b j
        | inr p ↦ (k, omega arith, bit, edge ∙ same_edge p.0 p.1)
      ],
    )) h e drawn

-- ---- a set alone

-- a set with its own category alone has nothing to pass on
pub alone : {W : ℕ} (rows : List (CatSet W)) (k : ℕ) (x y e : CatSet W) → members x ≡ row rows k
    → members y ≡ insert (members e) k → members e ≡ empty → is_subset (members x) (members y) ≡ true
    → (c d : ℕ) → Has rows c d ↔ Passes rows k c d
alone rows k x y e at one none within c d = (
  λ m. inl m,
  λ o. elim o [
    | inl m ↦ m
    | inr t ↦
        let m = is_subset-contains nat_cmp_total (members x) (members y) within d (ap (λ s. contains s d) at ∙ t.1) in
        elim ((has_insert (members e) k d).0 (ap (λ s. contains s d) (sym one) ∙ m)) [
          | inl q ↦ subst (λ z. Has rows c z) q t.0
          | inr n ↦ absurd (let z : false ≡ true = sym (contains-empty nat_cmp d)
              ∙ ap (λ s. contains s d) (sym none) ∙ n in cc)
        ]
  ],
)

-- ---- all chosen edges

-- sets with all chosen edges, closed, are the rows of the choice
pub closed_rows : {W : ℕ} (g : Graph) (bits : List Bool) (old new : List (CatSet W)) → IsHierarchy g
    → length old ≡ category_count g → AreDrawn g bits (length g.edges) old → IsClosure old new
    → AreRows g (chosen g.edges bits) new
closed_rows g bits old new hier size drawn closure c d h =
    let es = chosen g.edges bits in
    let r = category_reaches_is (with_edges g es) c d in
    let joined = joined_same (JoinsBefore g bits (length g.edges)) (Joins es) old
    (λ a b. ((joins_before g bits a b).1, (joins_before g bits a b).0)) drawn in
    let i = closure_joined (Joins es) old new joined
    (λ x y j. let w = (hier.categories x y (chosen_in g.edges bits (record { child = x; parent = y }) j)).0 in
    omega (arith, w, size)) closure c d (omega (arith, h, size)) in
    same_truth (contains (row new c) d) (category_reaches (with_edges g es) c d)
    (λ m. r.1 (reaches_from_Steps (i.0 m))) (λ m. i.1 (Steps-from_reaches (r.0 m)))

-- a row has what its category reaches
pub has_steps : {W : ℕ} (g : Graph) (es : List Edge) (rows : List (CatSet W)) → AreRows g es rows → (c d : ℕ)
    → c < category_count g → Has rows c d ↔ Steps (Joins es) c d
has_steps g es rows a c d h =
    let r = category_reaches_is (with_edges g es) c d in (
      λ m. Steps-from_reaches (r.0 (sym (a c d h) ∙ m)),
      λ s. a c d h ∙ r.1 (reaches_from_Steps s),
    )
