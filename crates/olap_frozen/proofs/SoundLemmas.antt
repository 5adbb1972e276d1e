-- The tests of a choice of edges are the laws.
use Rattle.std.proofs.Common.{rules, ◌≡◌, ℕ, ◌+◌, ◌<◌, List, length, get_or, Bool, true, false, refl, sym, subst, ◌⊎◌, inl, inr, arith}
use Rattle.std.{proofs.lemmas.Grind.common_steps, specs.Prelude.{◌≢◌, codes}}
use Rattle.olap_base.proofs.AboveLemmas.{reaches_all}
use Rattle.olap_base.specs.{Graph.{Graph, Edge, IsCategory, IsHierarchy, category_count}, Instance.IsBelow}
use Rattle.olap_base.specs.Steps.{Steps, Steps.here, Steps.step, Climb, Climb.climb, Steps-append, Steps-cases, Climb-steps, reaches_from_Steps}
use Rattle.olap_ast.{proofs.Shape.last_step, specs.Frozen.{chosen, is_present}}
use Rattle.olap_bits.specs.declared.sets.CatSet.{CatSet}
use Rattle.olap_graph.specs.{Lookups.edge_at, Rows.row}
use Rattle.olap_frozen.proofs.{ChosenLemmas.{choice_of, joins_before}, RowLemmas.has_steps}
use Rattle.olap_frozen.specs.{Chosen.{IsChoice, IsSound, Joins}, Rows.{AreRows, Fits, ReachAll}}
use Rattle.std.specs.FinSet as set
use Rattle.olap_frozen.proofs.ChosenInstance as made

-- what the root reaches is present
pub present_of_steps : (g : Graph) (r : ℕ) (es : List Edge) → IsChoice g r es → (c : ℕ) → Steps (Joins es) r c
    → is_present r es c ≡ true
present_of_steps g r es ch c s = grind (arith, common_steps, last_step)

-- ---- the tests, as walks

-- what the program tests of the chosen edges, as facts of walks
pub record AreTests (r n : ℕ) (es : List Edge) : Type 0 where
  pub reached : (c d : ℕ) → Joins es c d → Steps (Joins es) r c
  pub open_walk : (c d : ℕ) → Joins es c d → Steps (Joins es) d c → ⊥
  pub unpassed : (c d e : ℕ) → Joins es c d → Joins es c e → e ≢ d → Steps (Joins es) e d → ⊥
  pub tops : (c : ℕ) → c < n → Steps (Joins es) r c → Steps (Joins es) c 0

-- one category more
pub tops_more : {W : ℕ} (rows : List (CatSet W)) (r c : ℕ) (a : Bool) → a ≡ set.contains (row rows r) c
    → (a ≡ false) ⊎ (set.contains (row rows c) 0 ≡ true) → ReachAll rows r c → ReachAll rows r (c + 1)
tops_more rows r c a e o t d h m = search rules

-- a choice that passes the tests meets the laws
pub sound_of_tests : (g : Graph) (r : ℕ) (es : List Edge) → IsChoice g r es → AreTests r (category_count g) es
    → IsSound r es
sound_of_tests g r es ch t = record {
  top = present_of_steps g r es ch 0 (t.tops r ch.root here);
  reached = reached;
  upward = λ c p n. up c n (t.tops c (made.present_category g r es ch c p) (reached c p));
  acyclic = acyclic;
  straight = λ c d e j k l. t.unpassed c d e j k (λ q. acyclic d (subst (λ z. Climb (Joins es) z d) q l))
      (Climb-steps l);
}
  where
    reached : (c : ℕ) → is_present r es c ≡ true → Steps (Joins es) r c
    reached c p = elim (made.present_cases g r es ch c p) [
      | inl e ↦ subst (λ k. Steps (Joins es) r k) (sym e) here
      | inr s ↦ elim s [
        | inl u ↦ t.reached c u.0 u.1
        | inr u ↦ Steps-append (t.reached u.0 c u.1) (step u.1 here)
      ]
    ]

    acyclic : (c : ℕ) → Climb (Joins es) c c → ⊥
    acyclic c (climb {z = z} j s) = t.open_walk c z j s

    first : (c d : ℕ) → Climb (Joins es) c d → (e : ℕ) × Joins es c e
    first c d (climb {z = z} j s) = (z, j)

    up : (c : ℕ) → c ≢ 0 → Steps (Joins es) c 0 → (d : ℕ) × Joins es c d
    up c n s = elim (Steps-cases s) [ inl e ↦ absurd (n e) | inr k ↦ first c 0 k ]

-- a choice that meets the laws passes the tests
pub tests_of_sound : (g : Graph) (r : ℕ) (es : List Edge) → IsChoice g r es → IsSound r es
    → AreTests r (category_count g) es
tests_of_sound g r es ch s = record {
  reached = λ c d j. s.reached c (made.child_present g r es ch c d j);
  open_walk = λ c d j w. s.acyclic c (climb j w);
  unpassed = λ c d e j k n w. elim (Steps-cases w) [ inl q ↦ n q | inr l ↦ s.straight c d e j k l ];
  tops = λ c h w.
      let name : ℕ → List ℕ = λ k. codes "all" in
      let v = made.chosen_instance g r es ch name s.top refl in
      let l = made.chosen_lawful g r es ch name s in
      let p = present_of_steps g r es ch c w in
      let m = made.member_is g r es ch name c p in
      let a = reaches_all g (made.inst g r es ch name) v l (made.place g r es ch c) m.0 in
      let inside : a.0 < length (made.inst g r es ch name) = let e = a.1 in omega arith in
      let o = made.only_member g r es ch name 0 a.0 (inside, (v.all_is_last a.0 inside).1 a.1) in
      (made.reaches_walk g r es ch name c 0 p o.0).0
      (reaches_from_Steps (subst (λ y. Steps (IsBelow (made.inst g r es ch name)) (made.place g r es ch c) y)
      (sym o.1) a.2));
}

-- ---- the tests, as the program makes them

module _ {W : ℕ} (g : Graph) (r : ℕ) (bits : List Bool) (rows : List (CatSet W)) (hier : IsHierarchy g)
    (root : IsCategory g r) (a : AreRows g (chosen g.edges bits) rows) where
  abbrev es : List Edge
  es = chosen g.edges bits

  ends : (c d : ℕ) → Joins es c d → IsCategory g c × IsCategory g d
  ends c d j = made.joined_categories g r es (choice_of g r bits hier root) c d j

  fits_of_tests : AreTests r (category_count g) es → (c d : ℕ) → Joins es c d → Fits g bits rows r c d
  fits_of_tests t c d j = (
    (has_steps g es rows a r c root).1 (t.reached c d j),
    λ m. t.open_walk c d j ((has_steps g es rows a d c (ends c d j).1).0 m),
    λ p. let k = (joins_before g bits c p.0).0 p.1 in
        t.unpassed c d p.0 j k p.2 ((has_steps g es rows a p.0 d (ends c p.0 k).1).0 p.3),
  )

  tests_of_fits : ((c d : ℕ) → Joins es c d → Fits g bits rows r c d) → ReachAll rows r (category_count g)
      → AreTests r (category_count g) es
  tests_of_fits f t = record {
    reached = λ c d j. (has_steps g es rows a r c root).0 (f c d j).0;
    open_walk = λ c d j w. (f c d j).1 ((has_steps g es rows a d c (ends c d j).1).1 w);
    unpassed = λ c d e j k n w. (f c d j).2
        (e, (joins_before g bits c e).1 k, n, (has_steps g es rows a e d (ends c e k).1).1 w);
    tops = λ c h w. (has_steps g es rows a c 0 h).0 (t c h ((has_steps g es rows a r c root).1 w));
  }

  pub reach_all_of_sound : IsSound r es → ReachAll rows r (category_count g)
  reach_all_of_sound s c h m =
      let t = tests_of_sound g r es (choice_of g r bits hier root) s in
      (has_steps g es rows a c 0 h).1 (t.tops c h ((has_steps g es rows a r c root).0 m))

  pub fits_of_sound : IsSound r es → (i : ℕ) → i < length g.edges → get_or bits i false ≡ true
      → Fits g bits rows r (edge_at g i).child (edge_at g i).parent
  fits_of_sound s i h b =
      fits_of_tests (tests_of_sound g r es (choice_of g r bits hier root) s) (edge_at g i).child (edge_at g i).parent
      ((joins_before g bits (edge_at g i).child (edge_at g i).parent).0 (i, h, b, refl))

  pub sound_of_fits : ((i : ℕ) → i < length g.edges → get_or bits i false ≡ true
      → Fits g bits rows r (edge_at g i).child (edge_at g i).parent) → ReachAll rows r (category_count g)
      → IsSound r es
  sound_of_fits f t = sound_of_tests g r es (choice_of g r bits hier root) (tests_of_fits (λ c d j.
      let k = (joins_before g bits c d).1 j in
      subst (λ (e : Edge). Fits g bits rows r e.child e.parent) k.3 (f k.0 k.1 k.2)) t)

  -- in a sound choice the root's row has the present categories
  pub present_is : IsSound r es → (c : ℕ) → set.contains (row rows r) c ≡ is_present r es c
  present_is s c = same_tests (set.contains (row rows r) c) (is_present r es c)
      (λ m. present_of_steps g r es (choice_of g r bits hier root) c ((has_steps g es rows a r c root).0 m))
      (λ p. (has_steps g es rows a r c root).1 (s.reached c p))
    where
      same_tests : (a b : Bool) → (a ≡ true → b ≡ true) → (b ≡ true → a ≡ true) → a ≡ b
      same_tests true b f g = sym (f refl)
      same_tests false true f g = g refl
      same_tests false false f g = refl
