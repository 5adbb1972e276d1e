-- The tables of no edges, and after the last edge is taken back.
use Rattle.std.proofs.Common.{◌≡◌, ◌≢◌, ℕ, zero, suc, ◌+◌, ◌*◌, ◌-◌, ◌<◌, ◌≤◌, ◌⊎◌, List, [], ◌∷◌, length, set, take, replicate, Bool, true, false, refl, ap, sym, subst, ◌∙◌, inl, inr, arith}
use Rattle.std.proofs.Math.{ListN.{get_or-append, length-set}, Seq.get_or-append_seam}
use Rattle.std.proofs.lemmas.List.{length-replicate, length_push, take-append-le, take_all}
use Rattle.std.specs.{FinSet.{FinSet, empty, remove}, Ordering.nat_cmp}
use Rattle.olap_base.{proofs.ListLemmas.{Contains-nil, none_marked}, specs.Graph.Edge, specs.Steps.{Climb, Climb.climb}}
use Rattle.olap_bits.specs.{CatSet.IsOfWidth, Sets.members, declared.sets.CatSet.CatSet}
use Rattle.olap_graph.{proofs.RowLemmas.{row_other, row_same}, specs.Rows.row}
use Rattle.olap_trail.proofs.SetLemmas.{in_without, not_in_empty}
use Rattle.olap_trail.proofs.WalkLemmas.{joins_cases, joins_more, joins_new, more}
use Rattle.olap_trail.specs.{Drawing.{IsIn, IsNext, Joins}, Drawn.AreTables}

-- ---- no edges

-- of empty sets each is empty
pub row_none : {W : ℕ} (x : CatSet W) → members x ≡ empty → (m i : ℕ) → row (replicate m x) i ≡ empty
row_none x e zero i = refl
row_none x e (suc m) zero = e
row_none x e (suc m) (suc i) = row_none x e m i

-- without edges there is no walk
no_climb : (es : List Edge) (x y : ℕ) → es ≡ [] → Climb (Joins es) x y → ⊥
no_climb es x y e (climb {z = z} j s) =
    Contains-nil (record { child = x; parent = z })
    (subst (λ fs. Joins fs x z) e j)

-- the tables of no edges
pub tables_none : {W : ℕ} (room set_room n stages : ℕ) (x : CatSet W) (rows parents : List (CatSet W))
    (cycles : List Bool) → IsOfWidth W → n ≤ 64 * W → members x ≡ empty → 0 < stages → stages ≤ room + 1
    → stages * n ≤ set_room → n ≤ length rows → ((i : ℕ) → row rows i ≡ empty) → parents ≡ replicate n x
    → cycles ≡ replicate stages false → AreTables room set_room [] 0 rows parents cycles
tables_none {W} room set_room n stages x rows parents cycles width wide e some reserved reserved_sets enough nothing
    of_parents of_cycles =
    subst (λ ps. AreTables room set_room [] 0 rows ps cycles) (sym of_parents)
    (subst (λ cs. AreTables room set_room [] 0 rows (replicate n x) cs) (sym of_cycles) (record {
      width = width;
      wide = let l = length-replicate n x in omega (arith, l, wide);
      few = let l = length-replicate stages false in omega (arith, l, some);
      reserved = let l = length-replicate stages false in omega (arith, l, reserved);
      size = let l = length-replicate n x in omega (arith, l, enough);
      reserved_sets = subst (λ m. m ≤ set_room)
          (λ i. sym (length-replicate stages false) i * sym (length-replicate n x) i) reserved_sets;
      place = grind arith;
      within = λ c d j. absurd (Contains-nil (record { child = c; parent = d }) j);
      differ = λ i j d l h. absurd (omega (arith, h));
      rows = λ k h c i d. (
        λ m. absurd (not_in_empty d
            (subst (λ s. IsIn s d) (nothing (k * length (replicate n x) + c)) m)),
        λ w. absurd (no_climb (take k []) c d (take_all k [] (omega arith)) w),
      );
      parents = λ c i d. (
        λ m. absurd (not_in_empty d (subst (λ s. IsIn s d) (row_none x e n c) m)),
        λ j. absurd (Contains-nil (record { child = c; parent = d }) j),
      );
      cycles = λ k h. (
        λ m. let z : false ≡ true = sym (none_marked stages k) ∙ m in absurd (cc),
        λ w. absurd (no_climb (take k []) w.0 w.0 (take_all k [] (omega arith)) w.1),
      );
    }))

-- ---- the last edge is taken back

module _ (es : List Edge) (c p : ℕ) where
  -- where edges lead from a category without the last edge
  next_less : (x : ℕ) (s u : FinSet nat_cmp) → IsNext (more es c p) x s → (Joins es c p → ⊥)
      → ((x ≡ c) × (u ≡ remove s p)) ⊎ ((x ≢ c) × (u ≡ s)) → IsNext es x u
  next_less x s u n new (inl w) d = rw w.1 (
    λ m.
        let v = (in_without s p d).0 m in
        elim (joins_cases es c p x d ((n d).0 v.1)) [ inl k ↦ k | inr q ↦ absurd (v.0 q.1) ],
    λ j. (in_without s p d).1 (λ q. new (rw (← w.0, q) j), (n d).1 (joins_more es c p x d j)),
  )
  next_less x s u n new (inr w) d = rw w.1 (
    λ m. elim (joins_cases es c p x d ((n d).0 m)) [ inl k ↦ k | inr q ↦ absurd (w.0 q.0) ],
    λ j. (n d).1 (joins_more es c p x d j),
  )

module _ {W : ℕ} {room set_room place : ℕ} (es : List Edge) (c p : ℕ) {rows parents : List (CatSet W)}
    {cycles : List Bool}
    (t : AreTables room set_room (more es c p) place rows parents cycles) where
  -- there is one edge more
  size : length (more es c p) ≡ length es + 1
  size = length_push es (record { child = c; parent = p })

  -- the last edge isn't among those before it
  new_last : Joins es c p → ⊥
  new_last j =
      let e : Edge = record { child = c; parent = p } in
      t.differ j.0 (length es) e j.1 (omega (arith, size))
      (get_or-append es (e ∷ []) e j.0 j.1 ∙ j.2 ∙ sym (get_or-append_seam es e [] e))

  -- the ends of the last edge are categories
  pub last_within : (c < length parents) × (p < length parents)
  last_within = t.within c p (joins_new es c p)

  -- the sets begin where they began before the last edge
  pub place_back : (n : ℕ) → n ≡ length parents → place - n + length parents ≡ place
  place_back n h =
      let q = t.place in
      let g : length (more es c p) * length parents ≡ (length es + 1) * length parents =
      ap (λ j. j * length parents) size in
      let e : (length es + 1) * length parents ≡ length es * length parents + length parents = grind arith in
      omega (arith, q, g, e, h)

  -- the tables without the last edge
  pub tables_pop : (new_room new_place : ℕ) (r : CatSet W) → length cycles ≤ new_room + 1
      → new_place + length parents ≡ place → members r ≡ remove (row parents c) p
      → AreTables new_room set_room es new_place rows (set parents c r) cycles
  tables_pop new_room new_place r reserved back taken = record {
    width = t.width;
    wide = let w = t.wide in omega (arith, w, count);
    few = let f = t.few in omega (arith, f, size);
    reserved = reserved;
    size = let s = t.size in omega (arith, s, back, count);
    reserved_sets = rw count t.reserved_sets;
    place = rw count (let q = t.place in let g = ap (λ j. j * length parents) size in
        let e : (length es + 1) * length parents ≡ length es * length parents + length parents = grind arith in
        omega (arith, back, q, g, e));
    within = λ x y j. rw count (t.within x y (joins_more es c p x y j));
    differ = λ i j d l h. λ q.
        t.differ i j d l (omega (arith, h, size))
        (get_or-append es ((record { child = c; parent = p }) ∷ []) d i (omega (arith, l, h)) ∙ q
        ∙ sym (get_or-append es ((record { child = c; parent = p }) ∷ []) d j h));
    rows = λ k h. rw (count, ← before k h) (t.rows k (omega (arith, h, size)));
    parents = λ x h. next_less es c p x (row parents x) _ (t.parents x (omega (arith, h, count))) new_last (
        elim (same_or_not x c) [
          | inl e ↦ inl (e, rw (e, row_same parents c r last_within.0) taken)
          | inr n ↦ inr (n, row_other parents c x r n)
        ]);
    cycles = λ k h. rw (← before k h) (t.cycles k (omega (arith, h, size)));
  }
    where
      count : length (set parents c r) ≡ length parents
      count = length-set parents c r

      same_or_not : (a b : ℕ) → (a ≡ b) ⊎ (a ≢ b)
      same_or_not a b = grind arith

      before : (k : ℕ) → k ≤ length es → take k (more es c p) ≡ take k es
      before k l = take-append-le k es ((record { child = c; parent = p }) ∷ []) l
