-- What the tables beside a list of edges say, and how they change with an edge.
use Rattle.std.proofs.Common.{◌≡◌, ◌≢◌, ℕ, ◌+◌, ◌*◌, ◌<◌, ◌≤◌, ◌⊎◌, ◌↔◌, List, [], ◌∷◌, length, get_or, set, take, Bool, true, false, ap, sym, subst, ◌∙◌, inl, inr, arith}
use Rattle.std.proofs.Math.{ListN.length-set, Nat.mul-le-mul_right, Seq.take-length}
use Rattle.std.proofs.lemmas.List.{get_or_default, get_or-set_other, get_or-set_same, length_push, take-append-le}
use Rattle.std.proofs.lemmas.List.{Elements.Contains-get_or, Quantifiers.all_pairs_push}
use Rattle.std.specs.{FinSet.{FinSet, insert}, Ordering.nat_cmp, Prelude.{Contains, IsTrue}}
use Rattle.olap_base.specs.{Graph.Edge, Steps.Climb}
use Rattle.olap_bits.specs.{Sets.members, declared.sets.CatSet.CatSet}
use Rattle.olap_graph.{proofs.RowLemmas.{has_insert, row_other, row_read, row_same}, specs.Rows.row}
use Rattle.olap_trail.proofs.StageLemmas.{AreCopied, stage_end}
use Rattle.olap_trail.proofs.WalkLemmas.{climb_grown, cyclic_more, grows, joins_cases, joins_more, joins_new, more}
use Rattle.olap_trail.specs.Drawing.{AreBeyond, Drawing, IsAbove, IsBeyond, IsBypassed, IsCyclic, IsGrown, IsIn, IsNext, Joins}
use Rattle.olap_trail.specs.Drawn.{AreTables}

-- ---- sets

-- what is beyond a category, and the category itself, is above it
pub above_is : (es : List Edge) (c : ℕ) (s t : FinSet nat_cmp) → IsBeyond es c s → t ≡ insert s c → IsAbove es c t
above_is es c s t b e d = subst (λ u. IsIn u d ↔ ((c ≡ d) ⊎ Climb (Joins es) c d)) (sym e) (
  λ m. elim ((has_insert s c d).0 m) [ inl q ↦ inl q | inr i ↦ inr ((b d).0 i) ],
  λ o. (has_insert s c d).1 (elim o [ inl q ↦ inl q | inr w ↦ inr ((b d).1 w) ]),
)

module _ (es : List Edge) (c p : ℕ) where
  -- what is beyond a category with the new edge
  pub beyond_more : (x : ℕ) (old through new : FinSet nat_cmp) → IsBeyond es x old → IsAbove es p through
      → IsGrown old x c through new → IsBeyond (more es c p) x new
  beyond_more x old through new b a g d = (
    λ m. climb_grown es c p (elim ((g d).0 m) [
      | inl i ↦ inl ((b d).0 i)
      | inr w ↦ inr (elim w.0 [ inl e ↦ inl e | inr i ↦ inr ((b c).0 i) ], (a d).0 w.1)
    ]),
    λ w. (g d).1 (elim (grows es c p w) [
      | inl v ↦ inl ((b d).1 v)
      | inr v ↦ inr (elim v.0 [ inl e ↦ inl e | inr u ↦ inr ((b c).1 u) ], (a d).1 v.1)
    ]),
  )

  -- where edges lead from a category with the new edge
  pub next_now : (x : ℕ) (s t : FinSet nat_cmp) → IsNext es x s
      → ((x ≡ c) × (t ≡ insert s p)) ⊎ ((x ≢ c) × (t ≡ s)) → IsNext (more es c p) x t
  next_now x s t n (inl w) d = rw w.1 (
    λ m. elim ((has_insert s p d).0 m) [
      | inl q ↦ rw (w.0, ← q) (joins_new es c p)
      | inr i ↦ joins_more es c p x d ((n d).0 i)
    ],
    λ j. (has_insert s p d).1 (elim (joins_cases es c p x d j) [ inl k ↦ inr ((n d).1 k) | inr q ↦ inl q.1 ]),
  )
  next_now x s t n (inr w) d = rw w.1 (
    λ m. joins_more es c p x d ((n d).0 m),
    λ j. elim (joins_cases es c p x d j) [ inl k ↦ (n d).1 k | inr q ↦ absurd (w.0 q.0) ],
  )

-- whether there is a cycle with the new edge: where there was none, by whether its parent led to its child
pub closes_is : (es : List Edge) (c p : ℕ) (old b : Bool) → old ≡ false → IsTrue old ↔ IsCyclic es
    → IsTrue b ↔ ((p ≡ c) ⊎ Climb (Joins es) p c) → IsTrue b ↔ IsCyclic (more es c p)
closes_is es c p old b none o r = (
  λ t. (cyclic_more es c p).1 (inr (r.0 t)),
  λ w. elim ((cyclic_more es c p).0 w) [
    | inl v ↦ absurd (let z : false ≡ true = sym none ∙ o.1 v in cc)
    | inr v ↦ r.1 v
  ],
)

-- where there was one, there is one
pub closed_is : (es : List Edge) (c p : ℕ) (old : Bool) → old ≡ true → IsTrue old ↔ IsCyclic es
    → IsTrue old ↔ IsCyclic (more es c p)
closed_is es c p old one o = (λ t. (cyclic_more es c p).1 (inl (o.0 t)), λ w. one)

-- a common number of both sets is a bypass
pub bypassed_is : (es : List Edge) (x z : ℕ) (l r : FinSet nat_cmp) (b : Bool) → IsBeyond es z l → IsNext es x r
    → IsTrue b ↔ ((d : ℕ) × IsIn l d × IsIn r d) → IsTrue b ↔ IsBypassed es x z
bypassed_is es x z l r b beyond next m = (
  λ t. let h = m.0 t in (h.0, (next h.0).0 h.2, (beyond h.0).0 h.1),
  λ w. m.1 (w.0, (beyond w.0).1 w.2, (next w.0).1 w.1),
)

-- ---- what is read from the tables

module _ {W : ℕ} {room set_room : ℕ} {es : List Edge} {place : ℕ} {rows parents : List (CatSet W)} {cycles : List Bool}
    (t : AreTables room set_room es place rows parents cycles) where
  -- each category has a set in the table
  pub in_rows : (x : ℕ) → x < length parents → place + x < length rows
  in_rows x h = let s = t.size in omega (arith, h, s)

  -- there is room for the sets of one edge more
  pub next_fits : length es + 1 < length cycles → place + length parents + length parents ≤ set_room
  next_fits h =
      let e = stage_end (length es + 1) (length cycles) (length parents) h in
      let f : (length es + 1) * length parents ≡ length es * length parents + length parents = grind arith in
      let p = t.place in
      let s = t.reserved_sets in
      omega (arith, e, f, p, s)

  -- the same with empty sets after them
  pub tables_filled : (new_set_room : ℕ) (new_rows : List (CatSet W)) → set_room ≤ new_set_room
      → place + length parents ≤ length new_rows → ((i : ℕ) → row new_rows i ≡ row rows i)
      → AreTables room new_set_room es place new_rows parents cycles
  tables_filled new_set_room new_rows more_room enough same = record {
    width = t.width;
    wide = t.wide;
    few = t.few;
    reserved = t.reserved;
    size = enough;
    reserved_sets = let s = t.reserved_sets in omega (arith, s, more_room);
    place = t.place;
    within = t.within;
    differ = t.differ;
    rows = λ k h x i. subst (λ s. IsBeyond (take k es) x s) (sym (same (k * length parents + x))) (t.rows k h x i);
    parents = t.parents;
    cycles = t.cycles;
  }

  -- the last sets tell what is beyond each category
  pub beyond_top : (x : ℕ) → x < length parents → IsBeyond es x (row rows (place + x))
  beyond_top x h =
      subst (λ k. IsBeyond es x (row rows (k + x))) (sym t.place)
      (subst (λ fs. IsBeyond fs x (row rows (length es * length parents + x))) (take-length es)
      (t.rows (length es) (omega arith) x h))

  -- the same for a set that was read
  pub beyond_read : (x i : ℕ) (r : CatSet W) → x < length parents → i ≡ place + x → r ≡ get_or rows i r
      → IsBeyond es x (members r)
  beyond_read x i r h e q =
      let l : i < length rows = let k = in_rows x h in omega (arith, k, e) in
      subst (λ s. IsBeyond es x s) (sym (row_read rows i r l q ∙ ap (row rows) e)) (beyond_top x h)

  -- a set that was read tells where edges lead from a category
  pub next_read : (x i : ℕ) (r : CatSet W) → x < length parents → i ≡ x → r ≡ get_or parents i r
      → IsNext es x (members r)
  next_read x i r h e q =
      subst (λ s. IsNext es x s) (sym (row_read parents i r (omega (arith, h, e)) q ∙ ap (row parents) e))
      (t.parents x h)

  -- a mark that was read tells whether there is a cycle
  pub cycle_read : (i : ℕ) (b : Bool) → i ≡ length es → b ≡ get_or cycles i b → IsTrue b ↔ IsCyclic es
  cycle_read i b e q =
      let l : i < length cycles = let f = t.few in omega (arith, f, e) in
      let read = q ∙ sym (get_or_default cycles i false b l) ∙ ap (λ j. get_or cycles j false) e in
      subst (λ c. (c ≡ true) ↔ IsCyclic es) (sym read)
      (subst (λ fs. (get_or cycles (length es) false ≡ true) ↔ IsCyclic fs) (take-length es)
      (t.cycles (length es) (omega arith)))

  -- ---- one edge more

  -- at most n + 1 is at most n, or n + 1
  upto : (k n : ℕ) → k ≤ n + 1 → (k ≤ n) ⊎ (k ≡ n + 1)
  upto k n h = grind arith

  -- the tables with one edge more
  pub tables_push : (c p new_room new_place stage : ℕ) (new_rows : List (CatSet W)) (r : CatSet W) (closes : Bool)
      (through : FinSet nat_cmp) → c < length parents → p < length parents → length es + 1 < length cycles
      → (Joins es c p → ⊥) → length cycles ≤ new_room + 1 → place + length parents + length parents ≤ length rows
      → new_place ≡ place + length parents → stage ≡ length es + 1
      → AreCopied rows new_rows place (length parents) c through (length parents) → IsAbove es p through
      → members r ≡ insert (row parents c) p → (IsTrue closes ↔ IsCyclic (more es c p))
      → AreTables new_room set_room (more es c p) new_place new_rows (set parents c r) (set cycles stage closes)
  tables_push c p new_room new_place stage new_rows r closes through hc hp full new reserved fits at_end next copied
      above own cyclic =
      record {
        width = t.width;
        wide = let w = t.wide in omega (arith, w, count);
        few = omega (arith, full, size, marks);
        reserved = omega (arith, reserved, marks);
        size = let l = copied.same_length in omega (arith, fits, at_end, l, count);
        reserved_sets = rw (marks, count) t.reserved_sets;
        place = rw (size, count) (let e : (length es + 1) * n ≡ length es * n + n = grind arith in
            omega (arith, at_end, t.place, e));
        within = λ x y j. elim (joins_cases es c p x y j) [
          | inl k ↦ rw count (t.within x y k)
          | inr q ↦ rw (count, q.0, ← q.1) (hc, hp)
        ];
        differ =
            all_pairs_push ◌≢◌ es (record { child = c; parent = p }) t.differ
            (λ k d h e. new (subst (λ z. Contains es z) e (Contains-get_or es k d h)));
        rows = λ k h. rw count (stages k h);
        parents = λ x h. next_now es c p x (row parents x) _ (t.parents x (omega (arith, h, count))) (
            elim (same_or_not x c) [
              | inl e ↦ inl (e, rw (e, row_same parents c r hc) own)
              | inr m ↦ inr (m, row_other parents c x r m)
            ]);
        cycles = λ k h. elim (upto k (length es) (omega (arith, h, size))) [
          | inl l ↦
              rw (get_or-set_other cycles stage k closes false (omega (arith, l, next)), before k l) (t.cycles k l)
          | inr e ↦
              rw (whole k e, e ∙ sym next, get_or-set_same cycles stage closes false (omega (arith, next, full))) cyclic
        ];
      }
    where
      count : length (set parents c r) ≡ length parents
      count = length-set parents c r

      marks : length (set cycles stage closes) ≡ length cycles
      marks = length-set cycles stage closes

      size : length (more es c p) ≡ length es + 1
      size = length_push es (record { child = c; parent = p })

      same_or_not : (a b : ℕ) → (a ≡ b) ⊎ (a ≢ b)
      same_or_not a b = grind arith

      before : (k : ℕ) → k ≤ length es → take k (more es c p) ≡ take k es
      before k l = take-append-le k es ((record { child = c; parent = p }) ∷ []) l

      whole : (k : ℕ) → k ≡ length es + 1 → take k (more es c p) ≡ more es c p
      whole k e = ap (λ j. take j (more es c p)) (e ∙ sym size) ∙ take-length (more es c p)

      n : ℕ
      n = length parents

      stages : (k : ℕ) → k ≤ length (more es c p) → AreBeyond (take k (more es c p)) n (k * n) new_rows
      stages k h = elim (upto k (length es) (omega (arith, h, size))) [
        | inl l ↦ λ x i.
            let m : k * n ≤ length es * n = mul-le-mul_right n l in
            rw (copied.kept (k * n + x) (omega (arith, m, t.place, i)), before k l) (t.rows k l x i)
        | inr e ↦ λ x i.
            let f : (length es + 1) * n ≡ length es * n + n = grind arith in
            let at : k * n + x ≡ place + n + x = omega (arith, t.place, f, ap (λ j. j * n) e) in
            rw (whole k e, at) (beyond_more es c p x (row rows (place + x)) through (row new_rows (place + n + x))
            (beyond_top x i) above (copied.grown x i))
      ]

-- what is below a number is below an equal one
pub still_below : {j k m n : ℕ} → j ≡ k → n ≡ m → k < m → j < n
still_below e f h = omega arith

-- the same categories and room, with these edges
pub drawn_more : (v w : Drawing) (es : List Edge) → v.count ≡ w.count → v.room ≡ w.room → v.edges ≡ es
    → v ≡ record w { edges = es }
drawn_more v w es a b e = λ i. record { count = a i; room = b i; edges = e i }
