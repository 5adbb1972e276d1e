-- Ways from one category to another by the row of the table, and the atoms that they make up.
use Rattle.std.proofs.Common.{◌≡◌, ℕ, ◌+◌, ◌<◌, List, [], ◌∷◌, get_or, length, Bool, true, refl, sym, subst, ◌↔◌, inl, arith}
use Rattle.std.specs.{FinSet.{FinSet, contains}, Ordering.nat_cmp}
use Rattle.olap_base.specs.Instance.{Instance, IsBelow, IsMemberOf, ReachesCategory, ReachesVia}
use Rattle.olap_base.specs.Steps.{Steps.here, Steps.step, Steps-append, Steps-from_reaches, reaches_from_Steps}
use Rattle.olap_ast.specs.Formula.{HasPath}
use Rattle.olap_eval.proofs.ShapeLemmas.{IsFollowed, follow_done, follow_step, path_to}
use Rattle.olap_eval.specs.Shapes.{HasEdgeThere, IsShape}
use Rattle.olap_check.proofs.{AboveLemmas.{above_shape, member_is, own_place, present_member}, BlockLemmas.has_all}
use Rattle.olap_check.{proofs.GroupLemmas.same_nth, specs.Above.{IsAbove, is_present}}
use Rattle.olap_check.specs.{Blocks.{IsBlock, IsPart, Selects}, Seen.{IsKept, StepsVia}}
use Rattle.olap_legal.specs.{Laying.cell, declared.tables.Table.Table}

-- a member of the first category has one of the second as a parent, by the row of x
module _ (i : Instance) (n x : ℕ) (table : Table) (a : IsAbove i n x table) where
  pub edge_by_row : (d e : ℕ) → HasEdgeThere i (is_present i n table x) (cell i n table x) d e ↔ StepsVia i x d e
  edge_by_row d e = (
    λ t.
        let m = present_member i n x d table a t.0 in
        let k = present_member i n x e table a t.1 in (cell i n table x d, m.0, m.1, (cell i n table x e, k.0, t.2)),
    λ r.
        let on = Steps-append (Steps-from_reaches r.2) (step r.3.2 here) in
        let m = member_is i n x d table a r.0 (r.1, r.2) in
        let k = member_is i n x e table a r.3.0 (r.3.1, reaches_from_Steps on) in (
          m.0,
          k.0,
          subst (λ v. IsBelow i v (cell i n table x e)) (sym m.1) (subst (λ w. IsBelow i r.0 w) (sym k.1) r.3.2),
        ),
  )

-- a member reaches a category just as its own category does
pub reach_by_root : (i : Instance) (root d x : ℕ) → IsMemberOf i root x → ReachesVia i x root d ↔ ReachesCategory i x d
reach_by_root i root d x m = (
  λ r. (
    r.3.0,
    r.3.1,
    reaches_from_Steps (Steps-append (Steps-from_reaches r.2) (Steps-from_reaches r.3.2)),
  ),
  λ h. (x, m, inl refl, h),
)

-- ---- what is kept of a block

module _ (i : Instance) (root start : ℕ) (part : List ℕ) (is : IsPart i root start part) where
  -- what is asked of the members of a block may be kept
  pub kept_from : (P : ℕ → Type 0) (set : FinSet nat_cmp) → Selects (length part) (λ k. P (get_or part k 0)) set
      → IsKept i root start P set
  kept_from P set s k x h nth =
      let inside = is.whole k x h nth in
      let same = same_nth i root (start + k) (get_or part k 0) x (is.each k inside) nth in
      subst (λ y. (contains set k ≡ true) ↔ P y) same (s k inside)

  -- what is kept of a block selects among its places
  pub select_kept : (P : ℕ → Type 0) (set : FinSet nat_cmp) → IsKept i root start P set
      → Selects (length part) (λ k. P (get_or part k 0)) set
  select_kept P set kept k h = let few = is.few in kept k (get_or part k 0) (omega (arith, few, h)) (is.each k h)

  -- a member of a block reaches a category just as the root does
  pub reach_selected : (d : ℕ) (set : FinSet nat_cmp)
      → Selects (length part) (λ k. ReachesVia i (get_or part k 0) root d) set
      → Selects (length part) (λ k. ReachesCategory i (get_or part k 0) d) set
  reach_selected d set s k h =
      let r = reach_by_root i root d (get_or part k 0) (is.each k h).0 in
      let t = s k h in (λ e. r.0 (t.0 e), λ p. t.1 (r.1 p))

-- ---- paths

-- at a place that is left the path P goes on from `at` along the rest; at the others P is not so
pub record IsOnPath (i : Instance) (present : ℕ → Bool) (place : ℕ → ℕ) (P : Type 0) (left : Bool) (at : ℕ)
    (rest : List ℕ) : Type 0 where
  pub on : left ≡ true → IsFollowed i present place P at rest
  pub off : P → left ≡ true

module _ {i : Instance} {present : ℕ → Bool} {place : ℕ → ℕ} (s : IsShape i present place) {P : Type 0} {left : Bool}
    {at c : ℕ} {rest : List ℕ} (f : IsOnPath i present place P left at (c ∷ rest)) where
  -- one edge more
  pub on_path_more : (next : Bool) → (next ≡ true) ↔ ((left ≡ true) × HasEdgeThere i present place at c)
      → IsOnPath i present place P next c rest
  on_path_more next d = record {
    on = λ e. let both = d.0 e in follow_step s (f.on both.0) both.1;
    off = λ q.
        let l = f.off q in
        let w = f.on l in
        d.1 (l, (path_to i present place s at w.here c rest (w.to q)).0);
  }

-- at its end the path is there exactly at the places that are left
pub on_path_done : {i : Instance} {present : ℕ → Bool} {place : ℕ → ℕ} {P : Type 0} {left : Bool} {at : ℕ}
    {rest : List ℕ} → IsOnPath i present place P left at rest → rest ≡ [] → (left ≡ true) ↔ P
on_path_done f e = (λ l. (follow_done (f.on l) e).0 refl, λ q. f.off q)

-- at each place of a block the path goes on, or is no longer there
pub record IsAlong (i : Instance) (n : ℕ) (table : Table) (part : List ℕ) (path : List ℕ) (truths : FinSet nat_cmp)
    (at : ℕ) (rest : List ℕ) : Type 0 where
  pub each : (k : ℕ) → k < length part
      → IsOnPath i (is_present i n table (get_or part k 0)) (cell i n table (get_or part k 0))
      (HasPath i (get_or part k 0) path) (contains truths k) at rest

module _ (i : Instance) (n root start : ℕ) (table : Table) (part : List ℕ) (all : FinSet nat_cmp)
    (b : IsBlock i n table root start part all) where
  -- the row of a place is a shape
  above_at : (k : ℕ) → k < length part → IsAbove i n (get_or part k 0) table
  above_at k h = let m = (b.is_part.each k h).0 in
      record { inside = m.0; bounded = b.has_table.bounded; table = b.has_table.table }

  shape_at : (k : ℕ) → k < length part
      → IsShape i (is_present i n table (get_or part k 0)) (cell i n table (get_or part k 0))
  shape_at k h = above_shape i n (get_or part k 0) table (above_at k h)

  -- before the first edge
  pub along_start : (path : List ℕ) → IsAlong i n table part path all root path
  along_start path = record {
    each = λ k h.
        let m = (b.is_part.each k h).0 in
        let own = own_place i n (get_or part k 0) root table b.has_table.bounded b.has_table.table m.0 m.1 in
        record {
          on = λ e. record {
            here = own.0;
            to = λ q. subst (λ y. HasPath i y path) (sym own.1) q;
            from = λ q. subst (λ y. HasPath i y path) own.1 q;
          };
          off = λ q. has_all b k h;
        };
  }

  module _ {path : List ℕ} {truths : FinSet nat_cmp} {at : ℕ} where
    -- one edge more
    pub along_more : {c : ℕ} {rest : List ℕ} → IsAlong i n table part path truths at (c ∷ rest)
        → (next : FinSet nat_cmp)
        → Selects (length part) (λ k. (contains truths k ≡ true) × StepsVia i (get_or part k 0) at c) next
        → IsAlong i n table part path next c rest
    along_more {c} {rest} f next s = record {
      each = λ k h.
          let row = edge_by_row i n (get_or part k 0) table (above_at k h) at c in
          let t = s k h in
          on_path_more (shape_at k h) (f.each k h) (contains next k)
          (λ e. let q = t.0 e in (q.0, row.1 q.1), λ q. t.1 (q.0, row.0 q.1));
    }

    -- past the last
    pub along_done : {rest : List ℕ} → IsAlong i n table part path truths at rest → rest ≡ []
        → Selects (length part) (λ k. HasPath i (get_or part k 0) path) truths
    along_done f e k h = on_path_done (f.each k h) e
