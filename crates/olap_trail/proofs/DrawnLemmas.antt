-- A drawing with one edge more, without its last one, and whether an edge is bypassed.
use Rattle.std.proofs.Common.{◌≡◌, ◌≢◌, ◌↔◌, ◌⊎◌, ◌+◌, ◌-◌, ◌<◌, ◌≤◌, ◌++◌, ◌∷◌, ◌∙◌, [], ℕ, List, Vec, Global, Bool, length, get_or, map, set, ap, arith}
use Rattle.std.{proofs.lemmas.List.{length-map, length_push, map_push}, specs.FinSet.{FinSet, insert, remove}}
use Rattle.std.specs.{Ordering.nat_cmp, Prelude.{Contains, IsTrue, vec_capacity}}
use Rattle.olap_bits.specs.{Sets.members, declared.sets.CatSet.CatSet}
use Rattle.olap_graph.{proofs.RowLemmas.row_read, specs.Rows.row}
use Rattle.olap_trail.proofs.StageLemmas.{AreCopied}
use Rattle.olap_trail.proofs.TableLemmas.{beyond_more, beyond_read, bypassed_is, next_now, next_read, tables_filled, tables_push}
use Rattle.olap_trail.proofs.{TakingLemmas.{last_within, place_back, tables_pop}, WalkLemmas.more}
use Rattle.olap_trail.specs.Drawing.{Drawing, IsAbove, IsBypassed, IsCyclic, IsGrown, IsIn, edge_of}
use Rattle.olap_trail.specs.{Drawn.{AreTables, IsDrawn, drawing}, declared.drawing.Drawn.TheInside.Inside}
use Rattle.olap_trail.specs.declared.drawing.Ends.{Ends}

module _ {W : ℕ} (a : Inside W) (t : IsDrawn a) {v : Drawing} (is : drawing a ≡ v) (e : Ends) (through : FinSet nat_cmp)
    (above : IsAbove v.edges e.parent.0 through) where
  -- a common number of where an edge's parent leads and of the parents of its child is a bypass
  pub bypassed_here : (x z i j : ℕ) (old own : CatSet W) (beyond next : FinSet nat_cmp) (b : Bool) → x < v.count
      → z < v.count → j ≡ z → old ≡ get_or a.rows.items (a.place + j) old
      → IsGrown (members old) z e.child.0 through beyond → i ≡ x → own ≡ get_or a.parents.items i own
      → ((x ≡ e.child.0) × (next ≡ insert (members own) e.parent.0)) ⊎ ((x ≢ e.child.0) × (next ≡ members own))
      → IsTrue b ↔ ((d : ℕ) × IsIn beyond d × IsIn next d) → IsTrue b ↔ IsBypassed (v.edges ++ edge_of e ∷ []) x z
  bypassed_here x z i j old own beyond next b child parent at_row read grown at_next read_next is_next m =
      let es = map edge_of a.edges.items in
      let k = rw (← is) at child in
      let l = rw (← is) at parent in
      let up = beyond_read t z (a.place + j) old l (ap (λ y. a.place + y) at_row) read in
      let u = beyond_more es e.child.0 e.parent.0 z (members old) through beyond up (rw (← is) at above) grown in
      let n = next_now es e.child.0 e.parent.0 x (members own) next (next_read t x i own k at_next read_next) is_next in
      rw (← is) (bypassed_is (more es e.child.0 e.parent.0) x z beyond next b u n m)

  -- the tables with the edge
  pub drawn_push : (filled : Vec (CatSet W) Global) (rows : List (CatSet W)) (edges : Vec Ends Global)
      (count i stage : ℕ) (old r : CatSet W) (closes : Bool) → e.child.0 < v.count → e.parent.0 < v.count
      → length v.edges + 1 < v.room → (Contains v.edges (edge_of e) → ⊥)
      → IsTrue closes ↔ IsCyclic (v.edges ++ edge_of e ∷ []) → count ≡ length a.parents.items
      → a.place + count + count ≤ length filled.items → vec_capacity a.rows ≤ vec_capacity filled
      → ((k : ℕ) → row filled.items k ≡ row a.rows.items k)
      → AreCopied filled.items rows a.place count e.child.0 through count → i ≡ e.child.0
      → old ≡ get_or a.parents.items i old → members r ≡ insert (members old) e.parent.0
      → edges.items ≡ a.edges.items ++ e ∷ [] → vec_capacity a.edges ≤ vec_capacity edges
      → stage ≡ length edges.items
      → AreTables (vec_capacity edges) (vec_capacity filled) (map edge_of edges.items) (a.place + count) rows
      (set a.parents.items i r) (set a.cycles.items stage closes)
  drawn_push filled rows edges count i stage old r closes child parent room new cyclic size enough capacity same copied
      at read own grown reserved next =
      let k = rw (← is) at child in
      let at_row = row_read a.parents.items i old (omega (arith, k, at)) read ∙ ap (row a.parents.items) at in
      let fits : a.place + length a.parents.items + length a.parents.items ≤ length filled.items =
      omega (arith, enough, size) in
      let n = length-map a.edges.items edge_of in
      let l = ap length grown ∙ length_push a.edges.items e in
      rw (ap (map edge_of) grown ∙ map_push edge_of a.edges.items e, at) (
      tables_push (tables_filled t (vec_capacity filled) filled.items capacity (omega (arith, fits)) same)
      e.child.0 e.parent.0 (vec_capacity edges) (a.place + count) stage rows r closes through k
      (rw (← is) at parent) (rw (← is) at room) (rw (← is) at new) (omega (arith, t.reserved, reserved)) fits
      (ap (λ j. a.place + j) size) (omega (arith, next, l, n)) (rw size at copied) (rw (← is) at above)
      (own ∙ ap (λ s. insert s e.parent.0) at_row) (rw (← is) at cyclic))

-- the last edge, and those before it
module _ {W : ℕ} (a : Inside W) (t : IsDrawn a) (rest : Vec Ends Global) (e : Ends)
    (is : a.edges.items ≡ rest.items ++ e ∷ []) where
  -- the tables are those of the edges before it and of it
  all_drawn : AreTables (vec_capacity a.edges) (vec_capacity a.rows)
      (more (map edge_of rest.items) e.child.0 e.parent.0) a.place a.rows.items a.parents.items a.cycles.items
  all_drawn = rw (ap (map edge_of) is ∙ map_push edge_of rest.items e) at t

  -- its ends are categories
  pub ends_within : (e.child.0 < length a.parents.items) × (e.parent.0 < length a.parents.items)
  ends_within = last_within (map edge_of rest.items) e.child.0 e.parent.0 all_drawn

  -- the tables without it
  pub drawn_pop : (i count : ℕ) (old r : CatSet W) → vec_capacity rest ≡ vec_capacity a.edges → i ≡ e.child.0
      → count ≡ length a.parents.items → old ≡ get_or a.parents.items i old
      → members r ≡ remove (members old) e.parent.0
      → AreTables (vec_capacity rest) (vec_capacity a.rows) (map edge_of rest.items) (a.place - count) a.rows.items
      (set a.parents.items i r) a.cycles.items
  drawn_pop i count old r reserved at size read own =
      let w = ends_within in
      let at_row = row_read a.parents.items i old (omega (arith, w.0, at)) read ∙ ap (row a.parents.items) at in
      rw at (tables_pop (map edge_of rest.items) e.child.0 e.parent.0 all_drawn (vec_capacity rest) (a.place - count) r
      (omega (arith, reserved, t.reserved))
      (place_back (map edge_of rest.items) e.child.0 e.parent.0 all_drawn count size)
      (own ∙ ap (λ s. remove s e.parent.0) at_row))
