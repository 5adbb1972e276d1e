-- Where the cells of the table stand, and what is read and written there.
use Rattle.std.proofs.Common.{◌≡◌, ◌≢◌, ℕ, ◌+◌, ◌<◌, ◌≤◌, ◌⊎◌, List, [], ◌∷◌, ◌++◌, length, get_or, ap, sym, subst, ◌∙◌, inl, inr, arith, length-append, eq-eqb}
use Rattle.std.proofs.{Math.ListN.get_or-append, lemmas.Bool.{cases_lt, cond-true, cond-false, ne_eqb}}
use Rattle.std.{proofs.lemmas.List.{get_or-replicate, get_or_at, get_or_default}, specs.Prelude.replicate}
use Rattle.olap_base.specs.{Graph.Graph, Instance.{Instance, category_of}}
use Rattle.olap_base.specs.Steps.{Steps-from_reaches, reaches_from_Steps}
use Rattle.olap_legal.proofs.{ParentLemmas.edges_along, SlotLemmas.slots_done, TableLemmas.reached_inside}
use Rattle.olap_legal.specs.{Joining.IsEither, Laying.{AreStarts, IsLaid, cell}, Rows.{none, IsBounded, AreLinked}}
use Rattle.olap_legal.specs.Slots.{AreListed, IsOrdered, IsSlots, count_of, no_slot, order_of, slot_of}
use Rattle.olap_legal.specs.declared.{slots.Slots.Slots, tables.Table.Table}
use native.Mathlib.Decide.{ℕ_discrete}

-- ---- where rows begin

-- no row yet
pub starts_none : (i : Instance) (s : Slots) {starts : List ℕ} → starts ≡ [] → AreStarts i s 0 starts 0
starts_none i s e = record {
  size = ap length e;
  room = λ x h. absurd (omega (arith, h));
  apart = λ x z h l. absurd (omega (arith, l));
  few = omega arith;
}

-- one row more
pub starts_more : {i : Instance} {s : Slots} {m end : ℕ} {starts : List ℕ} (k : ℕ) → AreStarts i s m starts end
    → k ≡ count_of s (category_of i m) → k ≤ 256 → AreStarts i s (m + 1) (starts ++ end ∷ []) (end + k)
starts_more {i} {s} {m} {end} {starts} k v e few = record {
  size = let t = v.size in omega (arith, length-append starts (end ∷ []), t);
  room = λ x h. elim (ℕ_discrete x m) [
    | yes q ↦ subst (λ w. get_or after w 0 + count_of s (category_of i w) ≤ end + k) (sym q) (omega (arith, last, e))
    | no f ↦
        let apart : x ≢ m = f in
        let before : x < m = omega (arith, h) in
        let r = v.room x before in
        let same = kept x before in
        omega (arith, r, same)
  ];
  apart = λ x z l h. elim (ℕ_discrete z m) [
    | yes q ↦
        let before : x < m = omega (arith, l, q) in
        let r = v.room x before in
        let same = kept x before in
        subst (λ w. get_or after x 0 + count_of s (category_of i x) ≤ get_or after w 0) (sym q)
        (omega (arith, r, same, last))
    | no f ↦
        let apart : z ≢ m = f in
        let inside : z < m = omega (arith, h) in
        let before : x < m = omega (arith, l, inside) in
        let r = v.apart x z l inside in
        let same = kept x before in
        let there = kept z inside in
        omega (arith, r, same, there)
  ];
  few = let f = v.few in omega (arith, f);
}
  where
    after : List ℕ
    after = starts ++ end ∷ []

    last : get_or (starts ++ end ∷ []) m 0 ≡ end
    last = get_or_at starts end [] 0 m v.size

    kept : (x : ℕ) → x < m → get_or (starts ++ end ∷ []) x 0 ≡ get_or starts x 0
    kept x h = get_or-append starts (end ∷ []) 0 x (let t = v.size in omega (arith, h, t))

-- ---- a table in which nothing stands

-- each member has room for what it reaches
pub table_laid : {g : Graph} {i : Instance} {n end : ℕ} (t : Table) → n ≤ 256 → IsBounded i n → AreLinked g i
    → AreListed g n n t.slots.slots.items t.slots.order.items t.slots.counts.items
    → AreStarts i t.slots (length i) t.starts.items end → length t.cells.items ≡ end → IsLaid i n t
table_laid {g} {i} {n} t few bounded linked listed starts e = record {
  categories = bounded.categories;
  slots = slots_done g n t.slots few listed;
  starts = subst (λ k. AreStarts i t.slots (length i) t.starts.items k) (sym e) starts;
  reached = λ x y h r.
      let steps = Steps-from_reaches r in
      let inside = reached_inside i bounded.places steps h in
      listed.reached (category_of i x) (category_of i y) (bounded.categories x h) (bounded.categories y inside)
      (reaches_from_Steps (edges_along g i linked steps));
}

module _ {i : Instance} {n x : ℕ} (t : Table) (v : IsLaid i n t) (h : x < length i) where
  row_ordered : IsOrdered n (count_of t.slots (category_of i x)) (slot_of n t.slots (category_of i x))
      (order_of n t.slots (category_of i x))
  row_ordered = v.slots.ordered (category_of i x) (v.categories x h)

  -- a slot's cell is one of the table
  pub slot_room : (d : ℕ) → d < n → slot_of n t.slots (category_of i x) d ≢ no_slot
      → get_or t.starts.items x 0 + slot_of n t.slots (category_of i x) d < length t.cells.items
  slot_room d l ne =
      let o = row_ordered.listed d l ne in
      let below = o.0 in
      let r = v.starts.room x h in
      omega (arith, below, r)

  -- if there is no slot nothing stands
  pub cell_absent : (d : ℕ) → slot_of n t.slots (category_of i x) d ≡ no_slot → cell i n t x d ≡ none
  unfolding cell
  cell_absent d e = cond-true _ _ _ (eq-eqb (slot_of n t.slots (category_of i x) d) no_slot e)

  -- else what stands in the slot
  pub cell_present : (d : ℕ) → slot_of n t.slots (category_of i x) d ≢ no_slot
      → cell i n t x d ≡ get_or t.cells.items (get_or t.starts.items x 0 + slot_of n t.slots (category_of i x) d) 0
  unfolding cell
  cell_present d ne = cond-false _ _ _ (ne_eqb (slot_of n t.slots (category_of i x) d) no_slot ne)

  -- where the row begins, as it is read
  pub start_read : {start : ℕ} → start ≡ get_or t.starts.items x start → start ≡ get_or t.starts.items x 0
  start_read {start} e =
      e ∙ get_or_default t.starts.items x start 0 (subst (λ w. x < w) (sym v.starts.size) h)

  -- what is read in a slot
  pub cell_read : {d c slot start place r : ℕ} → d < n → c ≡ category_of i x → slot_of n t.slots c d ≡ slot
      → slot ≢ no_slot → start ≡ get_or t.starts.items x start → place ≡ slot
      → r ≡ get_or t.cells.items (start + place) r → r ≡ cell i n t x d
  cell_read {d} {c} {slot} {start} {place} {r} l e s ne b p q =
      let mine : slot_of n t.slots (category_of i x) d ≡ slot = ap (λ w. slot_of n t.slots w d) (sym e) ∙ s in
      let there : slot_of n t.slots (category_of i x) d ≢ no_slot = λ w. ne (sym mine ∙ w) in
      let first = start_read b in
      let same = p ∙ sym mine in
      let at : start + place ≡ get_or t.starts.items x 0 + slot_of n t.slots (category_of i x) d =
      λ j. first j + same j in
      let room : start + place < length t.cells.items =
      subst (λ w. w < length t.cells.items) (sym at) (slot_room d l there) in
      q ∙ get_or_default t.cells.items (start + place) r 0 room ∙ ap (λ w. get_or t.cells.items w 0) at
      ∙ sym (cell_present d there)

  -- of cells that are all empty each is
  pub cell_empty : (m d : ℕ) → t.cells.items ≡ replicate m none → length t.cells.items ≡ m → d < n
      → cell i n t x d ≡ none
  cell_empty m d e size l =
      let slot = slot_of n t.slots (category_of i x) d in
      elim (ℕ_discrete slot no_slot) [
        | yes q ↦ cell_absent d q
        | no f ↦
            let room = slot_room d l f in
            let k = get_or t.starts.items x 0 + slot in
            cell_present d f ∙ ap (λ w. get_or w k 0) e
            ∙ get_or-replicate m k none 0 (subst (λ w. k < w) size room)
      ]

  -- nothing joined is the same
  either_none : (one here other : ℕ) → here ≡ one → other ≡ none → IsEither one other here
  either_none one here other e q = λ y ne. (
    λ s. inl (sym e ∙ s),
    λ w. elim w [ inl a ↦ e ∙ a | inr b ↦ absurd (ne (sym b ∙ q)) ],
  )

  module _ (reached : List ℕ) (size : length reached ≡ count_of t.slots (category_of i x))
      (each : (k : ℕ) → k < length reached → get_or reached k 0 ≡ order_of n t.slots (category_of i x) k) where
    -- a category with a slot is that slot's
    slot_in : (d : ℕ) → d < n → slot_of n t.slots (category_of i x) d ≢ no_slot
        → (slot_of n t.slots (category_of i x) d < length reached)
        × (get_or reached (slot_of n t.slots (category_of i x) d) 0 ≡ d)
    slot_in d l ne =
        let o = row_ordered.listed d l ne in
        let slot = slot_of n t.slots (category_of i x) d in
        let inside : slot < length reached = subst (λ w. slot < w) (sym size) o.0 in
        (inside, each slot inside ∙ o.1)

    -- a category without is none of those in slots
    slot_out : (d : ℕ) → slot_of n t.slots (category_of i x) d ≡ no_slot → (k : ℕ) → k < length reached
        → get_or reached k 0 ≢ d
    slot_out d e k a q =
        let p = row_ordered.placed k (subst (λ w. k < w) size a) in
        let same : k ≡ no_slot = sym p.1 ∙ ap (slot_of n t.slots (category_of i x)) (sym (each k a) ∙ q) ∙ e in
        let few = row_ordered.few in
        let most = v.slots.few in
        absurd (omega (arith, same, few, most, a, size))

    -- each place of the row has what stands there in either
    pub row_joined : (cells row after : List ℕ)
        → ((k : ℕ) → k < length reached → get_or cells k 0 ≡ get_or t.cells.items (get_or t.starts.items x 0 + k) 0)
        → ((k : ℕ) → k < length reached
        → IsEither (get_or row (get_or reached k 0) 0) (get_or cells k 0) (get_or after (get_or reached k 0) 0))
        → ((d : ℕ) → ((k : ℕ) → k < length reached → get_or reached k 0 ≢ d) → get_or after d 0 ≡ get_or row d 0)
        → (d : ℕ) → d < n → IsEither (get_or row d 0) (cell i n t x d) (get_or after d 0)
    row_joined cells row after read joined others d l =
        let slot = slot_of n t.slots (category_of i x) d in
        elim (ℕ_discrete slot no_slot) [
          | yes q ↦
              let kept = others d (slot_out d q) in
              either_none (get_or row d 0) (get_or after d 0) (cell i n t x d) kept (cell_absent d q)
          | no f ↦
              let s = slot_in d l f in
              let stands : get_or cells slot 0 ≡ cell i n t x d = read slot s.0 ∙ sym (cell_present d f) in
              subst (λ w. IsEither (get_or row d 0) w (get_or after d 0)) stands
              (subst (λ w. IsEither (get_or row w 0) (get_or cells slot 0) (get_or after w 0)) s.1 (joined slot s.0))
        ]

    -- what is written at the slots is the row, if it stands empty elsewhere
    pub row_written : (row : List ℕ)
        → ((d : ℕ) → d < n → get_or row d 0 ≢ none → slot_of n t.slots (category_of i x) d ≢ no_slot)
        → ((k : ℕ) → k < length reached
        → get_or t.cells.items (get_or t.starts.items x 0 + k) 0 ≡ get_or row (get_or reached k 0) 0)
        → (d : ℕ) → d < n → cell i n t x d ≡ get_or row d 0
    row_written row fits written d l =
        let slot = slot_of n t.slots (category_of i x) d in
        elim (ℕ_discrete slot no_slot) [
          | yes q ↦ cell_absent d q ∙ empty q
          | no f ↦
              let s = slot_in d l f in
              cell_present d f ∙ written slot s.0 ∙ ap (λ w. get_or row w 0) s.1
        ]
      where
        empty : slot_of n t.slots (category_of i x) d ≡ no_slot → none ≡ get_or row d 0
        empty q = elim (ℕ_discrete (get_or row d 0) none) [ yes e ↦ sym e | no f ↦ absurd (fits d l f q) ]

-- ---- another row is written

-- the table is laid out as before
pub laid_same : {i : Instance} {n : ℕ} (t after : Table) → IsLaid i n t → after.slots ≡ t.slots
    → after.starts.items ≡ t.starts.items → length after.cells.items ≡ length t.cells.items → IsLaid i n after
laid_same {i} {n} t after v s b e = record {
  categories = v.categories;
  slots = subst (λ w. IsSlots n w) (sym s) v.slots;
  starts = subst (λ w. AreStarts i w (length i) after.starts.items (length after.cells.items)) (sym s)
      (subst (λ l. AreStarts i t.slots (length i) l (length after.cells.items)) (sym b)
      (subst (λ k. AreStarts i t.slots (length i) t.starts.items k) (sym e) v.starts));
  reached = λ x y h r.
      subst (λ w. slot_of n w (category_of i x) (category_of i y) ≢ no_slot) (sym s) (v.reached x y h r);
}

-- and the other rows have what they had
pub cell_other : {i : Instance} {n x : ℕ} (t after : Table) → IsLaid i n t → x < length i → after.slots ≡ t.slots
    → after.starts.items ≡ t.starts.items → length after.cells.items ≡ length t.cells.items
    → ((k : ℕ) → k < get_or t.starts.items x 0 → get_or after.cells.items k 0 ≡ get_or t.cells.items k 0)
    → ((k : ℕ) → get_or t.starts.items x 0 + count_of t.slots (category_of i x) ≤ k
    → get_or after.cells.items k 0 ≡ get_or t.cells.items k 0)
    → (z d : ℕ) → z < length i → z ≢ x → d < n → cell i n after z d ≡ cell i n t z d
cell_other {i} {n} {x} t after v h s b e before behind z d l apart m =
    let slot = slot_of n t.slots (category_of i z) d in
    let same : slot_of n after.slots (category_of i z) d ≡ slot = ap (λ w. slot_of n w (category_of i z) d) s in
    let w = laid_same t after v s b e in
    elim (ℕ_discrete slot no_slot) [
      | yes q ↦ cell_absent after w l d (same ∙ q) ∙ sym (cell_absent t v l d q)
      | no f ↦
          let start = get_or t.starts.items z 0 in
          let there : get_or after.starts.items z 0 + slot_of n after.slots (category_of i z) d ≡ start + slot =
          ap (λ k. k + slot_of n after.slots (category_of i z) d) (ap (λ k. get_or k z 0) b)
          ∙ ap (λ k. start + k) same in
          cell_present after w l d (λ q. f (sym same ∙ q)) ∙ ap (λ k. get_or after.cells.items k 0) there
          ∙ kept (start + slot) (apart_from f) ∙ sym (cell_present t v l d f)
    ]
  where
    kept : (k : ℕ) → (k < get_or t.starts.items x 0)
        ⊎ (get_or t.starts.items x 0 + count_of t.slots (category_of i x) ≤ k)
        → get_or after.cells.items k 0 ≡ get_or t.cells.items k 0
    kept k w = elim w [ inl a ↦ before k a | inr a ↦ behind k a ]

    apart_from : slot_of n t.slots (category_of i z) d ≢ no_slot
        → (get_or t.starts.items z 0 + slot_of n t.slots (category_of i z) d < get_or t.starts.items x 0)
        ⊎ (get_or t.starts.items x 0 + count_of t.slots (category_of i x)
        ≤ get_or t.starts.items z 0 + slot_of n t.slots (category_of i z) d)
    apart_from f =
        let o = ((v.slots.ordered (category_of i z) (v.categories z l)).listed d m f).0 in
        elim (cases_lt z x) [
          | inl lt ↦ let a = v.starts.apart z x lt h in inl (omega (arith, a, o))
          | inr le ↦ let a = v.starts.apart x z (omega (arith, le, apart)) l in inr (omega (arith, a))
        ]
