-- Slots of categories, as they are given out.
use Rattle.std.proofs.Common.{◌≡◌, ◌≢◌, ℕ, ◌+◌, ◌*◌, ◌<◌, ◌≤◌, List, [], ◌∷◌, ◌++◌, length, get_or, set, ap, sym, subst, ◌∙◌, arith, length-append, get_or-set_same, get_or-set_other}
use Rattle.std.proofs.Math.{ListN.{get_or-append, length-set}, Nat.mul-le-mul_right}
use Rattle.std.{proofs.lemmas.List.{get_or-replicate, get_or_at, length-replicate}, specs.Prelude.replicate}
use Rattle.olap_base.specs.Graph.{Graph, CategoryReaches}
use Rattle.olap_legal.specs.Slots.{AreListed, IsListing, IsOrdered, IsSlots, no_slot, place}
use Rattle.olap_legal.specs.declared.slots.Slots.{Slots}
use native.Mathlib.Decide.{ℕ_discrete}

-- a place of an earlier row stands before the later row
pub earlier : (n k x d : ℕ) → x < k → d < n → x * n + d < k * n
earlier n k x d h l = let h' : x + 1 ≤ k = omega arith in let m : (x + 1) * n ≤ k * n =
    mul-le-mul_right n h' in omega (arith, m)

-- a row stands within a square
pub row_within : {n c base m : ℕ} → c < n → base ≡ c * n → m ≡ n * n → base + n ≤ m
row_within {n} {c} {base} {m} h e s = let k : (c + 1) * n ≤ n * n = mul-le-mul_right n (omega arith) in
    omega (arith, k, e, s)

-- ---- the slots of one category's

-- none yet
pub listing_none : (g : Graph) (c n base : ℕ) (slots order : List ℕ) → base + n ≤ length slots
    → ((k : ℕ) → base ≤ k → k < length slots → get_or slots k 0 ≡ no_slot) → IsListing g c n 0 0 base slots order
listing_none g c n base slots order room fresh = record {
  few = omega arith;
  listed = λ e h ne. absurd (ne (fresh (base + e) (omega arith) (omega (arith, h, room))));
  placed = λ k h. absurd (omega (arith, h));
  reached = λ e h. absurd (omega (arith, h));
  behind = λ k h l. fresh k (omega (arith, h)) l;
}

-- a category that isn't reached
pub listing_skip : {g : Graph} {c n d count base : ℕ} {slots order : List ℕ}
    → IsListing g c n d count base slots order → (CategoryReaches g c d → ⊥)
    → IsListing g c n (d + 1) count base slots order
listing_skip {g} {c} {n} {d} v apart = record {
  few = let f = v.few in omega (arith, f);
  listed = v.listed;
  placed = λ k h. let p = v.placed k h in let f = p.0 in (omega (arith, f), p.1);
  reached = λ e h r. elim (ℕ_discrete e d) [
    | yes q ↦ absurd (apart (subst (λ w. CategoryReaches g c w) q r))
    | no f ↦ let ne : e ≢ d = f in v.reached e (omega (arith, h)) r
  ];
  behind = λ k h l. v.behind k (omega (arith, h)) l;
}

module _ {g : Graph} {c n d count base : ℕ} {slots order : List ℕ} (v : IsListing g c n d count base slots order)
    (most : n ≤ 256) (h : d < n) (room : base + n ≤ length slots) (same : length order ≡ length slots) where
  slot_here : get_or (set slots (base + d) count) (base + d) 0 ≡ count
  slot_here = get_or-set_same slots (base + d) count 0 (omega arith)

  slot_other : (e : ℕ) → e ≢ d → get_or (set slots (base + d) count) (base + e) 0 ≡ get_or slots (base + e) 0
  slot_other e ne = get_or-set_other slots (base + d) (base + e) count 0 (λ q. ne (omega (arith, q)))

  order_here : get_or (set order (base + count) d) (base + count) 0 ≡ d
  order_here = let f = v.few in get_or-set_same order (base + count) d 0 (omega (arith, f))

  order_other : (k : ℕ) → k ≢ count → get_or (set order (base + count) d) (base + k) 0 ≡ get_or order (base + k) 0
  order_other k ne = get_or-set_other order (base + count) (base + k) d 0 (λ q. ne (omega (arith, q)))

  -- a category more
  pub listing_more : IsListing g c n (d + 1) (count + 1) base (set slots (base + d) count) (set order (base + count) d)
  listing_more =
      let after = set slots (base + d) count in
      let next = set order (base + count) d in
      record {
        few = let f = v.few in omega (arith, f);
        listed = λ e l ne. elim (ℕ_discrete e d) [
          | yes q ↦
              let new : (count < count + 1) × (get_or next (base + count) 0 ≡ d) = (omega arith, order_here) in
              subst
              (λ w. (get_or after (base + w) 0 < count + 1) × (get_or next (base + get_or after (base + w) 0) 0 ≡ w))
              (sym q) (subst (λ s. (s < count + 1) × (get_or next (base + s) 0 ≡ d)) (sym slot_here) new)
          | no f ↦
              let apart : e ≢ d = f in
              let s = slot_other e apart in
              let o = v.listed e l (λ q. ne (s ∙ q)) in
              let below = o.0 in
              let old : (get_or slots (base + e) 0 < count + 1)
              × (get_or next (base + get_or slots (base + e) 0) 0 ≡ e) = (
                omega (arith, below),
                order_other (get_or slots (base + e) 0) (omega (arith, below)) ∙ o.1,
              ) in
              subst (λ w. (w < count + 1) × (get_or next (base + w) 0 ≡ e)) (sym s) old
        ];
        placed = λ k l. elim (ℕ_discrete k count) [
          | yes q ↦
              let new : (d < d + 1) × (get_or after (base + d) 0 ≡ count) = (omega arith, slot_here) in
              subst (λ w. (get_or next (base + w) 0 < d + 1) × (get_or after (base + get_or next (base + w) 0) 0 ≡ w))
              (sym q) (subst (λ o. (o < d + 1) × (get_or after (base + o) 0 ≡ count)) (sym order_here) new)
          | no f ↦
              let apart : k ≢ count = f in
              let s = order_other k apart in
              let p = v.placed k (omega (arith, l)) in
              let below = p.0 in
              let o = get_or order (base + k) 0 in
              let old : (o < d + 1) × (get_or after (base + o) 0 ≡ k) =
              (omega (arith, below), slot_other o (omega (arith, below)) ∙ p.1) in
              subst (λ o. (o < d + 1) × (get_or after (base + o) 0 ≡ k)) (sym s) old
        ];
        reached = λ e l r. elim (ℕ_discrete e d) [
          | yes q ↦ subst (λ w. get_or after (base + w) 0 ≢ no_slot) (sym q) here
          | no f ↦
              let apart : e ≢ d = f in
              λ t. v.reached e (omega (arith, l)) r (sym (slot_other e apart) ∙ t)
        ];
        behind = λ k l m.
            get_or-set_other slots (base + d) k count 0 (omega (arith, l))
            ∙ v.behind k (omega (arith, l)) (subst (λ w. k < w) (length-set slots (base + d) count) m);
      }
    where
      here : get_or (set slots (base + d) count) (base + d) 0 ≢ no_slot
      here t = let u : count ≡ no_slot = sym slot_here ∙ t in let f = v.few in absurd (omega (arith, u, f))

-- ---- those of all

-- the same slots, told by other lists
ordered_same : (n count : ℕ) (slot order slot' order' : ℕ → ℕ) → IsOrdered n count slot order
    → ((d : ℕ) → d < n → slot' d ≡ slot d) → ((k : ℕ) → k < n → order' k ≡ order k) → IsOrdered n count slot' order'
ordered_same n count slot order slot' order' v s o = record {
  few = v.few;
  listed = λ d h ne.
      let t = v.listed d h (λ q. ne (s d h ∙ q)) in
      let below = t.0 in
      let f = v.few in
      let same = o (slot d) (omega (arith, below, f)) in
      subst (λ w. (w < count) × (order' w ≡ d)) (sym (s d h)) (t.0, same ∙ t.1);
  placed = λ k h.
      let p = v.placed k h in
      let f = v.few in
      let same = o k (omega (arith, h, f)) in
      subst (λ w. (w < n) × (slot' w ≡ k)) (sym same) (p.0, s (order k) p.0 ∙ p.1);
}

-- none yet
pub slots_none : (g : Graph) {n m : ℕ} {slots order counts : List ℕ} → slots ≡ replicate m no_slot
    → length order ≡ m → m ≡ n * n → counts ≡ [] → AreListed g n 0 slots order counts
slots_none g {n} {m} {slots} e o s none = record {
  slots_size = size ∙ s;
  order_size = o ∙ s;
  counts_size = ap length none;
  ordered = λ b h. absurd (omega (arith, h));
  reached = λ b d h. absurd (omega (arith, h));
  behind = λ k h l. ap (λ w. get_or w k 0) e ∙ get_or-replicate m k no_slot 0 (subst (λ w. k < w) size l);
}
  where
    size : length slots ≡ m
    size = ap length e ∙ length-replicate m no_slot

-- those of one category more
module _ {g : Graph} {n c count base : ℕ} {slots order counts after next : List ℕ} (few : n ≤ 256) (h : c < n)
    (v : AreListed g n c slots order counts) (at : base ≡ c * n) (size : length after ≡ length slots)
    (same : length next ≡ length order) (slots_kept : (k : ℕ) → k < base → get_or after k 0 ≡ get_or slots k 0)
    (order_kept : (k : ℕ) → k < base → get_or next k 0 ≡ get_or order k 0)
    (new : IsListing g c n n count base after next) where
  slot_kept : (b d : ℕ) → b < c → d < n → place n after b d ≡ place n slots b d
  slot_kept b d l m = slots_kept (b * n + d) (subst (λ k. b * n + d < k) (sym at) (earlier n c b d l m))

  last : IsListing g c n n count (c * n) after next
  last = subst (λ k. IsListing g c n n count k after next) at new

  ordered_last : IsOrdered n count (place n after c) (place n next c)
  ordered_last = record { few = last.few; listed = last.listed; placed = last.placed }

  pub slots_more : AreListed g n (c + 1) after next (counts ++ count ∷ [])
  slots_more = record {
    slots_size = size ∙ v.slots_size;
    order_size = same ∙ v.order_size;
    counts_size = let s = v.counts_size in omega (arith, length-append counts (count ∷ []), s);
    ordered = λ b l. elim (ℕ_discrete b c) [
      | yes q ↦
          let here : get_or (counts ++ count ∷ []) c 0 ≡ count = get_or_at counts count [] 0 c v.counts_size in
          subst (λ w. IsOrdered n (get_or (counts ++ count ∷ []) w 0) (place n after w) (place n next w)) (sym q)
          (subst (λ k. IsOrdered n k (place n after c) (place n next c)) (sym here) ordered_last)
      | no f ↦
          let apart : b ≢ c = f in
          let before : b < c = omega (arith, l) in
          let old = ordered_same n (get_or counts b 0) (place n slots b) (place n order b) (place n after b)
          (place n next b) (v.ordered b before) (λ d m. slot_kept b d before m)
          (λ d m. order_kept (b * n + d) (subst (λ k. b * n + d < k) (sym at) (earlier n c b d before m))) in
          let kept = get_or-append counts (count ∷ []) 0 b (let s = v.counts_size in omega (arith, before, s)) in
          subst (λ k. IsOrdered n k (place n after b) (place n next b)) (sym kept) old
    ];
    reached = λ b e l m r. elim (ℕ_discrete b c) [
      | yes q ↦
          subst (λ w. place n after w e ≢ no_slot) (sym q) (last.reached e m (subst (λ w. CategoryReaches g w e) q r))
      | no f ↦
          let apart : b ≢ c = f in
          let before : b < c = omega (arith, l) in
          λ t. v.reached b e before m r (sym (slot_kept b e before m) ∙ t)
    ];
    behind = λ k l m. last.behind k (omega (arith, l)) m;
  }

-- all of them
pub slots_done : (g : Graph) (n : ℕ) (s : Slots) → n ≤ 256
    → AreListed g n n s.slots.items s.order.items s.counts.items → IsSlots n s
slots_done g n s few v = record {
  few = few;
  slots = v.slots_size;
  order = v.order_size;
  counts = v.counts_size;
  ordered = v.ordered;
}
