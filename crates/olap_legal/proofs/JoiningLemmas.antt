-- Rows that are joined, and the table that they make.
use Rattle.std.proofs.Common.{◌≡◌, ◌≢◌, ℕ, zero, suc, ◌+◌, ◌<◌, ◌≤◌, List, [], ◌∷◌, ◌++◌, Bool, true, false, length, get_or, set, take, refl, ap, sym, subst, ◌∙◌, inl, inr, arith, length-append, get_or-set_same, get_or-set_other}
use Rattle.std.proofs.{Math.ListN.length-set, lemmas.List.{length-replicate, length-take, get_or-replicate}}
use Rattle.std.proofs.lemmas.List.Elements.{Contains-append_left, Contains-push_cases}
use Rattle.std.specs.Prelude.{Contains, replicate}
use Rattle.olap_base.proofs.ListLemmas.{Contains-nil}
use Rattle.olap_base.specs.{Instance.{Instance, IsBelow, Reaches, category_of, parents_of}, Reaching.reaches_is}
use Rattle.olap_base.specs.Steps.{Steps, Steps.here, Steps.step, Steps-from_reaches, reaches_from_Steps}
use Rattle.olap_graph.{proofs.MarkLemmas.{take_cases, take_before, take_last}, specs.Marking.unmarked_count}
use Rattle.olap_graph.specs.Tables.{IsMarked}
use Rattle.olap_legal.proofs.RisingLemmas.{same_in, kept_in, from_in, own_set, take_within}
use Rattle.olap_legal.specs.Joining.{AreJoined, AreMembers, AreRows, HasRow, IsEither, IsJoin, left}
use Rattle.olap_legal.specs.{Laying.{AreDistinct, IsLaid, cell}, Marks.IsMarking, Rows.{none, IsBounded, IsIn, IsRise}}
use Rattle.olap_legal.specs.{Slots.{no_slot, slot_of}, Tables.IsTable, declared.tables.Table.Table}
use native.Mathlib.Decide.{ℕ_discrete}

-- ---- one place

module _ (one cells row reached : List ℕ) (k y : ℕ) (distinct : AreDistinct reached) (h : k < length reached)
    (room : get_or reached k 0 < length row)
    (joined : (j : ℕ) → j < k
    → IsEither (get_or one (get_or reached j 0) 0) (get_or cells j 0) (get_or row (get_or reached j 0) 0))
    (others : (d : ℕ) → ((j : ℕ) → j < k → get_or reached j 0 ≢ d) → get_or row d 0 ≡ get_or one d 0) where
  -- an earlier place is another one
  apart : (j : ℕ) → j < k → get_or reached j 0 ≢ get_or reached k 0
  apart j l q = let same : j ≡ k = distinct j k (omega (arith, l, h)) h q in absurd (omega (arith, l, same))

  -- one place more is joined
  pub join_more : IsEither (get_or row (get_or reached k 0) 0) (get_or cells k 0) y → (j : ℕ) → j < k + 1
      → IsEither (get_or one (get_or reached j 0) 0) (get_or cells j 0)
      (get_or (set row (get_or reached k 0) y) (get_or reached j 0) 0)
  join_more e j l = elim (ℕ_discrete j k) [
    | yes q ↦
        let d = get_or reached k 0 in
        let stands = get_or-set_same row d y 0 room in
        let here = subst (λ w. IsEither (get_or row d 0) (get_or cells k 0) w) (sym stands) e in
        subst (λ m. IsEither (get_or one (get_or reached m 0) 0) (get_or cells m 0)
        (get_or (set row d y) (get_or reached m 0) 0)) (sym q)
        (subst (λ w. IsEither w (get_or cells k 0) (get_or (set row d y) d 0)) (others d apart) here)
    | no f ↦
        let ne : j ≢ k = f in
        let before : j < k = omega (arith, l) in
        let kept = get_or-set_other row (get_or reached k 0) (get_or reached j 0) y 0 (apart j before) in
        subst (λ w. IsEither (get_or one (get_or reached j 0) 0) (get_or cells j 0) w) (sym kept) (joined j before)
  ]

  -- and the others are as they were
  pub join_others : (d : ℕ) → ((j : ℕ) → j < k + 1 → get_or reached j 0 ≢ d)
      → get_or (set row (get_or reached k 0) y) d 0 ≡ get_or one d 0
  join_others d ne =
      get_or-set_other row (get_or reached k 0) d y 0 (λ q. ne k (omega arith) (sym q))
      ∙ others d (λ j l. ne j (omega (arith, l)))

-- one place more is written
pub write_more : (cells row reached : List ℕ) (start k : ℕ) → start + k < length cells
    → ((j : ℕ) → j < k → get_or cells (start + j) 0 ≡ get_or row (get_or reached j 0) 0) → (j : ℕ) → j < k + 1
    → get_or (set cells (start + k) (get_or row (get_or reached k 0) 0)) (start + j) 0
    ≡ get_or row (get_or reached j 0) 0
write_more cells row reached start k room below j l =
    let y = get_or row (get_or reached k 0) 0 in
    elim (ℕ_discrete j k) [
      | yes q ↦
          subst (λ m. get_or (set cells (start + k) y) (start + m) 0 ≡ get_or row (get_or reached m 0) 0) (sym q)
          (get_or-set_same cells (start + k) y 0 room)
      | no f ↦
          let ne : j ≢ k = f in
          get_or-set_other cells (start + k) (start + j) y 0 (λ q. ne (omega (arith, q))) ∙ below j (omega (arith, l))
    ]

-- ---- a row for the first few parents

-- for none of them: nothing stands there
pub joined_none : {i : Instance} {n : ℕ} {row : List ℕ} → IsBounded i n → row ≡ replicate n none → AreJoined i [] row
joined_none {i} {n} {row} bounded e =
    let size : length row ≡ n = ap length e ∙ length-replicate n none in
    let empty : (d : ℕ) → d < length row → get_or row d 0 ≡ none =
    λ d h. ap (λ r. get_or r d 0) e ∙ get_or-replicate n d none 0 (subst (λ k. d < k) size h) in
    record {
      own = record { own = λ d h ne. absurd (ne (empty d h)) };
      exact = λ y h. (
        λ m. absurd (far y h
            (sym m ∙ empty (category_of i y) (subst (λ k. category_of i y < k) (sym size) (bounded.categories y h)))),
        λ w. absurd (Contains-nil w.0 w.1),
      );
    }
  where
    far : (y : ℕ) → y < length i → y ≡ none → ⊥
    far y h t = absurd (let f = bounded.few in omega arith)

-- for one more
pub joined_more : {i : Instance} {n : ℕ} {row other after : List ℕ} (ps : List ℕ) (k : ℕ) → IsBounded i n
    → k < length ps → length row ≡ n → IsRise i n (get_or ps k 0) other → IsJoin row other after
    → AreJoined i (take k ps) row → AreJoined i (take (k + 1) ps) after
joined_more {i} {n} {row} {other} {after} ps k bounded h size above j v = record {
  own = record {
    own = λ d l ne.
        let inside : d < length row = subst (λ m. d < m) j.same_length l in
        elim ((j.exact d inside (get_or after d 0) ne).0 refl) [
          | inl a ↦
              let t = v.own.own d inside (λ q. ne (sym a ∙ q)) in
              (subst (λ y. y < length i) a t.0, ap (category_of i) (sym a) ∙ t.1)
          | inr b ↦
              let room : d < length other = subst (λ m. d < m) (size ∙ sym above.same_length) inside in
              let t = above.own.own d room (λ q. ne (sym b ∙ q)) in
              (subst (λ y. y < length i) b t.0, ap (category_of i) (sym b) ∙ t.1)
        ];
  };
  exact = λ y l.
      let room : category_of i y < length row =
      subst (λ m. category_of i y < m) (sym size) (bounded.categories y l) in
      let here = j.exact (category_of i y) room y (far y l) in (
        λ m. elim (here.0 m) [
          | inl a ↦ let t = (v.exact y l).0 a in (t.0, take_before ps k t.0 h t.1, t.2)
          | inr b ↦ (get_or ps k 0, take_last ps k h, (above.exact y l).0 b)
        ],
        λ w. here.1
            (elim (take_cases ps k w.0 h w.1) [
              | inl b ↦ inl ((v.exact y l).1 (w.0, b, w.2))
              | inr e ↦ inr ((above.exact y l).1 (subst (λ p. Reaches i p y) (sym e) w.2))
            ]),
      );
}
  where
    far : (y : ℕ) → y < length i → y ≢ none
    far y l t = absurd (let f = bounded.few in omega arith)

-- what is reached by some steps is the start, or reached from a parent
first_step : (i : Instance) {z y : ℕ} (P : ℕ → Type 0) → P z
    → ((b : ℕ) → IsBelow i z b → Steps (IsBelow i) b y → P y) → Steps (IsBelow i) z y → P y
first_step i P p q here = p
first_step i P p q (step {y = b} r s) = q b r s

-- for all of them, with z in its own place
pub joined_rise : {i : Instance} {n z : ℕ} {row : List ℕ} → IsBounded i n → z < length i → length row ≡ n
    → AreJoined i (parents_of i z) row → get_or row (category_of i z) 0 ≡ none
    → IsRise i n z (set row (category_of i z) z)
joined_rise {i} {n} {z} {row} bounded inside size v free =
    let few = bounded.few in
    let room : category_of i z < length row =
    subst (λ m. category_of i z < m) (sym size) (bounded.categories z inside) in
    record {
      same_length = length-set row (category_of i z) z ∙ size;
      own = own_set i row z few inside room v.own;
      exact = λ y h. (
        λ m. elim (from_in i row z few inside room y m) [
          | inl a ↦ let t = (v.exact y h).0 a in reaches_from_Steps (step t.1 (Steps-from_reaches t.2))
          | inr e ↦ inl (sym e)
        ],
        λ r. first_step i (λ w. w < length i → IsIn i (set row (category_of i z) z) w)
            (λ _. same_in i row z few inside room)
            (λ b q s l. kept_in i row z few inside room free y l ((v.exact y l).1 (b, q, reaches_from_Steps s)))
            (Steps-from_reaches r) h,
      );
    }

-- ---- rows in the table

-- no row yet
pub rows_start : {i : Instance} {n : ℕ} {table : Table} → IsLaid i n table
    → ((x d : ℕ) → x < length i → d < n → cell i n table x d ≡ none) → AreRows i n table
rows_start {i} laid empty = record {
  laid = laid;
  each = λ x h p. absurd (p (empty x (category_of i x) h (laid.categories x h)));
}

-- what is joined of a row in the table
pub row_join : {i : Instance} {n p : ℕ} {table : Table} {row after : List ℕ} (r : HasRow i n p table) → length row ≡ n
    → length after ≡ length row
    → ((d : ℕ) → d < n → IsEither (get_or row d 0) (cell i n table p d) (get_or after d 0)) → IsJoin row r.row after
row_join {n = n} {row = row} {after = after} r size same each = record {
  same_length = same;
  exact = λ d h.
      let l : d < n = subst (λ w. d < w) size h in
      subst (λ w. IsEither (get_or row d 0) w (get_or after d 0)) (r.stands d l) (each d l);
}

-- a member's row stands empty where it has no cell
pub row_fits : {i : Instance} {n x : ℕ} {table : Table} {row : List ℕ} → IsLaid i n table → x < length i
    → IsRise i n x row → (d : ℕ) → d < n → get_or row d 0 ≢ none
    → slot_of n table.slots (category_of i x) d ≢ no_slot
row_fits {i} {n} {x} {table} {row} laid h r d l ne =
    let o = r.own.own d (subst (λ w. d < w) (sym r.same_length) l) ne in
    let y = get_or row d 0 in
    let stands : get_or row (category_of i y) 0 ≡ y = ap (λ w. get_or row w 0) o.1 in
    subst (λ w. slot_of n table.slots (category_of i x) w ≢ no_slot) o.1
    (laid.reached x y h ((r.exact y o.0).0 stands))

-- one row more
pub row_put : {i : Instance} {n z : ℕ} {table after : Table} {row : List ℕ} → IsBounded i n → AreRows i n table
    → IsRise i n z row → IsLaid i n after → ((d : ℕ) → d < n → cell i n after z d ≡ get_or row d 0)
    → ((x d : ℕ) → x < length i → x ≢ z → d < n → cell i n after x d ≡ cell i n table x d) → AreRows i n after
row_put {i} {n} {z} {table} {after} {row} bounded rows rise laid own others = record {
  laid = laid;
  each = λ x h m. elim (ℕ_discrete x z) [
    | yes q ↦ subst (λ w. HasRow i n w after) (sym q) (record { row = row; rise = rise; stands = own })
    | no f ↦
        let ne : x ≢ z = f in
        let old = rows.each x h (λ q. m (others x (category_of i x) h ne (bounded.categories x h) ∙ q)) in
        record { row = old.row; rise = old.rise; stands = λ d l. others x d h ne l ∙ old.stands d l }
  ];
}

-- each member has its row
pub rows_table : {i : Instance} {n : ℕ} {table : Table} → IsBounded i n → IsLaid i n table
    → ((x : ℕ) → x < length i → HasRow i n x table) → IsTable i n (length i) table
rows_table {i} {n} {table} bounded laid rows = record {
  laid = laid;
  own = λ x d h l ne.
      let r = rows x h in
      let s = r.stands d l in
      let o = r.rise.own.own d (subst (λ m. d < m) (sym r.rise.same_length) l) (λ q. ne (s ∙ q)) in
      (subst (λ y. y < length i) (sym s) o.0, ap (category_of i) s ∙ o.1);
  exact = λ x y h l.
      let r = rows x h in
      let s = r.stands (category_of i y) (bounded.categories y l) in (
        λ q. (reaches_is i x y).1 ((r.rise.exact y l).0 (sym s ∙ q)),
        λ q. s ∙ (r.rise.exact y l).1 ((reaches_is i x y).0 q),
      );
}

-- ---- the list

-- marks that are kept are no fewer
unmarked_kept : (before after : List Bool) → length after ≡ length before
    → ((y : ℕ) → IsMarked before y → IsMarked after y) → unmarked_count after ≤ unmarked_count before
unmarked_kept [] [] e k = omega arith
unmarked_kept [] (a ∷ after) e k = absurd (omega arith)
unmarked_kept (b ∷ before) [] e k = absurd (omega arith)
unmarked_kept (true ∷ before) (true ∷ after) e k = unmarked_kept before after (omega arith) (λ y m. k (suc y) m)
unmarked_kept (false ∷ before) (true ∷ after) e k =
    let r = unmarked_kept before after (omega arith) (λ y m. k (suc y) m) in omega (arith, r)
unmarked_kept (false ∷ before) (false ∷ after) e k =
    let r = unmarked_kept before after (omega arith) (λ y m. k (suc y) m) in omega (arith, r)
unmarked_kept (true ∷ before) (false ∷ after) e k = absurd (let m : false ≡ true = k zero refl in cc)

-- nothing is listed
pub listed_none : {i : Instance} {list : List ℕ} → list ≡ [] → AreMembers i list
listed_none e = record { each = λ y c. absurd (Contains-nil y (subst (λ l. Contains l y) e c)) }

-- one more
pub listed_push : {i : Instance} {list after : List ℕ} (x : ℕ) → x < length i → AreMembers i list
    → after ≡ list ++ x ∷ [] → AreMembers i after
listed_push {i} {list} x h v e = record {
  each = λ y c. elim (Contains-push_cases list x y (subst (λ l. Contains l y) e c)) [
    | inl b ↦ v.each y b
    | inr q ↦ subst (λ w. w < length i) q h
  ];
}

-- one fewer
pub listed_rest : {i : Instance} {list : List ℕ} (rest : List ℕ) (z : ℕ) → list ≡ rest ++ z ∷ [] → AreMembers i list
    → AreMembers i rest
listed_rest rest z e v = record {
  each = λ y c. v.each y (subst (λ l. Contains l y) (sym e) (Contains-append_left rest (z ∷ []) y c));
}

-- the first few
pub listed_first : {i : Instance} {list : List ℕ} (k : ℕ) → AreMembers i list → AreMembers i (take k list)
listed_first {list = list} k v = record { each = λ y c. v.each y (take_within list k y c) }

-- parents of z are members
pub listed_more : {i : Instance} {n : ℕ} {marks after : List Bool} {pushed new : List ℕ} (z : ℕ) → IsBounded i n
    → AreMembers i pushed → IsMarking i n (parents_of i z) marks after pushed new → AreMembers i new
listed_more z bounded v m = record {
  each = λ y c. elim (m.only y c) [ inl a ↦ v.each y a | inr a ↦ bounded.places z y a ];
}

-- where parents were new, marks were used up
pub waiting_fewer : {i : Instance} {n : ℕ} {ps : List ℕ} {marks after : List Bool} {pushed new : List ℕ} (old : List ℕ)
    (z : ℕ) → pushed ≡ old ++ z ∷ [] → IsMarking i n ps marks after pushed new → length old + 1 < length new
    → left after new ≤ left marks old
waiting_fewer old z e m l =
    let s = ap length e ∙ length-append old (z ∷ []) in let f = m.fewer in omega (arith, s, f, l)

-- else no more are listed than before
pub ready_fewer : {i : Instance} {n : ℕ} {ps : List ℕ} {marks after : List Bool} {pushed new : List ℕ} (old : List ℕ)
    (k : ℕ) → k ≡ length old → IsMarking i n ps marks after pushed new → left after (take k new) ≤ left marks old
ready_fewer {marks = marks} {after = after} {new = new} old k e m =
    let u = unmarked_kept marks after m.same_length m.kept in
    let t = length-take k new in omega (arith, u, t, e)
