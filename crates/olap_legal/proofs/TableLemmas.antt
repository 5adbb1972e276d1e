-- The table of ancestors, row after row.
use Rattle.std.proofs.Common.{◌≡◌, ◌≢◌, ℕ, ◌+◌, ◌<◌, ◌≤◌, List, length, get_or, ap, sym, subst, ◌∙◌, arith}
use Rattle.olap_base.specs.Instance.{Instance, IsBelow, IsMemberOf, Reaches, ReachesCategory, category_of}
use Rattle.olap_base.specs.{Limits.most_members, Reaching.reaches_is}
use Rattle.olap_base.specs.Steps.{Steps, Steps.here, Steps.step, Steps-from_reaches}
use Rattle.olap_legal.specs.{Ancestors.IsAncestor, Laying.{IsLaid, cell}, Rows.{none, IsBounded, IsRise, Splits}}
use Rattle.olap_legal.specs.{Tables.{IsTable, IsFirstSplit}, declared.tables.Table.Table}
use native.Mathlib.Decide.{ℕ_discrete}

-- what a member reaches is a member
pub reached_inside : (i : Instance) → ((a b : ℕ) → IsBelow i a b → b < length i) → {x y : ℕ} → Steps (IsBelow i) x y
    → x < length i → y < length i
reached_inside i places here h = h
reached_inside i places (step {x = a} {y = b} r s) h = reached_inside i places s (places a b r)

-- no rows
pub table_start : (i : Instance) (n : ℕ) (table : Table) → IsLaid i n table → IsTable i n 0 table
table_start i n table laid = record {
  laid = laid;
  own = λ x d h. absurd (omega (arith, h));
  exact = λ x y h. absurd (omega (arith, h));
}

-- one row more
pub table_step : (i : Instance) (n k : ℕ) (table after : Table) (row : List ℕ) → IsBounded i n → k < length i
    → IsTable i n k table → IsRise i n k row → IsLaid i n after
    → ((d : ℕ) → d < n → cell i n after k d ≡ get_or row d 0)
    → ((z d : ℕ) → z < length i → z ≢ k → d < n → cell i n after z d ≡ cell i n table z d)
    → IsTable i n (k + 1) after
table_step i n k table after row made room t r laid own others = record {
  laid = laid;
  own = λ x d h l ne. elim (ℕ_discrete x k) [
    | yes e ↦
        let v : cell i n after x d ≡ get_or row d 0 = ap (λ m. cell i n after m d) e ∙ own d l in
        let inside : d < length row = let b = r.same_length in omega (arith, l) in
        let o = r.own.own d inside (λ q. ne (v ∙ q)) in
        (subst (λ y. y < length i) (sym v) o.0, ap (category_of i) v ∙ o.1)
    | no f ↦
        let f' : x ≢ k = f in
        let before : x < k = omega (arith, h) in
        let v = others x d (omega (arith, before, room)) f' l in
        let o = t.own x d before l (λ q. ne (v ∙ q)) in
        (subst (λ y. y < length i) (sym v) o.0, ap (category_of i) v ∙ o.1)
  ];
  exact = λ x y h l. elim (ℕ_discrete x k) [
    | yes e ↦
        let v : cell i n after x (category_of i y) ≡ get_or row (category_of i y) 0 =
        ap (λ m. cell i n after m (category_of i y)) e ∙ own (category_of i y) (made.categories y l) in (
          λ q. (reaches_is i x y).1 (subst (λ m. Reaches i m y) (sym e) ((r.exact y l).0 (sym v ∙ q))),
          λ q. v ∙ (r.exact y l).1 (subst (λ m. Reaches i m y) e ((reaches_is i x y).0 q)),
        )
    | no f ↦
        let f' : x ≢ k = f in
        let before : x < k = omega (arith, h) in
        let v = others x (category_of i y) (omega (arith, before, room)) f' (made.categories y l) in
        (λ q. (t.exact x y before l).0 (sym v ∙ q), λ q. v ∙ (t.exact x y before l).1 q)
  ];
}

-- a member with a row doesn't split
pub row_is_whole : (i : Instance) (n k : ℕ) (table : Table) → IsBounded i n → IsTable i n k table → (x : ℕ) → x < k
    → x < length i → Splits i x → ⊥
row_is_whole i n k table made t x h inside s =
    s.apart (sym (stands s.one s.reaches_one) ∙ ap (cell i n table x) s.same_category ∙ stands s.other s.reaches_other)
  where
    stands : (y : ℕ) → Reaches i x y → cell i n table x (category_of i y) ≡ y
    stands y p = (t.exact x y h (reached_inside i made.places (Steps-from_reaches p) inside)).1 ((reaches_is i x y).1 p)

-- the first member without a row
pub first_split : (i : Instance) (n x : ℕ) (table : Table) → IsBounded i n → IsTable i n x table → x < length i
    → Splits i x → IsFirstSplit i n x
first_split i n x table made t inside s = record {
  inside = inside;
  splits = s;
  before = λ w h p. let l : w < length i = omega arith in row_is_whole i n x table made t w h l p;
}

-- ---- a look-up

-- a place with a member
pub cell_some : (i : Instance) (n x d y : ℕ) (table : Table) → IsTable i n (length i) table → x < length i → d < n
    → cell i n table x d ≡ y → y ≢ none → IsMemberOf i d y × Reaches i x y
cell_some i n x d y table t h l e ne =
    let o = t.own x d h l (λ q. ne (sym e ∙ q)) in
    let inside : y < length i = subst (λ z. z < length i) e o.0 in
    let c : category_of i y ≡ d = ap (category_of i) (sym e) ∙ o.1 in
    ((inside, c), (reaches_is i x y).0 ((t.exact x y h inside).0 (ap (cell i n table x) c ∙ e)))

-- a place without
pub cell_none : (i : Instance) (n x d y : ℕ) (table : Table) → length i ≤ most_members → IsTable i n (length i) table
    → x < length i → cell i n table x d ≡ y → y ≡ none → ReachesCategory i x d → ⊥
cell_none i n x d y table few t h e q r =
    let z = (t.exact x r.0 h r.1.0).1 ((reaches_is i x r.0).1 r.2) in
    let same : r.0 ≡ none = sym z ∙ ap (cell i n table x) r.1.1 ∙ e ∙ q in
    far r.0 r.1.0 same
  where
    far : (y : ℕ) → y < length i → y ≡ none → ⊥
    far y l s = absurd (omega arith)

-- x reaches one member of a category at most
only_one : (i : Instance) (n x c y w : ℕ) (table : Table) → IsTable i n (length i) table → x < length i
    → IsMemberOf i c y → Reaches i x y → IsMemberOf i c w → Reaches i x w → w ≡ y
only_one i n x c y w table t h y_is y_reached w_is w_reached =
    let same : category_of i w ≡ category_of i y = w_is.1 ∙ sym y_is.1 in
    sym ((t.exact x w h w_is.0).1 ((reaches_is i x w).1 w_reached)) ∙ ap (cell i n table x) same
    ∙ (t.exact x y h y_is.0).1 ((reaches_is i x y).1 y_reached)

-- the member in its place is the ancestor
pub ancestor_of : (i : Instance) (n x c y : ℕ) (table : Table) → IsTable i n (length i) table → x < length i
    → IsMemberOf i c y × Reaches i x y → IsAncestor i x c y
ancestor_of i n x c y table t h m = record {
  is_member = m.0;
  reached = m.1;
  only = λ w w_is r. only_one i n x c y w table t h m.0 m.1 w_is r;
}
