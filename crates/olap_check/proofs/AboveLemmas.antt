-- The table's row of a member is a shape, and what the shape answers.
use Rattle.std.proofs.Common.{◌≡◌, ◌≢◌, ℕ, ℤ, ◌<◌, List, length, Bool, true, false, ◌&&◌, not, refl, ap, sym, subst, ◌∙◌, ◌↔◌, inl, arith, eqb, eqb-true, eq-eqb}
use Rattle.std.proofs.lemmas.{Bool.Decides.nat_tests, List.{get_or-map, length-map}}
use Rattle.std.{proofs.lemmas.List.Elements.{contains_decides, Decides-contains}, specs.Bool.Decides}
use Rattle.std.specs.List.{IsAnyAnswer}
use Rattle.std.specs.Prelude.{IsTrue, nat_eq, nat_lt, Option, Some, None, IfSome, IsNone, is_some, Contains}
use Rattle.olap_base.proofs.ListLemmas.{Contains-map}
use Rattle.olap_base.specs.Instance.{Instance, IsBelow, IsMemberOf, Reaches, ReachesCategory, ReachesVia, category_of, name_of, parents_of}
use Rattle.olap_base.specs.{Reaching.reaches_is, Steps.{Steps-append, Steps-from_reaches, reaches_from_Steps}}
use Rattle.olap_base.specs.declared.ids.MemberId.{MemberId}
use Rattle.olap_legal.{proofs.ParentLemmas.places, proofs.TableLemmas.{reached_inside, cell_some}, specs.Laying.cell}
use Rattle.olap_legal.specs.{Rows.{none, IsBounded}, Tables.IsTable, declared.tables.Table.Table}
use Rattle.olap_check.specs.{Above.{IsAbove, is_present}, Reports.member}
use Rattle.olap_ast.specs.Formula.{IsNumbered, ReachesNamed, ReachesNumbered}
use Rattle.olap_numerals.specs.Comparing.{Op}
use Rattle.olap_eval.specs.Shapes.{HasEdgeThere, HasNameThere, HasNumberThere, IsShape, ReachesThere}

-- a present category is one of the graph, and its place has a member
present_parts : (n c k : ℕ) → (nat_lt c n && not (nat_eq k none)) ≡ true → (c < n) × (k ≢ none)
present_parts n c k e = (grind (arith, nat_tests), λ q. grind (arith, nat_tests))

-- and the other way round
present_from : (n c k : ℕ) → c < n → k < none → (nat_lt c n && not (nat_eq k none)) ≡ true
present_from n c k h l = grind (arith, nat_tests)

-- the row of a member is a shape
pub above_shape : (i : Instance) (n x : ℕ) (table : Table) → IsAbove i n x table
    → IsShape i (is_present i n table x) (cell i n table x)
above_shape i n x table a = record {
  members = λ c p. let t = present_parts n c (cell i n table x c) p in a.table.own x c a.inside t.0 t.1;
  closed = λ c y p r.
      let t = present_parts n c (cell i n table x c) p in
      let m = cell_some i n x c (cell i n table x c) table a.table a.inside t.0 refl t.1 in
      let all = Steps-append (Steps-from_reaches m.1) (Steps-from_reaches r) in
      let inside = reached_inside i a.bounded.places all a.inside in
      let e = (a.table.exact x y a.inside inside).1 ((reaches_is i x y).1 (reaches_from_Steps all)) in (
        present_from n (category_of i y) (cell i n table x (category_of i y)) (a.bounded.categories y inside)
            (few (cell i n table x (category_of i y)) y e inside),
        e,
      );
}
  where
    few : (k y : ℕ) → k ≡ y → y < length i → k < none
    few k y e h = let f = a.bounded.few in omega arith

-- what an option holds, from one fact to another
pub if_some_map : (o : Option ℕ) (P Q : ℕ → Type 0) → ((y : ℕ) → P y → Q y) → IfSome o P → IfSome o Q
if_some_map None P Q f p = p
if_some_map (Some y) P Q f p = f y p

-- a member of the category that is reached stands in its place
pub member_is : (i : Instance) (n x c : ℕ) (table : Table) → IsAbove i n x table → (y : ℕ)
    → IsMemberOf i c y × Reaches i x y → IsTrue (is_present i n table x c) × (cell i n table x c ≡ y) × (y < length i)
member_is i n x c table a y m =
    let e = (a.table.exact x y a.inside m.0.0).1 ((reaches_is i x y).1 m.1) in
    let q : cell i n table x c ≡ y = ap (cell i n table x) (sym m.0.1) ∙ e in (
      present_from n c (cell i n table x c) (subst (λ d. d < n) m.0.1 (a.bounded.categories y m.0.0))
          (few (cell i n table x c) y q m.0.0),
      q,
      m.0.0,
    )
  where
    few : (k y : ℕ) → k ≡ y → y < length i → k < none
    few k y e h = let f = a.bounded.few in omega arith

-- the place of a present category has a member that is reached
pub present_member : (i : Instance) (n x c : ℕ) (table : Table) → IsAbove i n x table
    → IsTrue (is_present i n table x c) → IsMemberOf i c (cell i n table x c) × Reaches i x (cell i n table x c)
present_member i n x c table a p =
    let t = present_parts n c (cell i n table x c) p in
    cell_some i n x c (cell i n table x c) table a.table a.inside t.0 refl t.1

-- a present category has a member that is reached
pub present_reaches : (i : Instance) (n x c : ℕ) (table : Table) → IsAbove i n x table
    → IsTrue (is_present i n table x c) → ReachesCategory i x c
present_reaches i n x c table a p =
    let m = present_member i n x c table a p in (cell i n table x c, m.0, m.1)

-- what the ancestor of the first category answers for the second
pub reach_there : (i : Instance) (n x c d y : ℕ) (table : Table) (o : Option ℕ) (r : Bool) → IsAbove i n x table
    → IsTrue (is_present i n table x c) → cell i n table x c ≡ y
    → IfSome o (λ a. IsMemberOf i d a × Reaches i y a) → (IsNone o → ReachesCategory i y d → ⊥) → r ≡ is_some o
    → IsTrue r ↔ ReachesThere i (is_present i n table x) (cell i n table x) c d
reach_there i n x c d y table None r a p e s f q = (
  λ t. absurd (let z : false ≡ true = sym q ∙ t in cc),
  λ t. absurd
      (f refl (
        cell i n table x d,
        (above_shape i n x table a).members d t.1,
        subst (λ w. Reaches i w (cell i n table x d)) e t.2,
      )),
)
reach_there i n x c d y table (Some b) r a p e s f q =
    let m = (above_shape i n x table a).closed c b p (subst (λ w. Reaches i w b) (sym e) s.1) in
    let present : IsTrue (is_present i n table x d) = subst (λ k. IsTrue (is_present i n table x k)) s.0.1 m.0 in
    let same : cell i n table x d ≡ b = ap (cell i n table x) (sym s.0.1) ∙ m.1 in (
      λ t. (
        p,
        present,
        subst (λ w. Reaches i (cell i n table x c) w) (sym same)
            (subst (λ w. Reaches i w b) (sym e) s.1),
      ),
      λ t. q,
    )

-- a member has the place of its own category
pub own_place : (i : Instance) (n x c : ℕ) (table : Table) → IsBounded i n → IsTable i n (length i) table
    → x < length i → category_of i x ≡ c → IsTrue (is_present i n table x c) × (cell i n table x c ≡ x) × (x < length i)
own_place i n x c table made rows inside e =
    member_is i n x c table (record { inside = inside; bounded = made; table = rows }) x ((inside, e), inl refl)

-- ---- atoms by one row

module _ (i : Instance) (n x : ℕ) (table : Table) (a : IsAbove i n x table) where
  -- what the row's member of one category reaches, x reaches by way of it
  pub via_by_row : (d e : ℕ) → ReachesThere i (is_present i n table x) (cell i n table x) d e ↔ ReachesVia i x d e
  via_by_row d e = (
    λ t.
        let m = present_member i n x d table a t.0 in
        let k = present_member i n x e table a t.1 in (cell i n table x d, m.0, m.1, (cell i n table x e, k.0, t.2)),
    λ r.
        let on = Steps-append (Steps-from_reaches r.2) (Steps-from_reaches r.3.2) in
        let m = member_is i n x d table a r.0 (r.1, r.2) in
        let k = member_is i n x e table a r.3.0 (r.3.1, reaches_from_Steps on) in (
          m.0,
          k.0,
          subst (λ v. Reaches i v (cell i n table x e)) (sym m.1) (subst (λ w. Reaches i r.0 w) (sym k.1) r.3.2),
        ),
  )

  -- the name of the row's member of a category
  pub named_by_row : (d : ℕ) (text : List ℕ)
      → HasNameThere i (is_present i n table x) (cell i n table x) d text ↔ ReachesNamed i x d text
  named_by_row d text = (
    λ t. let m = present_member i n x d table a t.0 in (cell i n table x d, m.0, m.1, t.1),
    λ r. let m = member_is i n x d table a r.0 (r.1, r.2) in (m.0, ap (name_of i) m.1 ∙ r.3),
  )

  -- the number of the row's member of a category
  pub numbered_by_row : (d : ℕ) (op : Op) (number : ℤ)
      → HasNumberThere i (is_present i n table x) (cell i n table x) d op number ↔ ReachesNumbered i x d op number
  numbered_by_row d op number = (
    λ t. let m = present_member i n x d table a t.0 in (cell i n table x d, m.0, m.1, t.1),
    λ r. let m = member_is i n x d table a r.0 (r.1, r.2) in
        (m.0, subst (λ y. IsNumbered (name_of i y) op number) (sym m.1) r.3),
  )

-- ---- a parent among the ids

-- two ids are equal exactly if their numbers are
same_member : (a b : MemberId) → Decides (eqb a.0 b.0) (a ≡ b)
same_member a b = (λ e. ap member (eqb-true a.0 b.0 e), λ e. eq-eqb a.0 b.0 (ap (λ (m : MemberId). m.0) e))

-- the list of ids has a member exactly if the child is below it
below_is : (i : Instance) (y z : ℕ) (ms : List MemberId) (r : Bool) → places ms ≡ parents_of i y
    → IsAnyAnswer (λ (m : MemberId) (b : Bool). eqb m.0 z ≡ b) ms r → IsTrue r ↔ IsBelow i y z
below_is i y z ms r e a = (
  λ q. subst (λ l. Contains l z) e (Contains-map (λ (m : MemberId). m.0) ms (member z) (decides.0 q)),
  λ b. decides.1 (from (subst (λ l. Contains l z) (sym e) b)),
)
  where
    decides : Decides r (Contains ms (member z))
    decides = Decides-contains ms (member z) r
        (contains_decides (λ (a b : MemberId). eqb a.0 b.0) same_member ms (member z) r a)

    from : Contains (places ms) z → Contains ms (member z)
    from c =
        let inside : c.0 < length ms = subst (λ n. c.0 < n) (length-map ms (λ (m : MemberId). m.0)) c.1 in
        let at = get_or-map (λ (m : MemberId). m.0) ms c.0 (member z) z inside in
        (c.0, inside, ap member (sym at ∙ c.2))

-- what the search among the parents answers
pub edge_there : (i : Instance) (n x c d y z : ℕ) (table : Table) (ms : List MemberId) (r : Bool)
    → IsTrue (is_present i n table x c) × (cell i n table x c ≡ y) × (y < length i)
    → IsTrue (is_present i n table x d) × (cell i n table x d ≡ z) × (z < length i)
    → places ms ≡ parents_of i y → IsAnyAnswer (λ (m : MemberId) (b : Bool). eqb m.0 z ≡ b) ms r
    → IsTrue r ↔ HasEdgeThere i (is_present i n table x) (cell i n table x) c d
edge_there i n x c d y z table ms r p q e a =
    let t = below_is i y z ms r e a in (
      λ b. (
        p.0,
        q.0,
        subst (λ v. IsBelow i v (cell i n table x d)) (sym p.1)
            (subst (λ w. IsBelow i y w) (sym q.1) (t.0 b)),
      ),
      λ h. t.1 (subst (λ v. IsBelow i v z) p.1 (subst (λ w. IsBelow i (cell i n table x c) w) q.1 h.2)),
    )
