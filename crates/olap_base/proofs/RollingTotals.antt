-- Rolling up over any points: the two views of their facts, and what a fact adds to each.
use Rattle.std.proofs.Common.{◌≡◌, ◌↔◌, List, [], ◌∷◌, ℤ, Bool, true, false, cond, ◌&&◌, ◌||◌, refl, sym, ap, subst, ◌∙◌, inl, inr, Option, Some, None}
use Rattle.std.proofs.lemmas.{Bool.{false_from_ne_true, and_from}, List.Folds.flat_map-map}
use Rattle.std.specs.{List.list_any, Prelude.{Contains, filter, flat_map, IsTrue}}
use Rattle.olap_base.proofs.ListLemmas.{contains_head, Distinct, list_any_is, first_true, second_true}
use Rattle.olap_base.proofs.TotalLemmas.{⊕_none, total_by, total_is, total_same, total_nothing, total-map, total-flat_map, total-filter, total-filter_map, total_swap, total_when, of_some}
use Rattle.olap_base.specs.{Deciding.contains_cons, Summaries.{Summary, of_value, ◌⊕◌}}
use Rattle.olap_base.specs.Views.{NoneOf, ExactlyOne, Fact, Row, View, Points, direct_rows, direct_view, direct_views, row_at, rows_below, total_of_facts, total_of_views, values_at}

-- ---- points that roll up

-- no point stands twice, of one target at most one point is reached, and reaching goes on
pub record IsRolling {C P : Type 0} (r : Points C P) : Type 0 where
  pub equal : (p q : P) → Dec (p ≡ q)
  pub distinct : (c : C) → Distinct (r.of c)
  pub once : (c : C) (x y z : P) → Contains (r.of c) y → Contains (r.of c) z
      → r.reaches x y ≡ true → r.reaches x z ≡ true → y ≡ z
  pub onward : (x y z : P) → r.reaches x y ≡ true → r.reaches y z ≡ true → r.reaches x z ≡ true

-- ---- the two views

-- x reaches a point of s that reaches y
abbrev pub By : {C P : Type 0} → Points C P → P → C → P → Type 0
By {P = P} r x s y = (z : P) × Contains (r.of s) z × (r.reaches x z ≡ true) × (r.reaches z y ≡ true)

-- each fact stands at a point of Q
abbrev pub At : {P : Type 0} → (P → Type 0) → List (Fact P) → Type 0
At {P} Q facts = (f : Fact P) → Contains facts f → Q f.at

-- each point of Q that reaches a point of c reaches it by one source
abbrev pub ReachedOnce : {C P : Type 0} → Points C P → (P → Type 0) → C → List C → Type 0
ReachedOnce {P = P} r Q c sources =
    (x : P) → Q x → (y : P) → Contains (r.of c) y → r.reaches x y ≡ true → ExactlyOne (λ s. By r x s y) sources

-- ---- the totals that the two views show

-- the summary of one value
abbrev pub single : ℤ → Option Summary
single v = Some (of_value v)

module _ {C P : Type 0} (r : Points C P) (w : IsRolling r) where
  -- a fact's value, where its point reaches y
  unfoldable pub value_if : P → Fact P → Option Summary
  value_if y f = cond (r.reaches f.at y) (single f.value) None

  -- the direct summary, fact by fact
  pub facts_totals : (facts : List (Fact P)) (y : P) → total_of_facts r facts y ≡ total_by (value_if y) facts
  unfolding value_if
  facts_totals facts y =
      total_is of_value (values_at r facts y)
      ∙ total-map single (λ (f : Fact P). f.value) (filter (λ f. r.reaches f.at y) facts)
      ∙ total-filter (λ f. single f.value) (λ f. r.reaches f.at y) facts

  -- a row's summary
  summary : Row P → Option Summary
  summary q = Some q.summary

  -- a row's summary, where its point reaches y
  row_if : P → Row P → Option Summary
  row_if y q = cond (r.reaches q.at y) (summary q) None

  -- what the row of z adds to y
  row_of_source : (y z : P) (o : Option Summary) → of_some (row_if y) (row_at z o) ≡ cond (r.reaches z y) o None
  unfolding row_if summary
  row_of_source y z None = go (r.reaches z y)
    where
      go : (b : Bool) → ◌≡◌ {A = Option Summary} None (cond b None None)
      go true = refl
      go false = refl
  row_of_source y z (Some s) = refl

  -- the value of a fact by way of the point z
  unfoldable pub value_by : P → P → Fact P → Option Summary
  value_by y z f = cond (r.reaches z y) (value_if z f) None

  -- what one source's rows add to y, point by point and fact by fact
  source_total : (facts : List (Fact P)) (y : P) (s : C)
      → total_by (row_if y) (direct_rows r s facts) ≡ total_by (λ z. total_by (value_by y z) facts) (r.of s)
  unfolding value_by
  source_total facts y s = total-filter_map (row_if y) (λ z. row_at z (total_of_facts r facts z)) (r.of s)
      ∙ total_same (λ z. of_some (row_if y) (row_at z (total_of_facts r facts z)))
      (λ z. total_by (value_by y z) facts) (r.of s)
      (λ z c. row_of_source y z (total_of_facts r facts z)
      ∙ ap (λ t. cond (r.reaches z y) t None) (facts_totals facts z)
      ∙ total_when (r.reaches z y) (value_if z) facts)

  -- what all sources' rows add to y, fact by fact
  pub rows_totals : (facts : List (Fact P)) (sources : List C) (y : P)
      → total_of_views r (direct_views r facts sources) y
      ≡ total_by (λ f. total_by (λ s. total_by (λ z. value_by y z f) (r.of s)) sources) facts
  unfolding row_if summary
  rows_totals facts sources y =
      total_is (λ (q : Row P). q.summary) (rows_below r (direct_views r facts sources) y)
      ∙ total-filter summary (λ q. r.reaches q.at y) (flat_map (λ v. v.rows) (direct_views r facts sources))
      ∙ ap (total_by (row_if y)) (flat_map-map (λ (v : View C P). v.rows) (direct_view r facts) sources)
      ∙ total-flat_map (row_if y) (λ s. direct_rows r s facts) sources
      ∙ total_same (λ s. total_by (row_if y) (direct_rows r s facts))
      (λ s. total_by (λ f. total_by (λ z. value_by y z f) (r.of s)) facts) sources
      (λ s c. source_total facts y s ∙ total_swap (value_by y) (r.of s) facts)
      ∙ total_swap (λ s f. total_by (λ z. value_by y z f) (r.of s)) sources facts

-- ---- totals of one value

-- where the test is false there is nothing
pub nothing_if : (b : Bool) (m : Option Summary) → b ≡ false → cond b m None ≡ None
nothing_if true m e = absurd (cc)
nothing_if false m e = refl

-- where at most one passes
pub total_once : {A : Type 0} (p : A → Bool) (m : Option Summary) (xs : List A) → Distinct xs
    → ((x y : A) → Contains xs x → Contains xs y → p x ≡ true → p y ≡ true → x ≡ y)
    → total_by (λ x. cond (p x) m None) xs ≡ cond (list_any p xs) m None
total_once p m [] a h = refl
total_once {A} p m (x ∷ xs) a h =
    go (p x) refl (total_once p m xs a.1 (λ y z c d. h y z (contains_cons y xs x c) (contains_cons z xs x d)))
  where
    none : p x ≡ true → (y : A) → Contains xs y → cond (p y) m None ≡ None
    none e y c =
        nothing_if (p y) m
        (false_from_ne_true (p y)
        (λ q. a.0 (subst (λ w. Contains xs w) (h y x (contains_cons y xs x c) (contains_head x xs) q e) c)))

    go : (b : Bool) → p x ≡ b → total_by (λ z. cond (p z) m None) xs ≡ cond (list_any p xs) m None
        → cond b m None ⊕ total_by (λ z. cond (p z) m None) xs ≡ cond (b || list_any p xs) m None
    go true e ih =
        ap (λ t. m ⊕ t) (total_same (λ z. cond (p z) m None) (λ z. None) xs (none e) ∙ total_nothing xs) ∙ ⊕_none m
    go false e ih = ih

-- where exactly one holds
total_none : {A : Type 0} (Q : A → Type 0) (p : A → Bool) → ((x : A) → IsTrue (p x) ↔ Q x)
    → (m : Option Summary) (xs : List A) → NoneOf Q xs → total_by (λ x. cond (p x) m None) xs ≡ None
total_none Q p d m [] n = refl
total_none {A} Q p d m (x ∷ xs) n = go (p x) (λ e. n.0 ((d x).0 e)) ∙ total_none Q p d m xs n.1
  where
    go : (b : Bool) → (b ≡ true → ⊥)
        → cond b m None ⊕ total_by (λ z. cond (p z) m None) xs ≡ total_by (λ z. cond (p z) m None) xs
    go true f = absurd (f refl)
    go false f = refl

-- where exactly one does, the total is what it adds
total_one : {A : Type 0} (Q : A → Type 0) (p : A → Bool) → ((x : A) → IsTrue (p x) ↔ Q x)
    → (m : Option Summary) (xs : List A) → ExactlyOne Q xs → total_by (λ x. cond (p x) m None) xs ≡ m
total_one Q p d m [] o = absurd o
total_one {A} Q p d m (x ∷ xs) (inl o) = go (p x) ((d x).1 o.0)
  where
    go : (b : Bool) → b ≡ true → cond b m None ⊕ total_by (λ z. cond (p z) m None) xs ≡ m
    go true f = ap (λ t. m ⊕ t) (total_none Q p d m xs o.1) ∙ ⊕_none m
    go false f = absurd (cc)
total_one {A} Q p d m (x ∷ xs) (inr o) = go (p x) (λ e. o.0 ((d x).0 e)) ∙ total_one Q p d m xs o.1
  where
    go : (b : Bool) → (b ≡ true → ⊥)
        → cond b m None ⊕ total_by (λ z. cond (p z) m None) xs ≡ total_by (λ z. cond (p z) m None) xs
    go true f = absurd (f refl)
    go false f = refl

-- one test after the other is both
when_both : (a b : Bool) (m : Option Summary) → cond a (cond b m None) None ≡ cond (a && b) m None
when_both true b m = refl
when_both false b m = refl

-- ---- by which points and sources a point reaches y

module _ {C P : Type 0} (r : Points C P) (w : IsRolling r) (c : C) (y : P) (m : Contains (r.of c) y) where
  -- x reaches y by a point of s
  unfoldable pub by_source : P → C → Bool
  by_source x s = list_any (λ z. r.reaches z y && r.reaches x z) (r.of s)

  -- the test is true exactly if x reaches y by a point of s
  pub by_source_is : (x : P) (s : C) → IsTrue (by_source x s) ↔ By r x s y
  unfolding by_source
  by_source_is x s = (to, from)
    where
      to : IsTrue (list_any (λ z. r.reaches z y && r.reaches x z) (r.of s)) → By r x s y
      to e = let t = (list_any_is (λ z. r.reaches z y && r.reaches x z) (r.of s)).0 e in (
        t.0,
        t.1,
        second_true (r.reaches t.0 y) (r.reaches x t.0) t.2,
        first_true (r.reaches t.0 y) (r.reaches x t.0) t.2,
      )

      from : By r x s y → IsTrue (list_any (λ z. r.reaches z y && r.reaches x z) (r.of s))
      from (z, k, a, b) = (list_any_is (λ z. r.reaches z y && r.reaches x z) (r.of s)).1 (
        z,
        k,
        and_from (r.reaches z y) (r.reaches x z) b a,
      )

  -- a source has one point by which x reaches y, at most
  pub one_by_source : (x : P) (s : C) (v : Option Summary)
      → total_by (λ z. cond (r.reaches z y) (cond (r.reaches x z) v None) None) (r.of s)
      ≡ cond (by_source x s) v None
  unfolding by_source
  one_by_source x s v =
      total_same (λ z. cond (r.reaches z y) (cond (r.reaches x z) v None) None)
      (λ z. cond (r.reaches z y && r.reaches x z) v None) (r.of s)
      (λ z k. when_both (r.reaches z y) (r.reaches x z) v)
      ∙ total_once (λ z. r.reaches z y && r.reaches x z) v (r.of s) (w.distinct s)
      (λ a b k l e f. w.once s x a b k l (second_true (r.reaches a y) (r.reaches x a) e)
      (second_true (r.reaches b y) (r.reaches x b) f))

  -- what a fact adds to the row of y, by way of the sources
  pub by_sources : (sources : List C) (f : Fact P)
      → (r.reaches f.at y ≡ true → ExactlyOne (λ s. By r f.at s y) sources)
      → total_by (λ s. total_by (λ z. value_by r w y z f) (r.of s)) sources ≡ value_if r w y f
  unfolding value_by value_if by_source
  by_sources sources f one =
      total_same (λ s. total_by (λ z. value_by r w y z f) (r.of s))
      (λ s. cond (by_source f.at s) (single f.value) None) sources
      (λ s k. one_by_source f.at s (single f.value))
      ∙ go (r.reaches f.at y) refl
    where
      go : (b : Bool) → r.reaches f.at y ≡ b
          → total_by (λ s. cond (by_source f.at s) (single f.value) None) sources
          ≡ cond b (single f.value) None
      go true e =
          total_one (λ s. By r f.at s y) (by_source f.at) (by_source_is f.at) (single f.value) sources
          (one e)
      go false e =
          total_same (λ s. cond (by_source f.at s) (single f.value) None) (λ s. None) sources
          (λ s k. nothing_if (by_source f.at s) (single f.value) (none s))
          ∙ total_nothing sources
        where
          through : (s : C) → by_source f.at s ≡ true → r.reaches f.at y ≡ true
          through s h = let t = (by_source_is f.at s).0 h in w.onward f.at t.0 y t.2 t.3

          none : (s : C) → by_source f.at s ≡ false
          none s = false_from_ne_true (by_source f.at s) (λ h. let z : false ≡ true = sym e ∙ through s h in cc)
