-- What one more fact and one more member change.
use Rattle.std.proofs.Common.{◌≡◌, ℕ, suc, ◌<◌, List, [], ◌∷◌, length, map, get_or, Bool, true, false, eqb, refl, ap, sym, subst, ◌∙◌, ◌↔◌, ◌⊎◌, arith}
use Rattle.std.proofs.lemmas.Bool.Decides.{nat_tests, Decides-eqb}
use Rattle.std.proofs.lemmas.List.{get_or-map, map-append, take_more, append-nil}
use Rattle.std.proofs.lemmas.List.Elements.{contains_decides, Decides-contains, filter_map-append, filter-append}
use Rattle.std.specs.{Bool.{Decides, one_answer}, List.{IsAnyAnswer, range_with_len}}
use Rattle.std.specs.Prelude.{Contains, IsTrue, ℤ, filter, ◌++◌, Option, Some, None, ◌+◌, ◌≤◌, cond, take, IfSome, filter_map, ◌==◌}
use Rattle.olap_base.proofs.{ListLemmas.range_more, TotalLemmas.total_push}
use Rattle.olap_base.specs.Deciding.{Through, Steps-from_through, through_from_Steps, below_is_member}
use Rattle.olap_base.specs.Instance.{Instance, nobody, IsBelow, Reaches, parents_of, category_of}
use Rattle.olap_base.specs.{Reaching.{reaches, reaches_is}, Steps.{Steps-from_reaches, reaches_from_Steps}}
use Rattle.olap_base.specs.Summaries.{Summary, of_value, total, ◌⊕◌}
use Rattle.olap_base.specs.Views.{Fact, Row, members, row_at, total_of_facts, values_at}
use Rattle.olap_plain.specs.Plain.{instance_of, member_of, fact_of, facts_of, extended, row_of, as_row, IsBounded}
use Rattle.olap_plain.specs.declared.viewing.{PlainFact.PlainFact, PlainMember.PlainMember, PlainRow.PlainRow}

-- the test of a member's list of parents
pub below_is : (ms : List PlainMember) (x y : ℕ) (m : PlainMember) (ps : List ℕ) (r : Bool) → x < length ms
    → m ≡ get_or ms x m → ps ≡ m.parents.items → IsAnyAnswer (λ z b. eqb z y ≡ b) ps r
    → IsTrue r ↔ IsBelow (instance_of ms) x y
below_is ms x y m ps r h e q a =
    let d : Decides r (Contains ps y) = Decides-contains ps y r (contains_decides eqb Decides-eqb ps y r a) in
    let p : ps ≡ parents_of (instance_of ms) x = q ∙ ap (λ (k : PlainMember). k.parents.items) e
    ∙ sym (ap (λ k. k.parents) (get_or-map member_of ms x m nobody h)) in
    (λ t. subst (λ us. Contains us y) p (d.0 t), λ t. d.1 (subst (λ us. Contains us y) (sym p) t))

module _ (R : ℕ → ℕ → Type 0) (k x y : ℕ) where
  pub to_zero : k ≡ 0 → (x ≡ y) ⊎ R x y → Through R k x y
  unfolding Through
  to_zero e s = subst (λ n. Through R n x y) (sym e) s

  pub from_zero : k ≡ 0 → Through R k x y → (x ≡ y) ⊎ R x y
  unfolding Through
  from_zero e s = subst (λ n. Through R n x y) e s

  pub to_suc : (m : ℕ) → k ≡ suc m → Through R m x y ⊎ (Through R m x m × Through R m m y) → Through R k x y
  unfolding Through
  to_suc m e s = subst (λ n. Through R n x y) (sym e) s

  pub from_suc : (m : ℕ) → k ≡ suc m → Through R k x y → Through R m x y ⊎ (Through R m x m × Through R m m y)
  unfolding Through
  from_suc m e s = subst (λ n. Through R n x y) e s

-- a chain through members of the instance is a chain
pub reaches_by_through : (i : Instance) (n : ℕ) (x y : ℕ) (r : Bool) → n ≡ length i
    → IsTrue r ↔ Through (IsBelow i) n x y → IsTrue r ↔ Reaches i x y
reaches_by_through i n x y r e d = (
  λ t. reaches_from_Steps (Steps-from_through (IsBelow i) n x y (d.0 t)),
  λ t. d.1 (subst (λ k. Through (IsBelow i) k x y) (sym e)
      (through_from_Steps (IsBelow i) (length i) (below_is_member i) (Steps-from_reaches t))),
)

-- ---- one more fact

-- the row of y with these values, if there are any
abbrev value_row : ℕ → List ℤ → Option (Row ℕ)
value_row y vs = row_at y (total (map of_value vs))

-- one value more extends the row
direct_row_push : (y : ℕ) (vs : List ℤ) (v : ℤ) → value_row y (vs ++ v ∷ []) ≡ Some (extended y (value_row y vs) v)
direct_row_push y vs v =
    ap (row_at y) (ap total (map-append of_value vs (v ∷ [])) ∙ total_push (map of_value vs) (of_value v))
    ∙ go (total (map of_value vs))
  where
    go : (o : Option Summary) → row_at y (o ⊕ Some (of_value v)) ≡ Some (extended y (row_at y o) v)
    go None = refl
    go (Some s) = refl

-- one fact more has its value in the row if its member reaches it
values_push : (i : Instance) (fs : List (Fact ℕ)) (f : Fact ℕ) (y : ℕ)
    → values_at (members i) (fs ++ f ∷ []) y ≡ values_at (members i) fs y ++ cond (reaches i f.at y) (f.value ∷ []) []
values_push i fs f y = ap (map (λ (g : Fact ℕ). g.value)) (filter-append (λ g. reaches i g.at y) fs (f ∷ []))
    ∙ map-append (λ (g : Fact ℕ). g.value) (filter (λ g. reaches i g.at y) fs)
    (filter (λ g. reaches i g.at y) (f ∷ []))
    ∙ ap (λ t. map (λ (g : Fact ℕ). g.value) (filter (λ g. reaches i g.at y) fs) ++ t) (last (reaches i f.at y))
  where
    last : (b : Bool) → map (λ (g : Fact ℕ). g.value) (cond b (f ∷ []) []) ≡ cond b (f.value ∷ []) []
    last true = refl
    last false = refl

-- the row after one more fact
abbrev pub row_after : ℕ → Bool → Option (Row ℕ) → ℤ → Option (Row ℕ)
row_after y true o v = Some (extended y o v)
row_after y false o v = o

-- what one fact more changes in the row of a member
pub row_step : (i : Instance) (facts : List PlainFact) (k y : ℕ) (d : PlainFact) → k < length facts
    → row_at y (total_of_facts (members i) (facts_of (take (k + 1) facts)) y)
    ≡ row_after y (reaches i (get_or facts k d).member y)
    (row_at y (total_of_facts (members i) (facts_of (take k facts)) y))
    (get_or facts k d).value
row_step i facts k y d h = ap (λ fs. row_at y (total_of_facts (members i) (facts_of fs) y)) (take_more facts k d h)
    ∙ ap (λ fs. row_at y (total_of_facts (members i) fs y)) (map-append fact_of (take k facts) (get_or facts k d ∷ []))
    ∙ ap (value_row y) (values_push i (facts_of (take k facts)) (fact_of (get_or facts k d)) y)
    ∙ go (reaches i (get_or facts k d).member y)
  where
    go : (b : Bool)
        → value_row y (values_at (members i) (facts_of (take k facts)) y ++ cond b ((get_or facts k d).value ∷ []) [])
        ≡ row_after y b (row_at y (total_of_facts (members i) (facts_of (take k facts)) y)) (get_or facts k d).value
    go true = direct_row_push y (values_at (members i) (facts_of (take k facts)) y) (get_or facts k d).value
    go false = ap (value_row y) (append-nil (values_at (members i) (facts_of (take k facts)) y))

-- a row that was right is right after one more fact
pub row_more : (i : Instance) (facts : List PlainFact) (k y : ℕ) (d : PlainFact) (old new : Option PlainRow)
    (r b : Bool) → k < length facts → IsTrue r ↔ Reaches i (get_or facts k d).member y → r ≡ b
    → as_row old ≡ row_at y (total_of_facts (members i) (facts_of (take k facts)) y)
    → as_row new ≡ row_after y b (as_row old) (get_or facts k d).value
    → as_row new ≡ row_at y (total_of_facts (members i) (facts_of (take (k + 1) facts)) y)
row_more i facts k y d old new r b h t e so w =
    let x = (get_or facts k d).member in
    let reach : reaches i x y ≡ b = one_answer (reaches i x y) r (reaches_is i x y) t ∙ e in
    w ∙ sym (row_step i facts k y d h ∙ rw (reach, so) refl)

-- a bound that grows
pub bound_more : (o : Option PlainRow) (n : ℕ) → IfSome o (λ q. (q.count ≤ n) × IsBounded q.sum q.count)
    → IfSome o (λ q. (q.count ≤ n + 1) × IsBounded q.sum q.count)
bound_more None n h = h
bound_more (Some q) n h = (omega (arith, h.0), h.1)

-- one value more raises the count by one
pub count_step : (y : ℕ) (o : Option PlainRow) (v : ℤ) (r : PlainRow) (n : ℕ)
    → IfSome o (λ q. (q.count ≤ n) × IsBounded q.sum q.count) → row_of r ≡ extended y (as_row o) v → r.count ≤ n + 1
count_step y None v r n h e = let c : r.count ≡ 1 = ap (λ q. q.summary.count) e in omega arith
count_step y (Some q) v r n h e = let c : r.count ≡ q.count + 1 = ap (λ q. q.summary.count) e in omega (arith, h.0)

-- ---- one more member

-- the list after the member y, which passes or doesn't, and gives a row or doesn't
abbrev pub rows_after : List (Row ℕ) → Bool → Option (Row ℕ) → List (Row ℕ)
rows_after rows false o = rows
rows_after rows true None = rows
rows_after rows true (Some r) = rows ++ r ∷ []

-- what one member more changes in the rows
pub rows_step : (h : ℕ → Option (Row ℕ)) (p : ℕ → Bool) (y : ℕ) (b : Bool) (o : Option (Row ℕ)) (rows : List (Row ℕ))
    → rows ≡ filter_map h (filter p (range_with_len 0 y)) → p y ≡ b → o ≡ h y
    → rows_after rows b o ≡ filter_map h (filter p (range_with_len 0 (y + 1)))
rows_step h p y b o rows e t q =
    let z : 0 + y ≡ y = omega arith in
    let n : y + 1 ≡ suc y = omega arith in
    go b o t q ∙ sym (ap (λ k. filter_map h (filter p (range_with_len 0 k))) n
    ∙ ap (λ l. filter_map h (filter p l)) (range_more 0 y ∙ ap (λ k. range_with_len 0 y ++ k ∷ []) z)
    ∙ ap (filter_map h) (filter-append p (range_with_len 0 y) (y ∷ []))
    ∙ filter_map-append h (filter p (range_with_len 0 y)) (filter p (y ∷ []))
    ∙ ap (λ l. l ++ filter_map h (filter p (y ∷ []))) (sym e))
  where
    go : (b : Bool) (o : Option (Row ℕ)) → p y ≡ b → o ≡ h y
        → rows_after rows b o ≡ rows ++ filter_map h (cond (p y) (y ∷ []) [])
    go false o t q = rw t (sym (append-nil rows))
    go true None t q = rw (t, ← q) (sym (append-nil rows))
    go true (Some r) t q = rw (t, ← q) refl

-- the test of a plain member's category, where it is that one and where it isn't
module _ (ms : List PlainMember) (y c : ℕ) (d : PlainMember) (h : y < length ms) where
  category_is : category_of (instance_of ms) y ≡ (get_or ms y d).category
  category_is = ap (λ k. k.category) (get_or-map member_of ms y d nobody h)

  pub passes : (get_or ms y d).category ≡ c → (category_of (instance_of ms) y == c) ≡ true
  passes f = let e = category_is in grind (arith, nat_tests)

  pub fails : ((get_or ms y d).category ≡ c → ⊥) → (category_of (instance_of ms) y == c) ≡ false
  fails f = let e = category_is in grind (arith, nat_tests)

-- no plain row is no row
pub none_of : (o : Option PlainRow) → ((r : PlainRow) → o ≡ Some r → ⊥) → as_row o ≡ None
none_of None f = refl
none_of (Some r) f = absurd (f r refl)
