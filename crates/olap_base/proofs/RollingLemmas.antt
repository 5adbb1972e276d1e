-- Rolling up over any points: the two views agree for every list of facts exactly if each fact's point is reached by
-- one source.
use Rattle.std.proofs.Common.{◌≡◌, ℕ, zero, suc, ◌+◌, ◌⊎◌, ◌↔◌, List, [], ◌∷◌, ℤ, pos, Bool, true, false, cond, refl, sym, ap, subst, ◌∙◌, inl, inr, Option, Some, None, arith}
use Rattle.std.{proofs.lemmas.Bool.false_from_ne_true, specs.List.cons_option}
use Rattle.std.specs.Prelude.{Contains, filter_map, IsTrue}
use Rattle.olap_base.proofs.ListLemmas.{contains_head, Contains-nil, Distinct, filter_map_same}
use Rattle.olap_base.proofs.RollingTotals.{IsRolling, By, ReachedOnce, single, value_if, facts_totals, value_by, rows_totals, nothing_if, by_source, by_source_is, one_by_source, by_sources, At}
use Rattle.olap_base.proofs.TotalLemmas.{⊕_none, total_by, total_same, total_nothing}
use Rattle.olap_base.specs.{Deciding.{contains_cons, contains_cases, is_yes, is_yes_is}, OneFact.{HoldsTimes, ones}}
use Rattle.olap_base.specs.Summaries.{Summary, ◌⊕◌}
use Rattle.olap_base.specs.Views.{Fact, Row, Points, NoneOf, ExactlyOne, ViewsAgree, direct_rows, direct_views, one_fact, row_at, rows_from_views, total_of_facts, total_of_views}

-- ---- the two views agree where each fact's point is reached by one source

-- where each point is reached by one source, the two views agree
pub agree : {C P : Type 0} (r : Points C P) → IsRolling r → (Q : P → Type 0) (c : C) (sources : List C)
    → ReachedOnce r Q c sources → ViewsAgree (At Q) r c sources
agree r w Q c sources one facts t =
    filter_map_same (λ y. row_at y (total_of_facts r facts y))
    (λ y. row_at y (total_of_views r (direct_views r facts sources) y)) (r.of c)
    (λ y k. ap (row_at y) (facts_totals r w facts y
    ∙ sym (rows_totals r w facts sources y
    ∙ total_same (λ f. total_by (λ s. total_by (λ z. value_by r w y z f) (r.of s)) sources)
    (value_if r w y) facts
    (λ f n. by_sources r w c y k sources f (λ e. one f.at (t f n) y k e)))))

-- ---- and only there

-- how many values were summed
count : Option Summary → ℕ
count None = 0
count (Some s) = s.count

-- joined, the counts add up
count-⊕ : (a b : Option Summary) → count (a ⊕ b) ≡ count a + count b
unfolding count
count-⊕ None b = omega arith
count-⊕ (Some a) None = omega arith
count-⊕ (Some a) (Some b) = refl

module _ {A : Type 0} (Q : A → Type 0) (p : A → Bool) (d : (x : A) → IsTrue (p x) ↔ Q x) (v : ℤ) where
  -- where the count is 0, it holds of none
  none_from_count : (xs : List A) → count (total_by (λ x. cond (p x) (single v) None) xs) ≡ 0 → NoneOf Q xs
  unfolding count
  none_from_count [] e = tt
  none_from_count (x ∷ xs) e =
      go (p x) (d x) (count-⊕ (cond (p x) (single v) None) (total_by (λ z. cond (p z) (single v) None) xs))
      (none_from_count xs)
    where
      go : (b : Bool) → IsTrue b ↔ Q x
          → count (cond (p x) (single v) None ⊕ total_by (λ z. cond (p z) (single v) None) xs)
          ≡ count (cond b (single v) None) + count (total_by (λ z. cond (p z) (single v) None) xs)
          → (count (total_by (λ z. cond (p z) (single v) None) xs) ≡ 0 → NoneOf Q xs) → (Q x → ⊥) × NoneOf Q xs
      go true i c ih = absurd (omega arith)
      go false i c ih = (λ q. let z = i.1 q in cc, ih (omega arith))

  -- where the count is 1, it holds of exactly one
  one_from_count : (xs : List A) → count (total_by (λ x. cond (p x) (single v) None) xs) ≡ 1 → ExactlyOne Q xs
  unfolding count
  one_from_count [] e = absurd (omega arith)
  one_from_count (x ∷ xs) e =
      go (p x) (d x) (count-⊕ (cond (p x) (single v) None) (total_by (λ z. cond (p z) (single v) None) xs))
      (none_from_count xs) (one_from_count xs)
    where
      go : (b : Bool) → IsTrue b ↔ Q x
          → count (cond (p x) (single v) None ⊕ total_by (λ z. cond (p z) (single v) None) xs)
          ≡ count (cond b (single v) None) + count (total_by (λ z. cond (p z) (single v) None) xs)
          → (count (total_by (λ z. cond (p z) (single v) None) xs) ≡ 0 → NoneOf Q xs) →
          (count (total_by (λ z. cond (p z) (single v) None) xs) ≡ 1 → ExactlyOne Q xs)
          → (Q x × NoneOf Q xs) ⊎ ((Q x → ⊥) × ExactlyOne Q xs)
      go true i c none ih = inl (i.0 refl, none (omega arith))
      go false i c none ih = inr (λ q. let z = i.1 q in cc, ih (omega arith))

-- where the rows of two lists are made from the same points, and the lists are equal, each point has the same in both
module _ {C P : Type 0} (r : Points C P) (w : IsRolling r) (y : P) where
  -- what stands at y
  find_row : List (Row P) → Option Summary
  find_row [] = None
  find_row (q ∷ rows) = cond (is_yes (w.equal q.at y)) (Some q.summary) (find_row rows)

  -- the row of another point is passed over
  skip : (h : P → Option Summary) (x : P) → (x ≡ y → ⊥) → (rows : List (Row P))
      → find_row (cons_option (row_at x (h x)) rows) ≡ find_row rows
  unfolding find_row
  skip h x n rows = go (h x)
    where
      go : (o : Option Summary) → find_row (cons_option (row_at x o) rows) ≡ find_row rows
      go None = refl
      go (Some s) = at (is_yes (w.equal x y))
          (false_from_ne_true (is_yes (w.equal x y))
          (λ e. n ((is_yes_is (w.equal x y)).0 e)))
        where
          at : (b : Bool) → b ≡ false → cond b (Some s) (find_row rows) ≡ find_row rows
          at true e = absurd (cc)
          at false e = refl

  -- where y isn't among the points, nothing stands at it
  find_none : (h : P → Option Summary) (xs : List P) → (Contains xs y → ⊥)
      → find_row (filter_map (λ x. row_at x (h x)) xs) ≡ None
  unfolding find_row
  find_none h [] n = refl
  find_none h (x ∷ xs) n =
      skip h x (λ e. n (subst (λ z. Contains (x ∷ xs) z) e (contains_head x xs)))
      (filter_map (λ z. row_at z (h z)) xs)
      ∙ find_none h xs (λ c. n (contains_cons y xs x c))

  -- where y is among the points, at it stands what it was given
  find_it : (h : P → Option Summary) (xs : List P) → Distinct xs → Contains xs y
      → find_row (filter_map (λ x. row_at x (h x)) xs) ≡ h y
  unfolding find_row
  find_it h [] d c = absurd (Contains-nil y c)
  find_it h (x ∷ xs) d c = elim (contains_cases y x xs c) [
    | inl e ↦ here (h x) refl e
    | inr k ↦ skip h x (λ e. d.0 (subst (λ z. Contains xs z) (sym e) k)) (filter_map (λ z. row_at z (h z)) xs)
        ∙ find_it h xs d.1 k
  ]
    where
      here : (o : Option Summary) → h x ≡ o → x ≡ y
          → find_row (cons_option (row_at x o) (filter_map (λ z. row_at z (h z)) xs)) ≡ h y
      here None e q =
          find_none h xs (λ k. d.0 (subst (λ z. Contains xs z) (sym q) k)) ∙ sym e ∙ ap h q
      here (Some s) e q = at (is_yes (w.equal x y))
          ((is_yes_is (w.equal x y)).1 q)
        where
          at : (b : Bool) → b ≡ true
              → cond b (Some s) (find_row (filter_map (λ z. row_at z (h z)) xs)) ≡ h y
          at true t = sym e ∙ ap h q
          at false t = absurd (cc)

-- the fact of value 1
abbrev fact : {P : Type 0} → P → Fact P
fact x = record { at = x; value = pos 1 }

-- where the two views agree, each point is reached by one source: one fact of value 1 shows it
pub only : {C P : Type 0} (r : Points C P) → IsRolling r → (Q : P → Type 0) (c : C) (sources : List C)
    → ViewsAgree (At Q) r c sources → ReachedOnce r Q c sources
unfolding value_by value_if count
only {P = P} r w Q c sources agrees x h y m e =
    one_from_count (λ s. By r x s y) (by_source r w c y m x) (by_source_is r w c y m x) (pos 1) sources counted
  where
    facts : List (Fact P)
    facts = one_fact x

    alone : (f : Fact P) → Contains facts f → Q f.at
    alone f k = elim (contains_cases f (fact x) [] k) [
      | inl q ↦ subst (λ (g : Fact P). Q g.at) q h
      | inr n ↦ absurd (Contains-nil f n)
    ]

    same : total_of_facts r facts y ≡ total_of_views r (direct_views r facts sources) y
    same = sym (find_it r w y (total_of_facts r facts) (r.of c) (w.distinct c) m)
        ∙ ap (find_row r w y) (agrees facts alone)
        ∙ find_it r w y (total_of_views r (direct_views r facts sources)) (r.of c) (w.distinct c) m

    direct_count : count (total_of_facts r facts y) ≡ 1
    direct_count = ap count (facts_totals r w facts y) ∙ seen (r.reaches x y) e
      where
        seen : (t : Bool) → t ≡ true → count (cond t (single (pos 1)) None ⊕ None) ≡ 1
        seen true e = refl
        seen false e = absurd (cc)

    merged : total_of_views r (direct_views r facts sources) y
        ≡ total_by (λ s. cond (by_source r w c y m x s) (single (pos 1)) None) sources
    merged = rows_totals r w facts sources y
        ∙ ⊕_none (total_by (λ s. total_by (λ z. value_by r w y z (fact x)) (r.of s)) sources)
        ∙ total_same (λ s. total_by (λ z. value_by r w y z (fact x)) (r.of s))
        (λ s. cond (by_source r w c y m x s) (single (pos 1)) None) sources
        (λ s k. one_by_source r w c y m x s (single (pos 1)))

    counted : count (total_by (λ s. cond (by_source r w c y m x s) (single (pos 1)) None) sources) ≡ 1
    counted = sym (ap count merged) ∙ sym (ap count same) ∙ direct_count

-- what holds of none doesn't depend on how it is said
pub none_same : {A : Type 0} (P Q : A → Type 0) → ((x : A) → P x ↔ Q x) → (xs : List A) → NoneOf P xs → NoneOf Q xs
none_same P Q h [] n = tt
none_same P Q h (x ∷ xs) n = (λ q. n.0 ((h x).1 q), none_same P Q h xs n.1)

-- nor does what holds of exactly one
pub one_same : {A : Type 0} (P Q : A → Type 0) → ((x : A) → P x ↔ Q x) → (xs : List A)
    → ExactlyOne P xs → ExactlyOne Q xs
one_same P Q h [] o = o
one_same P Q h (x ∷ xs) (inl o) = inl ((h x).0 o.0, none_same P Q h xs o.1)
one_same P Q h (x ∷ xs) (inr o) = inr (λ q. o.0 ((h x).1 q), one_same P Q h xs o.1)

-- however it is said of sources that x reaches y by them, the two views agree exactly if each point is reached by one
pub rolling_agree : {C P : Type 0} (r : Points C P) → IsRolling r → (Q : P → Type 0) (Via : P → C → Type 0) (c : C)
    → ((x y : P) → Contains (r.of c) y → r.reaches x y ≡ true → (s : C) → Via x s ↔ By r x s y) → (sources : List C)
    → ViewsAgree (At Q) r c sources
    ↔ ((x : P) → Q x → (y : P) → Contains (r.of c) y → r.reaches x y ≡ true → ExactlyOne (Via x) sources)
rolling_agree r w Q Via c by sources = (
  λ h x q y k e. one_same (λ s. By r x s y) (Via x) (λ s. let t = by x y k e s in (t.1, t.0)) sources
      (only r w Q c sources h x q y k e),
  λ h. agree r w Q c sources
      (λ x q y k e. one_same (Via x) (λ s. By r x s y) (by x y k e) sources (h x q y k e)),
)

-- nor does what holds this many times
pub times_same : {A : Type 0} (P Q : A → Type 0) → ((x : A) → P x ↔ Q x) → (xs : List A) (n : ℕ)
    → HoldsTimes P xs n → HoldsTimes Q xs n
times_same P Q h [] n t = t
times_same P Q h (x ∷ xs) n (inl t) = inl ((h x).0 t.0, t.1, t.2, times_same P Q h xs t.1 t.3)
times_same P Q h (x ∷ xs) n (inr t) = inr (λ q. t.0 ((h x).1 q), times_same P Q h xs n t.1)

-- ---- one fact's views

-- one more, where the test is true
one_more : (b : Bool) (n : ℕ) → cond b (single (pos 1)) None ⊕ ones n ≡ ones (cond b (suc n) n)
one_more true zero = refl
one_more true (suc n) = let e : 1 + suc n ≡ suc (suc n) = omega arith in
    λ i. Some (record { count = e i; sum = pos (e i); least = pos 1; greatest = pos 1 })
one_more false n = refl

-- as many ones as there are places of which the test is true
ones_total : {A : Type 0} (P : A → Type 0) (p : A → Bool) → ((x : A) → IsTrue (p x) ↔ P x) → (xs : List A) (n : ℕ) →
    HoldsTimes P xs n → total_by (λ s. cond (p s) (single (pos 1)) None) xs ≡ ones n
ones_total P p d [] n e = sym (ap ones e)
ones_total P p d (x ∷ xs) n (inl t) = go (p x) ((d x).1 t.0) (ones_total P p d xs t.1 t.3)
  where
    go : (b : Bool) → b ≡ true → total_by (λ s. cond (p s) (single (pos 1)) None) xs ≡ ones t.1
        → cond b (single (pos 1)) None ⊕ total_by (λ s. cond (p s) (single (pos 1)) None) xs ≡ ones n
    go true e rest = ap (λ o. single (pos 1) ⊕ o) rest ∙ one_more true t.1 ∙ sym (ap ones t.2)
    go false e rest = absurd (cc)
ones_total P p d (x ∷ xs) n (inr t) = go (p x) (λ e. t.0 ((d x).0 e)) (ones_total P p d xs n t.1)
  where
    go : (b : Bool) → (b ≡ true → ⊥) → total_by (λ s. cond (p s) (single (pos 1)) None) xs ≡ ones n
        → cond b (single (pos 1)) None ⊕ total_by (λ s. cond (p s) (single (pos 1)) None) xs ≡ ones n
    go true f rest = absurd (f refl)
    go false f rest = rest

-- where no element has a result the list is empty
filter_map_nothing : {A B : Type 0} (h : A → Option B) (xs : List A) → ((z : A) → Contains xs z → h z ≡ None) →
    filter_map h xs ≡ []
filter_map_nothing h [] f = refl
filter_map_nothing h (x ∷ xs) f = ap (λ o. cons_option o (filter_map h xs)) (f x (contains_head x xs))
    ∙ filter_map_nothing h xs (λ z c. f z (contains_cons z xs x c))

-- where one element alone may have a result, the list is that one's
filter_map_only : {A B : Type 0} (h : A → Option B) (y : A) (xs : List A) → Distinct xs → Contains xs y
    → ((z : A) → Contains xs z → (z ≡ y → ⊥) → h z ≡ None) → filter_map h xs ≡ cons_option (h y) []
filter_map_only h y [] d c f = absurd (Contains-nil y c)
filter_map_only h y (x ∷ xs) d c f = elim (contains_cases y x xs c) [
  | inl e ↦ ap (λ o. cons_option o (filter_map h xs)) (ap h e)
      ∙ ap (cons_option (h y)) (filter_map_nothing h xs (λ z k. f z (contains_cons z xs x k)
      (λ q. d.0 (subst (λ w. Contains xs w) (q ∙ sym e) k))))
  | inr k ↦
      ap (λ o. cons_option o (filter_map h xs))
      (f x (contains_head x xs) (λ q. d.0 (subst (λ w. Contains xs w) (sym q) k)))
      ∙ filter_map_only h y xs d.1 k (λ z l n. f z (contains_cons z xs x l) n)
]

module _ {C P : Type 0} (r : Points C P) (w : IsRolling r) (c : C) (x y : P) (m : Contains (r.of c) y)
    (e : r.reaches x y ≡ true) where
  -- of the points of c, x reaches y alone
  unreached : (z : P) → Contains (r.of c) z → (z ≡ y → ⊥) → r.reaches x z ≡ false
  unreached z k n = false_from_ne_true (r.reaches x z) (λ f. n (w.once c x z y k m f e))

  -- where the test is true, what stands there
  if_true : (b : Bool) (o : Option Summary) → b ≡ true → cond b o None ≡ o
  if_true true o e = refl
  if_true false o e = absurd (cc)

  -- what a fact at x of value 1 adds to z
  value_at : (z : P) → total_of_facts r (one_fact x) z ≡ cond (r.reaches x z) (single (pos 1)) None
  unfolding value_if
  value_at z = facts_totals r w (one_fact x) z
      ∙ ⊕_none (cond (r.reaches x z) (single (pos 1)) None)

  -- the direct view of one fact of value 1 has 1 at y, and nothing else
  pub direct_of_one : direct_rows r c (one_fact x) ≡ cons_option (row_at y (ones 1)) []
  direct_of_one =
      filter_map_only (λ z. row_at z (total_of_facts r (one_fact x) z)) y (r.of c) (w.distinct c) m
      (λ z k n. ap (row_at z) (value_at z ∙ nothing_if (r.reaches x z) (single (pos 1)) (unreached z k n)))
      ∙ ap (λ o. cons_option (row_at y o) []) (value_at y ∙ if_true (r.reaches x y) (single (pos 1)) e)

  -- what the sources' views add to z
  merged_at : (sources : List C) (z : P) (k : Contains (r.of c) z)
      → total_of_views r (direct_views r (one_fact x) sources) z
      ≡ total_by (λ s. cond (by_source r w c z k x s) (single (pos 1)) None) sources
  unfolding value_by value_if
  merged_at sources z k = rows_totals r w (one_fact x) sources z
      ∙ ⊕_none (total_by (λ s. total_by (λ u. value_by r w z u (fact x)) (r.of s)) sources)
      ∙ total_same (λ s. total_by (λ u. value_by r w z u (fact x)) (r.of s))
      (λ s. cond (by_source r w c z k x s) (single (pos 1)) None) sources
      (λ s l. one_by_source r w c z k x s (single (pos 1)))

  -- the view from the sources has at y as many as there are sources by which x reaches it
  pub merged_of_one : (sources : List C) (n : ℕ) → HoldsTimes (λ s. By r x s y) sources n
      → rows_from_views r c (direct_views r (one_fact x) sources) ≡ cons_option (row_at y (ones n)) []
  merged_of_one sources n h =
      filter_map_only (λ z. row_at z (total_of_views r (direct_views r (one_fact x) sources) z)) y (r.of c)
      (w.distinct c) m
      (λ z k q. ap (row_at z) (merged_at sources z k
      ∙ total_same (λ s. cond (by_source r w c z k x s) (single (pos 1)) None) (λ s. None) sources
      (λ s l. nothing_if (by_source r w c z k x s) (single (pos 1))
      (false_from_ne_true (by_source r w c z k x s)
      (λ f. let t = (by_source_is r w c z k x s).0 f in
      q (w.once c x z y k m (w.onward x t.0 z t.2 t.3) e))))
      ∙ total_nothing sources))
      ∙ ap (λ o. cons_option (row_at y o) []) (merged_at sources y m
      ∙ ones_total (λ s. By r x s y) (by_source r w c y m x) (by_source_is r w c y m x) sources n h)
