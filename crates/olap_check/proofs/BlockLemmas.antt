-- Sets of places: what operations on them select, the places one by one, and the first that isn't selected.
use Rattle.std.proofs.Common.{◌≡◌, ℕ, ◌+◌, ◌-◌, ◌<◌, ◌≤◌, ◌⊎◌, ◌↔◌, Bool, true, false, not, ◌&&◌, ◌||◌, List, get_or, length, refl, ap, sym, subst, ◌∙◌, inl, inr, arith}
use Rattle.std.proofs.lemmas.Bool.{and_parts, both_ways, cases_eq, not-true}
use Rattle.std.proofs.lemmas.Bool.Decides.{Decides-and, Decides-at, Decides-eqb, Decides-like, Decides-not, Decides-or}
use Rattle.std.specs.{Bool.Decides, Cmp.nat_cmp_total}
use Rattle.std.specs.FinSet.{FinSet, empty, contains, insert, union, intersection, difference, contains-empty, contains-union, contains-intersection, contains-difference}
use Rattle.std.specs.Ordering.{nat_cmp}
use Rattle.olap_ast.specs.{Formula.{ExactlyOneHolds, Formula, Holds, NoneHolds, Terms}, Trees.formula_of}
use Rattle.olap_ast.specs.declared.formulas.Formula.{Formula as Tree}
use Rattle.olap_base.specs.Instance.{Instance, IsMemberOf}
use Rattle.olap_bits.{proofs.CatSetLemmas.in_insert, specs.CatSet.IsLeast}
use Rattle.olap_check.proofs.GroupLemmas.{count_below, same_nth}
use Rattle.olap_check.specs.{Blocks.{Collects, IsBlock, IsFirstUnmetFrom, IsPart, Selects, width}, Groups.count_before}
use Rattle.olap_legal.specs.declared.tables.Table.{Table}

-- ---- two facts and their tests

module _ {P Q : Type 0} (a b : Bool) (d : Decides a P) (e : Decides b Q) where
  -- one of them implies the other
  implied : Decides (not a || b) (P → Q)
  implied = Decides-like (not a || b) to from (Decides-or (not a) b (Decides-not a d) e)
    where
      to : (P → ⊥) ⊎ Q → P → Q
      to (inl n) p = absurd (n p)
      to (inr q) p = q

      either : (c : Bool) → Decides c P → (P → Q) → (P → ⊥) ⊎ Q
      either true t f = inr (f (t.0 refl))
      either false t f = inl ((Decides-not false t).0 refl)

      from : (P → Q) → (P → ⊥) ⊎ Q
      from = either a d

  -- one of them alone
  alone : Decides (a && not b) (P × (Q → ⊥))
  alone = Decides-and a (not b) d (Decides-not b e)

-- exactly one of them
apart : {P Q : Type 0} (a b : Bool) → Decides a P → Decides b Q
    → Decides ((a && not b) || (b && not a)) ((P × (Q → ⊥)) ⊎ ((P → ⊥) × Q))
apart {P} {Q} a b d e = Decides-like _ to from (Decides-or _ _ (alone a b d e) (alone b a e d))
  where
    to : (P × (Q → ⊥)) ⊎ (Q × (P → ⊥)) → (P × (Q → ⊥)) ⊎ ((P → ⊥) × Q)
    to (inl t) = inl t
    to (inr t) = inr (t.1, t.0)

    from : (P × (Q → ⊥)) ⊎ ((P → ⊥) × Q) → (P × (Q → ⊥)) ⊎ (Q × (P → ⊥))
    from (inl t) = inl t
    from (inr t) = inr (t.1, t.0)

-- both or neither
alike : {P Q : Type 0} (a b : Bool) → Decides a P → Decides b Q
    → Decides (not ((a && not b) || (b && not a))) (P ↔ Q)
alike {P} {Q} a b d e = Decides-like _ to from (Decides-not _ (apart a b d e))
  where
    known : {R : Type 0} (c : Bool) → Decides c R → ((R → ⊥) → ⊥) → R
    known true t n = t.0 refl
    known false t n = absurd (n ((Decides-not false t).0 refl))

    to : ((P × (Q → ⊥)) ⊎ ((P → ⊥) × Q) → ⊥) → P ↔ Q
    to n = (λ p. known b e (λ m. n (inl (p, m))), λ q. known a d (λ m. n (inr (m, q))))

    from : P ↔ Q → (P × (Q → ⊥)) ⊎ ((P → ⊥) × Q) → ⊥
    from f (inl t) = t.1 (f.0 t.0)
    from f (inr t) = t.0 (f.1 t.1)

-- ---- sets of places

-- the places that are in one set alone
in_one : (s t : FinSet nat_cmp) (k : ℕ) → contains (union (difference s t) (difference t s)) k
    ≡ ((contains s k && not (contains t k)) || (contains t k && not (contains s k)))
in_one s t k =
    contains-union nat_cmp_total (difference s t) (difference t s) k
    ∙ (λ i. contains-difference nat_cmp_total s t k i || contains-difference nat_cmp_total t s k i)

module _ (n : ℕ) where
  -- no place
  pub select_none : {P : ℕ → Type 0} → ((k : ℕ) → P k → ⊥) → Selects n P empty
  select_none f k h = (λ e. absurd (both_ways _ (contains-empty nat_cmp k) e), λ p. absurd (f k p))

  module _ {P Q : ℕ → Type 0} (s t : FinSet nat_cmp) (f : Selects n P s) (g : Selects n Q t) where
    pub select_and : Selects n (λ k. P k × Q k) (intersection s t)
    select_and k h =
        Decides-at _ _ (contains-intersection nat_cmp_total s t k) (Decides-and _ _ (f k h) (g k h))

    pub select_or : Selects n (λ k. P k ⊎ Q k) (union s t)
    select_or k h = Decides-at _ _ (contains-union nat_cmp_total s t k) (Decides-or _ _ (f k h) (g k h))

    pub select_alone : Selects n (λ k. P k × (Q k → ⊥)) (difference s t)
    select_alone k h = Decides-at _ _ (contains-difference nat_cmp_total s t k) (alone _ _ (f k h) (g k h))

    pub select_xor : Selects n (λ k. (P k × (Q k → ⊥)) ⊎ ((P k → ⊥) × Q k))
        (union (difference s t) (difference t s))
    select_xor k h = Decides-at _ _ (in_one s t k) (apart _ _ (f k h) (g k h))

  -- of these places those at which it is so as well
  pub select_narrowed : {P : ℕ → Type 0} (s t : FinSet nat_cmp) → Selects n P t → {r : FinSet nat_cmp}
      → r ≡ intersection s t → Selects n (λ k. (contains s k ≡ true) × P k) r
  select_narrowed {P} s t f e = subst (λ r. Selects n (λ k. (contains s k ≡ true) × P k) r) (sym e)
      (select_and s t (λ k h. (λ q. q, λ q. q)) f)

-- every place before n is in the set
abbrev pub HasAll : ℕ → FinSet nat_cmp → Type 0
HasAll n all = (k : ℕ) → k < n → contains all k ≡ true

module _ (n : ℕ) (all : FinSet nat_cmp) (has : HasAll n all) where
  pub select_all : {P : ℕ → Type 0} → ((k : ℕ) → P k) → Selects n P all
  select_all f k h = (λ _. f k, λ _. has k h)

  -- all places but these
  left : (s : FinSet nat_cmp) (k : ℕ) → k < n → contains (difference all s) k ≡ not (contains s k)
  left s k h = contains-difference nat_cmp_total all s k ∙ ap (λ b. b && not (contains s k)) (has k h)

  pub select_not : {P : ℕ → Type 0} (s : FinSet nat_cmp) → Selects n P s → Selects n (λ k. P k → ⊥) (difference all s)
  select_not s f k h = Decides-at _ _ (left s k h) (Decides-not _ (f k h))

  module _ {P Q : ℕ → Type 0} (s t : FinSet nat_cmp) (f : Selects n P s) (g : Selects n Q t) where
    pub select_implies : Selects n (λ k. P k → Q k) (union (difference all s) t)
    select_implies k h =
        Decides-at _ _ (contains-union nat_cmp_total _ t k ∙ ap (λ b. b || contains t k) (left s k h))
        (implied _ _ (f k h) (g k h))

    pub select_iff : Selects n (λ k. P k ↔ Q k) (difference all (union (difference s t) (difference t s)))
    select_iff k h = Decides-at _ _ (left _ k h ∙ ap not (in_one s t k)) (alike _ _ (f k h) (g k h))

-- ---- formulas and their parts

-- a formula, of which this is the tree, is true at the member of a place
abbrev pub TrueAt : Instance → List ℕ → Tree → ℕ → Type 0
TrueAt i part f k = Holds i (get_or part k 0) (formula_of f)

-- exactly one of the formulas is, or none
abbrev pub OneTrueAt : Instance → List ℕ → Terms → ℕ → Type 0
OneTrueAt i part parts k = ExactlyOneHolds i (get_or part k 0) parts

-- at a place none of the formulas is true
abbrev pub NoneTrueAt : Instance → List ℕ → Terms → ℕ → Type 0
NoneTrueAt i part parts k = NoneHolds i (get_or part k 0) parts

-- at a place none of all parts is true, or exactly one, as the places say for those before and the list for those left
pub record IsCounted (i : Instance) (part : List ℕ) (parts left : Terms) (none one : FinSet nat_cmp) : Type 0 where
  pub none_so_far : (k : ℕ) → k < length part
      → ((contains none k ≡ true) × NoneTrueAt i part left k) ↔ NoneTrueAt i part parts k
  pub one_so_far : (k : ℕ) → k < length part
      → (((contains one k ≡ true) × NoneTrueAt i part left k) ⊎ ((contains none k ≡ true) × OneTrueAt i part left k))
      ↔ OneTrueAt i part parts k

module _ (i : Instance) (part : List ℕ) (parts : Terms) where
  -- before the first part
  pub counted_none : (all : FinSet nat_cmp) → HasAll (length part) all → IsCounted i part parts parts all empty
  counted_none all has = record {
    none_so_far = λ k h. (λ t. t.1, λ n. (has k h, n));
    one_so_far = λ k h. (
      λ t. elim t [ inl u ↦ absurd (both_ways _ (contains-empty nat_cmp k) u.0) | inr u ↦ u.1 ],
      λ o. inr (has k h, o),
    );
  }

  -- after the last part
  pub counted_all : (none one : FinSet nat_cmp) → IsCounted i part parts Terms.End none one
      → Selects (length part) (NoneTrueAt i part parts) none × Selects (length part) (OneTrueAt i part parts) one
  counted_all none one c = (
    λ k h. (λ e. (c.none_so_far k h).0 (e, tt), λ n. ((c.none_so_far k h).1 n).0),
    λ k h. (
      λ e. (c.one_so_far k h).0 (inl (e, tt)),
      λ o. elim ((c.one_so_far k h).1 o) [ inl t ↦ t.0 | inr t ↦ absurd t.1 ],
    ),
  )

  -- one part more
  module _ (f : Formula) (rest : Terms) (none one here : FinSet nat_cmp)
      (c : IsCounted i part parts (Terms.More f rest) none one)
      (s : Selects (length part) (λ k. Holds i (get_or part k 0) f) here) where
    -- the part is true at the member of a place
    abbrev Here : ℕ → Type 0
    Here k = Holds i (get_or part k 0) f

    -- what is in the set is in it
    itself : (set : FinSet nat_cmp) → Selects (length part) (λ k. contains set k ≡ true) set
    itself set k h = (λ e. e, λ e. e)

    pub counted_more : {n o : FinSet nat_cmp} → n ≡ difference none here
        → o ≡ union (difference one here) (intersection here none) → IsCounted i part parts rest n o
    counted_more {o = o} e g =
        subst (λ n. IsCounted i part parts rest n o) (sym e)
        (subst (IsCounted i part parts rest (difference none here)) (sym g)
        (record { none_so_far = none_is; one_so_far = one_is }))
      where
        left_over : Selects (length part) (λ k. (contains none k ≡ true) × (Here k → ⊥)) (difference none here)
        left_over = select_alone (length part) none here (itself none) s

        alone_now : Selects (length part)
            (λ k. ((contains one k ≡ true) × (Here k → ⊥)) ⊎ (Here k × (contains none k ≡ true)))
            (union (difference one here) (intersection here none))
        alone_now = select_or (length part) _ _ (select_alone (length part) one here (itself one) s)
            (select_and (length part) here none s (itself none))

        none_is : (k : ℕ) → k < length part
            → ((contains (difference none here) k ≡ true) × NoneTrueAt i part rest k) ↔ NoneTrueAt i part parts k
        none_is k h = (
          λ t. let l = (left_over k h).0 t.0 in (c.none_so_far k h).0 (l.0, (l.1, t.1)),
          λ n. let t = (c.none_so_far k h).1 n in ((left_over k h).1 (t.0, t.1.0), t.1.1),
        )

        one_is : (k : ℕ) → k < length part
            → (((contains (union (difference one here) (intersection here none)) k ≡ true) × NoneTrueAt i part rest k)
            ⊎ ((contains (difference none here) k ≡ true) × OneTrueAt i part rest k)) ↔ OneTrueAt i part parts k
        one_is k h = (
          λ t. (c.one_so_far k h).0 (elim t [
            | inl u ↦ elim ((alone_now k h).0 u.0) [ inl v ↦ inl (v.0, (v.1, u.1)) | inr v ↦ inr (v.1, inl (v.0, u.1)) ]
            | inr u ↦ let l = (left_over k h).0 u.0 in inr (l.0, inr (l.1, u.1))
          ]),
          λ o. elim ((c.one_so_far k h).1 o) [
            | inl t ↦ inl ((alone_now k h).1 (inl (t.0, t.1.0)), t.1.1)
            | inr t ↦ elim t.1 [
              | inl u ↦ inl ((alone_now k h).1 (inr (u.0, t.0)), u.1)
              | inr u ↦ inr ((left_over k h).1 (t.0, u.0), u.1)
            ]
          ],
        )

-- what is selected, of an equal formula
pub select_part : {A : Type 0} (n : ℕ) (P : A → ℕ → Type 0) {a b : A} (s : FinSet nat_cmp) → b ≡ a
    → Selects n (P b) s → Selects n (P a) s
select_part n P s e f = subst (λ z. Selects n (P z) s) e f

-- what is selected, of an equal formula and by an equal set
pub select_whole : {A : Type 0} (n : ℕ) (P : A → ℕ → Type 0) {a b : A} (s : FinSet nat_cmp)
    {t : FinSet nat_cmp} → a ≡ b → s ≡ t → Selects n (P b) t → Selects n (P a) s
select_whole n P {b = b} s e q f =
    select_part n P s (sym e) (subst (λ r. Selects n (P b) r) (sym q) f)

-- ---- place by place

module _ (P : ℕ → Type 0) where
  -- before the first place
  pub collect_start : Collects 0 P empty
  collect_start k = (λ e. absurd (both_ways _ (contains-empty nat_cmp k) e), λ t. let h = t.0 in absurd (omega arith))

  module _ (n : ℕ) (s : FinSet nat_cmp) (c : Collects n P s) where
    -- one place more
    pub collect_more : P n → Collects (n + 1) P (insert s n)
    collect_more p k = Decides-like _ to from
        (Decides-at _ _ (in_insert s n k) (Decides-or _ _ (Decides-eqb k n) (c k)))
      where
        to : (k ≡ n) ⊎ ((k < n) × P k) → (k < n + 1) × P k
        to (inl e) = (omega arith, subst P (sym e) p)
        to (inr t) = let h = t.0 in (omega arith, t.1)

        from : (k < n + 1) × P k → (k ≡ n) ⊎ ((k < n) × P k)
        from t = let h = t.0 in elim (cases_eq k n) [ inl e ↦ inl e | inr ne ↦ inr (omega arith, t.1) ]

    -- one place more, at which it isn't so
    pub collect_skip : (P n → ⊥) → Collects (n + 1) P s
    collect_skip none k = Decides-like _ to from (c k)
      where
        to : (k < n) × P k → (k < n + 1) × P k
        to t = let h = t.0 in (omega arith, t.1)

        from : (k < n + 1) × P k → (k < n) × P k
        from t = let h = t.0 in
            elim (cases_eq k n) [ inl e ↦ absurd (none (subst P e t.1)) | inr ne ↦ (omega arith, t.1) ]

-- of more places those at which it is so are collected
pub select_collected : (n m : ℕ) (s : FinSet nat_cmp) {P : ℕ → Type 0} → n ≤ m → Collects m P s → Selects n P s
select_collected n m s few c k h = (λ e. ((c k).0 e).1, λ p. (c k).1 (omega arith, p))

-- all places of a block are in the set of all
pub has_all : {i : Instance} {n root start : ℕ} {table : Table} {part : List ℕ} {all : FinSet nat_cmp}
    → IsBlock i n table root start part all → HasAll (length part) all
has_all b k h = (b.all_places k).1 (let few = b.is_part.few in omega (arith, few, h), tt)

-- ---- the first member at which a formula is false

module _ (i : Instance) (root start : ℕ) (part : List ℕ) (is : IsPart i root start part) where
  -- a member of the root has its place
  place_of : (x : ℕ) → start ≤ count_before i root x → count_before i root x < start + width → IsMemberOf i root x
      → (k : ℕ) × (k < length part) × (get_or part k 0 ≡ x) × (count_before i root x ≡ start + k)
  place_of x l h m =
      let k = count_before i root x - start in
      let e : count_before i root x ≡ start + k = omega arith in
      let inside = is.whole k x (omega arith) (m, e) in
      (k, inside, same_nth i root (start + k) (get_or part k 0) x (is.each k inside) (m, e), e)

  module _ (f : Formula) (all truths : FinSet nat_cmp) (has : HasAll (length part) all)
      (t : Selects (length part) (λ k. Holds i (get_or part k 0) f) truths) where
    -- the formula is true where a place isn't left over
    true_unless : (k : ℕ) → k < length part → (contains (difference all truths) k ≡ true → ⊥)
        → Holds i (get_or part k 0) f
    true_unless k h n =
        (t k h).0 (known (contains truths k) (λ r. n (left (length part) all has truths k h ∙ ap not r)))
      where
        known : (b : Bool) → (b ≡ false → ⊥) → b ≡ true
        known true n = refl
        known false n = absurd (n refl)

    -- the first place that is left over
    pub first_left : (k : ℕ) → k < length part → IsLeast (difference all truths) k
        → IsFirstUnmetFrom i root f start (get_or part k 0)
    first_left k h least =
        let both = and_parts (contains all k) (not (contains truths k))
        (sym (contains-difference nat_cmp_total all truths k) ∙ least.is_one) in
        let nth = is.each k h in
        record {
          is_member = nth.0;
          unmet = λ holds. both_ways _ (not-true _ both.1) ((t k h).1 holds);
          before = λ w l b m.
              let earlier = count_below i root w (get_or part k 0) m b in
              let here = nth.1 in
              let few = is.few in
              let place = place_of w l (omega (arith, earlier, here, few, h)) m in
              let inside = place.1 in
              let there = place.3 in
              subst (λ x. Holds i x f) place.2
              (true_unless place.0 inside
              (λ e. let later = least.least place.0 e in omega (arith, later, there, earlier, here)));
        }

    -- where none of the part is left over the formula is true at all of it
    pub none_left : ((k : ℕ) → contains (difference all truths) k ≡ true → length part ≤ k) → (x : ℕ)
        → start ≤ count_before i root x → count_before i root x < start + width → IsMemberOf i root x → Holds i x f
    none_left past x l h m =
        let place = place_of x l h m in
        let inside = place.1 in
        subst (λ y. Holds i y f) place.2
        (true_unless place.0 inside (λ e. let late = past place.0 e in omega (arith, late, inside)))

-- no place is in an empty set
pub none_past : (s : FinSet nat_cmp) (n : ℕ) → s ≡ empty → (k : ℕ) → contains s k ≡ true → n ≤ k
none_past s n e k c = absurd (both_ways _ (contains-empty nat_cmp k) (subst (λ r. contains r k ≡ true) e c))
