-- Sets of categories that grow by edges until they have all that is reached.
--     added_is, added_none    what adding one does
--     grows_none              where no edge was seen
--     added_from_is, added_from_none, one_left, none_left    what adding all that a category leads to does
--     IsOnWay, way_begins ..  a walk while it grows
use Rattle.std.proofs.Common.{◌≡◌, ℕ, zero, suc, ◌+◌, ◌<◌, ◌≤◌, ◌⊎◌, ◌↔◌, Bool, true, false, cond, eqb, not, refl, ap, sym, subst, ◌∙◌, inl, inr, arith}
use Rattle.std.{proofs.lemmas.Bool.{not-true, or_parts, or_cases, and_from, eqb-true, eq-eqb}, specs.Cmp.nat_cmp_total}
use Rattle.std.specs.FinSet.{FinSet, contains, contains-difference, contains-empty, difference, empty, insert, union}
use Rattle.std.specs.{Ordering.nat_cmp, Prelude.{◌&&◌, ◌||◌}}
use Rattle.olap_base.{proofs.ListLemmas.{first_true, second_true}, specs.Graph.{CategoryReaches, Graph, HasEdge}}
use Rattle.olap_base.specs.Steps.{Steps, Steps.here, Steps.step, Steps-append, Steps-from_reaches, reaches_from_Steps}
use Rattle.olap_bits.proofs.CatSetLemmas.{in_insert}
use Rattle.olap_graph.proofs.RowLemmas.{has_union}
use Rattle.olap_proof.specs.Walking.{Grows, IsAdded, IsAddedFrom, IsIn, IsWalk, SeenFrom, SeenUpTo}

-- nothing is both false and true
pub false_true : (b : Bool) → b ≡ false → b ≡ true → ⊥
false_true b p q = let z : false ≡ true = sym p ∙ q in cc

-- where an edge joins them, c is in the set and d isn't, d is added
pub added_is : (old new : FinSet nat_cmp) (joins : Bool) (c d : ℕ) (grew : Bool) → new ≡ insert old d → joins ≡ true
    → contains old c ≡ true → contains old d ≡ false → IsAdded old joins c d grew new true
added_is old new joins c d grew e j there absent = record {
  kept = λ x h. subst (λ s. IsIn s x) (sym e) (in_insert old d x ∙ either (eqb x d) (contains old x) h);
  only = λ x h. elim (or_cases (eqb x d) (contains old x) (sym (in_insert old d x) ∙ subst (λ s. IsIn s x) e h)) [
    | inl a ↦ inr (eqb-true x d a, there, j)
    | inr a ↦ inl a
  ];
  same = λ f. absurd (let z : true ≡ false = f in cc);
  more = λ t. inr (
    subst (λ s. IsIn s d) (sym e) (in_insert old d d ∙ ap (λ b. b || contains old d) (eq-eqb d d refl)),
    λ h. false_true (contains old d) absent h,
  );
}
  where
    either : (a b : Bool) → b ≡ true → a || b ≡ true
    either true b h = refl
    either false b h = h

-- and after one edge more
pub grows_by : (g : Graph) (n : ℕ) (takes : ℕ → Bool) (child parent : ℕ → ℕ) (i : ℕ) (old mid new : FinSet nat_cmp)
    (grew now : Bool) → Grows g n (SeenUpTo takes child parent i) old mid grew
    → (takes i ≡ true → HasEdge g (child i) (parent i)) → parent i < n
    → IsAdded mid (takes i) (child i) (parent i) grew new now
    → Grows g n (SeenUpTo takes child parent (i + 1)) old new now
grows_by g n takes child parent i old mid new grew now h edge small one = record {
  kept = λ x m. one.kept x (h.kept x m);
  sound = λ a all x m. elim (one.only x m) [
    | inl k ↦ h.sound a all x k
    | inr k ↦ subst (λ y. CategoryReaches g a y) (sym k.0)
        (reaches_from_Steps (Steps-append (Steps-from_reaches (h.sound a all (child i) k.1)) (step (edge k.2) here)))
  ];
  same = λ f. let b = one.same f in b.1 ∙ h.same b.0;
  closed = λ f c d seen m.
      let b = one.same f in
      let still = h.same b.0 in
      elim (last seen.0 i seen.1) [
        | inl before ↦ h.closed b.0 c d (seen.0, before, seen.2, seen.3, seen.4) m
        | inr e ↦
            let from : child i ≡ c = ap child (sym e) ∙ seen.3 in
            let to : parent i ≡ d = ap parent (sym e) ∙ seen.4 in
            let there = subst (λ w. IsIn mid w) (sym from) (subst (λ z. IsIn z c) (sym still) m) in
            subst (λ z. IsIn z d) still (subst (λ w. IsIn mid w) to (b.2 (ap takes (sym e) ∙ seen.2) there))
      ];
  more = λ t. elim (one.more t) [
    | inl b ↦ let w = h.more b in (w.0, w.1, one.kept w.0 w.2, w.3)
    | inr b ↦ (parent i, small, b.0, λ m. b.1 (h.kept (parent i) m))
  ];
}
  where
    last : (k i : ℕ) → k < i + 1 → (k < i) ⊎ (k ≡ i)
    last k i l = grind arith

-- ---- what leads from a category

-- all that it leads to is added, where some of that isn't in the set
pub added_from_is : (old to new : FinSet nat_cmp) (c x : ℕ) (grew : Bool) → new ≡ union old to → IsIn to x
    → (IsIn old x → ⊥) → IsIn old c → IsAddedFrom old c to grew new true
added_from_is old to new c x grew e m out there = record {
  kept = λ y h. subst (λ s. IsIn s y) (sym e) ((has_union old to y).1 (inl h));
  only = λ y h. elim ((has_union old to y).0 (subst (λ s. IsIn s y) e h)) [ inl a ↦ inl a | inr a ↦ inr (there, a) ];
  same = λ f. absurd (let z : true ≡ false = f in cc);
  more = λ t. inr (x, m, subst (λ s. IsIn s x) (sym e) ((has_union old to x).1 (inr m)), out);
}

-- what is left without the set isn't in it
pub one_left : (old to less : FinSet nat_cmp) (x : ℕ) → less ≡ difference to old → IsIn less x
    → IsIn to x × (IsIn old x → ⊥)
one_left old to less x l m =
    let both : contains to x && not (contains old x) ≡ true =
    sym (contains-difference nat_cmp_total to old x) ∙ subst (λ s. IsIn s x) l m in (
      first_true (contains to x) (not (contains old x)) both,
      false_true (contains old x) (not-true (contains old x) (second_true (contains to x) (not (contains old x)) both)),
    )

-- and where nothing is left, all is in it
pub none_left : (old to less : FinSet nat_cmp) → less ≡ difference to old → less ≡ empty → (x : ℕ) → IsIn to x
    → IsIn old x
none_left old to less l e x m = go (contains old x) refl
  where
    nothing : contains to x && not (contains old x) ≡ false
    nothing =
        sym (contains-difference nat_cmp_total to old x)
        ∙ ap (λ s. contains s x) (sym l ∙ e) ∙ contains-empty nat_cmp x

    go : (b : Bool) → contains old x ≡ b → contains old x ≡ true
    go true h = h
    go false h = absurd (
        let both : contains to x && not (contains old x) ≡ true =
        and_from (contains to x) (not (contains old x)) m (ap not h) in
        false_true (contains to x && not (contains old x)) nothing both)

-- and after one category more
pub grows_from : (g : Graph) (n : ℕ) (Leads : ℕ → ℕ → Type 0) (i : ℕ) (old mid new to : FinSet nat_cmp)
    (grew now : Bool) → Grows g n (SeenFrom Leads i) old mid grew → ((d : ℕ) → IsIn to d ↔ Leads i d)
    → ((d : ℕ) → Leads i d → HasEdge g i d × (d < n)) → IsAddedFrom mid i to grew new now
    → Grows g n (SeenFrom Leads (i + 1)) old new now
grows_from g n Leads i old mid new to grew now h set_is edge one = record {
  kept = λ x m. one.kept x (h.kept x m);
  sound = λ a all x m. elim (one.only x m) [
    | inl k ↦ h.sound a all x k
    | inr k ↦ reaches_from_Steps (Steps-append (Steps-from_reaches (h.sound a all i k.0))
        (step ((edge x ((set_is x).0 k.1)).0) here))
  ];
  same = λ f. let b = one.same f in b.1 ∙ h.same b.0;
  closed = λ f c d seen m.
      let b = one.same f in
      let still = h.same b.0 in
      elim (last c i seen.0) [
        | inl before ↦ h.closed b.0 c d (before, seen.1) m
        | inr e ↦
            let there : IsIn mid i = subst (λ w. IsIn mid w) e (subst (λ z. IsIn z c) (sym still) m) in
            subst (λ z. IsIn z d) still (b.2 there d ((set_is d).1 (subst (λ w. Leads w d) e seen.1)))
      ];
  more = λ t. elim (one.more t) [
    | inl b ↦ let w = h.more b in (w.0, w.1, one.kept w.0 w.2, w.3)
    | inr b ↦ (b.0, (edge b.0 ((set_is b.0).0 b.1)).1, b.2, λ m. b.3 (h.kept b.0 m))
  ];
}
  where
    last : (k i : ℕ) → k < i + 1 → (k < i) ⊎ (k ≡ i)
    last k i l = grind arith

-- where what was seen grew by nothing
pub grows_on : (g : Graph) (n : ℕ) (Seen Now : ℕ → ℕ → Type 0) (old new : FinSet nat_cmp) (grew : Bool)
    → Grows g n Seen old new grew → ((x y : ℕ) → Now x y → Seen x y) → Grows g n Now old new grew
grows_on g n Seen Now old new grew h less = record {
  kept = h.kept;
  sound = h.sound;
  same = h.same;
  closed = λ f x y now i. h.closed f x y (less x y now) i;
  more = h.more;
}

-- one growth after another
pub grows_then : (g : Graph) (n : ℕ) (Seen After : ℕ → ℕ → Type 0) (old mid new : FinSet nat_cmp) (grew grows : Bool)
    → Grows g n Seen old mid grew → Grows g n After mid new grows
    → Grows g n (λ x y. Seen x y ⊎ After x y) old new (grew || grows)
grows_then g n Seen After old mid new grew grows h k = record {
  kept = λ x i. k.kept x (h.kept x i);
  sound = λ a all x i. k.sound a (λ y j. h.sound a all y j) x i;
  same = λ f. let b = or_parts grew grows f in k.same b.1 ∙ h.same b.0;
  closed = λ f x y now i.
      let b = or_parts grew grows f in
      elim now [
        | inl s ↦ h.closed b.0 x y s i
        | inr s ↦ subst (λ z. IsIn z y) (h.same b.0) (k.closed b.1 x y s (subst (λ z. IsIn z x) (sym (h.same b.0)) i))
      ];
  more = λ t. elim (or_cases grew grows t) [
    | inl b ↦ let w = h.more b in (w.0, w.1, k.kept w.0 w.2, w.3)
    | inr b ↦ let w = k.more b in (w.0, w.1, w.2, λ i. w.3 (h.kept w.0 i))
  ];
}

-- ---- how long it goes on

-- how many numbers below this one aren't in the set
abbrev pub missing : FinSet nat_cmp → ℕ → ℕ
missing s zero = 0
missing s (suc n) = cond (contains s n) (missing s n) (suc (missing s n))

-- a set that has all of another lacks no more
missing_least : (old new : FinSet nat_cmp) → ((x : ℕ) → IsIn old x → IsIn new x) → (n : ℕ)
    → missing new n ≤ missing old n
missing_least old new kept zero = omega arith
missing_least old new kept (suc n) =
    go (contains old n) (kept n) (contains new n) (missing_least old new kept n)
  where
    go : (a : Bool) → (a ≡ true → contains new n ≡ true) → (b : Bool) → missing new n ≤ missing old n
        → cond (contains new n) (missing new n) (suc (missing new n)) ≤ cond a (missing old n) (suc (missing old n))
    go true k b l = subst (λ c. cond c (missing new n) (suc (missing new n)) ≤ missing old n) (sym (k refl)) l
    go false k b l = at (contains new n) l
      where
        at : (c : Bool) → missing new n ≤ missing old n
            → cond c (missing new n) (suc (missing new n)) ≤ suc (missing old n)
        at true m = omega arith
        at false m = omega arith

-- fewer after the set grew
pub missing_less : (old new : FinSet nat_cmp) → ((x : ℕ) → IsIn old x → IsIn new x) → (n x : ℕ) → x < n → IsIn new x
    → (IsIn old x → ⊥) → missing new n < missing old n
missing_less old new kept zero x l i not = absurd (omega arith)
missing_less old new kept (suc n) x l i not =
    elim (last x n l) [
      | inl e ↦
          here (contains new n) (subst (λ y. IsIn new y) e i) (contains old n)
          (λ h. not (subst (λ y. IsIn old y) (sym e) h)) (missing_least old new kept n)
      | inr b ↦ below (contains old n) (kept n) (contains new n) refl (missing_less old new kept n x b i not)
    ]
  where
    last : (x n : ℕ) → x < suc n → (x ≡ n) ⊎ (x < n)
    last zero zero l = inl refl
    last zero (suc n) l = inr (omega arith)
    last (suc x) zero l = absurd (omega arith)
    last (suc x) (suc n) l = elim (last x n (omega arith)) [ inl e ↦ inl (ap suc e) | inr b ↦ inr (omega (arith, b)) ]

    here : (b : Bool) → b ≡ true → (a : Bool) → (a ≡ true → ⊥) → missing new n ≤ missing old n
        → cond b (missing new n) (suc (missing new n)) < cond a (missing old n) (suc (missing old n))
    here false e a m l = absurd (let z : false ≡ true = e in cc)
    here true e true m l = absurd (m refl)
    here true e false m l = omega arith

    below : (a : Bool) → (a ≡ true → contains new n ≡ true) → (b : Bool) → contains new n ≡ b
        → missing new n < missing old n
        → cond b (missing new n) (suc (missing new n)) < cond a (missing old n) (suc (missing old n))
    below true k true e l = l
    below true k false e l = absurd (false_true (contains new n) e (k refl))
    below false k true e l = omega arith
    below false k false e l = omega arith

-- ---- where it ends

-- where nothing grows, the set has all that is reached from one of its categories
pub closed_walk : (g : Graph) (s : FinSet nat_cmp) → ((c d : ℕ) → HasEdge g c d → IsIn s c → IsIn s d) → {a b : ℕ}
    → Steps (HasEdge g) a b → IsIn s a → IsIn s b
closed_walk g s closed here i = i
closed_walk g s closed (step {x = a} {y = b} e w) i = closed_walk g s closed w (closed a b e i)

-- each category of the set is reached from one that it has, and where it doesn't grow, it has all that edges lead to
pub record IsOnWay (g : Graph) (a : ℕ) (s : FinSet nat_cmp) (grows : Bool) : Type 0 where
  pub from : IsIn s a
  pub reached : (x : ℕ) → IsIn s x → CategoryReaches g a x
  pub closed : grows ≡ false → (c d : ℕ) → HasEdge g c d → IsIn s c → IsIn s d

-- so it is at first
pub way_begins : (g : Graph) (a : ℕ) (s : FinSet nat_cmp) → s ≡ insert empty a → IsOnWay g a s true
way_begins g a s e = record {
  from = subst (λ z. IsIn z a) (sym e)
      (in_insert empty a a ∙ ap (λ b. b || contains {R = nat_cmp} empty a) (eq-eqb a a refl));
  reached = λ x i. elim (or_cases (eqb x a) (contains {R = nat_cmp} empty x)
      (sym (in_insert empty a x) ∙ subst (λ z. IsIn z x) e i)) [
        | inl h ↦ inl (sym (eqb-true x a h))
        | inr h ↦ absurd (false_true (contains {R = nat_cmp} empty x) (contains-empty nat_cmp x) h)
      ];
  closed = λ f. absurd (let z : true ≡ false = f in cc);
}

-- and after it grew
pub way_goes_on : (g : Graph) (n : ℕ) (Seen : ℕ → ℕ → Type 0) (a : ℕ) (old new : FinSet nat_cmp) (grew : Bool)
    → IsOnWay g a old true → Grows g n Seen old new grew → ((c d : ℕ) → HasEdge g c d → Seen c d) → IsOnWay g a new grew
way_goes_on g n Seen a old new grew h k all = record {
  from = k.kept a h.from;
  reached = k.sound a h.reached;
  closed = λ f c d e i.
      subst (λ z. IsIn z d) (sym (k.same f)) (k.closed f c d (all c d e) (subst (λ z. IsIn z c) (k.same f) i));
}

-- then it has all that is reached
pub walk_done : (g : Graph) (a : ℕ) (s : FinSet nat_cmp) (grows : Bool) → grows ≡ false → IsOnWay g a s grows
    → IsWalk g a s
walk_done g a s grows f h = λ x. (h.reached x, λ r. closed_walk g s (h.closed f) (Steps-from_reaches r) h.from)

-- and less is missing
pub fewer_missing : (g : Graph) (n : ℕ) (Seen : ℕ → ℕ → Type 0) (old new : FinSet nat_cmp) (grew : Bool)
    → Grows g n Seen old new grew → missing new n + cond grew 1 0 < missing old n + 1
fewer_missing g n Seen old new true h =
    let w = h.more refl in
    let l = missing_less old new h.kept n w.0 w.1 w.2 w.3 in omega (arith, l)
fewer_missing g n Seen old new false h = let l = missing_least old new h.kept n in omega (arith, l)
