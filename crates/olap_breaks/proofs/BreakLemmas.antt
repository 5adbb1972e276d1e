-- The members at which totals differ are those that are listed.
use Rattle.std.proofs.Common.{◌≡◌, ◌∙◌, ℕ, zero, suc, ◌<◌, List, [], ◌∷◌, length, Bool, true, false, cond, Option, Some, None, refl, ap, sym, subst, arith}
use Rattle.std.proofs.lemmas.Bool.{and_from, Decides.nat_tests}
use Rattle.std.specs.{List.{cons_option, range_with_len}, Prelude.{◌≢◌, ◌==◌, ◌&&◌, Contains, IsTrue, ◌↔◌, is_some}}
use Rattle.olap_base.proofs.GeneralLemmas.{one_time}
use Rattle.olap_base.proofs.ListLemmas.{Contains-from_range, Contains-nil, Contains-range, contains_head, first_true, list_any_is, second_true}
use Rattle.olap_base.proofs.OneFactLemmas.{one_facts_views}
use Rattle.olap_base.proofs.ViewLemmas.{agree_exactly, is_member_of, members_of_is, members_once}
use Rattle.olap_base.specs.Graph.{Graph, IsBottom}
use Rattle.olap_base.specs.Instance.{Instance, IsLawful, IsMember, ReachesCategory, ReachesVia, category_of}
use Rattle.olap_base.specs.{OneFact.{HoldsTimes, ones}, Reaching.{reaches, reaches_is}}
use Rattle.olap_base.specs.Views.{ExactlyOne, Row, ViewsAgree, members_of, row_at, IsFactTable, members}
use Rattle.olap_breaks.proofs.FindLemmas.{any_find, find_found, find_is, kept_from, kept_in, one_is_once, times_of, times_one}
use Rattle.olap_breaks.specs.Breaks.{Break, break_of, break_to, breaks, is_via, reached_in, unless_one, ways}
use Rattle.olap_breaks.specs.Laws.{BreaksAreAll, BreaksDiffer, IsBreak, NoBreakExactlyIfAgree}
use Rattle.olap_facts.{proofs.BottomLemmas.bottom-is, specs.FactText.is_bottom}
use native.Mathlib.Decide.{ℕ_discrete}

-- ---- ways

-- a member of c is reached
pub reached_is : (i : Instance) (c z : ℕ) → IsTrue (is_some (reached_in i c z)) ↔ ReachesCategory i z c
reached_is i c z = (to, from)
  where
    to : IsTrue (is_some (reached_in i c z)) → ReachesCategory i z c
    to e = let t = (list_any_is (reaches i z) (members_of i c)).0 (sym (any_find (reaches i z) (members_of i c)) ∙ e) in
        (t.0, members_of_is i c t.0 t.1, (reaches_is i z t.0).0 t.2)

    from : ReachesCategory i z c → IsTrue (is_some (reached_in i c z))
    from (y, m, r) = any_find (reaches i z) (members_of i c) ∙ (list_any_is (reaches i z) (members_of i c)).1 (
      y,
      is_member_of i c y m,
      (reaches_is i z y).1 r,
    )

-- and by way of s
pub via_is : (i : Instance) (c x s : ℕ) → IsTrue (is_via i c x s) ↔ ReachesVia i x s c
via_is i c x s = (to, from)
  where
    both : ℕ → Bool
    both z = reaches i x z && is_some (reached_in i c z)

    to : IsTrue (is_via i c x s) → ReachesVia i x s c
    to e = let t = (list_any_is (λ z. reaches i x z && is_some (reached_in i c z)) (members_of i s)).0 e in (
      t.0,
      members_of_is i s t.0 t.1,
      (reaches_is i x t.0).0 (first_true (reaches i x t.0) (is_some (reached_in i c t.0)) t.2),
      (reached_is i c t.0).0 (second_true (reaches i x t.0) (is_some (reached_in i c t.0)) t.2),
    )

    from : ReachesVia i x s c → IsTrue (is_via i c x s)
    from (z, m, r, u) = (list_any_is (λ z. reaches i x z && is_some (reached_in i c z)) (members_of i s)).1 (
      z,
      is_member_of i s z m,
      and_from (reaches i x z) (is_some (reached_in i c z)) ((reaches_is i x z).1 r) ((reached_is i c z).1 u),
    )

-- this many sources are ways
pub ways_are : (i : Instance) (c : ℕ) (sources : List ℕ) (x : ℕ)
    → HoldsTimes (λ s. ReachesVia i x s c) sources (ways i c sources x)
ways_are i c sources x = times_of (λ s. ReachesVia i x s c) (is_via i c x) (via_is i c x) sources

-- ---- what is told of a member

module _ (g : Graph) (i : Instance) (c : ℕ) (sources : List ℕ) where
  -- what is told is so
  pub told_is : (x : ℕ) → x < length i → (b : Break) → break_of g i c sources x ≡ Some b → IsBreak g i c sources b
  told_is x inside b h = bottoms (is_bottom g (category_of i x)) refl h
    where
      counts : (y : ℕ) → is_bottom g (category_of i x) ≡ true → reached_in i c x ≡ Some y
          → (t : Bool) → (ways i c sources x == 1) ≡ t
          → cond t None (Some (record { member = x; target = y; ways = ways i c sources x })) ≡ Some b
          → IsBreak g i c sources b
      counts y low q true e k = absurd (cc)
      counts y low q false e k =
          let there = find_is (reaches i x) (members_of i c) y q in
          let same : ◌≡◌ {A = Break} (record { member = x; target = y; ways = ways i c sources x }) b = cc in
          subst (λ d. IsBreak g i c sources d) same (record {
            member = inside;
            bottom = (bottom-is g (category_of i x)).0 low;
            target = members_of_is i c y there.0;
            reached = (reaches_is i x y).0 there.1;
            counted = ways_are i c sources x;
            not_one = λ p. let z : (ways i c sources x == 1) ≡ true = grind (arith, nat_tests) in absurd (cc);
          })

      targets : is_bottom g (category_of i x) ≡ true → (o : Option ℕ) → reached_in i c x ≡ o
          → break_to i c sources x o ≡ Some b → IsBreak g i c sources b
      targets low None q k = absurd (cc)
      targets low (Some y) q k = counts y low q (ways i c sources x == 1) refl k

      bottoms : (t : Bool) → is_bottom g (category_of i x) ≡ t
          → cond t (break_to i c sources x (reached_in i c x)) None ≡ Some b → IsBreak g i c sources b
      bottoms false e k = absurd (cc)
      bottoms true e k = targets e (reached_in i c x) refl k

  -- and what is so is told
  is_told : IsLawful g i → (b : Break) → IsBreak g i c sources b → break_of g i c sources b.member ≡ Some b
  is_told w b z =
      let x = b.member in
      let low : is_bottom g (category_of i x) ≡ true = (bottom-is g (category_of i x)).1 z.bottom in
      let k = is_member_of i c b.target z.target in
      let r = (reaches_is i x b.target).1 z.reached in
      let q : reached_in i c x ≡ Some b.target = find_found (reaches i x) (members_of i c) b.target k r
      (λ y m h. members_once g i w c x y b.target m k h r) in
      let n : ways i c sources x ≡ b.ways = times_one (λ s. ReachesVia i x s c) sources (ways i c sources x) b.ways
      (ways_are i c sources x) z.counted in
      ap (λ t. cond t (break_to i c sources x (reached_in i c x)) None) low
      ∙ ap (break_to i c sources x) q
      ∙ ap (unless_one x b.target) n
      ∙ ap (λ t. cond t None (Some b)) (unequal b.ways z.not_one)
    where
      unequal : (n : ℕ) → n ≢ 1 → (n == 1) ≡ false
      unequal n f = grind (arith, nat_tests)

-- the law
pub breaks_are_all : BreaksAreAll
breaks_are_all g i c sources w b = (
  λ k. let t = kept_from (break_of g i c sources) (range_with_len 0 (length i)) b k in
      told_is g i c sources t.0 (Contains-from_range (length i) t.0 t.1) b t.2,
  λ z. kept_in (break_of g i c sources) (range_with_len 0 (length i)) b b.member
      (Contains-range (length i) b.member z.member) (is_told g i c sources w b z),
)

-- a list in which nothing is
nothing : {A : Type 0} (xs : List A) → ((x : A) → Contains xs x → ⊥) → xs ≡ []
nothing [] f = refl
nothing (x ∷ xs) f = absurd (f x (contains_head x xs))

-- the law
pub no_break_exactly_if_agree : NoBreakExactlyIfAgree
no_break_exactly_if_agree g i c sources v w = (to, from)
  where
    once : breaks g i c sources ≡ [] → (x : ℕ) → IsMember i x → IsBottom g (category_of i x) → ReachesCategory i x c
        → Dec (ways i c sources x ≡ 1) → ExactlyOne (λ s. ReachesVia i x s c) sources
    once e x h b r (yes n) = one_time (λ s. ReachesVia i x s c) sources
        (subst (λ m. HoldsTimes (λ s. ReachesVia i x s c) sources m) n (ways_are i c sources x))
    once e x h b (y, m, q) (no n) =
        let d : Break = record { member = x; target = y; ways = ways i c sources x } in
        let z : IsBreak g i c sources d = record {
          member = h;
          bottom = b;
          target = m;
          reached = q;
          counted = ways_are i c sources x;
          not_one = n;
        } in
        absurd (Contains-nil d (subst (λ ds. Contains ds d) e ((breaks_are_all g i c sources w d).1 z)))

    to : breaks g i c sources ≡ [] → ViewsAgree (IsFactTable g i) (members i) c sources
    to e = (agree_exactly g i c sources v w).1
        (λ x h b r. once e x h b r (ℕ_discrete (ways i c sources x) 1))

    from : ViewsAgree (IsFactTable g i) (members i) c sources → breaks g i c sources ≡ []
    from a = nothing (breaks g i c sources) (λ b k.
        let z = (breaks_are_all g i c sources w b).0 k in
        let one = (agree_exactly g i c sources v w).0 a b.member z.member z.bottom (b.target, z.target, z.reached) in
        z.not_one (times_one (λ s. ReachesVia i b.member s c) sources b.ways 1 z.counted
        (one_is_once (λ s. ReachesVia i b.member s c) sources one)))

-- ---- two views that differ

-- the count of the first row
count_in : List (Row ℕ) → ℕ
count_in [] = 0
count_in (r ∷ rows) = r.summary.count

-- is that of the ones
ones_in : (y n : ℕ) → count_in (cons_option (row_at y (ones n)) []) ≡ n
unfolding count_in
ones_in y zero = refl
ones_in y (suc n) = refl

-- the law
pub breaks_differ : BreaksDiffer
breaks_differ g i c sources w b k =
    let z = (breaks_are_all g i c sources w b).0 k in
    let t = one_facts_views g i w c b.member b.target z.target z.reached sources b.ways z.counted in (
      t.0,
      t.1,
      λ e. z.not_one (sym (ones_in b.target b.ways)
          ∙ ap (λ rows. count_in rows) (sym t.1 ∙ sym e ∙ t.0) ∙ ones_in b.target 1),
    )
