-- Members of an instance as points: the two views of a category agree for every fact table exactly if each fact's
-- member is reached by one source.
use Rattle.std.proofs.{Common.{◌≡◌, ℕ, ◌↔◌, length, true, sym, subst, ◌∙◌}, Math.Decide.ℕ_discrete}
use Rattle.std.{proofs.lemmas.Bool.{eqb-true, eq-eqb}, specs.List.range_with_len, specs.Prelude.{Contains, ◌==◌}}
use Rattle.olap_base.proofs.AboveLemmas.{reached_once, steps_of, reaches_of}
use Rattle.olap_base.proofs.ListLemmas.{Contains-filter, Contains-from_filter, Contains-range, Contains-from_range, Distinct, Distinct-range, Distinct-filter}
use Rattle.olap_base.proofs.{RollingLemmas.rolling_agree, RollingTotals.{IsRolling, By}}
use Rattle.olap_base.specs.Graph.{Graph, IsBottom}
use Rattle.olap_base.specs.Instance.{Instance, IsLawful, IsMember, IsMemberOf, ReachesVia, category_of}
use Rattle.olap_base.specs.{Reaching.{reaches, reaches_is}, Steps.Steps-append}
use Rattle.olap_base.specs.Views.{members, members_of, AgreeExactlyIfReachedByOne}

-- what is listed for a category is a member of it
pub members_of_is : (i : Instance) (c y : ℕ) → Contains (members_of i c) y → IsMemberOf i c y
members_of_is i c y h =
    let t = Contains-from_filter (λ z. category_of i z == c) (range_with_len 0 (length i)) y h in
    (Contains-from_range (length i) y t.0, eqb-true (category_of i y) c t.1)

-- a member of a category is listed for it
pub is_member_of : (i : Instance) (c y : ℕ) → IsMemberOf i c y → Contains (members_of i c) y
is_member_of i c y m =
    Contains-filter (λ z. category_of i z == c) (range_with_len 0 (length i)) y (eq-eqb (category_of i y) c m.1)
    (Contains-range (length i) y m.0)

-- no member is listed twice
pub Distinct-members_of : (i : Instance) (c : ℕ) → Distinct (members_of i c)
Distinct-members_of i c =
    Distinct-filter (λ z. category_of i z == c) (range_with_len 0 (length i)) (Distinct-range 0 (length i))

-- of a category, x reaches one member at most
pub members_once : (g : Graph) (i : Instance) → IsLawful g i → (c x y z : ℕ) → Contains (members_of i c) y
    → Contains (members_of i c) z → reaches i x y ≡ true → reaches i x z ≡ true → y ≡ z
members_once g i w c x y z k l e f =
    reached_once g i w x y z (steps_of i x y e) (steps_of i x z f)
    ((members_of_is i c y k).1 ∙ sym (members_of_is i c z l).1)

-- what is reached from what x reaches, x reaches
pub members_onward : (i : Instance) (x y z : ℕ) → reaches i x y ≡ true → reaches i y z ≡ true → reaches i x z ≡ true
members_onward i x y z e f = reaches_of i x z (Steps-append (steps_of i x y e) (steps_of i y z f))

-- members are points that roll up
pub members_roll : (g : Graph) (i : Instance) → IsLawful g i → IsRolling (members i)
members_roll g i w = record {
  equal = ℕ_discrete;
  distinct = Distinct-members_of i;
  once = members_once g i w;
  onward = members_onward i;
}

-- where x reaches y: by a member of s that reaches y, or by one that reaches a member of y's category
pub via_is_by : (g : Graph) (i : Instance) → IsLawful g i → (c x y : ℕ) → IsMemberOf i c y → reaches i x y ≡ true
    → (s : ℕ) → ReachesVia i x s c ↔ By (members i) x s y
via_is_by g i w c x y m r s = (to, from)
  where
    to : ReachesVia i x s c → By (members i) x s y
    to (z, n, a, (u, k, b)) = (
      z,
      is_member_of i s z n,
      (reaches_is i x z).1 a,
      subst (λ v. reaches i z v ≡ true)
          (members_once g i w c x u y (is_member_of i c u k) (is_member_of i c y m)
          (members_onward i x z u ((reaches_is i x z).1 a) ((reaches_is i z u).1 b)) r)
          ((reaches_is i z u).1 b),
    )

    from : By (members i) x s y → ReachesVia i x s c
    from (z, n, a, b) = (z, members_of_is i s z n, (reaches_is i x z).0 a, (y, m, (reaches_is i z y).0 b))

-- the two views agree exactly if each member is reached by one source
pub agree_exactly : AgreeExactlyIfReachedByOne
agree_exactly g i c sources v w =
    let r = rolling_agree (members i) (members_roll g i w) (λ x. IsMember i x × IsBottom g (category_of i x))
    (λ x s. ReachesVia i x s c) c (λ x y k e. via_is_by g i w c x y (members_of_is i c y k) e) sources in (
      λ h x a b (y, m, q). r.0 h x (a, b) y (is_member_of i c y m) ((reaches_is i x y).1 q),
      λ h. r.1 (λ x a y k e. h x a.0 a.1 (y, members_of_is i c y k, (reaches_is i x y).0 e)),
    )
