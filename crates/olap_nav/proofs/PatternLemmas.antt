-- One counterexample refutes many choices of views. In a legal instance let a member at the bottom reach the target by
-- way of the views of a pattern, and of no others. Where the target is summarizable from chosen views, the member
-- reaches it by exactly one of them (the law of agreeing views), so the chosen views meet the pattern in exactly one. A
-- mask whose views meet it in none or in several therefore doesn't serve: on this very instance a fact at the member is
-- lost, or counted more than once.
use Rattle.std.proofs.Common.{◌≡◌, ℕ, suc, ◌+◌, List, [], ◌∷◌, ◌++◌, Bool, true, false, ◌&&◌, cond, refl, ap, ◌∙◌, ◌↔◌, inl, inr}
use Rattle.std.specs.{Int.bit_at, Prelude.{◌==◌, IsTrue}}
use Rattle.olap_ast.specs.Schema.{Schema}
use Rattle.olap_base.{proofs.ViewLemmas.agree_exactly, specs.Instance.{Instance, ReachesVia}, specs.OneFact.HoldsTimes}
use Rattle.olap_base.specs.Views.{ExactlyOne, NoneOf, View}
use Rattle.olap_nav.specs.{Patterns.{AreWays, IsPattern, ways_from, ways_in}, Plans.{Serves, categories_of, sources_in}}
use Rattle.olap_view.specs.Stores.{chosen_from}

-- ---- exactly one is once

-- what holds of no item holds 0 times
never : (P : ℕ → Type 0) (xs : List ℕ) (n : ℕ) → NoneOf P xs → HoldsTimes P xs n → n ≡ 0
never P [] n none h = h
never P (x ∷ xs) n none (inl t) = absurd (none.0 t.0)
never P (x ∷ xs) n none (inr t) = never P xs n none.1 t.1

-- what holds of exactly one item holds once
once : (P : ℕ → Type 0) (xs : List ℕ) (n : ℕ) → ExactlyOne P xs → HoldsTimes P xs n → n ≡ 1
once P [] n one h = absurd one
once P (x ∷ xs) n (inl one) (inl t) = t.2 ∙ ap suc (never P xs t.1 one.1 t.3)
once P (x ∷ xs) n (inl one) (inr t) = absurd (t.0 one.0)
once P (x ∷ xs) n (inr one) (inl t) = absurd (one.0 t.0)
once P (x ∷ xs) n (inr one) (inr t) = once P xs n one.1 t.1

-- ---- the member reaches c by as many of a mask's views as are ways

module _ (i : Instance) (x c : ℕ) where
  counted : (k : ℕ) (views : List (View ℕ ℕ)) (ways : List Bool) (mask : ℕ) → AreWays i x c views ways
      → HoldsTimes (λ s. ReachesVia i x s c) (categories_of (chosen_from k views mask)) (ways_from k ways mask)
  counted k [] [] mask a = refl
  counted k [] (b ∷ ways) mask a = absurd a
  counted k (v ∷ views) [] mask a = absurd a
  counted k (v ∷ views) (b ∷ ways) mask a =
      go b (bit_at mask k == 1) a.0 (chosen_from (k + 1) views mask) (ways_from (k + 1) ways mask)
      (counted (k + 1) views ways mask a.1)
    where
      go : (b t : Bool) → IsTrue b ↔ ReachesVia i x v.target c → (more : List (View ℕ ℕ)) (n : ℕ)
          → HoldsTimes (λ s. ReachesVia i x s c) (categories_of more) n
          → HoldsTimes (λ s. ReachesVia i x s c) (categories_of (cond t (v ∷ more) more)) (cond (b && t) (suc n) n)
      go true true w more n h = inl (w.0 refl, n, refl, h)
      go true false w more n h = h
      go false true w more n h = inr (λ r. let z : false ≡ true = w.1 r in cc, h)
      go false false w more n h = h

  -- another view, and whether it is a way
  pub ways_more : (views : List (View ℕ ℕ)) (ways : List Bool) (v : View ℕ ℕ) (b : Bool) → AreWays i x c views ways
      → IsTrue b ↔ ReachesVia i x v.target c → AreWays i x c (views ++ v ∷ []) (ways ++ b ∷ [])
  ways_more [] [] v b a w = (w, tt)
  ways_more [] (d ∷ ways) v b a w = absurd a
  ways_more (u ∷ views) [] v b a w = absurd a
  ways_more (u ∷ views) (d ∷ ways) v b a w = (a.0, ways_more views ways v b a.1 w)

-- ---- what serves meets every pattern in exactly one

-- what serves has exactly one way in each pattern
pub serves_by_one : (s : Schema) (views : List (View ℕ ℕ)) (c : ℕ) (ways : List Bool) (mask : ℕ)
    → IsPattern s views c ways
    → Serves s views c mask → ways_in ways mask ≡ 1
serves_by_one s views c ways mask p serves =
    let agree = serves.summarizable p.instance p.legal in
    let one = (agree_exactly s.graph p.instance c (sources_in views mask) p.legal.is_instance p.legal.lawful).0 agree
    p.member p.is_member p.bottom p.reaches in
    once (λ s. ReachesVia p.instance p.member s c) (sources_in views mask) (ways_in ways mask) one
    (counted p.instance p.member c 0 views ways mask p.ways_are)
