-- All that a member is far below, and two of one category among it.
use Rattle.std.proofs.Common.{◌≡◌, ℕ, zero, suc, ◌+◌, ◌<◌, ◌≤◌, List, [], ◌∷◌, ◌++◌, length, Bool, false, refl, ap, sym, subst, ◌∙◌, ◌↔◌, inl, inr, arith, below_more}
use Rattle.std.specs.Prelude.{IsTrue, Option, Some, None, is_some}
use Rattle.olap_base.proofs.{GeneralLemmas.same_or_below, ListLemmas.Contains-nil}
use Rattle.olap_base.specs.Instance.{Instance, IsBelow, Reaches, category_of, parents_of}
use Rattle.olap_base.specs.Steps.{Steps, Steps.here, Steps.step, Climb, Climb.climb, Climb-from_leads, leads_from_Climb, Steps-climb, Steps-from_reaches}
use Rattle.olap_graph.specs.Tables.{IsMarked}
use Rattle.olap_legal.{proofs.ParentLemmas.taken, proofs.TableLemmas.reached_inside, specs.Marks.IsMarking}
use Rattle.olap_legal.specs.Rows.{IsBounded, Splits}
use Rattle.olap_check.{proofs.SearchLemmas.{search_start, search_next}, specs.Passing.IsStratified}
use Rattle.olap_check.specs.{Splitting.{MarksAbove, HasTwo, IsFoundAmong, IsClimbing, SplitsAt}, Strata.IsClosed}

-- the parents of x are marked
pub climbing_start : {i : Instance} {n : ℕ} {marks after : List Bool} {old new : List ℕ} (x : ℕ) → IsBounded i n
    → IsClosed i n marks → ((y : ℕ) → IsMarked marks y → ⊥) → old ≡ []
    → IsMarking i n (parents_of i x) marks after old new → IsClimbing i n x after new
climbing_start x bounded d none e v = record {
  search = search_start x bounded.places d e v;
  far = λ y m. elim (v.fresh y m) [ inl a ↦ absurd (none y a) | inr a ↦ leads_from_Climb (climb a.0 here) ];
}

-- the parents of a listed member are marked
pub climbing_next : {i : Instance} {n x : ℕ} {marks after : List Bool} {list new : List ℕ} (rest : List ℕ) (z : ℕ)
    → IsBounded i n → IsClimbing i n x marks list → list ≡ rest ++ z ∷ []
    → IsMarking i n (parents_of i z) marks after rest new → IsClimbing i n x after new
climbing_next {x = x} rest z bounded f e v = record {
  search = search_next x bounded.places rest z f.search e v;
  far = λ y m. elim (v.fresh y m) [
    | inl a ↦ f.far y a
    | inr a ↦ leads_from_Climb (Steps-climb (f.search.listed z (taken rest z e)).1 (climb a.0 here))
  ];
}

-- with nothing listed, all that is above x is marked
pub climbing_done : {i : Instance} {n x : ℕ} {marks : List Bool} {list : List ℕ} → IsClimbing i n x marks list
    → list ≡ [] → MarksAbove i x marks
climbing_done {i} {n} {x} {marks} whole none_left =
    record { same_length = f.search.same_length; exact = λ y. (λ m. f.far y m, λ l. to y (Climb-from_leads l)) }
  where
    f : IsClimbing i n x marks []
    f = subst (λ l. IsClimbing i n x marks l) none_left whole

    along : {a y : ℕ} → Steps (IsBelow i) a y → IsMarked marks a → IsMarked marks y
    along here m = m
    along (step {x = a} {y = b} r s) m =
        along s (elim (f.search.closed a m) [ inl k ↦ absurd (Contains-nil a k) | inr k ↦ (k b r).1 ])

    to : (y : ℕ) → Climb (IsBelow i) x y → IsMarked marks y
    to y (climb {z = b} r s) = along s (f.search.parents b r).1

-- ---- two of one category

-- only places of the list are marked
pub marked_inside : (marks : List Bool) (y : ℕ) → IsMarked marks y → y < length marks
marked_inside [] y m = absurd (cc)
marked_inside (b ∷ bs) zero m = omega arith
marked_inside (b ∷ bs) (suc y) m = let h : y < length bs = marked_inside bs y m in omega arith

-- one more member that is not a marked one of the category
pub found_more : (i : Instance) (marks : List Bool) (c k : ℕ) (o : Option ℕ)
    → (IsMarked marks k → category_of i k ≡ c → ⊥) → IsFoundAmong i marks c k o → IsFoundAmong i marks c (k + 1) o
found_more i marks c k None n f = λ w h m e. elim (same_or_below w k h) [
  | inl q ↦ n (subst (IsMarked marks) q m) (ap (category_of i) (sym q) ∙ e)
  | inr l ↦ f w l m e
]
found_more i marks c k (Some y) n f = record {
  inside = let h = f.inside in omega arith;
  is_one = f.is_one;
  alone = λ w h m e. elim (same_or_below w k h) [
    | inl q ↦ absurd (n (subst (IsMarked marks) q m) (ap (category_of i) (sym q) ∙ e))
    | inr l ↦ f.alone w l m e
  ];
}

-- the first that is
pub found_first : (i : Instance) (marks : List Bool) (c k : ℕ) (o : Option ℕ) → is_some o ≡ false → IsMarked marks k
    → category_of i k ≡ c → IsFoundAmong i marks c k o → IsFoundAmong i marks c (k + 1) (Some k)
found_first i marks c k None t m e f = record {
  inside = omega arith;
  is_one = (m, e);
  alone = λ w h n d. elim (same_or_below w k h) [ inl q ↦ q | inr l ↦ absurd (f w l n d) ];
}
found_first i marks c k (Some y) t m e f = absurd (cc)

-- no second
pub found_none : (i : Instance) (marks : List Bool) (c n : ℕ) (o : Option ℕ) → length marks ≤ n
    → IsFoundAmong i marks c n o → IsTrue false ↔ HasTwo i marks c
found_none i marks c n o h f = (λ t. absurd (cc), λ p. absurd (go o f p))
  where
    at : (y : ℕ) → IsMarked marks y → y < n
    at y m = let l = marked_inside marks y m in omega arith

    go : (o : Option ℕ) → IsFoundAmong i marks c n o → HasTwo i marks c → ⊥
    go None f p = f p.one (at p.one p.one_is.0) p.one_is.0 p.one_is.1
    go (Some y) f p =
        p.apart (f.alone p.one (at p.one p.one_is.0) p.one_is.0 p.one_is.1
        ∙ sym (f.alone p.other (at p.other p.other_is.0) p.other_is.0 p.other_is.1))

-- ---- the least category

-- two marked members are above x
pub two_above : (i : Instance) (x c : ℕ) (marks : List Bool) → MarksAbove i x marks → HasTwo i marks c → SplitsAt i x c
two_above i x c marks a p =
    (p.one, p.other, (a.exact p.one).0 p.one_is.0, (a.exact p.other).0 p.other_is.0, p.one_is.1, p.other_is.1, p.apart)

-- two above x are marked
pub above_two : (i : Instance) (x c : ℕ) (marks : List Bool) → MarksAbove i x marks → SplitsAt i x c → HasTwo i marks c
above_two i x c marks a p =
    record {
      one = p.0;
      other = p.1;
      one_is = ((a.exact p.0).1 p.2, p.4);
      other_is =
          ((a.exact p.1).1 p.3, p.5);
      apart = p.6;
    }

-- of two members of one category that x reaches neither is x
pub splits_at : (i : Instance) (x : ℕ) → IsStratified i → (s : Splits i x) → SplitsAt i x (category_of i s.one)
splits_at i x strata s = go s.reaches_one s.reaches_other
  where
    go : Reaches i x s.one → Reaches i x s.other → SplitsAt i x (category_of i s.one)
    go (inl e) (inl f) = absurd (s.apart (sym e ∙ f))
    go (inl e) (inr g) = absurd (strata x s.other g (ap (category_of i) e ∙ s.same_category))
    go (inr f) (inl e) = absurd (strata x s.one f (ap (category_of i) e ∙ sym s.same_category))
    go (inr f) (inr g) = (s.one, s.other, f, g, refl, sym s.same_category, s.apart)

-- two far above are two that are reached
pub splits_of : (i : Instance) (x c : ℕ) → SplitsAt i x c → Splits i x
splits_of i x c p =
    record {
      one = p.0;
      other = p.1;
      reaches_one = inr p.2;
      reaches_other = inr p.3;
      same_category = p.4
          ∙ sym p.5;
      apart = p.6;
    }

-- some category has two
pub some_category : (i : Instance) (n c x : ℕ) → IsBounded i n → x < length i → IsStratified i → n ≤ c → Splits i x
    → ((d : ℕ) → d < c → SplitsAt i x d → ⊥) → ⊥
some_category i n c x made inside strata h s none =
    none (category_of i s.one) (let m = made.categories s.one (in_reach s.reaches_one) in omega (arith, m))
    (splits_at i x strata s)
  where
    in_reach : Reaches i x s.one → s.one < length i
    in_reach r = reached_inside i made.places (Steps-from_reaches r) inside

-- one more category has not
pub split_more : (i : Instance) (x c : ℕ) → ((d : ℕ) → d < c → SplitsAt i x d → ⊥) → (SplitsAt i x c → ⊥) → (d : ℕ)
    → d < c + 1 → SplitsAt i x d → ⊥
split_more i x c below at = let P : ℕ → Type 0 = λ d. SplitsAt i x d → ⊥ in below_more P c below at
