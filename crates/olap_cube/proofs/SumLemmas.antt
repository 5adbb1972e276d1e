-- The two SUMs of the fact at the roots of a bad choice.
use Rattle.std.proofs.Common.{◌≡◌, ℕ, zero, suc, List, [], ◌∷◌, pos, refl, sym, ap, subst, ◌∙◌, inl, inr, Some, None, arith}
use Rattle.std.{proofs.Math.Decide.ℕ_discrete, specs.List.cons_option, specs.Prelude.◌≢◌}
use Rattle.olap_base.{proofs.ListLemmas.Contains-nil, specs.Deciding.contains_cases, specs.Instance.Instance}
use Rattle.olap_base.specs.OneFact.{HoldsTimes, ones}
use Rattle.olap_base.specs.Views.{ExactlyOne, Fact, NoneOf, direct_views, one_fact, only_sum, row_at, rows_from_views}
use Rattle.olap_ast.specs.Schema.{Schema}
use Rattle.olap_cube.proofs.ChoiceLemmas.{chosen_bottom, chosen_legal, chosen_up, dec_tuple_via, lawful_from_legal}
use Rattle.olap_cube.proofs.CubeLemmas.{one_cube_facts_views}
use Rattle.olap_cube.specs.CubeSummarizable.{BadChoicesHaveTwoSums, Chosen, HasTwoCubeSums, IsBadChoice, graphs_of, instances_of}
use Rattle.olap_cube.specs.{CubeViews.{IsCubeFactTable, tuples}, Tuples.{IsBottomTuple, TupleReachesVia}}

-- ---- counting

-- how often something holds in a list, where it can be decided
counted : {A : Type 0} (P : A → Type 0) → ((x : A) → Dec (P x)) → (xs : List A) → (n : ℕ) × HoldsTimes P xs n
counted P d [] = (0, refl)
counted P d (x ∷ xs) = let t = counted P d xs in elim (d x) [
  | yes p ↦ (suc t.0, inl (p, t.0, refl, t.1))
  | no p ↦ (t.0, inr (p, t.1))
]

-- what holds 0 times holds of none
none_times : {A : Type 0} (P : A → Type 0) (xs : List A) (n : ℕ) → n ≡ 0 → HoldsTimes P xs n → NoneOf P xs
none_times P [] n e h = tt
none_times P (x ∷ xs) n e (inl t) = let z : suc t.1 ≡ 0 = sym t.2 ∙ e in absurd (cc)
none_times P (x ∷ xs) n e (inr t) = (t.0, none_times P xs n e t.1)

-- what holds once holds of exactly one
one_time : {A : Type 0} (P : A → Type 0) (xs : List A) (n : ℕ) → n ≡ 1 → HoldsTimes P xs n → ExactlyOne P xs
one_time P [] n e h = let z : 0 ≡ 1 = sym h ∙ e in absurd (omega arith)
one_time P (x ∷ xs) n e (inl t) = let z : suc t.1 ≡ suc 0 = sym t.2 ∙ e in
    let m : t.1 ≡ 0 = cc in inl (t.0, none_times P xs t.1 m t.3)
one_time P (x ∷ xs) n e (inr t) = inr (t.0, one_time P xs n e t.1)

-- no ones have no SUM
pub no_ones : (y : List ℕ) (n : ℕ) → n ≡ 0 → only_sum (cons_option (row_at y (ones n)) []) ≡ None
no_ones y n e = subst (λ w. only_sum (cons_option (row_at y (ones w)) []) ≡ None) (sym e) refl

-- n ones have the SUM n
pub some_ones : (y : List ℕ) (n : ℕ) → n ≢ 0 → only_sum (cons_option (row_at y (ones n)) []) ≡ Some (pos n)
some_ones y zero z = absurd (z refl)
some_ones y (suc n) z = refl

-- ---- the sums

module _ (schemas : List Schema) (c : List ℕ) (sources : List (List ℕ)) (choice : List Chosen)
    (b : IsBadChoice schemas c sources choice) where
  abbrev is : List Instance
  is = instances_of schemas choice

  facts : IsCubeFactTable (graphs_of schemas) is (one_fact b.roots)
  facts fact h = elim (contains_cases fact (record { at = b.roots; value = pos 1 }) [] h) [
    | inl e ↦ subst (λ (f : Fact (List ℕ)). IsBottomTuple (graphs_of schemas) is f.at) e
        (chosen_bottom schemas c choice b.chosen b.roots b.roots_are)
    | inr n ↦ absurd (Contains-nil fact n)
  ]

  two_sums : HasTwoCubeSums schemas is c b.roots sources
  two_sums =
      let l = chosen_legal schemas c choice b.chosen in
      let up = chosen_up schemas c choice b.chosen b.roots b.roots_are in
      let ways = counted (λ t. TupleReachesVia is b.roots t c) (λ t. dec_tuple_via is b.roots t c) sources in
      let views = one_cube_facts_views (graphs_of schemas) is (lawful_from_legal schemas is l) c b.roots up.0 up.1 up.2
      sources ways.0 ways.1 in
      record {
        legal = l;
        facts = facts;
        direct = ap only_sum views.0;
        views = differs up.0 ways.0
            (λ e. b.bad (one_time (λ t. TupleReachesVia is b.roots t c) sources ways.0 e ways.1))
            (ap only_sum views.1);
      }
    where
      differs : (y : List ℕ) (n : ℕ) → n ≢ 1
          → only_sum (rows_from_views (tuples is) c (direct_views (tuples is) (one_fact b.roots) sources))
          ≡ only_sum (cons_option (row_at y (ones n)) [])
          → only_sum (rows_from_views (tuples is) c (direct_views (tuples is) (one_fact b.roots) sources))
          ≡ Some (pos 1)
          → ⊥
      differs y n other told e = elim (ℕ_discrete n 0) [
        | yes z ↦ let q : None ≡ Some (pos 1) = sym (told ∙ no_ones y n z) ∙ e in cc
        | no z ↦ other (let q : Some (pos n) ≡ Some (pos 1) = sym (told ∙ some_ones y n z) ∙ e in cc)
      ]

-- the theorem: not one source, so not the SUM 1
pub bad_choices_have_two_sums : BadChoicesHaveTwoSums
bad_choices_have_two_sums schemas c sources choice b = two_sums schemas c sources choice b
