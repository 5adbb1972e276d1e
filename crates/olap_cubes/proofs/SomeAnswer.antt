-- A cube's target is summarizable, or there is a counterexample.
use Rattle.std.proofs.Common.{◌≡◌, ℕ, List, [], ◌∷◌, ◌++◌, refl, sym, subst, ◌∙◌, inl, inr}
use Rattle.std.{proofs.lemmas.List.Elements.All-map, specs.Prelude.{◌⊎◌, All, Contains, codes}}
use Rattle.olap_base.{proofs.RankLemmas.{not_after_itself, not_after_both, not_after_again}, specs.Graph.IsHierarchy}
use Rattle.olap_base.specs.{Instance.Instance, Ranks.IsNotAfter, Views.ExactlyOne}
use Rattle.olap_ast.specs.{Frozen.CandidatesExist, Schema.Schema, Valid.IsValidSchema}
use Rattle.olap_cube.proofs.{ChoiceLemmas.{dec_one, dec_tuple_via}, RankLemmas.from_least}
use Rattle.olap_cube.specs.Codes.{AreNotAfter, codes_of}
use Rattle.olap_cube.specs.CubeSummarizable.{Chosen, CubeSummarizableExactlyIfNoneBad, IsBadChoice, IsChosen, bottoms_of, instances_of}
use Rattle.olap_cube.specs.Tuples.{AllZip3, IsTupleOf, TupleReachesVia}
use Rattle.olap_cube_summ.specs.CubeCexText.{cube_counterexample_text}
use Rattle.olap_cubes.proofs.AllChoicesLemmas.{AreAll, AreSame, all_choices, all_same}
use Rattle.olap_cubes.{proofs.LeastLemmas.{all_after, all_total, least_of, total}, specs.Existing.AnswersExist}
use Rattle.olap_cubes.specs.Questions.{ByCube, IsAnswer}
use Rattle.olap_exists.{proofs.FindingsListed.truth_kinds, specs.Existing.FrozenAreListed}
use Rattle.olap_order.specs.{Outputs.line, declared.status.Status.Status, declared.status.Status.TheVariants.{Yes, No}}
use native.Mathlib.Decide.{ℕ_discrete}
use mathlib.Core.List.{List-discrete}

-- ---- roots

-- a choice has a root in each dimension
roots_of : (ss : List Schema) (cs : List ℕ) (ps : List Chosen) → AllZip3 IsChosen ss cs ps
    → (roots : List ℕ) × IsTupleOf (instances_of ss ps) (bottoms_of ps) roots
roots_of [] [] [] a = ([], tt)
roots_of [] [] (p ∷ ps) a = absurd a
roots_of [] (c ∷ cs) ps a = absurd a
roots_of (s ∷ ss) [] ps a = absurd a
roots_of (s ∷ ss) (c ∷ cs) [] a = absurd a
roots_of (s ∷ ss) (c ∷ cs) (p ∷ ps) a =
    let f = a.0.is_one.stands_for in
    let r = roots_of ss cs ps a.1 in (f.root ∷ r.0, (f.root_is, r.1))

-- and one alone
one_roots : (ss : List Schema) (cs : List ℕ) (ps : List Chosen) → AllZip3 IsChosen ss cs ps → (xs ys : List ℕ)
    → IsTupleOf (instances_of ss ps) (bottoms_of ps) xs → IsTupleOf (instances_of ss ps) (bottoms_of ps) ys → xs ≡ ys
one_roots [] [] [] a [] [] m n = refl
one_roots [] [] [] a [] (y ∷ ys) m n = absurd n
one_roots [] [] [] a (x ∷ xs) ys m n = absurd m
one_roots [] [] (p ∷ ps) a xs ys m n = absurd a
one_roots [] (c ∷ cs) ps a xs ys m n = absurd a
one_roots (s ∷ ss) [] ps a xs ys m n = absurd a
one_roots (s ∷ ss) (c ∷ cs) [] a xs ys m n = absurd a
one_roots (s ∷ ss) (c ∷ cs) (p ∷ ps) a [] ys m n = absurd m
one_roots (s ∷ ss) (c ∷ cs) (p ∷ ps) a (x ∷ xs) [] m n = absurd n
one_roots (s ∷ ss) (c ∷ cs) (p ∷ ps) a (x ∷ xs) (y ∷ ys) m n =
    let e = a.0.is_one.stands_for.one_each x y m.0.0 n.0.0 (m.0.1 ∙ sym n.0.1) in
    let r = one_roots ss cs ps a.1 xs ys m.1 n.1 in λ i. e i ∷ r i

module _ (lists : FrozenAreListed) (exist : CandidatesExist) (summarizable : CubeSummarizableExactlyIfNoneBad) where
  module _ (ss : List Schema) (c : List ℕ) (sources : List (List ℕ)) where
    -- whether a choice is bad
    dec_bad : (ps : List Chosen) → AllZip3 IsChosen ss c ps → Dec (IsBadChoice ss c sources ps)
    dec_bad ps a =
        let r = roots_of ss c ps a in
        go r (dec_one (λ t. TupleReachesVia (instances_of ss ps) r.0 t c)
        (λ t. dec_tuple_via (instances_of ss ps) r.0 t c) sources)
      where
        go : (r : (roots : List ℕ) × IsTupleOf (instances_of ss ps) (bottoms_of ps) roots)
            → Dec (ExactlyOne (λ t. TupleReachesVia (instances_of ss ps) r.0 t c) sources)
            → Dec (IsBadChoice ss c sources ps)
        go r (yes h) = no (λ b. b.bad (subst (λ x. ExactlyOne (λ t. TupleReachesVia (instances_of ss ps) x t c) sources)
            (one_roots ss c ps a r.0 b.roots r.1 b.roots_are) h))
        go r (no n) = yes (record { chosen = a; roots = r.0; roots_are = r.1; bad = n })

    -- bad, whichever candidates
    bad_too : (ps qs : List Chosen) → AllZip3 IsChosen ss c ps → AreSame ss ps qs → IsBadChoice ss c sources qs
        → IsBadChoice ss c sources ps
    bad_too ps qs a e b =
        let i = sym (all_same ss ps qs e).2 in
        let m = sym (all_same ss ps qs e).0 in record {
          chosen = a;
          roots = b.roots;
          roots_are = subst (λ (is : List Instance). IsTupleOf is (bottoms_of ps) b.roots) i
              (subst (λ bs. IsTupleOf (instances_of ss qs) bs b.roots) m b.roots_are);
          bad = λ h. b.bad (subst (λ (is : List Instance). ExactlyOne (λ t. TupleReachesVia is b.roots t c) sources)
              (sym i) h);
        }

    -- ---- the order of choices

    -- the first choice comes not not_after_again the second
    abbrev Before : List Chosen → List Chosen → Type 0
    Before ps qs = IsNotAfter (bottoms_of ps) (bottoms_of qs)
        × (bottoms_of qs ≡ bottoms_of ps → AreNotAfter (codes_of ps) (codes_of qs))

    -- of two choices one comes not not_after_again the other
    one_before : (ps qs : List Chosen) → Before ps qs ⊎ Before qs ps
    one_before ps qs = go (List-discrete ℕ_discrete (bottoms_of ps) (bottoms_of qs))
        (total (bottoms_of ps) (bottoms_of qs)) (all_total (codes_of ps) (codes_of qs))
      where
        go : Dec (bottoms_of ps ≡ bottoms_of qs)
            → IsNotAfter (bottoms_of ps) (bottoms_of qs) ⊎ IsNotAfter (bottoms_of qs) (bottoms_of ps)
            → AreNotAfter (codes_of ps) (codes_of qs) ⊎ AreNotAfter (codes_of qs) (codes_of ps)
            → Before ps qs ⊎ Before qs ps
        go (yes e) t (inl a) = inl
            (subst (λ w. IsNotAfter (bottoms_of ps) w) e (not_after_itself (bottoms_of ps)), λ q. a)
        go (yes e) t (inr b) = inr
            (subst (λ w. IsNotAfter w (bottoms_of ps)) e (not_after_itself (bottoms_of ps)), λ q. b)
        go (no n) (inl a) r = inl (a, λ e. absurd (n (sym e)))
        go (no n) (inr b) r = inr (b, λ e. absurd (n e))

    -- nor not_after_again what comes not_after_again that
    before_on : (ps qs rs : List Chosen) → Before ps qs → Before qs rs → Before ps rs
    before_on ps qs rs a b = (
      not_after_again (bottoms_of ps) (bottoms_of qs) (bottoms_of rs) a.0 b.0,
      λ e. let q : bottoms_of ps ≡ bottoms_of qs = not_after_both (bottoms_of ps) (bottoms_of qs) a.0
          (subst (λ w. IsNotAfter (bottoms_of qs) w) e b.0) in
          all_after (codes_of ps) (codes_of qs) (codes_of rs) (a.1 (sym q)) (b.1 (e ∙ q)),
    )

    -- the least of the bad choices is told, or that none is bad
    answered : All IsValidSchema ss → (status : Status) × (bytes : List ℕ) × IsAnswer (ByCube ss c sources) status bytes
    answered v = go (all_choices lists exist ss c v)
      where
        go : (all : List (List Chosen)) × AreAll ss c all
            → (status : Status) × (bytes : List ℕ) × IsAnswer (ByCube ss c sources) status bytes
        go t = elim (least_of Before one_before before_on (IsBadChoice ss c sources) t.0
            (λ ps m. dec_bad ps (t.1.sound ps m))) [
              | inl u ↦ (
                No,
                line (codes "no") ++ cube_counterexample_text ss u.0 c sources,
                inr (
                  refl,
                  (
                    u.0,
                    from_least ss c sources u.0 (record {
                      is_bad = u.1;
                      first = λ other b. (before_other u.0 u.2 other b).0;
                      least = λ other b e. (before_other u.0 u.2 other b).1 e;
                    }),
                    refl,
                  ),
                ),
              )
              | inr n ↦ (
                Yes,
                line (codes "yes"),
                inl (
                  refl,
                  (summarizable ss c sources
                      (All-map IsHierarchy (λ (s : Schema). s.graph) ss (λ i d l. (v i d l).hierarchy))
                      (λ i d l. truth_kinds (_) (v i d l))).1 (λ other b. none n other b),
                  refl,
                ),
              )
            ]
          where
            before_other : (best : List Chosen)
                → ((y : List Chosen) → Contains t.0 y → IsBadChoice ss c sources y → Before best y)
                → (other : List Chosen) → IsBadChoice ss c sources other → Before best other
            before_other best f other b =
                let w = t.1.complete other b.chosen in
                let z = f w.0 w.1 (bad_too w.0 other (t.1.sound w.0 w.1) w.2 b) in
                let s = all_same ss w.0 other w.2 in (
                  subst (λ x. IsNotAfter (bottoms_of best) x) s.0 z.0,
                  λ e. subst (λ x. AreNotAfter (codes_of best) x) s.1 (z.1 (s.0 ∙ e)),
                )

            none : ((y : List Chosen) → Contains t.0 y → IsBadChoice ss c sources y → ⊥) → (other : List Chosen)
                → IsBadChoice ss c sources other → ⊥
            none f other b =
                let w = t.1.complete other b.chosen in f w.0 w.1 (bad_too w.0 other (t.1.sound w.0 w.1) w.2 b)

  pub answers_exist : AnswersExist
  answers_exist (ByCube ss c sources) v = answered ss c sources v
