-- A cube of one dimension is its dimension.
use Rattle.std.proofs.Common.{◌≡◌, ℕ, ◌<◌, ◌↔◌, List, [], ◌∷◌, map, refl, sym, ap, subst, ◌∙◌, inl, inr, arith}
use Rattle.std.specs.List.{AllZip}
use Rattle.olap_base.proofs.{GeneralLemmas.less_equal_greater, ViewLemmas.agree_exactly}
use Rattle.olap_base.specs.{Above.HasOneMemberEach, Graph.IsBottom, Instance.{Instance, IsMemberOf, ReachesVia}}
use Rattle.olap_base.specs.{Ranks.IsNotAfter, Views.{ExactlyOne, NoneOf, ViewsAgree}}
use Rattle.olap_ast.proofs.{Determined.still_frozen, SameAtoms.{candidates_too, frozen_too}}
use Rattle.olap_ast.proofs.{SourceLemmas.{question_free, question_numberless}, Summing.one_of}
use Rattle.olap_ast.specs.{Atoms.{comparisons, equalities}, Formula.{Formula, Formula.Reach}}
use Rattle.olap_ast.specs.Frozen.{AreCandidates, Candidates, Frozen, IsFrozen, IsFrozenInstance, code, thawed}
use Rattle.olap_ast.specs.{Schema.{Schema, IsLegal}, Summarizable.{IsCounterexample, IsSummarizable, not_by_one}}
use Rattle.olap_cube.proofs.{CubeLemmas.cubes_agree_exactly, RankLemmas.{from_least, to_least}}
use Rattle.olap_cube.specs.Codes.{AreNotAfter, IsLeastChoice, codes_of}
use Rattle.olap_cube.specs.CubeSummarizable.{Chosen, CounterexamplesOfOneDimension, CubesOfOneDimension, IsBadChoice, IsCubeSummarizable, bottoms_of}
use Rattle.olap_cube.specs.CubeViews.{IsCubeFactTable, tuples}
use Rattle.olap_cube.specs.Tuples.{IsBottomTuple, IsTupleOf, TupleReaches, TupleReachesVia}

-- each as a tuple of one
abbrev alone : List ℕ → List (List ℕ)
alone sources = map (λ t. t ∷ []) sources

module _ (i : Instance) (x c : ℕ) where
  none_alone : (sources : List ℕ) → NoneOf (λ t. TupleReachesVia (i ∷ []) (x ∷ []) t (c ∷ [])) (alone sources)
      ↔ NoneOf (λ s. ReachesVia i x s c) sources
  none_alone [] = (λ t. t, λ t. t)
  none_alone (s ∷ ss) = let r = none_alone ss in
      (λ t. (λ v. t.0 (v, tt), r.0 t.1), λ t. (λ v. t.0 v.0, r.1 t.1))

  one_alone : (sources : List ℕ) → ExactlyOne (λ t. TupleReachesVia (i ∷ []) (x ∷ []) t (c ∷ [])) (alone sources)
      ↔ ExactlyOne (λ s. ReachesVia i x s c) sources
  one_alone [] = (λ t. t, λ t. t)
  one_alone (s ∷ ss) = let n = none_alone ss in let r = one_alone ss in (
    λ t. elim t [ inl a ↦ inl (a.0.0, n.0 a.1) | inr a ↦ inr (λ v. a.0 (v, tt), r.0 a.1) ],
    λ t. elim t [ inl a ↦ inl ((a.0, tt), n.1 a.1) | inr a ↦ inr (λ v. a.0 v.0, r.1 a.1) ],
  )

-- the theorem: lists of one are what stands in them
pub cubes_of_one_dimension : CubesOfOneDimension
cubes_of_one_dimension s c sources = (to, from)
  where
    to : IsCubeSummarizable (s ∷ []) (c ∷ []) (alone sources) → IsSummarizable s c sources
    to h i l = (agree_exactly s.graph i c sources l.is_instance l.lawful).1
        (λ x m b r. (one_alone i x c sources).0
        ((cubes_agree_exactly (s.graph ∷ []) (i ∷ []) (c ∷ []) (alone sources) (l.lawful, tt)).0 (h (i ∷ []) (l, tt))
        (x ∷ []) ((m, b), tt) (r.0 ∷ []) (r.1, tt) (r.2, tt)))

    from : IsSummarizable s c sources → IsCubeSummarizable (s ∷ []) (c ∷ []) (alone sources)
    from h is l = go is l
      where
        go : (is : List Instance) → AllZip IsLegal (s ∷ []) is
            → ViewsAgree (IsCubeFactTable (s.graph ∷ []) is) (tuples is) (c ∷ []) (alone sources)
        go [] l = absurd l
        go (i ∷ j ∷ is) l = absurd l.1
        go (i ∷ []) l =
            (cubes_agree_exactly (s.graph ∷ []) (i ∷ []) (c ∷ []) (alone sources) (l.0.lawful, tt)).1 one
          where
            one : (x : List ℕ) → IsBottomTuple (s.graph ∷ []) (i ∷ []) x → (y : List ℕ)
                → IsTupleOf (i ∷ []) (c ∷ []) y → TupleReaches (i ∷ []) x y
                → ExactlyOne (λ t. TupleReachesVia (i ∷ []) x t (c ∷ [])) (alone sources)
            one [] b y m r = absurd b
            one (x ∷ z ∷ zs) b y m r = absurd b.1
            one (x ∷ []) b [] m r = absurd m
            one (x ∷ []) b (y ∷ z ∷ zs) m r = absurd m.1
            one (x ∷ []) b (y ∷ []) m r = (one_alone i x c sources).1
                ((agree_exactly s.graph i c sources l.0.is_instance l.0.lawful).0 (h i l.0) x b.0.0 b.0.1 (y, m.0, r.0))

-- ---- counterexamples

-- the one member of the root's category
alone_root : (i : Instance) → HasOneMemberEach i → (b r : ℕ) → IsMemberOf i b r → (roots : List ℕ)
    → IsTupleOf (i ∷ []) (b ∷ []) roots → roots ≡ r ∷ []
alone_root i one b r m [] t = absurd t
alone_root i one b r m (x ∷ y ∷ ys) t = absurd t.1
alone_root i one b r m (x ∷ []) t = ap (λ w. w ∷ []) (one x r t.0.0 m.0 (t.0.1 ∙ sym m.1))

module _ (s : Schema) (c : ℕ) (sources : List ℕ) where
  abbrev q : Formula
  q = not_by_one c sources

  free : equalities (Reach c) ≡ equalities q
  free = sym (question_free c sources)

  numberless : comparisons (Reach c) ≡ comparisons q
  numberless = sym (question_numberless c sources)

  abbrev Bad : List Chosen → Type 0
  Bad choice = IsBadChoice (s ∷ []) (c ∷ []) (alone sources) choice

  abbrev chosen_one : Candidates → ℕ → Frozen → Chosen
  chosen_one k b f = record { bottom = b; candidates = k; frozen = f }

  -- a frozen dimension of a bottom category for the question is a bad choice
  bad_of : (k : Candidates) (b : ℕ) (f : Frozen) → IsBottom s.graph b → AreCandidates s q k → IsFrozen s q b k f
      → Bad (chosen_one k b f ∷ [])
  bad_of k b f bottom a t = record {
    chosen = (
      record {
        bottom = bottom;
        candidates = candidates_too s q (Reach c) (sym free) (sym numberless) k a;
        is_one = frozen_too s q (Reach c) (sym free) (sym numberless) b k f t t.stands_for.true_at_root.0;
      },
      tt,
    );
    roots = t.stands_for.root ∷ [];
    roots_are = (t.stands_for.root_is, tt);
    bad = λ o. t.stands_for.true_at_root.1 ((one_of (thawed s k b f) t.stands_for.root c sources).1
        ((one_alone (thawed s k b f) t.stands_for.root c sources).0 o));
  }

  -- and the other way round
  bad_bottom : (p : Chosen) → Bad (p ∷ []) → IsBottom s.graph p.bottom
  bad_bottom p b = b.chosen.0.bottom

  bad_candidates : (p : Chosen) → Bad (p ∷ []) → AreCandidates s q p.candidates
  bad_candidates p b = candidates_too s (Reach c) q free numberless p.candidates b.chosen.0.candidates

  bad_frozen : (p : Chosen) → Bad (p ∷ []) → IsFrozen s q p.bottom p.candidates p.frozen
  bad_frozen p b = frozen_too s (Reach c) q free numberless p.bottom p.candidates p.frozen b.chosen.0.is_one
      (f.true_at_root, λ o. not_one ((one_alone i f.root c sources).1 ((one_of i f.root c sources).0 o)))
    where
      i : Instance
      i = thawed s p.candidates p.bottom p.frozen

      f : IsFrozenInstance s (Reach c) p.bottom i
      f = b.chosen.0.is_one.stands_for

      not_one : ExactlyOne (λ t. TupleReachesVia (i ∷ []) (f.root ∷ []) t (c ∷ [])) (alone sources) → ⊥
      not_one = subst (λ w. ExactlyOne (λ t. TupleReachesVia (i ∷ []) w t (c ∷ [])) (alone sources) → ⊥)
          (alone_root i f.one_each p.bottom f.root f.root_is b.roots b.roots_are) b.bad

  -- whichever candidates it brings
  with_candidates : (k : Candidates) → AreCandidates s q k → (p : Chosen) → Bad (p ∷ [])
      → IsFrozen s q p.bottom k p.frozen
  with_candidates k a p b =
      still_frozen s q p.bottom p.candidates k (bad_candidates p b) a p.frozen (bad_frozen p b)

  to : (p : Chosen) → IsLeastChoice (s ∷ []) (c ∷ []) (alone sources) (p ∷ [])
      → IsCounterexample s c sources p.candidates p.bottom p.frozen
  to p x = record {
    bottom = bad_bottom p x.is_bad;
    least = record {
      candidates = bad_candidates p x.is_bad;
      is_one = bad_frozen p x.is_bad;
      least = λ h t. (x.least (chosen_one p.candidates p.bottom h ∷ [])
          (bad_of p.candidates p.bottom h (bad_bottom p x.is_bad) (bad_candidates p x.is_bad) t) refl).0;
    };
    first = λ d l bottom h t.
        not_before d l (x.first (chosen_one p.candidates d h ∷ [])
        (bad_of p.candidates d h bottom (bad_candidates p x.is_bad) t));
  }
    where
      not_before : (d : ℕ) → d < p.bottom → IsNotAfter (p.bottom ∷ []) (d ∷ []) → ⊥
      not_before d l (inl m) = omega arith
      not_before d l (inr m) = let e = m.0 in omega arith

  from : (p : Chosen) → IsCounterexample s c sources p.candidates p.bottom p.frozen
      → IsLeastChoice (s ∷ []) (c ∷ []) (alone sources) (p ∷ [])
  from p x = record {
    is_bad = bad_of p.candidates p.bottom p.frozen x.bottom x.least.candidates x.least.is_one;
    first = first;
    least = least;
  }
    where
      first : (other : List Chosen) → Bad other → IsNotAfter (p.bottom ∷ []) (bottoms_of other)
      first [] b = absurd b.chosen
      first (o ∷ r ∷ rest) b = absurd b.chosen.1
      first (o ∷ []) b = elim (less_equal_greater p.bottom o.bottom) [
        | inl l ↦ inl l
        | inr m ↦ elim m [
          | inl e ↦ inr (e, tt)
          | inr l ↦ absurd (x.first o.bottom l (bad_bottom o b) o.frozen
              (with_candidates p.candidates x.least.candidates o b))
        ]
      ]

      least : (other : List Chosen) → Bad other → bottoms_of other ≡ p.bottom ∷ []
          → AreNotAfter (code p.frozen ∷ []) (codes_of other)
      least [] b e = absurd b.chosen
      least (o ∷ r ∷ rest) b e = absurd b.chosen.1
      least (o ∷ []) b e = (
        x.least.least o.frozen (subst (λ d. IsFrozen s q d p.candidates o.frozen) (first_same o.bottom p.bottom e)
            (with_candidates p.candidates x.least.candidates o b)),
        λ t. tt,
      )
        where
          first_same : (m n : ℕ) → m ∷ [] ≡ n ∷ [] → m ≡ n
          first_same m n e = cc e

-- the theorem, of counterexamples
pub counterexamples_of_one_dimension : CounterexamplesOfOneDimension
counterexamples_of_one_dimension s c sources p = (
  λ x. to s c sources p (to_least (s ∷ []) (c ∷ []) (alone sources) (p ∷ []) x),
  λ x. from_least (s ∷ []) (c ∷ []) (alone sources) (p ∷ []) (from s c sources p x),
)
