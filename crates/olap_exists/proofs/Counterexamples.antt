-- A target is summarizable, or some bottom category is the first with a frozen dimension that shows the contrary.
--     counterexamples_exist    the law
use Rattle.std.{proofs.Common.{◌≡◌, ℕ, ◌+◌, List, length, refl, subst, inl, inr, arith}, specs.Prelude.{◌⊎◌, Contains}}
use Rattle.olap_base.{proofs.DecisionLemmas.dec_not, specs.Deciding.{dec_and, dec_iff}}
use Rattle.olap_base.specs.Graph.{Edge, Graph, IsBottom}
use Rattle.olap_ast.{proofs.Least.{IsLeast, least}, specs.Constants.FreshNamesExist, specs.Formula.Formula}
use Rattle.olap_ast.specs.Frozen.{AreCandidates, Candidates, Frozen, IsFrozen, IsLeastFrozen}
use Rattle.olap_ast.specs.{Questions.{NoneFrozen, SourcesHaveCandidates}, Schema.Schema}
use Rattle.olap_ast.specs.Summarizable.{IsCounterexample, SummarizableExactlyIfNoneFrozen, not_by_one}
use Rattle.olap_exists.proofs.{Finite.dec_each, FrozenListed.least_frozen_exist}
use Rattle.olap_exists.specs.Existing.{CounterexamplesExist}
use native.Mathlib.Decide.{ℕ_discrete, dec_lt}

-- whether it is a bottom category
pub dec_bottom : (g : Graph) (b : ℕ) → Dec (IsBottom g b)
dec_bottom g b = dec_and (dec_and (dec_not (ℕ_discrete b 0)) (dec_lt b (length g.names + 1)))
    (dec_iff (λ f d h. f (record { child = d; parent = b }) h refl)
    (λ f e c q. f e.child (subst (λ p. Contains g.edges (record { child = e.child; parent = p })) q c))
    (dec_each (λ (e : Edge). e.parent ≡ b → ⊥) (λ e. dec_not (ℕ_discrete e.parent b)) g.edges))

module _ (fresh : FreshNamesExist) where
  -- whether there is none
  pub dec_none : (s : Schema) (q : Formula) (r : ℕ) (k : Candidates) → AreCandidates s q k → Dec (NoneFrozen s q r k)
  dec_none s q r k are = elim (least_frozen_exist fresh s q r k are) [
    | inl t ↦ no (λ n. n t.0 t.1.is_one)
    | inr n ↦ yes n
  ]

  -- whether there is one
  some_frozen : (s : Schema) (q : Formula) (r : ℕ) (k : Candidates) → AreCandidates s q k
      → Dec ((f : Frozen) × IsFrozen s q r k f)
  some_frozen s q r k are = elim (least_frozen_exist fresh s q r k are) [
    | inl t ↦ yes (t.0, t.1.is_one)
    | inr n ↦ no (λ t. n t.0 t.1)
  ]

  -- a bottom category with a frozen dimension
  abbrev HasBad : Schema → Formula → Candidates → ℕ → Type 0
  HasBad s q k b = IsBottom s.graph b × ((f : Frozen) × IsFrozen s q b k f)

  -- no bottom category has one
  abbrev NoneBad : Schema → Formula → Candidates → Type 0
  NoneBad s q k = (b : ℕ) → IsBottom s.graph b → (f : Frozen) → IsFrozen s q b k f → ⊥

  -- a counterexample, or no bottom category has a frozen dimension
  counterexample : (s : Schema) (c : ℕ) (sources : List ℕ) (k : Candidates) → AreCandidates s (not_by_one c sources) k
      → ((b : ℕ) × (f : Frozen) × IsCounterexample s c sources k b f) ⊎ NoneBad s (not_by_one c sources) k
  counterexample s c sources k are =
      go (least (HasBad s (not_by_one c sources) k)
      (λ b. dec_and (dec_bottom s.graph b) (some_frozen s (not_by_one c sources) b k are)) (length s.graph.names + 1)
      (λ b t. t.0.0.1))
    where
      go : ((b : ℕ) × IsLeast (HasBad s (not_by_one c sources) k) b)
          ⊎ ((b : ℕ) → HasBad s (not_by_one c sources) k b → ⊥)
          → ((b : ℕ) × (f : Frozen) × IsCounterexample s c sources k b f) ⊎ NoneBad s (not_by_one c sources) k
      go (inr n) = inr (λ b bottom f h. n b (bottom, (f, h)))
      go (inl t) = first (least_frozen_exist fresh s (not_by_one c sources) t.0 k are)
        where
          first : ((f : Frozen) × IsLeastFrozen s (not_by_one c sources) t.0 k f)
              ⊎ ((f : Frozen) → IsFrozen s (not_by_one c sources) t.0 k f → ⊥)
              → ((b : ℕ) × (f : Frozen) × IsCounterexample s c sources k b f) ⊎ NoneBad s (not_by_one c sources) k
          first (inr n) = absurd (n t.1.has.1.0 t.1.has.1.1)
          first (inl u) = inl (
            t.0,
            u.0,
            record {
              bottom = t.1.has.0;
              least = u.1;
              first = λ d l bottom h z. let m = t.1.least d (bottom, (h, z)) in absurd (omega (arith, m, l));
            },
          )

  pub counterexamples_exist : SourcesHaveCandidates → SummarizableExactlyIfNoneFrozen → CounterexamplesExist
  counterexamples_exist candidates summarizable s c sources v =
      let k = candidates s c sources v in
      elim (counterexample s c sources k.0 k.1) [
        | inl t ↦ inr (k.0, t.0, t.1, t.2)
        | inr n ↦ inl ((summarizable s c sources k.0 v.hierarchy k.1).1 n)
      ]
