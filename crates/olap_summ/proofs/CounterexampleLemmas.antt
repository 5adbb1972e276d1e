-- What the first bottom category with a frozen dimension says of summarizability.
use Rattle.std.{proofs.Common.{◌≡◌, ℕ, ◌<◌, List, refl, sym, subst, Option, Some, None}, specs.Prelude.{IfSome, IsSome}}
use Rattle.olap_base.specs.Graph.{IsBottom, IsHierarchy}
use Rattle.olap_ast.{proofs.SmallModel.frozen_exactly, proofs.Summing.summarizable_exactly, specs.Constants.HasKinds}
use Rattle.olap_ast.specs.{Formula.Formula, Frozen.CandidatesExist, Schema.Schema}
use Rattle.olap_ast.specs.Summarizable.{IsSummarizable, not_by_one}
use Rattle.olap_dimsat.specs.{Finding.IsFoundAs, declared.finding.Wanted.Wanted}
use Rattle.olap_frozen.specs.{LeastFound.frozen_of, declared.founding.Found.Found}
use Rattle.olap_names.specs.Names.{candidates_of}
use Rattle.olap_summ.{proofs.AskingLemmas.found_is_one, specs.Answers.IsNowhere, specs.Asking.IsFirstFound}
use Rattle.olap_summ.specs.Counterexamples.{IsCounterexampleFound, IsOneCounterexampleFound}
use Rattle.olap_dimsat.specs.declared.finding.Wanted.TheVariants as wanted

-- ---- the answer

module _ (s : Schema) (c : ℕ) (sources : List ℕ) (hier : IsHierarchy s.graph) where
  abbrev q : Formula
  q = not_by_one c sources

  -- where no bottom category has one
  pub summarizable_is : CandidatesExist → HasKinds s q → ((b : ℕ) → IsBottom s.graph b → IsNowhere s q b)
      → IsSummarizable s c sources
  summarizable_is e h n =
      let k = e s q h in
      (summarizable_exactly s c sources k.0 hier k.1).1
      (λ b bottom h t. let m = (frozen_exactly s q b k.0 hier k.1).0 (h, t) in n b bottom m.0 m.1 m.2 m.3 m.4)

  -- where some bottom category has one
  pub not_summarizable : (found : Found) → IsOneCounterexampleFound s c sources found → IsSummarizable s c sources → ⊥
  not_summarizable found f z =
      (summarizable_exactly s c sources (candidates_of found.candidates) hier f.one.candidates).0 z
      found.frozen.root.0 f.bottom (frozen_of found.frozen) f.one.is_one

  -- what was found at the first bottom category that has one is a counterexample
  pub one_counterexample : (w : Wanted) (found : Found) → IsFirstFound w s q found
      → IsOneCounterexampleFound s c sources found
  one_counterexample w found f =
      record { bottom = f.bottom; one = found_is_one w s q found.frozen.root.0 found f.found_as }

  -- where something was found, the target isn't summarizable
  pub summarizable_isnt : (w : Wanted) (found : Found) → IsFirstFound w s q found → IsSummarizable s c sources → ⊥
  summarizable_isnt w found f = not_summarizable found (one_counterexample w found f)

  -- the least is the counterexample
  pub counterexample_is : (found : Found) → IsFirstFound wanted.Least s q found
      → IsCounterexampleFound s c sources found
  counterexample_is found f = record {
    is_one = record {
      bottom = f.bottom;
      least = f.found_as.least;
      first = λ d l b h t.
          let m = (frozen_exactly s q d (candidates_of found.candidates) hier f.found_as.least.candidates).0 (h, t) in
          f.first d l b m.0 m.1 m.2 m.3 m.4;
    };
    sized = f.found_as.sized;
    zero = f.found_as.zero;
  }

-- what was found at a bottom category, where those before it have none
pub first_shown : (w : Wanted) (s : Schema) (q : Formula) (r : ℕ) (o : Option Found)
    → (IsSome o → IsBottom s.graph r) → IfSome o (IsFoundAs w s q r)
    → ((d : ℕ) → d < r → IsBottom s.graph d → IsNowhere s q d) → IfSome o (IsFirstFound w s q)
first_shown w s q r None bottom found before = tt
first_shown w s q r (Some found) bottom is before =
    let e = sym (found_is_one w s q r found is).root in record {
      bottom = subst (IsBottom s.graph) e (bottom refl);
      found_as = subst (λ x. IsFoundAs w s q x found) e is;
      first = subst (λ x. (d : ℕ) → d < x → IsBottom s.graph d → IsNowhere s q d) e before;
    }

-- what was found for the question of a target and sources, if anything, is the counterexample, or one
pub least_told : (s : Schema) (p : Formula) (c : ℕ) (sources : List ℕ) → IsHierarchy s.graph
    → p ≡ not_by_one c sources → (o : Option Found) → IfSome o (IsFirstFound wanted.Least s p)
    → IfSome o (IsCounterexampleFound s c sources)
least_told s p c sources hier e None first = tt
least_told s p c sources hier e (Some found) first =
    counterexample_is s c sources hier found (subst (λ (f : Formula). IsFirstFound wanted.Least s f found) e first)

-- any frozen dimension that was found for the question is a counterexample
pub any_told : (s : Schema) (p : Formula) (c : ℕ) (sources : List ℕ) → IsHierarchy s.graph
    → p ≡ not_by_one c sources → (o : Option Found) → IfSome o (IsFirstFound wanted.Any s p)
    → IfSome o (IsOneCounterexampleFound s c sources)
any_told s p c sources hier e None first = tt
any_told s p c sources hier e (Some found) first =
    one_counterexample s c sources hier wanted.Any found
    (subst (λ (f : Formula). IsFirstFound wanted.Any s f found) e first)
