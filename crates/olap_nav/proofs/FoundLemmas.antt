-- What is known of a counterexample that was found: its root, and by way of what the root reaches the target.
use Rattle.std.proofs.Common.{◌≡◌, ℕ, List, Bool, sym, subst, ◌↔◌}
use Rattle.olap_ast.proofs.{SameAtoms.{candidates_too, frozen_too}, SourceLemmas.{question_free, question_numberless}}
use Rattle.olap_ast.specs.Formula.{Formula, Formula.Via}
use Rattle.olap_ast.specs.Frozen.{AreCandidates, Candidates, Frozen, IsFrozen, chosen, name_in, root_place}
use Rattle.olap_ast.specs.{Schema.Schema, Summarizable.not_by_one}
use Rattle.olap_base.specs.{Graph.{IsBottom, IsCategory, IsHierarchy}, Instance.ReachesVia, Views.View}
use Rattle.olap_frozen.{proofs.ChosenLemmas.choice_of, specs.LeastFound.frozen_of, specs.declared.founding.Found.Found}
use Rattle.olap_names.specs.Names.{candidates_of}
use Rattle.olap_nav.specs.Patterns.{AreWays, IsPattern, IsSomeCounterexample, found_instance, found_root}
use Rattle.olap_frozen.proofs.ChosenInstance as made

-- ---- the root

module _ (s : Schema) (q : Formula) (r : ℕ) (k : Candidates) (f : Frozen) (hier : IsHierarchy s.graph)
    (root : IsCategory s.graph r) (t : IsFrozen s q r k f) where
  -- the root's place is that of the root
  pub place_is : root_place s r f ≡ t.stands_for.root
  place_is = (made.only_member s.graph r (chosen s.graph.edges f.edges) (choice_of s.graph r f.edges hier root)
      (name_in k f) r t.stands_for.root t.stands_for.root_is).1

-- ---- the counterexample

module _ (s : Schema) (c : ℕ) (found : Found) (hier : IsHierarchy s.graph) (t : IsSomeCounterexample s c found) where
  abbrev k : Candidates
  k = candidates_of found.candidates

  abbrev r : ℕ
  r = found.frozen.root.0

  abbrev f : Frozen
  f = frozen_of found.frozen

  abbrev q : Formula
  q = not_by_one c t.0

  abbrev is_one : IsFrozen s q r k f
  is_one = t.1.one.is_one

  place : found_root s found ≡ is_one.stands_for.root
  place = place_is s q r k f hier t.1.bottom.0.1 is_one

  -- the candidates are those of each question on a way
  pub candidates_for : (v : ℕ) → AreCandidates s (Via v c) k
  candidates_for v = candidates_too s q (Via v c) (question_free c t.0) (question_numberless c t.0) k t.1.one.candidates

  -- the same choice is a frozen dimension for the question on a way exactly if the root has that way
  pub way_is : (v : ℕ) → IsFrozen s (Via v c) r k f ↔ ReachesVia (found_instance s found) (found_root s found) v c
  way_is v = (
    λ w. subst (λ x. ReachesVia (found_instance s found) x v c)
        (sym (place_is s (Via v c) r k f hier t.1.bottom.0.1 w)) w.stands_for.true_at_root,
    λ h. frozen_too s q (Via v c) (question_free c t.0) (question_numberless c t.0) r k f is_one
        (subst (λ x. ReachesVia (found_instance s found) x v c) place h),
  )

  -- its ways are a pattern
  pub pattern_is : (views : List (View ℕ ℕ)) (ways : List Bool)
      → AreWays (found_instance s found) (found_root s found) c views ways → IsPattern s views c ways
  pattern_is views ways a =
      let x = is_one.stands_for.root in record {
        instance = found_instance s found;
        legal = is_one.stands_for.legal;
        member = x;
        is_member = is_one.stands_for.root_is.0;
        bottom = subst (λ d. IsBottom s.graph d) (sym is_one.stands_for.root_is.1) t.1.bottom;
        reaches = is_one.stands_for.true_at_root.0;
        ways_are = subst (λ y. AreWays (found_instance s found) y c views ways) place a;
      }
