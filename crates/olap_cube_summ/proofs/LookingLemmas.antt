-- What a search that looks for patterns finds.
use Rattle.std.proofs.Common.{◌≡◌, ℕ, refl, subst, sym}
use Rattle.olap_ast.specs.{Formula.Formula.Reach, Schema.Schema}
use Rattle.olap_base.specs.Graph.{IsBottom}
use Rattle.olap_cube_summ.specs.{Found.chosen_of, Looking.IsLookout}
use Rattle.olap_cube_summ.specs.{Patterns.{HasPattern, IsFoundFor, IsPatternOf, named_by}, Questions.target_in}
use Rattle.olap_cube_summ.specs.declared.{looking.Lookout.Lookout, questions.Question.Question}
use Rattle.olap_dimsat.specs.{OneFound.IsOneFound, Searches.root_of}
use Rattle.olap_names.specs.Names.{Named}
use Rattle.olap_frozen.specs.declared.frozen.Frozen as kept

module _ (s : Schema) (q : Question) (b : ℕ) where
  -- a frozen dimension that reaches the target is one of the bottom category, by the names that the search has
  module _ (bottom : IsBottom s.graph b) (named names : Named) (same : named ≡ names) (f : kept.Frozen)
      (found : IsOneFound s (Reach (target_in q)) b (named_by names f)) where
    one : IsOneFound s (Reach (target_in q)) b (named_by named f)
    one = subst (λ (k : Named). IsOneFound s (Reach (target_in q)) b (named_by k f)) (sym same) found

    pub found_for : IsFoundFor s (target_in q) (named_by named f)
    found_for = record {
      chosen = record {
        bottom = subst (IsBottom s.graph) (sym one.root) bottom;
        candidates = one.candidates;
        is_one = rw one.root one.is_one;
      };
      sized = one.sized;
      zero = one.zero;
    }

    -- and so its pattern is one
    pub pattern_of_found : (p : ℕ) → HasPattern s q (chosen_of (named_by named f)) p → IsPatternOf s q b p
    pattern_of_found p has = (chosen_of (named_by named f), found_for.chosen, one.root, has)

  -- its root is the search's
  pub by_its_root : (lookout : Lookout) → IsLookout s q b lookout → IsLookout s q (root_of lookout.search) lookout
  by_its_root lookout is = record { made = is.made; root = refl; room = is.room }

  -- and a bottom category
  pub root_bottom : (lookout : Lookout) → IsLookout s q b lookout → IsBottom s.graph b
      → IsBottom s.graph (root_of lookout.search)
  root_bottom lookout is bottom = subst (IsBottom s.graph) (sym is.root) bottom
