-- The search that looks for patterns.
--     IsLookout    it is one for a question and a bottom category
use Rattle.std.specs.Prelude.{◌≡◌, ℕ, length}
use Rattle.olap_ast.specs.Formula.{Formula.Reach}
use Rattle.olap_ast.specs.Schema.{Schema}
use Rattle.olap_base.specs.Graph.{category_count}
use Rattle.olap_dimsat.specs.Searches.{IsMadeWith, root_of}
use Rattle.olap_cube_summ.specs.Questions.{target_in}
use Rattle.olap_cube_summ.specs.declared.looking.Lookout.{Lookout}
use Rattle.olap_cube_summ.specs.declared.questions.Question.{Question}

-- its search is one for the frozen dimensions of b that reach the question's target, and there is room for the graph
pub record IsLookout (s : Schema) (q : Question) (b : ℕ) (lookout : Lookout) : Type 0 where
  pub made : IsMadeWith s (Reach (target_in q)) lookout.search
  pub root : root_of lookout.search ≡ b
  pub room : length lookout.room.rows.items ≡ category_count s.graph
