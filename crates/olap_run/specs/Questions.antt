-- What is left to be answered once all files of a run are read: the questions of each family of commands.
--     Question   a family's question
--     IsAnswer   a status and bytes answer the question
use Rattle.std.specs.Prelude.{ℕ, List}
use Rattle.olap_order.specs.declared.status.Status.{Status}
use Rattle.olap_cubes.specs.Questions as cubes
use Rattle.olap_plans.specs.Questions as plans
use Rattle.olap_reasoning.specs.Questions as reasoning
use Rattle.olap_totals.specs.Questions as totals
use Rattle.olap_verdicts.specs.Questions as verdicts

-- a question of one of the families
pub data Question : Type 0 where
  -- about all legal instances of a schema
  OfReasoning : reasoning.Question → Question
  -- over one instance and its facts
  OfTotals : totals.Question → Question
  -- from which stored views a total is taken
  OfPlans : plans.Question → Question
  -- about a certificate
  OfVerdicts : verdicts.Question → Question
  -- over several dimensions
  OfCubes : cubes.Question → Question

-- this status and these bytes answer the question
abbrev pub IsAnswer : Question → Status → List ℕ → Type 0
IsAnswer (OfReasoning q) status bytes = reasoning.IsAnswer q status bytes
IsAnswer (OfTotals q) status bytes = ⊥
IsAnswer (OfPlans q) status bytes = plans.IsAnswer q status bytes
IsAnswer (OfVerdicts q) status bytes = verdicts.IsAnswer q status bytes
IsAnswer (OfCubes q) status bytes = cubes.IsAnswer q status bytes
