-- Questions that a plan answers, and what answers them.
--     Question   a command's question, with all that it needs
--     IsAnswer   a status and bytes answer the question
use Rattle.std.specs.Prelude.{◌≡◌, ◌⊎◌, ℕ, List, codes}
use Rattle.olap_ast.specs.Schema.{Schema}
use Rattle.olap_base.specs.Instance.{Instance}
use Rattle.olap_base.specs.Views.{View}
use Rattle.olap_generate.specs.Generated.{ShowsGenerated}
use Rattle.olap_nav.specs.Plans.{Serves}
use Rattle.olap_order.specs.Outputs.{refusal}
use Rattle.olap_order.specs.declared.status.Status.{Status}
use Rattle.olap_order.specs.declared.status.Status.TheVariants.{Yes, Refused}
use Rattle.olap_plans.specs.Shown.{ShowsPlan}

pub data Question : Type 0 where
  -- from which stored views is the target's view computed, and what is it?
  ByPlan : (schema : Schema) (members : Instance) (views : List (View ℕ ℕ)) (target : ℕ) → Question
  -- what comes of the input that is made from a seed and a number of stores?
  ByGenerated : (seed size : ℕ) → Question

-- this status and these bytes answer the question
abbrev pub IsAnswer : Question → Status → List ℕ → Type 0
IsAnswer (ByPlan s members views c) status bytes =
    ((status ≡ Yes) × ShowsPlan s members views c bytes)
    ⊎ ((status ≡ Refused) × ((mask : ℕ) → Serves s views c mask → ⊥)
    × (bytes ≡ refusal (codes "answer NotAnswerable")))
IsAnswer (ByGenerated seed size) status bytes = (status ≡ Yes) × ShowsGenerated seed size bytes
