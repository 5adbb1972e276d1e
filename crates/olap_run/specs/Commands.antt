-- The order of what the words ask for.
--     order_of    of a whole command line
--     usage       of words that are no command
--     version     the program's version
use Rattle.std.specs.Prelude.{ℕ, List, [], ◌∷◌, length, codes, if◌then◌else◌, nat_lt, Option, None, Some, unwrap_or}
use Rattle.std.specs.Option.{option_or}
use Rattle.std.specs.Str.{bytes_eq}
use Rattle.olap_base.specs.Limits.{most_words}
use Rattle.olap_order.specs.Families.{asking}
use Rattle.olap_order.specs.Order.{Order, Told}
use Rattle.olap_order.specs.Outputs.{line}
use Rattle.olap_order.specs.declared.status.Status.TheVariants.{Usage, Yes}
use Rattle.olap_cubes.specs.Commands as cubes
use Rattle.olap_plans.specs.Commands as plans
use Rattle.olap_reasoning.specs.Commands as reasoning
use Rattle.olap_run.specs.Questions.{Question, OfReasoning, OfTotals, OfPlans, OfVerdicts, OfCubes}
use Rattle.olap_totals.specs.Commands as totals
use Rattle.olap_verdicts.specs.Commands as verdicts

-- words that are no command are answered by the usage
abbrev pub usage : Order Question
usage = Told Usage (line (codes "usage"))

-- the program's version, which is the last one in the change log
abbrev pub version : List ℕ
version = codes "olap 0.2.0"

-- `version`, with no word after it, tells the program's version
abbrev pub version_told : List ℕ → List (List ℕ) → Option (Order Question)
version_told name [] = if bytes_eq name (codes "version") then Some (Told Yes (line version)) else None
version_told name words = None

-- the order of the command of that name with these words after it, if a family has it
abbrev pub order_named : List ℕ → List (List ℕ) → Option (Order Question)
order_named name words =
    option_or (asking OfReasoning (reasoning.order_named name words))
    (option_or (asking OfTotals (totals.order_named name words))
    (option_or (asking OfPlans (plans.order_named name words))
    (option_or (asking OfVerdicts (verdicts.order_named name words))
    (asking OfCubes (cubes.order_named name words)))))

-- the order of what the words ask for; more than `most_words` are no command
abbrev pub order_of : List (List ℕ) → Order Question
order_of [] = usage
order_of (name ∷ words) =
    if nat_lt most_words (length (name ∷ words)) then usage
    else unwrap_or (option_or (version_told name words) (order_named name words)) usage
