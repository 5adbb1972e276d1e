-- The answers of the readers.
--     formula_answer    the formula, or why there is none
--     Answers           a reader gives that answer, or is out of memory
use Rattle.std.specs.Prelude.{◌≡◌, Option, None, Some, Result, Ok, Err, cond, nat_le}
use Rattle.olap_base.specs.Refusing.{IsRefusedBy}
use Rattle.olap_base.specs.declared.refusals.Refusal.{Refusal}
use Rattle.olap_grammar.specs.Forms as words
use Rattle.olap_grammar.specs.Forms.{depth_of}
use Rattle.olap_grammar.specs.Shown.{form_of}
use Rattle.olap_grammar.specs.declared.forms.Form.{Form}
use Rattle.olap_base.specs.Limits.{most_depth}
use Rattle.olap_grammar.specs.declared.refusals.FormFault.{FormFault}
use Rattle.olap_grammar.specs.declared.refusals.FormFault.TheVariants as fault

-- the formula that was read, if it is one and is no deeper than one may be
abbrev pub formula_answer : Option words.Form → Result words.Form FormFault
formula_answer None = Err fault.BadForm
formula_answer (Some f) = cond (nat_le (depth_of f) most_depth) (Ok f) (Err fault.TooDeep)

-- this formula, or a refusal
abbrev pub Answers : Result Form (Refusal FormFault) → Result words.Form FormFault → Type 0
Answers (Ok f) answer = answer ≡ Ok (form_of f)
Answers (Err e) answer = IsRefusedBy e answer
