-- What is left to drop is no deeper than the whole list.
use Rattle.std.proofs.Common.{◌≤◌}
use Rattle.olap_grammar.specs.declared.forms.Forms.{size-Forms}
use Rattle.olap_grammar.proofs.+form.Given as goal

abbrev pub invariant-forms::Forms::drop-loop-self : goal.invariant-forms::Forms::drop-loop-self
invariant-forms::Forms::drop-loop-self l = size-Forms l.self ≤ size-Forms l.initial.self
