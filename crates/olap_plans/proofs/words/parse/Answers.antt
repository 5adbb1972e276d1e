-- The name is one of those of the family, and the words after it one by one are those by their numbers.
use Rattle.std.proofs.Common.{ap, sym, ◌∙◌}
use Rattle.olap_order.{proofs.BehindLemmas.{four_is, two_is}, specs.Words.texts}
use Rattle.olap_plans.specs.Commands.{answer_order, generate_order, order_named}
use Rattle.olap_plans.proofs.words.parse.Goals as goal

pub returns-in-answer : goal.returns-in-answer
returns-in-answer c =
    let words = texts c.args.words.now in
    c.answer.ensures ∙ four_is answer_order words ∙ ap (λ n. order_named n words) (sym c.in-answer.is)

pub returns-in-generate : goal.returns-in-generate
returns-in-generate c =
    let words = texts c.args.words.now in
    c.generate.ensures ∙ two_is generate_order words ∙ ap (λ n. order_named n words) (sym c.in-generate.is)
