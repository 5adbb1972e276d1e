-- The name is one of those of the family, and the words after it one by one are those by their numbers.
use Rattle.std.proofs.Common.{ap, sym, ◌∙◌}
use Rattle.olap_order.{proofs.BehindLemmas.three_or_more_is, specs.Words.texts}
use Rattle.olap_proof.specs.declared.forms.Form.TheVariants.{Long, Short}
use Rattle.olap_verdicts.specs.Commands.{order_named, verify_order}
use Rattle.olap_verdicts.proofs.words.parse.Goals as goal

pub returns-in-verify : goal.returns-in-verify
returns-in-verify c =
    let words = texts c.args.words.now in
    c.verify.ensures ∙ three_or_more_is (verify_order Long) words ∙ ap (λ n. order_named n words) (sym c.in-verify.is)

pub returns-in-text : goal.returns-in-text
returns-in-text c =
    let words = texts c.args.words.now in
    c.verify-in-text.ensures ∙ three_or_more_is (verify_order Short) words
    ∙ ap (λ n. order_named n words) (sym c.in-text.is)
