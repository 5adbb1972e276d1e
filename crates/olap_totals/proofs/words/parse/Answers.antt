-- The name is one of those of the family, and the words after it one by one are those by their numbers.
use Rattle.std.proofs.Common.{ap, sym, ◌∙◌}
use Rattle.olap_order.{proofs.BehindLemmas.{four_is, three_or_more_is, two_is}, specs.Words.texts}
use Rattle.olap_delta.specs.Changes.{append, retract}
use Rattle.olap_totals.proofs.WordLemmas.{store_is}
use Rattle.olap_totals.specs.Commands.{breaks_order, change_order, check_order, order_named, rollup_order}
use Rattle.olap_totals.proofs.words.parse.Goals as goal

pub returns-in-rollup : goal.returns-in-rollup
returns-in-rollup c =
    let words = texts c.args.words.now in
    c.rollup.ensures ∙ four_is rollup_order words ∙ ap (λ n. order_named n words) (sym c.in-rollup.is)

pub returns-in-check : goal.returns-in-check
returns-in-check c =
    let words = texts c.args.words.now in
    c.check.ensures ∙ two_is check_order words ∙ ap (λ n. order_named n words) (sym c.in-check.is)

pub returns-in-store : goal.returns-in-store
returns-in-store c =
    let words = texts c.args.words.now in
    c.store.ensures ∙ store_is words ∙ ap (λ n. order_named n words) (sym c.in-store.is)

pub returns-in-breaks : goal.returns-in-breaks
returns-in-breaks c =
    let words = texts c.args.words.now in
    c.breaks.ensures ∙ three_or_more_is breaks_order words ∙ ap (λ n. order_named n words) (sym c.in-breaks.is)

pub returns-in-append : goal.returns-in-append
returns-in-append c =
    let words = texts c.args.words.now in
    c.change_command.ensures ∙ four_is (change_order append) words
    ∙ ap (λ n. order_named n words) (sym c.in-append.is)

pub returns-in-retract : goal.returns-in-retract
returns-in-retract c =
    let words = texts c.args.words.now in
    c.change_command-in-retract.ensures ∙ four_is (change_order retract) words
    ∙ ap (λ n. order_named n words) (sym c.in-retract.is)
