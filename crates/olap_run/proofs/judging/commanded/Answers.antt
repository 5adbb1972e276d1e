use Rattle.std.{proofs.Common.{◌<◌, arith, rules, subst, sym}, proofs.lemmas.List.length-map, specs.String.string_bytes}
use Rattle.olap_base.specs.Limits.{most_words}
use Rattle.olap_order.specs.{Order.Told, Outputs.line, Words.texts, declared.status.Status.TheVariants.Yes}
use Rattle.olap_run.{proofs.LongWords.too_many, proofs.VersionLemmas.told_judged, specs.Commands.version}
use Rattle.olap_run.proofs.judging.commanded.Goals as goal

pub returns-then-words-gt-MOST_WORDS-clause-none : goal.returns-then-words-gt-MOST_WORDS-clause-none
returns-then-words-gt-MOST_WORDS-clause-none g c =
    λ e. too_many (texts c.args.words.now)
    (subst (λ n. most_words < n) (sym (length-map c.args.words.now string_bytes))
    (omega (arith, c.if-words-gt-MOST_WORDS.true)))

pub returns-in-Some-clause-judged : goal.returns-in-Some-clause-judged
returns-in-Some-clause-judged g c =
    let words = texts c.args.words.now in
    told_judged words c.as_str.result.now (texts c.in_ok-name.words.now) (Told Yes (line version)) c.in-Some.result
    (search rules) (omega (arith, c.if-words-gt-MOST_WORDS.false, length-map c.args.words.now string_bytes))
    c.in-Some.ensures.some.0 c.in-Some.ensures.some.1
