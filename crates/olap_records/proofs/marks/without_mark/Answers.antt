use Rattle.std.proofs.Common.{◌∙◌, sym, arith}
use Rattle.olap_base.proofs.ListLemmas.{rest_is}
use Rattle.olap_records.proofs.MarkLemmas.{strip-marked, strip-plain, strip-short}
use Rattle.olap_records.proofs.marks.without_mark.Goals as goal

pub returns-then-text-lt3 : goal.returns-then-text-lt3
returns-then-text-lt3 c = strip-short c.args.text.now c.if-text-lt3.true

pub returns-then-is_mark : goal.returns-then-is_mark
returns-then-is_mark c =
    rest_is 3 c.args.text.now
    ∙ strip-marked c.args.text.now (omega (arith, c.if-text-lt3.false)) (sym c.is_mark.ensures ∙ c.if-is_mark.true)

pub returns : goal.returns
returns c =
    strip-plain c.args.text.now (omega (arith, c.if-text-lt3.false)) (sym c.is_mark.ensures ∙ c.if-is_mark.false)
