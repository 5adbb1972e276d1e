-- A short word with no plus first is parsed as the number that it spells.
use Rattle.std.proofs.Common.{◌≡◌, ◌==◌, ◌∙◌, true, false, arith, length, nat_le, slice_index, sym}
use Rattle.std.proofs.lemmas.Bool.Decides.{nat_tests}
use Rattle.olap_plans.proofs.NumberLemmas.{number-parses}
use Rattle.olap_plans.proofs.generating.number.Goals as goal

pub returns : goal.returns
returns c =
    let short : nat_le (length word) 20 ≡ true = grind (arith, nat_tests, within) in
    let plain : (slice_index word 0 == 43) ≡ false =
    sym (c.starts_with.ensures.byte (omega arith) (omega arith) (λ w o h. h)) ∙ c.if-starts_with.false in
    c.ok.ensures.value ∙ number-parses word c.parse.result short plain c.parse.ensures.value.0
  where
    open c use {args.word.now as word, if-word-gt-MOST_DIGITS.false as within}
