-- A word has as many numbers as bits that are 1.
use Rattle.std.proofs.Common.{rules, arith, ◌+◌, sym, ◌*◌}
use Rattle.olap_bits.proofs.CountingLemmas.{len-none, len-next, len_le}
use Rattle.olap_bits.proofs.sets.CatSet.len.Goals as goal

pub words-init : goal.words-init
words-init g c = sym (len-none _)

pub overflow_add-count : goal.overflow_add-count
overflow_add-count g c =
    let words = c.args.self.now.words in
    let next = len-next words c.words.k (search rules) in
    omega (arith, c.args.self.now.few_words, next, len_le words (64 * (c.words.k + 1)))

pub words-preserved : goal.words-preserved
words-preserved g c = omega (arith, len-next c.args.self.now.words c.words.k (search rules))
