-- A word with something left has a number that isn't in the other set.
use Rattle.std.proofs.Common.{rules, sym, below_more}
use Rattle.olap_bits.proofs.SubsetLemmas.{subset_of, no_subset_of}
use Rattle.olap_bits.proofs.sets.CatSet.is_subset.Goals as goal

pub words-preserved : goal.words-preserved
words-preserved g c = below_more _ _ c.words.invariant (record { small = search rules; none = c.if-left-ne0.false })

pub returns-then-left-ne0 : goal.returns-then-left-ne0
returns-then-left-ne0 g c = sym (no_subset_of _ _ c.words.k (search rules) (search rules) c.if-left-ne0.true)

pub returns : goal.returns
returns g c = sym (subset_of _ _ c.words.k (search rules) (search rules) c.words.invariant)
