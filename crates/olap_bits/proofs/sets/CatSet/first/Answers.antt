-- The first word that isn't 0 has the least number.
use Rattle.std.proofs.Common.{refl, rules}
use Rattle.olap_bits.proofs.{CatSetLemmas.all_zeros, FirstLemmas.{least_of, not_empty}}
use Rattle.olap_bits.proofs.sets.CatSet.first.Goals as goal

pub returns-then-self-k-ne0-clause-none : goal.returns-then-self-k-ne0-clause-none
returns-then-self-k-ne0-clause-none g c = (
  λ e. absurd (cc),
  λ e. absurd (not_empty _ _ (least_of _ c.words.k c.words.invariant _ c.if-self-k-ne0.true (search rules) refl) e),
)

pub returns-then-self-k-ne0-clause-least : goal.returns-then-self-k-ne0-clause-least
returns-then-self-k-ne0-clause-least g c =
    least_of _ c.words.k c.words.invariant _ c.if-self-k-ne0.true (search rules) refl

pub returns-clause-none : goal.returns-clause-none
returns-clause-none g c = (λ e. all_zeros _ c.words.k (search rules) c.words.invariant, λ e. refl)
