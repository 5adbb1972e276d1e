-- The least number of what is left without the set.
use Rattle.std.proofs.Common.{Option, None, Some, ℕ, IfSome}
use Rattle.olap_bits.specs.{CatSet.IsLeast, Sets.members}
use Rattle.olap_proof.{proofs.WalkingLemmas.{none_left, one_left}, specs.Walking.IsIn}
use Rattle.olap_proof.proofs.walking.lacking_category.Goals as goal

pub returns-clause-some : goal.returns-clause-some
returns-clause-some c = go c.first.result c.first.ensures.least
  where
    go : (o : Option ℕ) → IfSome o (IsLeast (members c.minus.result))
        → IfSome o (λ x. IsIn (members c.args.from.now) x × (IsIn (members c.args.set.now) x → ⊥))
    go None h = h
    go (Some x) h =
        one_left (members c.args.set.now) (members c.args.from.now) (members c.minus.result) x c.minus.ensures
        h.is_one

pub returns-clause-none : goal.returns-clause-none
returns-clause-none c = λ n.
    none_left (members c.args.set.now) (members c.args.from.now) (members c.minus.result) c.minus.ensures
    (c.first.ensures.none.0 n)
