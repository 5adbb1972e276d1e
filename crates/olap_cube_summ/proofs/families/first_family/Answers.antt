use Rattle.std.proofs.Common.{◌++◌, ◌∷◌}
use Rattle.olap_cube_summ.{proofs.FamilyLemmas.first_by_order, specs.Masks.{CanBeBad, all_of}}
use Rattle.olap_cube_summ.proofs.families.first_family.Goals as goal

pub returns-then-all_can_be_bad-clause-first : goal.returns-then-all_can_be_bad-clause-first
returns-then-all_can_be_bad-clause-first c =
    let n = c.args.sources in
    first_by_order (λ f. CanBeBad n (c.args.done.now ++ f.patterns ∷ c.args.rest.now) (all_of n))
    c.args.families.now c.families.k c.index-families-k.result c.requires.ordered c.families-test.true
    c.index-families-k.is c.families.invariant.none
