-- A number is in the set exactly if its bit is 1.
use Rattle.std.proofs.{Common.{rules, length, ◌∙◌, ◌≤◌, ◌/◌}, lemmas.Bool.le-ltb}
use Rattle.olap_bits.proofs.CatSetLemmas.{has_one, has_none}
use Rattle.olap_bits.proofs.sets.CatSet.has.Goals as goal

pub returns-then-place : goal.returns-then-place
returns-then-place g c = has_one _ c.args.n _ c.from-place.ensures

pub returns-else-place : goal.returns-else-place
returns-else-place g c =
    let within : length c.args.self.now.words ≤ c.args.n / 64 =
    search (rules, c.if-place.false, c.from-place.ensures) in
    le-ltb _ _ c.if-place.false ∙ has_none _ c.args.n within
