-- The last decision is taken back.
use Rattle.std.proofs.Common.{refl, arith}
use Rattle.olap_trail.proofs.TrailLemmas.{drawn_less, drawn_still, last_inside, trail_pop}
use Rattle.olap_trail.proofs.trails.Trail.take_back.Goals as goal

pub index_mut-requires : goal.index_mut-requires
index_mut-requires g c =
    let l = last_inside c.self.invariant c.pop.new.self c.in-Some.last c.in-Some.ensures.items in
    omega (arith, l, c.from.ensures, c.self.invariant.size, c.self.inside.statuses.ok)

pub invariant_of-self : goal.invariant_of-self
invariant_of-self g c =
    let l = c.in-Some.last in
    let split = c.in-Some.ensures.items in
    trail_pop c.self.invariant c.pop.new.self l split _ c.pop-then-last.new.self c.from.result
    c.in-Some.ensures.capacity c.from.ensures refl c.pop-then-last.ensures
    (drawn_less c.self.invariant c.pop.new.self l split c.if-last.true)

pub invariant_of-self-else-last : goal.invariant_of-self-else-last
invariant_of-self-else-last g c =
    let l = c.in-Some.last in
    let split = c.in-Some.ensures.items in
    trail_pop c.self.invariant c.pop.new.self l split _ c.self.inside.drawn c.from.result c.in-Some.ensures.capacity
    c.from.ensures refl refl (drawn_still c.self.invariant c.pop.new.self l split c.if-last.false)
