-- The tables without the last edge.
use Rattle.std.proofs.Common.{◌∙◌, arith, rules}
use Rattle.olap_trail.proofs.DrawnLemmas.{drawn_pop, ends_within}
use Rattle.olap_trail.proofs.drawing.Drawn.pop.Goals as goal

pub index-requires : goal.index-requires
index-requires g c =
    let w = ends_within c.self.inside c.self.invariant c.pop.new.self c.in-Some.ends c.in-Some.ensures.items in
    omega (arith, w.0, c.from-child.ensures, c.self.inside.parents.ok)

pub without-requires : goal.without-requires
without-requires g c =
    let w = ends_within c.self.inside c.self.invariant c.pop.new.self c.in-Some.ends c.in-Some.ensures.items in
    (search (rules, width), omega (arith, w.1, c.self.invariant.wide))
  where
    open c use {self.invariant.width}

pub index_mut-requires : goal.index_mut-requires
index_mut-requires g c =
    let w = ends_within c.self.inside c.self.invariant c.pop.new.self c.in-Some.ends c.in-Some.ensures.items in
    omega (arith, w.0, c.from-child.ensures, c.self.inside.parents.ok)

pub invariant_of-self : goal.invariant_of-self
invariant_of-self g c =
    drawn_pop c.self.inside c.self.invariant c.pop.new.self c.in-Some.ends c.in-Some.ensures.items c.from-child.result
    c.len.result c.index.result.now c.without.result c.in-Some.ensures.capacity c.from-child.ensures
    (c.len.ensures ∙ c.self.inside.parents.ok.0) c.index.ensures c.without.ensures
