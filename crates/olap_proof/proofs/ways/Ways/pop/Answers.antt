-- One decision less.
use Rattle.std.proofs.Common.{ap, arith, length}
use Rattle.olap_proof.proofs.KeptWayLemmas.{tables_last, tables_written}
use Rattle.olap_proof.proofs.ways.Ways.pop.Goals as goal

pub take_out-requires : goal.take_out-requires
take_out-requires c =
    let t = tables_last c.self.invariant c.in-Some.ensures.items in
    record { c = omega (arith, t.child, ap length c.deref_mut.ensures.value); d = t.parent }

pub take_out-requires-in-Some : goal.take_out-requires-in-Some
take_out-requires-in-Some c =
    let t = tables_last c.self.invariant c.in-Some.ensures.items in
    record { c = omega (arith, t.child_absent, ap length c.deref_mut-in-Some.ensures.value); d = t.parent }

pub invariant_of-self : goal.invariant_of-self
invariant_of-self c =
    tables_written c.take_out.new.rows c.take_out-in-Some.new.rows _ _ c.self.invariant c.in-Some.ensures.items
    c.deref_mut.ensures.value c.deref_mut-in-Some.ensures.value c.deref_mut.ensures.len c.deref_mut-in-Some.ensures.len
    c.take_out.ensures.count c.take_out-in-Some.ensures.count c.take_out.ensures.out c.take_out-in-Some.ensures.out
