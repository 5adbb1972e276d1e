use Rattle.std.proofs.{Common.ap, lemmas.Int.to_z-of_z}
use Rattle.olap_schema_text.proofs.PairLemmas.{found_number, new_number, number_atom}
use Rattle.olap_schema_text.proofs.pairing.add_number.Goals as goal
use mir.Syntax.{w64}
use mir.Val.{of_z, to_z}

pub returns-then-has_number : goal.returns-then-has_number
returns-then-has_number c =
    found_number _ _ _ _ _ _ c.deref.ensures.value (to_z-of_z w64 c.args.n c.ranges.n) c.has_number.ensures
    c.if-has_number.true

pub returns : goal.returns
returns c =
    let same = to_z-of_z w64 c.args.n c.ranges.n in
    new_number _ _ _ _ _ _ _ (record { category = c.args.d; number = to_z w64 (of_z w64 c.args.n) })
    c.deref.ensures.value same c.has_number.ensures c.if-has_number.false (ap (number_atom c.args.d.0) same)
    c.in_ok-push.ensures.items
