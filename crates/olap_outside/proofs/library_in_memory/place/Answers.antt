use Rattle.std.proofs.{Common.{arith, sym, ◌∙◌}, lemmas.Bool.Decides.Decides-eqb, lemmas.Slice.Eq.slice_eq-Decides}
use Rattle.olap_outside.proofs.Places.{place_here}
use Rattle.olap_outside.proofs.library_in_memory.place.Goals as goal

pub returns-then-eq-clause-found : goal.returns-then-eq-clause-found
returns-then-eq-clause-found c =
    place_here _ _ _ _ (omega arith) c.index-files-i.is
    (sym c.bytes.ensures ∙ (slice_eq-Decides Decides-eqb _ _ _ c.eq.ensures).0 c.if-eq.true) c.loop-i.invariant
