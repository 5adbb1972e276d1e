-- One place more.
use Rattle.std.proofs.Common.{inl, inr, arith}
use Rattle.olap_frozen.specs.Leaves.{chosen_of}
use Rattle.olap_dimsat.specs.Asking.{task_of}
use Rattle.olap_base.proofs.GeneralLemmas.{below_or_same}
use Rattle.olap_dimsat.proofs.settling.first_unsettled.Goals as goal

pub is_settled-requires-clause-place : goal.is_settled-requires-clause-place
is_settled-requires-clause-place c = (c.places-in-places.ensures c.places.p).0 c.places-test.true

pub places-init : goal.places-init
places-init c = λ q h l. absurd (omega arith)

pub places-preserved : goal.places-preserved
places-preserved c = λ q h l.
    let t = task_of c.args.a.now in
    let w = chosen_of c.args.best.now.edges c.args.best.now.names in
    elim (below_or_same q c.places.p l) [
      | inl b ↦ c.places.invariant q h b
      | inr e ↦ rw e (c.is_settled.ensures c.if-is_settled.true)
    ]

pub returns-else-is_settled : goal.returns-else-is_settled
returns-else-is_settled c = c.places.invariant

pub returns-after-places : goal.returns-after-places
returns-after-places c = c.places.invariant
