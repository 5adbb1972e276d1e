-- Round by round the set takes in what its edges and ways lead to.
use Rattle.std.{proofs.Common.{◌+◌, ◌<◌, ◌∙◌, cond, ap, subst, sym}, specs.FinSet.insert}
use Rattle.olap_base.specs.Graph.{HasEdge, category_count}
use Rattle.olap_bits.specs.Sets.{members}
use Rattle.olap_proof.proofs.WalkingLemmas.{IsOnWay, fewer_missing, missing, walk_done, way_begins, way_goes_on}
use Rattle.olap_proof.specs.Places.{leading_graph}
use Rattle.olap_proof.proofs.walking.known_from.Goals as goal

pub rounds-init : goal.rounds-init
rounds-init c = way_begins (leading_graph c.args.place.now) c.args.from.0 (members c.with-reached.result)
    (c.with-reached.ensures ∙ ap (λ s. insert s c.args.from.0) c.empty.ensures)

pub rounds-preserved : goal.rounds-preserved
rounds-preserved c =
    let g = leading_graph c.args.place.now in
    let old = members c.rounds.reached in
    way_goes_on g (category_count c.args.graph.now) (HasEdge g) c.args.from.0 old
    (members c.grow_by_known-grows.new.set) c.grow_by_known-grows.result
    (subst (λ b. IsOnWay g c.args.from.0 old b) c.rounds-test.true c.rounds.invariant)
    c.grow_by_known-grows.ensures (λ x y e. e)

pub rounds-smaller : goal.rounds-smaller
rounds-smaller c =
    let g = leading_graph c.args.place.now in
    let n = category_count c.args.graph.now in
    subst (λ b. missing (members c.grow_by_known-grows.new.set) n + cond c.grow_by_known-grows.result 1 0
    < missing (members c.rounds.reached) n + cond b 1 0) (sym c.rounds-test.true)
    (fewer_missing g n (HasEdge g) (members c.rounds.reached) (members c.grow_by_known-grows.new.set)
    c.grow_by_known-grows.result c.grow_by_known-grows.ensures)

pub returns : goal.returns
returns c = walk_done (leading_graph c.args.place.now) c.args.from.0 (members c.rounds.reached) c.rounds.grows
    c.rounds-test.false c.rounds.invariant
