-- Round by round the set takes in what its edges lead to.
use Rattle.std.{proofs.Common.{◌+◌, ◌<◌, ◌∙◌, cond, length, ap, subst, sym}, specs.FinSet.insert}
use Rattle.olap_base.specs.Graph.{Graph, category_count}
use Rattle.olap_bits.specs.Sets.{members}
use Rattle.olap_proof.proofs.SeenLemmas.{possible_seen}
use Rattle.olap_proof.proofs.WalkingLemmas.{IsOnWay, fewer_missing, missing, walk_done, way_begins, way_goes_on}
use Rattle.olap_proof.specs.{Places.possible_graph, Seen.SeenPossible}
use Rattle.olap_proof.proofs.walking.possible_from.Goals as goal

pub rounds-init : goal.rounds-init
rounds-init c = way_begins (possible_graph c.args.place.now.decided) c.args.from.0 (members c.with-reached.result)
    (c.with-reached.ensures ∙ ap (λ s. insert s c.args.from.0) c.empty.ensures)

pub rounds-preserved : goal.rounds-preserved
rounds-preserved c =
    let t = c.args.place.now.decided in
    let n = length c.args.graph.now.edges in
    let old = members c.rounds.reached in
    way_goes_on (possible_graph t) (category_count c.args.graph.now) (SeenPossible t n) c.args.from.0 old
    (members c.grow_by_possible-grows.new.set) c.grow_by_possible-grows.result
    (subst (λ b. IsOnWay (possible_graph t) c.args.from.0 old b) c.rounds-test.true c.rounds.invariant)
    c.grow_by_possible-grows.ensures
    (λ x y e. subst (λ (g : Graph). SeenPossible t (length g.edges) x y) c.requires.graph (possible_seen t x y e))

pub rounds-smaller : goal.rounds-smaller
rounds-smaller c =
    let t = c.args.place.now.decided in
    let n = category_count c.args.graph.now in
    subst (λ b. missing (members c.grow_by_possible-grows.new.set) n + cond c.grow_by_possible-grows.result 1 0
    < missing (members c.rounds.reached) n + cond b 1 0) (sym c.rounds-test.true)
    (fewer_missing (possible_graph t) n (SeenPossible t (length c.args.graph.now.edges)) (members c.rounds.reached)
    (members c.grow_by_possible-grows.new.set) c.grow_by_possible-grows.result c.grow_by_possible-grows.ensures)

pub returns : goal.returns
returns c = walk_done (possible_graph c.args.place.now.decided) c.args.from.0 (members c.rounds.reached) c.rounds.grows
    c.rounds-test.false c.rounds.invariant
