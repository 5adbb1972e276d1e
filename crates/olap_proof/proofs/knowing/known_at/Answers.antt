-- Decisions and ways lie in the graph, and their ends are all that is known.
use Rattle.std.{proofs.Common.{◌<◌, ℕ, ◌↔◌, ◌∙◌, length, ap, subst, sym}, specs.FinSet.{empty, insert}}
use Rattle.olap_base.specs.Graph.{Graph}
use Rattle.olap_bits.specs.Sets.{members}
use Rattle.olap_proof.{proofs.SeenLemmas.decisions_within, proofs.TouchingLemmas.known_is, specs.KeptWays.leading_way}
use Rattle.olap_proof.specs.{Seen.{TouchedByDecisions, decision_at}, Walking.IsIn}
use Rattle.olap_proof.proofs.knowing.known_at.Goals as goal

pub touch_decisions-requires : goal.touch_decisions-requires
touch_decisions-requires c = λ k l.
    let ds = c.decisions-decisions.result.now in
    subst (λ (g : Graph). (decision_at ds k).edge.0 < length g.edges) c.requires.graph
    (decisions_within c.args.place.now.decided ds c.decisions-decisions.ensures.decisions
    c.decisions-decisions.ensures.list k l)

pub returns : goal.returns
returns c =
    let first = members c.with-known.result in
    let mid = members c.touch_decisions.new.set in
    known_is p ds c.categories-count.result (sym c.decisions-decisions.ensures.list)
    (λ a b h. subst (λ n. a < n) (sym c.categories-count.ensures.count) (c.requires.ways (leading_way a b) h).0)
    first mid (members c.touch_ways.new.set)
    (c.with-known.ensures ∙ ap (λ s. insert s c.args.root.0) c.empty.ensures ∙ ap (insert empty) (sym c.requires.root))
    (subst (λ (g : Graph). (x : ℕ) → IsIn mid x ↔ TouchedByDecisions first g ds (length ds) x) (sym c.requires.graph)
    c.touch_decisions.ensures)
    c.touch_ways.ensures
  where
    open c use {args.place.now as p, decisions-decisions.result.now as ds}
