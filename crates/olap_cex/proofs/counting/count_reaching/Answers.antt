-- A way in the rows is one in the instance.
use Rattle.std.proofs.Common.{map, subst}
use Rattle.olap_ast.specs.Frozen.{chosen}
use Rattle.olap_base.specs.{Graph.IsCategory, Instance.ReachesVia}
use Rattle.olap_frozen.specs.Rows.{AreRows}
use Rattle.olap_cex.{proofs.CountLemmas.{among, holds_swap, way_is}, specs.CexFor.IsWay}
use Rattle.olap_cex.specs.FoundFor.{found_instance, found_place}
use Rattle.olap_cex.proofs.counting.count_reaching.Goals as goal

pub returns-clause-count : goal.returns-clause-count
returns-clause-count c =
    let drawn = subst (λ bits. AreRows g (chosen g.edges bits) rows) c.items.ensures c.close.ensures.rows in
    holds_swap (IsWay rows f.frozen.root.0 c.args.target.0)
    (λ s. ReachesVia (found_instance g f) (found_place g f) s c.args.target.0)
    (map (λ s. s.0) c.args.sources.now) c.count_ways.result
    (λ s k. way_is g f c.requires.found.root c.close.ensures.hierarchy rows drawn c.args.target.0 s
    (among (IsCategory g) c.args.sources.now c.requires.sources s k))
    c.count_ways.ensures
  where
    open c use {args.graph.now as g, args.found.now as f, close.new.rows}
