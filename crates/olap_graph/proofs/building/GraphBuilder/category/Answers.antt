use Rattle.std.proofs.Common.{ap, ◌∙◌, sym}
use Rattle.olap_base.specs.Naming.{place_of}
use Rattle.olap_graph.proofs.{GrowthLemmas.built_length, PlaceLemmas.place_of-within}
use Rattle.olap_graph.proofs.building.GraphBuilder.category.Goals as goal

pub returns-clause-category : goal.returns-clause-category
returns-clause-category c =
    rw (sym (built_length c.self.invariant c.self.view_is)) (place_of-within c.self.inside.names.items c.args.name.now
    c.named.result (c.named.ensures ∙ ap (place_of c.args.name.now) c.deref.ensures.value))
