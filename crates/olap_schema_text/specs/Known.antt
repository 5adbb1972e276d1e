-- The graph that names are looked up in.
use Rattle.olap_base.specs.Graph.{Graph}
use Rattle.olap_schema_text.specs.declared.knowing.Known.{Known}
use Rattle.olap_schema_text.specs.declared.knowing.Known.TheVariants as known

-- the graph that is known, whole or still growing
abbrev pub graph_seen : Known → Graph
graph_seen (known.Growing builder) = builder.now
graph_seen (known.Whole graph) = graph.now
