-- The schema's constants are text, so the instance may be printed.
use Rattle.std.proofs.Common.{ap, ◌∙◌}
use Rattle.olap_base.specs.Graph.{Graph}
use Rattle.olap_cex.specs.FoundFor.{found_instance}
use Rattle.olap_instance.specs.Printing.{text_of_instance}
use Rattle.olap_schema.specs.Schemas.{schema_of}
use Rattle.olap_cube_summ.proofs.PlaceLemmas.{found_for}
use Rattle.olap_cube_summ.proofs.telling.instance_lines.Goals as goal

pub thaw-requires : goal.thaw-requires
thaw-requires c = record {
  found = rw c.graph-graph.ensures
      (found_for (schema_of c.args.schema.now) c.args.found.now c.requires c.constraints-constraints.ensures.texts);
}

pub returns : goal.returns
returns c =
    c.in_ok-text.ensures.text ∙ ap (text_of_instance c.graph-graph.result.now) c.in_ok-instance.ensures.instance
    ∙ ap (λ (g : Graph). text_of_instance g (found_instance g c.args.found.now)) c.graph-graph.ensures
