-- The printed text reads back.
use Rattle.std.proofs.Common.{◌∙◌, ap}
use Rattle.olap_records.specs.Records.{records_of}
use Rattle.olap_cube_views.{proofs.CubePrintingLemmas.cube_view_reads, specs.Dimensions.instances_of}
use Rattle.olap_cube_views.specs.Seen.{cube_view_of}
use Rattle.olap_cube_views.proofs.printing.text.Goals as goal

pub returns-clause-reads : goal.returns-clause-reads
returns-clause-reads c =
    ap records_of (c.from_vec.ensures ∙ c.in_ok-print.ensures)
    ∙ cube_view_reads (instances_of c.args.instances.now) (cube_view_of c.args.view.now)
