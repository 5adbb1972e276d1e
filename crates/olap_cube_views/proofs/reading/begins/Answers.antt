-- Whether the first record is the header.
use Rattle.olap_cube_views.{proofs.CubeReadingLemmas.header_is, specs.CubeFactText.header}
use Rattle.olap_cube_views.proofs.reading.begins.Goals as goal

pub returns-then-found-clause-header : goal.returns-then-found-clause-header
returns-then-found-clause-header c =
    let e = rw c.if-found.true at c.in_ok-found.ensures in
    rw e (header_is c.advance.new.self.row (header c.args.dimensions) c.is_header.result c.is_header.ensures)
