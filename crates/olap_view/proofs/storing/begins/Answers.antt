-- Whether the first record is the header.
use Rattle.olap_view.proofs.StoreTextLemmas.{header-is}
use Rattle.olap_view.proofs.storing.begins.Goals as goal

pub returns-then-found-clause-header : goal.returns-then-found-clause-header
returns-then-found-clause-header c =
    let e = rw c.if-found.true at c.in_ok-found.ensures in
    rw e (header-is c.advance.new.self.row c.advance.new.self.left c.is_row.result c.is_row.ensures)
