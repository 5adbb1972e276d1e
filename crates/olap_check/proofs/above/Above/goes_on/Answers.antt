-- Ways by the row.
use Rattle.std.{proofs.Common.{◌↔◌, subst, sym}, specs.Prelude.IsTrue}
use Rattle.olap_check.{proofs.AboveLemmas.via_by_row, proofs.WayLemmas.edge_by_row, specs.Seen.GoesOn}
use Rattle.olap_base.proofs.GeneralLemmas.{iff_trans}
use Rattle.olap_check.proofs.above.Above.goes_on.Goals as goal

pub returns-in-Reaches : goal.returns-in-Reaches
returns-in-Reaches c =
    let s = c.args.self.now in
    subst (λ l. IsTrue c.reaches.result ↔ GoesOn s.instance.now l c.args.c.0 c.args.d.0 s.x) (sym c.in-Reaches.is)
    (iff_trans c.reaches.ensures
    (via_by_row s.instance.now s.categories s.x s.table.now s.sound c.args.c.0 c.args.d.0))

pub returns-in-Steps : goal.returns-in-Steps
returns-in-Steps c =
    let s = c.args.self.now in
    subst (λ l. IsTrue c.has_edge.result ↔ GoesOn s.instance.now l c.args.c.0 c.args.d.0 s.x) (sym c.in-Steps.is)
    (iff_trans c.has_edge.ensures
    (edge_by_row s.instance.now s.categories s.x s.table.now s.sound c.args.c.0 c.args.d.0))
