-- With one decision more it is a place of the schema.
use Rattle.std.proofs.Common.{subst, sym}
use Rattle.olap_proof.{proofs.TreeTextLemmas.place_edge, specs.Asking.names_in, specs.Trees.IsPlaceOf}
use Rattle.olap_proof.proofs.splitting.closes_at_once.Goals as goal

pub closing_line-requires : goal.closing_line-requires
closing_line-requires c =
    let a = c.args.asked.now in
    record {
      asked = c.requires.asked;
      place = subst (λ x. IsPlaceOf a.graph.now (names_in a) x) (sym c.decide.ensures)
          (place_edge a.graph.now (names_in a) c.args.case.now c.args.edge.0 c.args.present
          c.requires.place c.requires.open.0 c.requires.open.1);
    }
