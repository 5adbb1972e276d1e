use Rattle.std.proofs.Common.{subst, sym}
use Rattle.olap_proof.specs.{Places.Place, Seen.AreOfGraph}
use Rattle.olap_proof.proofs.places.Place.tabulate.Goals as goal

pub fill_leading-requires-clause-ways : goal.fill_leading-requires-clause-ways
fill_leading-requires-clause-ways c =
    subst (λ (p : Place). AreOfGraph c.args.graph.now p.ways) (sym c.self.view_is) c.requires.ways
