-- The place is one of the schema, whose root is kept.
use Rattle.std.proofs.Common.{subst, sym}
use Rattle.olap_proof.{proofs.TreeTextLemmas.place_within, specs.Asking.names_in, specs.Trees.IsPlaceOf}
use Rattle.olap_proof.proofs.cases.Case.closing_line.Goals as goal

pub invariant_of-known : goal.invariant_of-known
invariant_of-known c =
    let a = c.args.asked.now in
    let here = subst (λ x. IsPlaceOf a.graph.now (names_in a) x) (sym c.self.view_is) c.requires.place in
    record {
      root_is = c.self.invariant;
      within = place_within a.graph.now a.candidates.now c.self.inside.place c.requires.asked.named here;
      all_known = c.known_at.ensures;
    }
