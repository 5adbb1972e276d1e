-- The trees of the bottom categories so far are written.
use Rattle.std.proofs.Common.{◌-◌, map}
use Rattle.olap_proof.{proofs.BottomLemmas.first_bottoms, specs.Asking.{names_in, question_in, schema_in}}
use Rattle.olap_proof.specs.{Certificates.Open.Bottom, Trees.Adds}
use Rattle.olap_proof.proofs.plain.push_all.Given as goal

abbrev pub invariant-categories : goal.invariant-categories
invariant-categories l = Adds l.form (schema_in l.asked) (question_in l.asked) (names_in l.asked)
    (map Bottom (first_bottoms l.asked.graph.now (l.b - 1))) l.initial.out.items l.out.items
