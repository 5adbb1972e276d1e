-- What is left to decide gets less. The trees of the names so far are written.
use Rattle.std.{proofs.Common.{◌≡◌, map}, specs.List.range_with_len}
use Rattle.olap_proof.{proofs.TreeTextLemmas.left, specs.Asking.{names_in, question_in, schema_in}}
use Rattle.olap_proof.specs.{Certificates.{Open.At, with_name}, Trees.Adds}
use Rattle.olap_proof.proofs.growing.+grow.Given as goal

abbrev pub decreases-grow : goal.decreases-grow
decreases-grow l = left l.case.now

abbrev pub invariant-names : goal.invariant-names
invariant-names l = record {
  same : l.case ≡ l.initial.case;
  written : Adds l.form (schema_in l.asked) (question_in l.asked) (names_in l.asked)
      (map (λ i. At (with_name l.initial.case l.c.0 i)) (range_with_len 0 l.index))
      l.initial.out.items l.out.items;
}
