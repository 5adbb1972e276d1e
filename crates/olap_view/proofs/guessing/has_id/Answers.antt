-- Ids differ.
use Rattle.std.proofs.{Common.arith, lemmas.Slice.Eq.bytes_eq-Decides}
use Rattle.olap_view.proofs.GuessLemmas.{member-is}
use Rattle.olap_view.proofs.guessing.has_id.Goals as goal

pub returns : goal.returns
returns c = grind (arith, member-is, bytes_eq-Decides)
