-- Names differ.
use Rattle.std.proofs.{Common.arith, lemmas.Slice.Eq.bytes_eq-Decides}
use Rattle.olap_view.proofs.GuessLemmas.{category-is}
use Rattle.olap_view.proofs.guessing.is_named.Goals as goal

pub returns : goal.returns
returns c = grind (arith, category-is, bytes_eq-Decides)
