-- The parts so far stand after the earlier ones, in front of those of what is left.
use Rattle.std.proofs.Common.{◌≡◌, ◌++◌}
use Rattle.olap_grammar.specs.Words.{pieces_behind, pieces_of}
use Rattle.olap_base.proofs.PiecesLeft.{size_left}
use Rattle.olap_grammar.proofs.words.push_pieces.Given as goal

abbrev pub invariant-parts : goal.invariant-parts
invariant-parts l =
    l.texts.items ++ pieces_behind l.mark l.left ≡ l.initial.texts.items ++ pieces_of l.fn.mark l.fn.word

abbrev pub decreases-parts : goal.decreases-parts
decreases-parts l = size_left l.left
