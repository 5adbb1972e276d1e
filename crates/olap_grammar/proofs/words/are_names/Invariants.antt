-- The parts so far are names.
use Rattle.std.{proofs.Common.◌≡◌, specs.List.list_all}
use Rattle.olap_base.{proofs.PiecesLeft.size_left, specs.Reaching.is_category_name}
use Rattle.olap_grammar.specs.Words.{pieces_behind, pieces_of}
use Rattle.olap_grammar.proofs.words.are_names.Given as goal

abbrev pub invariant-parts : goal.invariant-parts
invariant-parts l =
    list_all is_category_name (pieces_of l.mark l.word) ≡ list_all is_category_name (pieces_behind l.mark l.left)

abbrev pub decreases-parts : goal.decreases-parts
decreases-parts l = size_left l.left
