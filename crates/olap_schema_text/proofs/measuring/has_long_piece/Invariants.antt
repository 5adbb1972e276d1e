-- The names so far are short.
use Rattle.std.{proofs.Common.◌≡◌, specs.List.list_any}
use Rattle.olap_base.proofs.PiecesLeft.{size_left}
use Rattle.olap_grammar.specs.Words.{pieces_behind, pieces_of}
use Rattle.olap_schema_text.specs.Tokens.{is_long_name}
use Rattle.olap_schema_text.proofs.measuring.has_long_piece.Given as goal

abbrev pub invariant-names : goal.invariant-names
invariant-names l =
    list_any is_long_name (pieces_of l.mark l.word) ≡ list_any is_long_name (pieces_behind l.mark l.left)

abbrev pub decreases-names : goal.decreases-names
decreases-names l = size_left l.left
