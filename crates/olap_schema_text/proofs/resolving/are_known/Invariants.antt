-- All names are known if those that are left are.
use Rattle.std.proofs.Common.{◌≡◌, is_some}
use Rattle.olap_base.proofs.PiecesLeft.{size_left}
use Rattle.olap_grammar.specs.Words.{pieces_behind, pieces_of}
use Rattle.olap_schema_text.specs.{Known.graph_seen, Resolving.categories_of}
use Rattle.olap_schema_text.proofs.resolving.are_known.Given as goal

abbrev pub invariant-names : goal.invariant-names
invariant-names l =
    is_some (categories_of (graph_seen l.known) (pieces_of 95 l.names))
    ≡ is_some (categories_of (graph_seen l.known) (pieces_behind 95 l.left))

abbrev pub decreases-names : goal.decreases-names
decreases-names l = size_left l.left
