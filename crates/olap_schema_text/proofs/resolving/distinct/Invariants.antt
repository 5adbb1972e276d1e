-- The names so far are those of these categories, of which none comes twice.
use Rattle.std.{proofs.Common.{◌≡◌, ◌++◌, ◌∷◌, false, map}, specs.Option.option_map, specs.Prelude.All}
use Rattle.olap_base.{proofs.PiecesLeft.size_left, specs.Graph.IsCategory}
use Rattle.olap_grammar.specs.Words.{pieces_behind, pieces_of}
use Rattle.olap_schema_text.specs.{Known.graph_seen, Resolving.{categories_of, is_repeated}}
use Rattle.olap_schema_text.proofs.resolving.distinct.Given as goal

abbrev pub invariant-names : goal.invariant-names
invariant-names l = record {
  so_far :
      categories_of (graph_seen l.known) (pieces_of 95 l.names)
      ≡ option_map (λ cs. map (λ c. c.0) l.found.items ++ cs)
      (categories_of (graph_seen l.known) (pieces_behind 95 l.left));
  once : is_repeated (l.root.0 ∷ map (λ c. c.0) l.found.items) ≡ false;
  there : All (λ c. IsCategory (graph_seen l.known) c.0) l.found.items;
}

abbrev pub decreases-names : goal.decreases-names
decreases-names l = size_left l.left
