-- A name is one of a category, or it isn't.
use Rattle.std.proofs.Common.{◌≡◌, ◌∷◌, ◌∙◌, [], ap, is_some, not, rules, sym}
use Rattle.olap_grammar.specs.Words.{pieces_behind}
use Rattle.olap_schema_text.{proofs.CategoryLemmas.{known_at, none_known, unknown_at}, specs.Known.graph_seen}
use Rattle.olap_schema_text.specs.Resolving.{categories_of}
use Rattle.olap_schema_text.proofs.resolving.are_known.Goals as goal

pub returns-then-is_none : goal.returns-then-is_none
returns-then-is_none c =
    let g = graph_seen c.args.known.now in
    let n = c.first_piece.result.0.now in
    let ns = pieces_behind 95 c.first_piece.result.1 in
    let here : pieces_behind 95 c.names.left ≡ n ∷ ns = search rules in
    sym (c.names.invariant ∙ ap (λ ps. is_some (categories_of g ps)) here
    ∙ unknown_at c.category.result g n ns c.category.ensures.place (c.is_none.ensures ∙ ap not c.if-is_none.true))

pub names-preserved : goal.names-preserved
names-preserved c =
    let g = graph_seen c.args.known.now in
    let n = c.first_piece.result.0.now in
    let ns = pieces_behind 95 c.first_piece.result.1 in
    let here : pieces_behind 95 c.names.left ≡ n ∷ ns = search rules in
    c.names.invariant ∙ ap (λ ps. is_some (categories_of g ps)) here
    ∙ known_at c.category.result g n ns c.category.ensures.place (c.is_none.ensures ∙ ap not c.if-is_none.false)

pub returns : goal.returns
returns c =
    let g = graph_seen c.args.known.now in
    let here : pieces_behind 95 c.names.left ≡ [] = search rules in
    sym (c.names.invariant ∙ ap (λ ps. is_some (categories_of g ps)) here ∙ none_known g)
