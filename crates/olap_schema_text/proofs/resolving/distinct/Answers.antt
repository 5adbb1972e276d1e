-- A category more stands among those before it, or it doesn't.
use Rattle.std.proofs.Common.{◌≡◌, ◌∷◌, ◌∙◌, [], None, false, rules, true}
use Rattle.olap_graph.specs.Lookups.{category_named}
use Rattle.olap_grammar.specs.Words.{pieces_behind}
use Rattle.olap_schema_text.proofs.CategoryLemmas.{none_left, none_so_far, one_behind, one_more, one_unknown}
use Rattle.olap_schema_text.proofs.RepeatLemmas.{all_once, first_once, kept_once, numbers, stands_in, twice}
use Rattle.olap_schema_text.specs.Known.{graph_seen}
use Rattle.olap_schema_text.proofs.resolving.distinct.Goals as goal

pub names-init : goal.names-init
names-init c = record {
  so_far = none_so_far c.new-found.result.items _ c.new-found.ensures.items;
  once = first_once c.args.root.0 c.new-found.result.items c.new-found.ensures.items;
  there = search rules;
}

pub returns-in_err-c-clause-read : goal.returns-in_err-c-clause-read
returns-in_err-c-clause-read c = λ cs e.
    let n = c.first_piece.result.0.now in
    let ns = pieces_behind 95 c.first_piece.result.1 in
    let here : pieces_behind 95 c.names.left ≡ n ∷ ns = search rules in
    let none : category_named (graph_seen c.args.known.now) n ≡ None = c.in_err-c.ensures.none.0 in
    let nothing = one_unknown _ _ c.names.found.items c.names.left c.names.invariant.so_far n ns here none in
    absurd (cc)

pub returns-then-stands_before-clause-read : goal.returns-then-stands_before-clause-read
returns-then-stands_before-clause-read c = λ cs e.
    let n = c.first_piece.result.0.now in
    let ns = pieces_behind 95 c.first_piece.result.1 in
    let here : pieces_behind 95 c.names.left ≡ n ∷ ns = search rules in
    let there : stands_in (c.args.root.0 ∷ numbers c.names.found.items) c.in_ok-c.c.0 ≡ true = search rules in
    twice c.args.root.0 c.in_ok-c.c.0 c.names.found.items _ cs there
    (one_behind _ _ c.names.found.items c.names.left c.names.invariant.so_far n ns c.in_ok-c.c.0 here
    c.in_ok-c.ensures.named ∙ e)

pub names-preserved : goal.names-preserved
names-preserved c =
    let ns = pieces_behind 95 c.first_piece.result.1 in
    let here : pieces_behind 95 c.names.left ≡ c.first_piece.result.0.now ∷ ns = search rules in
    let apart : stands_in (c.args.root.0 ∷ numbers c.names.found.items) c.in_ok-c.c.0 ≡ false = search rules in
    record {
      so_far = one_more _ _ c.names.found.items c.names.left c.names.invariant.so_far _ ns c.in_ok-c.c _ here
          c.in_ok-c.ensures.named c.in_ok-push.ensures.items;
      once = kept_once c.args.root.0 c.in_ok-c.c c.names.found.items _ c.names.invariant.once apart
          c.in_ok-push.ensures.items;
      there = search rules;
    }

pub returns-clause-read : goal.returns-clause-read
returns-clause-read c = λ cs e.
    let here : pieces_behind 95 c.names.left ≡ [] = search rules in
    all_once c.args.root.0 c.names.found.items cs c.names.invariant.once
    (none_left _ _ c.names.found.items c.names.left c.names.invariant.so_far here ∙ e)
