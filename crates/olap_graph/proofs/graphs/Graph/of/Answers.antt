use Rattle.std.proofs.Common.{◌∙◌, sym}
use Rattle.olap_graph.proofs.GrowthLemmas.{headed_length}
use Rattle.olap_graph.proofs.TableLemmas.{lies_within, first_without_way, all_reach, hierarchy}
use Rattle.olap_graph.specs.Listing.{graph_of}
use Rattle.olap_graph.proofs.graphs.Graph.of.Goals as goal

pub of-requires-clause-within : goal.of-requires-clause-within
of-requires-clause-within c =
    let size = c.len.ensures ∙ c.args.names.ok.0 ∙ headed_length names kinds ends c.requires.headed in
    rw c.deref.ensures.value (lies_within names kinds ends c.len.result size c.requires.unfinished.categories)
  where
    open c use {args.names.items as names, args.edges.items as ends, args.numbers.items as kinds}

pub returns-in-Some-clause-err : goal.returns-in-Some-clause-err
returns-in-Some-clause-err c =
    let size = c.len.ensures ∙ c.args.names.ok.0 ∙ headed_length names kinds ends c.requires.headed in
    let tables = rw c.deref.ensures.value at c.in_ok-tables.ensures in
    first_without_way names kinds ends c.len.result c.in_ok-tables.tables.reached.items c.in-Some.category
    tables.reached size (rw c.deref-2.ensures.value at c.in-Some.ensures.some)
  where
    open c use {args.names.items as names, args.edges.items as ends, args.numbers.items as kinds}

pub returns-clause-way : goal.returns-clause-way
returns-clause-way c =
    let size = c.len.ensures ∙ c.args.names.ok.0 ∙ headed_length names kinds ends c.requires.headed in
    let tables = rw c.deref.ensures.value at c.in_ok-tables.ensures in
    all_reach names kinds ends c.len.result c.in_ok-tables.tables.reached.items tables.reached size
    (rw c.deref-2.ensures.value at c.in_default.ensures.none)
  where
    open c use {args.names.items as names, args.edges.items as ends, args.numbers.items as kinds}

pub invariant_of-result : goal.invariant_of-result
invariant_of-result c =
    let h = headed_length c.args.names.items c.args.numbers.items c.args.edges.items c.requires.headed in
    let tables = rw c.deref.ensures.value at c.in_ok-tables.ensures in
    record {
      headed = c.requires.headed;
      limits = c.requires.limits;
      hierarchy =
          hierarchy (graph_of c.args.names.items c.args.numbers.items c.args.edges.items) c.requires.unfinished
          (returns-clause-way c);
      tables = rw (sym (c.len.ensures ∙ c.args.names.ok.0)) tables;
    }
