use Rattle.std.proofs.Common.{false, true, refl, sym, ap, ◌∙◌}
use Rattle.olap_base.{proofs.RefusingLemmas.for_memory, specs.Limits.most_edges}
use Rattle.olap_graph.proofs.GrowthLemmas.{built_edge, built_edges, built_ends, nothing}
use Rattle.olap_graph.proofs.RefusalLemmas.{at_refusal, edge_reason_is, found, has_room, is_full, no_value}
use Rattle.olap_graph.specs.Listing.{graph_of}
use Rattle.olap_graph.proofs.building.GraphBuilder.add_edge.Goals as goal

pub invariant_of-self-2 : goal.invariant_of-self-2
invariant_of-self-2 c =
    let count = built_edges c.self.invariant c.self.view_is (c.len.ensures ∙ c.self.inside.edges.ok.0) in
    built_ends c.self.invariant c.self.view_is (record { child = c.args.child; parent = c.args.parent })
    c.push.new.self c.in_ok-push.ensures.items (rw (sym count) c.if-len-ge-MOST_EDGES.false) c.requires.child
    c.requires.parent c.if-eq.ensures c.if-eq-2.ensures
    (nothing (λ e. e.0) c.edge.result _ c.edge.ensures.place (sym c.is_some.ensures ∙ c.if-is_some.false))

pub returns-then-eq : goal.returns-then-eq
returns-then-eq c = record {
  ok = tt;
  number = tt;
  added = tt;
  err = edge_reason_is c.args.self.now c.args.child.0 c.args.parent.0 true _ _ _ c.if-eq.ensures refl refl refl;
  same = refl;
}

pub returns-then-eq-2 : goal.returns-then-eq-2
returns-then-eq-2 c = record {
  ok = tt;
  number = tt;
  added = tt;
  err = edge_reason_is c.args.self.now c.args.child.0 c.args.parent.0 false true _ _ c.if-eq.ensures
      c.if-eq-2.ensures refl refl;
  same = refl;
}

pub returns-then-is_some : goal.returns-then-is_some
returns-then-is_some c =
    let taken = found (λ e. e.0) c.edge.result c.edge.ensures.place c.if-is_some.ensures in
    record {
      ok = tt;
      number = tt;
      added = tt;
      err = edge_reason_is c.args.self.now c.args.child.0 c.args.parent.0 false false true _ c.if-eq.ensures
          c.if-eq-2.ensures taken refl;
      same = refl;
    }

pub returns-then-len-ge-MOST_EDGES : goal.returns-then-len-ge-MOST_EDGES
returns-then-len-ge-MOST_EDGES c =
    let taken = found (λ e. e.0) c.edge.result c.edge.ensures.place c.if-is_some.ensures in
    let count = built_edges c.self.invariant c.self.view_is (c.len.ensures ∙ c.self.inside.edges.ok.0) in
    record {
      ok = tt;
      number = tt;
      added = tt;
      err = edge_reason_is c.args.self.now c.args.child.0 c.args.parent.0 false false false true c.if-eq.ensures
          c.if-eq-2.ensures taken (is_full most_edges c.len.result _ c.if-len-ge-MOST_EDGES.true count);
      same = refl;
    }

pub returns-in_err-push : goal.returns-in_err-push
returns-in_err-push c =
    record {
      ok = no_value r _ refused.0;
      number = no_value r _ refused.0;
      added = no_value r _ refused.0;
      err = for_memory r _ refused.1;
      same = at_refusal r
          (ap (graph_of a.names.items a.numbers.items) c.in_err-push.ensures.items ∙ c.self.view_is);
    }
  where
    open c use {self.inside as a, from_residual.result as r, from_residual.ensures as refused}

pub returns : goal.returns
returns c =
    let taken = found (λ e. e.0) c.edge.result c.edge.ensures.place c.if-is_some.ensures in
    let count = built_edges c.self.invariant c.self.view_is (c.len.ensures ∙ c.self.inside.edges.ok.0) in
    record {
      ok = edge_reason_is c.args.self.now c.args.child.0 c.args.parent.0 false false false false c.if-eq.ensures
          c.if-eq-2.ensures taken (has_room most_edges c.len.result _ c.if-len-ge-MOST_EDGES.false count);
      number = c.len-2.ensures ∙ sym c.len.ensures ∙ count;
      added = built_edge c.self.invariant c.self.view_is (record { child = c.args.child; parent = c.args.parent })
          c.in_ok-push.ensures.items;
      err = tt;
      same = tt;
    }
