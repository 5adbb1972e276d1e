use Rattle.std.proofs.Common.{◌++◌, List, ℕ, arith, ap, sym, ◌∙◌}
use Rattle.olap_base.specs.Graph.{Edge}
use Rattle.olap_schema_text.{proofs.PrintLemmas.{next_line, no_more}, specs.Printing.{edge_text, ended_line}}
use Rattle.olap_schema_text.proofs.printing.push_edges.Goals as goal

pub edges-preserved : goal.edges-preserved
edges-preserved c =
    let g = c.args.graph.now in
    let write : Edge → List ℕ = λ e. c.edges.out.items ++ ended_line (edge_text g e) in
    let written = c.in_ok-push_edge.ensures ∙ ap write (sym c.ends.ensures.edge) in
    record {
      written =
          next_line (edge_text g) g.edges c.edges.done _ _ _ _
          (omega (arith, c.edges-test.true)) c.edges.invariant.written written;
      within = omega (arith, c.edges-test.true);
    }

pub returns : goal.returns
returns c =
    no_more (edge_text c.args.graph.now) c.args.graph.now.edges c.edges.done _ _
    (omega (arith, c.edges-test.false)) c.edges.invariant.written
