-- The graph and the constraints are the schema's.
use Rattle.olap_ast.specs.Trees.{formula_of}
use Rattle.olap_dimsat.proofs.asker.Asker.of.Goals as goal

pub returns : goal.returns
returns c = λ i. record {
  question = record {
    schema = record { graph = c.graph.ensures i; constraints = c.constraints.ensures.list i };
    formula = formula_of c.args.formula.now;
    root = c.args.root.0;
    candidates = c.args.candidates.now;
  };
  layout = c.args.layout.now;
}
