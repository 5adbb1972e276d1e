use Rattle.std.{proofs.Common.{ap, map, subst, sym, ◌∙◌, ◌<◌, length}, specs.Prelude.remove}
use Rattle.olap_ast.specs.Trees.{constraint_of}
use Rattle.olap_schema.{proofs.WithoutLemmas.same_readable, specs.Schemas.schema_of}
use Rattle.olap_schema.specs.declared.schemas.Schema.{Schema}
use Rattle.olap_schema.proofs.schemas.Schema.without.Goals as goal

pub invariant_of-result : goal.invariant_of-result
invariant_of-result c =
    let k = c.args.index in
    same_readable c.self.inside.graph c.in_ok-graph.graph (map constraint_of c.self.inside.constraints)
    (map constraint_of c.from_vec.result) k c.self.invariant c.in_ok-graph.ensures
    (ap (map constraint_of) c.from_vec.ensures ∙ c.in_ok-constraints.ensures
    ∙ ap (λ l. remove (map constraint_of l) k) c.items.ensures)
    (subst (λ (s : Schema). k < length (schema_of s).constraints) (sym c.self.view_is) c.requires)
