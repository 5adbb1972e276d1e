-- The constraints are the schema's, and the formula `true` has no constants.
use Rattle.std.proofs.Common.{◌≡◌, map, refl, subst, sym}
use Rattle.olap_ast.{proofs.SourceLemmas.no_more_constants, specs.Formula.Formula.Truth, specs.Schema.Schema}
use Rattle.olap_ast.specs.{Trees.constraint_of, Valid.IsValidSchema}
use Rattle.olap_names.{proofs.NameableLemmas.can_be_named, specs.Names.with_graph}
use Rattle.olap_schema.specs.Schemas.{schema_of}
use Rattle.olap_draft.proofs.drafting.draft.Goals as goal

pub of-requires : goal.of-requires
of-requires c =
    let g = c.graph-graph.result.now in
    let cs = map constraint_of c.constraints-constraints.result.now in
    let same : with_graph g cs ≡ schema_of c.args.schema.now =
    λ i. with_graph (c.graph-graph.ensures i) (c.constraints-constraints.ensures.list i) in
    let valid = subst (λ (x : Schema). IsValidSchema x) (sym same) c.constraints-constraints.ensures.valid in
    can_be_named g cs 0 Truth valid.formulas tt (no_more_constants (with_graph g cs) Truth valid refl refl)
