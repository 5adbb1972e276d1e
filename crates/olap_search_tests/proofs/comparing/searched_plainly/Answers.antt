use Rattle.std.proofs.Common.{map, subst, sym}
use Rattle.olap_ast.specs.{Schema.Schema, Trees.{constraint_of, formula_of}, Valid.{IsQuestion, IsValidSchema}}
use Rattle.olap_schema.specs.Schemas.{schema_of}
use Rattle.olap_names.proofs.{NameableLemmas.valid_named, WholeLemmas.whole_is}
use Rattle.olap_search_tests.proofs.comparing.searched_plainly.Goals as goal

pub new-requires-clause-named : goal.new-requires-clause-named
new-requires-clause-named c =
    let g = c.graph-graph.result.now in
    let cs = map constraint_of c.constraints-constraints.result.now in
    let w = whole_is (schema_of c.args.schema.now) g cs c.graph-graph.ensures c.constraints-constraints.ensures.list in
    valid_named g cs c.args.root.0 (formula_of c.args.question.now)
    (subst (λ (s : Schema). IsValidSchema s) (sym w) c.constraints-constraints.ensures.valid)
    (subst (λ (s : Schema). IsQuestion s c.args.root.0 (formula_of c.args.question.now)) (sym w) c.requires.question)
