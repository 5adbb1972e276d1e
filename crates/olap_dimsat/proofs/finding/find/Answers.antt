use Rattle.std.proofs.Common.{◌∙◌}
use Rattle.olap_ast.specs.Trees.{formula_of}
use Rattle.olap_schema.specs.Schemas.{schema_of}
use Rattle.olap_dimsat.{proofs.FindingLemmas.{none_named, some_named}, specs.Finding.IsFoundAs}
use Rattle.olap_dimsat.proofs.finding.find.Goals as goal

pub returns-clause-some : goal.returns-clause-some
returns-clause-some c =
    some_named (IsFoundAs c.args.wanted (schema_of c.args.schema.now) (formula_of c.args.question.now))
    c.in_ok-search.search c.args.root.0 c.into_candidates-candidates.result c.sought-frozen.result c.named.result
    c.in_ok-search.ensures.root (c.into_candidates-candidates.ensures ∙ c.sought-frozen.ensures.candidates)
    c.sought-frozen.ensures.some c.named.ensures.some c.named.ensures.candidates

pub returns-clause-none : goal.returns-clause-none
returns-clause-none c =
    none_named (schema_of c.args.schema.now) (formula_of c.args.question.now) c.in_ok-search.search c.args.root.0
    c.sought-frozen.result c.named.result c.in_ok-search.ensures.made c.in_ok-search.ensures.root
    c.sought-frozen.ensures.none c.named.ensures.none
