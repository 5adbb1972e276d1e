use Rattle.olap_ast.specs.Trees.{formula_of}
use Rattle.olap_schema.specs.Schemas.{schema_of}
use Rattle.olap_summ.{proofs.NowhereLemmas.none_told, specs.Answers.IsNowhere}
use Rattle.olap_summ.proofs.implying.is_nowhere.Goals as goal

pub returns : goal.returns
returns c =
    none_told c.in_ok-found.found c.is_none.result
    (IsNowhere (schema_of c.args.schema.now) (formula_of c.args.f.now) c.args.root.0)
    c.is_none.ensures c.in_ok-found.ensures.none
