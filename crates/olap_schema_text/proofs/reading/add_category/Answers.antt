use Rattle.std.{proofs.Common.subst, specs.Prelude.IfErr}
use Rattle.olap_base.specs.Refusing.{IsCause}
use Rattle.olap_graph.specs.Building.{category_refusal}
use Rattle.olap_schema_text.proofs.reading.add_category.Goals as goal

pub returns-then-number-clause-err : goal.returns-then-number-clause-err
returns-then-number-clause-err c =
    subst (λ name. IfErr c.add_number_category.result (IsCause (category_refusal c.args.builder.now name)))
    c.in_ok-name.ensures c.add_number_category.ensures.err

pub returns-else-number-clause-err : goal.returns-else-number-clause-err
returns-else-number-clause-err c =
    subst (λ name. IfErr c.add_category.result (IsCause (category_refusal c.args.builder.now name)))
    c.in_ok-name.ensures c.add_category.ensures.err
