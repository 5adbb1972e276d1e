use Rattle.olap_ast.proofs.ThreeValueLemmas.{count_no, count_yes, count_unknown}
use Rattle.olap_ast.proofs.three_values.OneCount.add.Goals as goal

pub returns-in-No : goal.returns-in-No
returns-in-No c = λ xs h. count_no xs c.args.t _ _ c.in-No.is h

pub returns-in-Yes : goal.returns-in-Yes
returns-in-Yes c = λ xs h. count_yes xs c.args.t _ _ _ c.in-Yes.is c.saturating_add-self.ensures h

pub returns-in-Unknown : goal.returns-in-Unknown
returns-in-Unknown c = λ xs h. count_unknown xs c.args.t _ _ _ c.in-Unknown.is
    c.saturating_add-self-in-Unknown.ensures h
