-- The two clauses of a pair.
use Rattle.olap_parities.proofs.ParityLemmas.{first_clause, second_clause}
use Rattle.olap_parities.proofs.parities.keep_pair.Goals as goal

pub returns : goal.returns
returns c = λ v e t.
    c.keep_if-2.ensures v (c.keep_if.ensures v t (first_clause v c.args.x c.args.y c.args.odd e))
    (second_clause v c.args.x c.args.y c.args.odd _ _ c.negated.ensures c.negated-2.ensures e)
