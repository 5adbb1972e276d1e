use Rattle.std.{proofs.lemmas.Result.IfOk-weaker, specs.Prelude.IsTrue}
use Rattle.olap_summ.proofs.AuditLemmas.{asked_few, asked_formula, asked_is, asked_root}
use Rattle.olap_summ.proofs.auditing.is_redundant.Goals as goal

pub is_implied-requires-clause-root : goal.is_implied-requires-clause-root
is_implied-requires-clause-root c =
    asked_root _ _ _ _ _ c.constraints.ensures.valid c.requires c.constraints.ensures.list c.index-constraints-k.is
    c.in_ok-others.ensures

pub is_implied-requires-clause-formula : goal.is_implied-requires-clause-formula
is_implied-requires-clause-formula c =
    asked_formula _ _ _ _ _ c.constraints.ensures.valid c.requires c.constraints.ensures.list c.index-constraints-k.is
    c.in_ok-others.ensures

pub is_implied-requires-clause-few : goal.is_implied-requires-clause-few
is_implied-requires-clause-few c =
    asked_few _ _ _ _ _ c.constraints.ensures.valid c.requires c.constraints.ensures.list c.index-constraints-k.is
    c.in_ok-others.ensures

pub returns : goal.returns
returns c = IfOk-weaker c.is_implied.result _ _
    (λ b. asked_is _ _ _ _ _ c.constraints.ensures.valid c.requires c.constraints.ensures.list
    c.index-constraints-k.is c.in_ok-others.ensures (IsTrue b)) c.is_implied.ensures
