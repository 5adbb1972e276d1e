-- The table is as it was.
use Rattle.std.proofs.Common.{ap, ◌∙◌, set, get_or, true, Some, None, rules}
use Rattle.olap_parities.proofs.FindingLemmas.{set_back}
use Rattle.olap_parities.proofs.finding.+forbids.Goals as goal

pub returns-then-low-clause-same : goal.returns-then-low-clause-same
returns-then-low-clause-same t c =
    let x = get_or c.args.variables.now 0 0 in
    ap (λ l. set l x (get_or c.args.values.now x None))
    (c.forbids-high.ensures.same ∙ ap (λ l. set l x (Some true)) c.forbids-low.ensures.same)
    ∙ set_back c.args.values.now x _ _ None (search rules)

pub returns-else-low-clause-same : goal.returns-else-low-clause-same
returns-else-low-clause-same t c =
    let x = get_or c.args.variables.now 0 0 in
    ap (λ l. set l x (get_or c.args.values.now x None))
    (c.forbids-high.ensures.same ∙ ap (λ l. set l x (Some true)) c.forbids-low.ensures.same)
    ∙ set_back c.args.values.now x _ _ None (search rules)
