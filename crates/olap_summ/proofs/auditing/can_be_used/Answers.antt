use Rattle.std.proofs.{Common.{◌∙◌, true≢false, sym}, lemmas.Result.IfOk-weaker}
use Rattle.olap_base.specs.Graph.{category_count}
use Rattle.olap_schema.specs.Schemas.{schema_of}
use Rattle.olap_summ.proofs.SightLemmas.{settled_still}
use Rattle.olap_summ.proofs.auditing.can_be_used.Goals as goal

pub returns-clause-no : goal.returns-clause-no
returns-clause-no c =
    let edge = rw c.graph.ensures at c.ends.ensures.edge in
    IfOk-weaker c.is_used.result _ _ (λ b h e. rw edge (h.0 e)) c.is_used.ensures.no

pub returns-clause-yes : goal.returns-clause-yes
returns-clause-yes c =
    let edge = rw c.graph.ensures at c.ends.ensures.edge in
    IfOk-weaker c.is_used.result _ _ (λ b h e u. true≢false (sym e ∙ h.1 (rw edge at u)))
    c.is_used.ensures.no

pub returns-clause-seen : goal.returns-clause-seen
returns-clause-seen c = c.is_used.ensures.seen

pub returns-clause-settled : goal.returns-clause-settled
returns-clause-settled c =
    let s = schema_of c.args.schema.now in
    IfOk-weaker c.is_used.result _ _
    (λ b k. settled_still s (category_count s.graph) c.args.seen.now c.is_used.new.seen k c.requires.settled)
    c.is_used.ensures.kept
