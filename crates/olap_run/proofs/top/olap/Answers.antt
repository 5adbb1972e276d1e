use Rattle.std.{proofs.Common.{ℕ, List, Err, length, subst, sym}, specs.Prelude.IsTrue}
use Rattle.olap_run.{proofs.SureLemmas.written_is_told, specs.Commands.order_of, specs.Questions.IsAnswer}
use Rattle.olap_order.specs.{Judged.{GivesTold, Replied}, Words.texts, declared.replies.Stop.Stop}
use Rattle.olap_order.specs.declared.status.Status.TheVariants.{Refused}
use Rattle.olap_run.proofs.top.olap.Goals as goal

-- the sink takes the bytes of the outcome, and these are its bytes
pub returns-in-Ok-clause-sure_write : goal.returns-in-Ok-clause-sure_write
returns-in-Ok-clause-sure_write g c = λ takes fault. c.written.ensures.surely fault
    (subst (λ (bytes : List ℕ). IsTrue (g.K.Sink.takes c.args.out.now (length bytes))) (sym c.deref.ensures.value)
    (takes c.in-Ok.reply.status c.in-Ok.reply.bytes.items c.in-Ok.ensures.right))

pub returns-in-Err-Refused-clause-sure_write : goal.returns-in-Err-Refused-clause-sure_write
returns-in-Err-Refused-clause-sure_write g c =
    let e = c.in-Err-Refused in
    let right = subst (λ (stop : Stop). Replied (Err stop)
    (GivesTold IsAnswer (g.L.Library.contents c.args.lib.now) (order_of (texts c.args.words.now))))
    e.field-0-is e.ensures.right in
    λ takes fault. c.written-in-Err-Refused.ensures.surely fault
    (subst (λ (bytes : List ℕ). IsTrue (g.K.Sink.takes c.args.out.now (length bytes)))
    (sym c.deref-in-Err-Refused.ensures.value) (takes Refused e.bytes.items right))

-- an answer isn't silent
pub returns-in-Ok-clause-silent : goal.returns-in-Ok-clause-silent
returns-in-Ok-clause-silent g c = λ h. absurd (written_is_told c.in-Ok.reply.status c.written.result
    c.in-Ok.ensures.answered c.written.ensures.one h)

pub returns-in-Err-Refused-clause-silent : goal.returns-in-Err-Refused-clause-silent
returns-in-Err-Refused-clause-silent g c = λ h. absurd (written_is_told Refused c.written-in-Err-Refused.result tt
    c.written-in-Err-Refused.ensures.one h)
