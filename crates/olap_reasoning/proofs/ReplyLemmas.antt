-- What a reply with a status and these bytes answers, where none means that memory ran out.
use Rattle.std.{proofs.Common.{◌≡◌, ℕ, List, Result, Ok, Err, subst, sym}, specs.Prelude.{IfErr, IfOk}}
use Rattle.olap_order.{proofs.Replying.replies_no_memory, specs.Judged.{IsVerdict, Replies}, specs.Order.{Done, Order}}
use Rattle.olap_order.specs.{Refusals.IsOutOfMemory, declared.replies.Reply.Reply, declared.replies.Stop.Stop}
use Rattle.olap_order.specs.declared.status.Status.{Status}
use Rattle.olap_reasoning.specs.Questions.{IsAnswer, Question}

-- a reply with this status answers what the status and its bytes answer
pub answers_by : (q : Question) (status : Status) → IsVerdict status → (reply : Reply) → reply.status ≡ status
    → IsAnswer q status reply.bytes.items → Replies IsAnswer (Done q) (Ok reply)
answers_by q status verdict reply is answer = record {
  right = λ files. subst (λ t. IsAnswer q t reply.bytes.items) (sym is) answer;
  verdict = subst IsVerdict (sym is) verdict;
  unread = λ e. absurd (cc);
}

-- if each reply with that status and these bytes answers the order, so does the result
pub replies_or_memory : {order : Order Question} {status : Status} {bytes : List ℕ} (result : Result Reply Stop)
    → IfOk result (λ r. r.status ≡ status) → IfOk result (λ r. r.bytes.items ≡ bytes)
    → IfErr result IsOutOfMemory
    → ((reply : Reply) → reply.status ≡ status → reply.bytes.items ≡ bytes → Replies IsAnswer order (Ok reply))
    → Replies IsAnswer order result
replies_or_memory (Ok reply) status text memory answers = answers reply status text
replies_or_memory (Err stop) status text memory answers = replies_no_memory (Err stop) memory
