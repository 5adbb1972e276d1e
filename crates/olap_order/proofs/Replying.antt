-- Replies to a question that is asked, and to none.
use Rattle.std.{proofs.Common.{◌≡◌, ℕ, List, Result, Ok, Err, subst, sym}, specs.Result.IsErrAnd}
use Rattle.olap_order.specs.{Judged.{IsVerdict, Replies}, Order.{Order, Done, Told}, Outputs.refusal}
use Rattle.olap_order.specs.{Refusals.{IsOutOfMemory, IsRefusal}, declared.replies.Reply.Reply}
use Rattle.olap_order.specs.declared.{replies.Stop.Stop, status.Status.Status, status.Status.TheVariants.{Refused, Yes}}
use Rattle.olap_order.specs.declared.replies.Stop.TheVariants as stops

module _ {Q : Type 0} {answers : Q → Status → List ℕ → Type 0} where
  -- a reply that is done answers what its bytes answer
  pub done : (q : Q) (reply : Reply) → reply.status ≡ Yes → answers q reply.status reply.bytes.items
      → Replies answers (Done q) (Ok reply)
  done q reply status answer = record {
    right = λ files. answer;
    verdict = subst IsVerdict (sym status) tt;
    unread = λ e. absurd (cc);
  }

  -- a refusal answers a question that it answers, or memory ran out
  pub refusing : (q : Q) (why : List ℕ)
      → ((bytes : List ℕ) → bytes ≡ refusal why → answers q Refused bytes)
      → (stop : Stop) → IsRefusal why stop → Replies answers (Done q) (Err stop)
  refusing q why answer (stops.Refused bytes) is = record {
    right = λ files. answer bytes.items is;
    verdict = tt;
    unread = λ e. absurd (cc);
  }
  refusing q why answer stops.Read is = absurd is
  refusing q why answer (stops.Memory m) is = record {
    right = tt;
    verdict = tt;
    unread = λ e. absurd (cc);
  }

  -- out of memory answers any question
  pub replies_no_memory : {order : Order Q} (result : Result Reply Stop) → IsErrAnd result IsOutOfMemory
      → Replies answers order result
  replies_no_memory (Ok reply) is = absurd is
  replies_no_memory (Err (stops.Refused bytes)) is = absurd is
  replies_no_memory (Err stops.Read) is = absurd is
  replies_no_memory (Err (stops.Memory m)) is = record { right = tt; verdict = tt; unread = λ e. absurd (cc) }

  -- what is told is told
  pub told_shown : (text : List ℕ) (reply : Reply) → reply.status ≡ Yes → reply.bytes.items ≡ text
      → Replies answers (Told Yes text) (Ok reply)
  told_shown text reply status bytes = record {
    right = λ files. (status, bytes);
    verdict = subst IsVerdict (sym status) tt;
    unread = λ e. absurd (cc);
  }
