-- The reply to a text that is no certificate.
use Rattle.std.{proofs.Common.{◌≡◌, ◌++◌, ℕ, List, Ok, inr, subst, sym}, specs.Fmt.decimal, specs.Prelude.codes}
use Rattle.olap_ast.specs.Schema.{Schema}
use Rattle.olap_order.specs.{Judged.{IsVerdict, Replies}, Order.Done, Outputs.line, declared.replies.Reply.Reply}
use Rattle.olap_order.specs.declared.status.Status.TheVariants.{No}
use Rattle.olap_proof.specs.{Verifying.IsFirstWrongFor, declared.forms.Form.Form}
use Rattle.olap_verdicts.specs.Questions.{ByCertificate, IsAnswer}

-- the first line that is wrong is told
pub wrong_shown : (f : Form) (s : Schema) (c : ℕ) (sources text : List ℕ) (at : ℕ)
    → IsFirstWrongFor f s c sources text at → (reply : Reply) → reply.status ≡ No
    → reply.bytes.items ≡ line (codes "rejected line " ++ decimal at)
    → Replies IsAnswer (Done (ByCertificate f s c sources text)) (Ok reply)
wrong_shown f s c sources text at w reply status bytes = record {
  right = λ files. inr (status, (at, w, bytes));
  verdict = subst IsVerdict (sym status) tt;
  unread = λ e. absurd (cc);
}
