-- What is listed answers its question.
use Rattle.std.{proofs.Common.{◌≡◌, ℕ, ◌≤◌, List, ◌++◌, length, codes, decimal, Ok}, specs.Prelude.flat_map}
use Rattle.olap_ast.specs.{Findings.{AreFindings, Finding}, Formula.Formula.Truth, Frozen.{Candidates, Frozen}}
use Rattle.olap_ast.specs.Schema.{Schema}
use Rattle.olap_base.specs.Limits.{most_frozen}
use Rattle.olap_cex.specs.FrozenText.{frozen_text}
use Rattle.olap_dimsat.specs.Listed.{AreAllFrozen}
use Rattle.olap_order.specs.{Judged.Replies, Order.Done, Outputs.line, declared.replies.Reply.Reply}
use Rattle.olap_order.specs.declared.status.Status.TheVariants.{Yes}
use Rattle.olap_reasoning.{proofs.ReplyLemmas.answers_by, specs.Listings.finding_text}
use Rattle.olap_reasoning.specs.Questions.{ByAudit, ByFrozen, IsAnswer}

-- the lines of all frozen dimensions answer `frozen`
pub frozen_listed : (s : Schema) (c : ℕ) (k : Candidates) (all : List Frozen) → AreAllFrozen s Truth c k all
    → length all ≤ most_frozen → (reply : Reply) → reply.status ≡ Yes
    → reply.bytes.items ≡ flat_map (frozen_text s.graph k c) all ++ line (codes "count " ++ decimal (length all))
    → Replies IsAnswer (Done (ByFrozen s c)) (Ok reply)
frozen_listed s c k all are few reply status text = answers_by (ByFrozen s c) Yes tt reply status
    (record { candidates = k; frozen = all; all = are; few = few; text = text })

-- the lines of all findings answer `audit`
pub findings_listed : (s : Schema) (findings : List Finding) → AreFindings s findings → (reply : Reply)
    → reply.status ≡ Yes
    → reply.bytes.items ≡ flat_map (finding_text s.graph) findings ++ line
    (codes "findings " ++ decimal (length findings))
    → Replies IsAnswer (Done (ByAudit s)) (Ok reply)
findings_listed s findings are reply status text = answers_by (ByAudit s) Yes tt reply status
    (record { findings = findings; are_findings = are; text = text })
