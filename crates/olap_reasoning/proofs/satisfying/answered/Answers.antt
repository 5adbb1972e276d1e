use Rattle.std.{proofs.Common.subst, specs.Prelude.IfSome}
use Rattle.olap_ast.specs.Formula.{Formula.Truth}
use Rattle.olap_frozen.specs.LeastFound.{IsLeastFound}
use Rattle.olap_schema.specs.Schemas.{schema_of}
use Rattle.olap_reasoning.proofs.{CertificateLemmas.member_shown, ReplyLemmas.replies_or_memory}
use Rattle.olap_reasoning.proofs.satisfying.answered.Goals as goal

pub returns-in-Some : goal.returns-in-Some
returns-in-Some c =
    let s = schema_of c.args.schema.now in
    let least = subst (λ o. IfSome o (IsLeastFound s Truth c.args.category.0)) c.in-Some.is
    c.in_ok-satisfiable.ensures.some in
    record {
      replies = replies_or_memory c.shown.result c.shown.ensures.status c.shown.ensures.text c.shown.ensures.memory
          (member_shown s c.args.category.0 c.in-Some.found least);
    }
