use Rattle.std.{proofs.Common.subst, specs.Prelude.IfSome}
use Rattle.olap_schema.specs.Schemas.{schema_of}
use Rattle.olap_summ.specs.Counterexamples.{IsCounterexampleFound}
use Rattle.olap_ast.specs.Trees.{numbers_of}
use Rattle.olap_reasoning.proofs.{CertificateLemmas.difference_shown, ReplyLemmas.replies_or_memory}
use Rattle.olap_reasoning.specs.Questions.{BySummarizable}
use Rattle.olap_reasoning.proofs.summarizing.decided.Goals as goal

pub returns-in-Ok-Some : goal.returns-in-Ok-Some
returns-in-Ok-Some c =
    let s = schema_of c.args.schema.now in
    let sources = numbers_of c.args.sources.now in
    let f = subst (λ o. IfSome o (IsCounterexampleFound s c.args.target.0 sources)) c.in-Ok-Some.field-0-is
    c.in-Ok-Some.ensures.some in
    record {
      replies = replies_or_memory c.shown.result c.shown.ensures.status c.shown.ensures.text c.shown.ensures.memory
          (difference_shown (BySummarizable s c.args.target.0 sources) s c.args.target.0 sources
          c.in-Ok-Some.found f (λ bytes shows. shows));
    }
