-- The question is true at the root.
use Rattle.std.proofs.Common.{sym, subst}
use Rattle.olap_names.specs.Questions.{question_of}
use Rattle.olap_encoding.{proofs.SplittingLemmas.question_true, specs.EncoderInside.encoding_of}
use Rattle.olap_encoding.specs.Formulas.{IsTrueAt}
use Rattle.olap_names.specs.declared.questions.Question as declared
use Rattle.olap_encoding.proofs.splitting.question.Goals as goal

pub require-requires-clause-so : goal.require-requires-clause-so
require-requires-clause-so c =
    let e = encoding_of c.args.e.now in
    subst (λ (p : declared.Question). IsTrueAt e (question_of p).root (question_of p).formula)
    (sym c.question-q.ensures)
    (question_true e c.requires.sound)
