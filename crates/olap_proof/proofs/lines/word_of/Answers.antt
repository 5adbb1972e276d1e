-- Each word was tried.
use Rattle.olap_proof.proofs.ReadingLemmas.{all_words}
use Rattle.olap_proof.proofs.lines.word_of.Goals as goal

pub returns-clause-none : goal.returns-clause-none
returns-clause-none c = λ n. all_words c.args.bytes.now (c.word_in.ensures.none n)
