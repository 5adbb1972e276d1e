use Rattle.std.proofs.lemmas.Result.{on_ok_weaker}
use Rattle.olap_names.specs.Names.{candidates_of}
use Rattle.olap_proof.proofs.verifying.judge.Goals as goal

pub judge_asked-requires-clause-asked : goal.judge_asked-requires-clause-asked
judge_asked-requires-clause-asked c = record {
  hierarchy = c.categories-count.ensures.hierarchy;
  named = c.in_ok-candidates.ensures.count;
  candidates = c.in_ok-candidates.ensures.candidates;
}

pub returns-clause-ok : goal.returns-clause-ok
returns-clause-ok c = on_ok_weaker c.judge_asked.result (λ certificate. (
  candidates_of c.in_ok-candidates.candidates,
  c.in_ok-candidates.ensures.candidates,
  certificate,
)) c.judge_asked.ensures.ok

pub returns-clause-rejected : goal.returns-clause-rejected
returns-clause-rejected c = λ line e. (
  candidates_of c.in_ok-candidates.candidates,
  c.in_ok-candidates.ensures.candidates,
  c.judge_asked.ensures.rejected line e,
)
