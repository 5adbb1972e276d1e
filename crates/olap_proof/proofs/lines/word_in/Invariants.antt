-- No word so far has these bytes.
use Rattle.std.{proofs.Common.{◌<◌, ℕ}, specs.Prelude.◌≢◌}
use Rattle.olap_proof.specs.Reading.{word_at, word_text}
use Rattle.olap_proof.proofs.lines.word_in.Given as goal

abbrev pub invariant-words : goal.invariant-words
invariant-words l = (k : ℕ) → k < l.i → word_text (word_at l.words k) ≢ l.bytes
