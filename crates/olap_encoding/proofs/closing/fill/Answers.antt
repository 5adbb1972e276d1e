-- One clause after the other.
use Rattle.olap_encoding.proofs.{GivenLemmas.given_always, Growing.{next_on, next_last}}
use Rattle.olap_encoding.specs.EncoderInside.{encoding_of}
use Rattle.olap_encoding.proofs.closing.fill.Goals as goal

pub clause-requires-clause-given : goal.clause-requires-clause-given
clause-requires-clause-given c = given_always (encoding_of c.args.e.now) c.requires.sound

pub returns : goal.returns
returns c = record {
  next = next_last c.outcome.result (next_on c.clause.ensures.next (next_on c.in_ok-laws.ensures.next
      (next_on c.in_ok-constraints.ensures.next (next_on c.in_ok-question.ensures.next c.in_ok-close.ensures.next))));
}
