-- Connective by connective.
use Rattle.olap_encoding.proofs.GivenLemmas.{known_negated}
use Rattle.olap_encoding.proofs.JoiningLemmas.{joins_both, joins_any, joins_implied, joins_either, joins_neither}
use Rattle.olap_encoding.specs.EncoderInside.{encoding_of}
use Rattle.olap_encoding.proofs.formulas.join.Goals as goal

pub returns-in-Conjunction-clause-joins : goal.returns-in-Conjunction-clause-joins
returns-in-Conjunction-clause-joins c =
    joins_both (encoding_of c.args.e.now) (encoding_of c.both.new.e) c.args.a c.args.b c.both.result
    c.in-Conjunction.is c.both.ensures.next c.both.ensures.says

pub returns-in-Disjunction-clause-joins : goal.returns-in-Disjunction-clause-joins
returns-in-Disjunction-clause-joins c =
    joins_any (encoding_of c.args.e.now) (encoding_of c.any.new.e) c.args.a c.args.b c.any.result
    c.in-Disjunction.is c.any.ensures.next c.any.ensures.says

pub any-requires-in-Implication-clause-first : goal.any-requires-in-Implication-clause-first
any-requires-in-Implication-clause-first c =
    known_negated (encoding_of c.args.e.now) c.args.a c.negated.result c.negated.ensures c.requires.first

pub returns-in-Implication-clause-joins : goal.returns-in-Implication-clause-joins
returns-in-Implication-clause-joins c =
    joins_implied (encoding_of c.args.e.now) (encoding_of c.any-in-Implication.new.e) c.args.a c.args.b
    c.any-in-Implication.result c.negated.result c.negated.ensures c.in-Implication.is
    c.any-in-Implication.ensures.next c.any-in-Implication.ensures.says

pub returns-in_ok-o-in-Equivalence-clause-joins : goal.returns-in_ok-o-in-Equivalence-clause-joins
returns-in_ok-o-in-Equivalence-clause-joins c =
    joins_neither c.args.a c.args.b o.o l.result l.ensures c.in-Equivalence.is o.ensures.next o.ensures.says
  where
    open c use {in_ok-o-in-Equivalence as o, negated-in-Equivalence as l}

pub returns-in-Exclusion-clause-joins : goal.returns-in-Exclusion-clause-joins
returns-in-Exclusion-clause-joins c =
    joins_either (encoding_of c.args.e.now) (encoding_of c.either-in-Exclusion.new.e) c.args.a c.args.b
    c.either-in-Exclusion.result c.in-Exclusion.is c.either-in-Exclusion.ensures.next
    c.either-in-Exclusion.ensures.says
