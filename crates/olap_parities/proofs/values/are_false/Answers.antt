-- One literal more, and all of them.
use Rattle.std.proofs.{Common.rules, lemmas.List.Elements.All-more}
use Rattle.olap_parities.proofs.KnownLemmas.{IsFalse, none_true}
use Rattle.olap_parities.proofs.values.are_false.Goals as goal

pub lits-preserved : goal.lits-preserved
lits-preserved c =
    All-more (IsFalse c.args.values.now) c.args.clause.now c.lits.k _ c.lits-test.true c.lits.invariant
    (c.is_false.ensures c.if-not-is_false.false)

pub returns : goal.returns
returns c = λ _. none_true c.args.values.now c.args.clause.now c.lits.k (search rules) c.lits.invariant
