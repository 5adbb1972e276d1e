-- One literal more, and all of them.
use Rattle.std.proofs.{Common.rules, lemmas.List.Elements.All-more}
use Rattle.olap_parities.proofs.EntryLemmas.{IsEntered, entered_more, entered_all}
use Rattle.olap_parities.proofs.entries.enter.Goals as goal

pub lits-preserved : goal.lits-preserved
lits-preserved c =
    let i = c.lits.invariant in
    let more = c.enter_literal.ensures.kept in
    record {
      kept = λ e h. more e (i.kept e h);
      entered =
          All-more (IsEntered c.args.values.now c.enter_literal.new.entries.items c.args.row) c.args.clause.now
          c.lits.k _ c.lits-test.true
          (entered_more c.args.values.now c.lits.entries.items c.enter_literal.new.entries.items c.args.row _ more
          i.entered)
          (c.enter_literal.ensures.covered c.if-not-enter_literal.false);
    }

pub returns-then-not-enter_literal-clause-kept : goal.returns-then-not-enter_literal-clause-kept
returns-then-not-enter_literal-clause-kept c = λ e h.
    c.enter_literal.ensures.kept e (c.lits.invariant.kept e h)

pub returns-clause-covered : goal.returns-clause-covered
returns-clause-covered c = λ _.
    entered_all c.args.values.now c.lits.entries.items c.args.row c.args.clause.now c.lits.k (search rules)
    c.lits.invariant.entered
