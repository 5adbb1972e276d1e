-- One literal more, and all of them.
use Rattle.std.proofs.{Common.{◌≡◌, get_or, inl, inr, rules, false}, lemmas.List.Elements.All-more}
use Rattle.olap_pool.specs.declared.literals.Lit.{Lit}
use Rattle.olap_parities.proofs.KnownLemmas.{IsFalseBut, one_true}
use Rattle.olap_parities.proofs.values.are_false_but.Goals.{else-ne-via-then-ne+else-not-is_false, else-ne-via-else-ne}
use Rattle.olap_parities.proofs.values.are_false_but.Goals as goal

pub lits-preserved : goal.lits-preserved
lits-preserved c =
    let no_lit : Lit = record { variable = 0; positive = false } in
    let clause = c.args.clause.now in
    All-more (IsFalseBut c.args.values.now c.args.lit) clause c.lits.k no_lit c.lits-test.true c.lits.invariant
    (elim c.else-ne.branch [
      | else-ne-via-then-ne+else-not-is_false w ↦ inr (w.is_false.ensures w.if-not-is_false.false)
      | else-ne-via-else-ne w ↦
          let same : get_or clause c.lits.k no_lit ≡ c.args.lit = search (rules, w.if-ne.ensures) in
          inl same
    ])

pub returns : goal.returns
returns c = λ _. one_true c.args.values.now c.args.clause.now c.args.lit c.lits.k (search rules) c.lits.invariant
