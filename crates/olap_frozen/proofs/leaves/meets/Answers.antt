use Rattle.std.proofs.{Common.{◌≡◌, true, false, sym, ◌∙◌, arith}, lemmas.List.take_all}
use Rattle.olap_base.proofs.ListLemmas.{Contains-map}
use Rattle.olap_ast.specs.Trees.{constraint_of}
use Rattle.olap_frozen.proofs.leaves.meets.Goals as goal

pub returns-then-not-holds : goal.returns-then-not-holds
returns-then-not-holds c = (
  λ e. absurd (cc),
  λ m. absurd (
      let item = c.constraint-item.result in
      let at = Contains-map constraint_of c.args.constraints.now item
      (c.constraints.constraint-index, omega arith, sym c.constraint-item.is) in
      let h = m.meets (constraint_of item) at (sym c.has.ensures.present ∙ c.if-has.true) in
      let b = c.holds.ensures.1 h in
      let f = c.if-not-holds.true in let z : true ≡ false = sym b ∙ f in cc),
)

pub returns : goal.returns
returns c = grind (arith, take_all)
