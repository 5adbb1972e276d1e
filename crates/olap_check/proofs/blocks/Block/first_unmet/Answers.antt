-- The first of the places that are left over.
use Rattle.std.{proofs.Common.{length, refl, subst, sym, arith, ◌∙◌}, specs.FinSet.difference}
use Rattle.olap_ast.specs.Trees.{formula_of}
use Rattle.olap_bits.specs.{CatSet.IsLeast, Sets.members}
use Rattle.olap_check.proofs.BlockLemmas.{first_left, has_all, none_left, none_past}
use Rattle.olap_check.proofs.blocks.Block.first_unmet.Goals as goal

pub returns-in_err-first-clause-none : goal.returns-in_err-first-clause-none
returns-in_err-first-clause-none c = λ e x l h m.
    let b = c.args.self.now in
    let all = members b.all in
    let truths = members c.holding.result in
    let none = sym c.minus-unmet.ensures ∙ c.in_err-first.ensures.none.0 refl in
    none_left b.instance.now b.root.0 b.start b.part.now b.sound.is_part (formula_of c.args.f.now) all truths
    (has_all b.sound) c.holding.ensures.places (none_past (difference all truths) (length b.part.now) none) x l h m

pub returns-then-k-self-clause-some : goal.returns-then-k-self-clause-some
returns-then-k-self-clause-some c =
    let b = c.args.self.now in
    let all = members b.all in
    let truths = members c.holding.result in
    let unmet = subst (λ s. IsLeast s c.in_ok-first.field-0) c.minus-unmet.ensures c.in_ok-first.ensures.least in
    let least = subst (λ k. IsLeast (difference all truths) k) (sym c.from-k.ensures) unmet in
    first_left b.instance.now b.root.0 b.start b.part.now b.sound.is_part (formula_of c.args.f.now) all truths
    (has_all b.sound) c.holding.ensures.places c.from-k.result c.if-k-self.true least

pub returns-else-k-self-clause-none : goal.returns-else-k-self-clause-none
returns-else-k-self-clause-none c = λ e x l h m.
    let b = c.args.self.now in
    let all = members b.all in
    let truths = members c.holding.result in
    let unmet = subst (λ s. IsLeast s c.in_ok-first.field-0) c.minus-unmet.ensures c.in_ok-first.ensures.least in
    none_left b.instance.now b.root.0 b.start b.part.now b.sound.is_part (formula_of c.args.f.now) all truths
    (has_all b.sound) c.holding.ensures.places
    (λ k i. let later = unmet.least k i in omega (arith, later, c.from-k.ensures, c.if-k-self.false)) x l h m
