-- One name more.
use Rattle.std.proofs.{Common.{◌≡◌, true, false, sym, ◌∙◌, arith, w64}, lemmas.Int.to_z-of_z}
use Rattle.olap_ast.specs.Trees.{op_of}
use Rattle.olap_encoding.proofs.NumberLemmas.{leading_here, leading_other}
use Rattle.olap_encoding.proofs.formulas.leading_more.Goals as goal

pub returns-then-not-is_wanted-clause-leading : goal.returns-then-not-is_wanted-clause-leading
returns-then-not-is_wanted-clause-leading c =
    leading_other c.args.names.now (op_of c.args.op) c.args.n c.args.j c.args.m
    c.requires.leading c.requires.few
    (λ w. let z : false ≡ true = sym c.if-not-is_wanted.true
    ∙ (rw (to_z-of_z w64 c.args.n c.ranges.n) at c.is_wanted.ensures).1 w in cc)

pub returns-clause-leading : goal.returns-clause-leading
returns-clause-leading c =
    leading_here c.args.names.now (op_of c.args.op) c.args.n c.args.j c.args.m
    c.requires.leading (omega arith) c.requires.few
    ((rw (to_z-of_z w64 c.args.n c.ranges.n) at c.is_wanted.ensures).0 c.if-not-is_wanted.false)
