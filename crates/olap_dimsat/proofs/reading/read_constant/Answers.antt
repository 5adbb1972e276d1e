use Rattle.std.proofs.{Common.{refl, ap, sym, ◌∙◌, arith}, lemmas.Bool.false_from_ne_true}
use Rattle.olap_pool.specs.declared.literals.Lit.{Lit}
use Rattle.olap_dimsat.{proofs.ReadLemmas.{index_absent, zero_not_suc}, proofs.Truths.holds_at, specs.Asking.task_of}
use Rattle.olap_dimsat.proofs.reading.read_constant.Goals as goal

pub name-name-requires-clause-inside : goal.name-name-requires-clause-inside
name-name-requires-clause-inside c =
    let l = c.requires.task.laid.names c.args.c.0 c.args.j c.requires.category c.requires.constant in
    let s = c.requires.task.laid.small in omega arith

pub absent-requires-clause-free : goal.absent-requires-clause-free
absent-requires-clause-free c =
    let l = c.requires.task.laid.names c.args.c.0 c.args.j c.requires.category c.requires.constant in
    let e = ap (λ (x : Lit). x.variable) c.name-name.ensures in
    let n = c.requires.variables in
    c.in-Unknown.ensures.open refl (omega arith)

pub returns-in-Yes-clause-is : goal.returns-in-Yes-clause-is
returns-in-Yes-clause-is c = λ f v one r a.
    sym (r.named c.args.c.0 c.args.j c.requires.category c.requires.constant)
    ∙ holds_at v _ _ c.name-name.ensures (c.in-Yes.ensures.yes refl v a)

pub returns-in-No-clause-is : goal.returns-in-No-clause-is
returns-in-No-clause-is c = λ f v one r a.
    false_from_ne_true _ (λ t. c.in-No.ensures.no refl v a (holds_at v _ _ (sym c.name-name.ensures)
    (r.named c.args.c.0 c.args.j c.requires.category c.requires.constant ∙ t)))

pub returns-in_ok-absent-in-Unknown-clause-is : goal.returns-in_ok-absent-in-Unknown-clause-is
returns-in_ok-absent-in-Unknown-clause-is c = λ f v one r a.
    zero_not_suc _ c.args.j (index_absent (task_of c.args.a.now) f c.args.c.0 one c.requires.category
    (c.in_ok-absent-in-Unknown.ensures.absent f v one r a))
