use Rattle.std.{proofs.Common.{◌≡◌, ◌-◌, ◌<◌, suc, refl, ap, sym, ◌∙◌, arith}, specs.Prelude.◌==◌}
use Rattle.olap_pool.specs.declared.literals.Lit.{Lit}
use Rattle.olap_clauses.specs.Engines.{trail_of}
use Rattle.olap_dimsat.proofs.SettleLemmas.{code_index, index_of_named, longer_again, named_more, named_of_index}
use Rattle.olap_dimsat.{proofs.WitnessLemmas.ready_still, specs.Asking.task_of, specs.Tasks.constant_count}
use Rattle.olap_encoding.specs.Layouts.{name_variable}
use Rattle.olap_dimsat.proofs.settling.assume_name.Goals as goal

pub name-name-requires-clause-inside : goal.name-name-requires-clause-inside
name-name-requires-clause-inside c =
    let t = task_of c.args.a.now in
    let test = c.indexes-test.true in
    let count = c.names-j-end.ensures.count in
    let above = c.indexes.auto.j in
    let from = c.from.ensures in
    let within : c.from.result - 1 < constant_count t c.args.c.0 = omega arith in
    let l = c.requires.task.laid.names c.args.c.0 (c.from.result - 1) c.requires.category within in
    let s = c.requires.task.laid.small in omega arith

pub assume-requires-clause-inside : goal.assume-requires-clause-inside
assume-requires-clause-inside c =
    let t = task_of c.args.a.now in
    let test = c.indexes-test.true in
    let count = c.names-j-end.ensures.count in
    let above = c.indexes.auto.j in
    let from = c.from.ensures in
    let within : c.from.result - 1 < constant_count t c.args.c.0 = omega arith in
    let l = c.requires.task.laid.names c.args.c.0 (c.from.result - 1) c.requires.category within in
    let n = ap (λ (x : Lit). x.variable) c.name-name.ensures in
    let v = c.indexes.invariant.variables in let w = c.requires.variables in omega arith

pub assume-requires-clause-ready : goal.assume-requires-clause-ready
assume-requires-clause-ready c = ready_still (task_of c.args.a.now) c.args.engine.now c.indexes.engine c.requires.ready
    (λ v m a. c.indexes.invariant.admits v a)

pub returns-then-not-assume-clause-no : goal.returns-then-not-assume-clause-no
returns-then-not-assume-clause-no c = λ e f v one r a q.
    let t = task_of c.args.a.now in
    let index = sym (code_index t f c.args.c.0 one c.requires.declared) ∙ q in
    let test = c.indexes-test.true in
    let count = c.names-j-end.ensures.count in
    let above = c.indexes.auto.j in
    let p = c.indexes.j - 1 in
    let next : suc p ≡ c.indexes.j = omega arith in
    let named = named_of_index t f v c.args.c.0 c.args.i r c.requires.category index in
    let cur = (c.indexes.invariant.say f v one r).1 (a, λ k h. named k (omega arith)) in
    let variable = ap (λ (x : Lit). x.variable) c.name-name.ensures
    ∙ ap (λ n. name_variable t.layout c.args.c.0 (n - 1)) c.from.ensures in
    c.if-not-assume.ensures.no refl f v one r cur
    (ap v variable ∙ named p (omega arith) ∙ ap (λ k. k == c.args.i) next)

pub returns-then-not-assume-clause-admits : goal.returns-then-not-assume-clause-admits
returns-then-not-assume-clause-admits c = λ v a. c.assume.ensures.admits v (c.indexes.invariant.admits v a)

pub indexes-preserved : goal.indexes-preserved
indexes-preserved c =
    let t = task_of c.args.a.now in
    let above = c.indexes.auto.j in
    let p = c.indexes.j - 1 in
    let next : suc p ≡ c.indexes.j = omega arith in
    let same : (suc p == c.args.i) ≡ (c.indexes.j == c.args.i) = ap (λ k. k == c.args.i) next in
    let variable = ap (λ (x : Lit). x.variable) c.name-name.ensures
    ∙ ap (λ n. name_variable t.layout c.args.c.0 (n - 1)) c.from.ensures in
    record {
      say = λ f v one r. (
        λ a. let b = (s.yes refl f v one r).0 a in let d = (i.say f v one r).0 b.0 in (
          d.0,
          λ k h. named_more t v c.args.c.0 c.args.i p d.1 (ap v (sym variable) ∙ b.1 ∙ sym same) k (omega arith),
        ),
        λ d. (s.yes refl f v one r).1 (
          (i.say f v one r).1 (d.0, λ k h. d.1 k (omega arith)),
          ap v variable ∙ d.1 p (omega arith) ∙ same,
        ),
      );
      longer = longer_again (trail_of c.args.engine.now) (trail_of c.indexes.engine)
          (trail_of c.assume.new.engine) i.longer c.assume.ensures.longer;
      shaped = c.assume.ensures.shaped;
      variables = c.assume.ensures.variables ∙ i.variables;
      admits = λ v a. c.assume.ensures.admits v (i.admits v a);
    }
  where
    open c use {indexes.invariant as i, if-not-assume.ensures as s}

pub returns-clause-yes : goal.returns-clause-yes
returns-clause-yes c = λ e f v one r.
    let t = task_of c.args.a.now in
    let test = c.indexes-test.false in
    let count = c.names-j-end.ensures.count in
    let i = c.indexes.invariant in
    let code = code_index t f c.args.c.0 one c.requires.declared in (
      λ a. let d = (i.say f v one r).0 a in (
        d.0,
        code ∙ index_of_named t f v c.args.c.0 c.args.i one r c.requires.category c.requires.index
            (λ k h. d.1 k (omega arith)),
      ),
      λ d. (i.say f v one r).1 (
        d.0,
        λ k h. named_of_index t f v c.args.c.0 c.args.i r c.requires.category (sym code ∙ d.1) k
            (let b = c.indexes.auto.j-end in omega arith),
      ),
    )

pub returns-then-not-assume-clause-longer : goal.returns-then-not-assume-clause-longer
returns-then-not-assume-clause-longer c =
    longer_again (trail_of c.args.engine.now) (trail_of c.indexes.engine) (trail_of c.assume.new.engine)
    c.indexes.invariant.longer c.assume.ensures.longer

pub returns-then-not-assume-clause-shaped : goal.returns-then-not-assume-clause-shaped
returns-then-not-assume-clause-shaped c = c.assume.ensures.shaped

pub returns-clause-longer : goal.returns-clause-longer
returns-clause-longer c = c.indexes.invariant.longer

pub returns-clause-shaped : goal.returns-clause-shaped
returns-clause-shaped c = c.indexes.invariant.shaped
