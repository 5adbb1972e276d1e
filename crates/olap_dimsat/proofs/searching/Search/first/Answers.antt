-- What is asked is the search's task.
use Rattle.std.proofs.Common.{refl, sym, subst, ap}
use Rattle.olap_ast.specs.{Frozen.Frozen, Trees.formula_of}
use Rattle.olap_schema.specs.Schemas.{schema_of}
use Rattle.olap_dimsat.{proofs.MadeLemmas.{handed, keeps, left_for, made_still}, specs.Asking.task_of}
use Rattle.olap_dimsat.specs.Tasks.{IsOne, Task}
use Rattle.olap_dimsat.proofs.searching.Search.first.Goals as goal

pub least-found-requires : goal.least-found-requires
least-found-requires c =
    let k = keeps (schema_of c.args.schema.now) (formula_of c.args.question.now) c.args.self.now
    (task_of c.of-asker.result) c.of-asker.ensures c.requires.made in
    record { suited = k.suited; ready = k.ready; best = k.best; empty = c.requires.made.empty }

pub returns-then-not-found-clause-none : goal.returns-then-not-found-clause-none
returns-then-not-found-clause-none c = λ _.
    subst (λ (t : Task). (f : Frozen) → IsOne t f → ⊥) c.of-asker.ensures
    (c.least-found.ensures.none c.if-not-found.true)

pub returns-then-not-found-clause-made : goal.returns-then-not-found-clause-made
returns-then-not-found-clause-made c =
    made_still (schema_of c.args.schema.now) (formula_of c.args.question.now) c.args.self.now _
    (task_of c.of-asker.result) c.least-found.new.engine c.of-asker.ensures refl c.requires.made l.suited l.ready l.best
    u.variables (λ v h. u.admits v h) u.trail
  where
    open c use {least-found.ensures as l, undo.ensures as u}

pub returns-clause-some : goal.returns-clause-some
returns-clause-some c = λ _.
    let out = c.hand_out.ensures in
    handed (schema_of c.args.schema.now) (formula_of c.args.question.now) c.args.self.now (task_of c.of-asker.result)
    c.of-asker.ensures c.requires.made c.least-found.new.best _ c.least-found.ensures.best
    out.into_root out.into_edges out.into_names (c.least-found.ensures.some c.if-not-found.false)

pub returns-clause-made : goal.returns-clause-made
returns-clause-made c =
    let s = schema_of c.args.schema.now in
    let q = formula_of c.args.question.now in
    let t = task_of c.of-asker.result in
    let k = keeps s q c.args.self.now t c.of-asker.ensures c.requires.made in
    made_still s q c.args.self.now _ t c.least-found.new.engine c.of-asker.ensures refl c.requires.made l.suited l.ready
    (left_for t c.args.self.now c.args.into.now c.hand_out.new.found k.best c.requires.sizes
    out.left_root out.left_edges out.left_names (sym (ap (λ (x : Task). x.question.root) c.of-asker.ensures)))
    u.variables (λ v h. u.admits v h) u.trail
  where
    open c use {least-found.ensures as l, undo.ensures as u, hand_out.ensures as out}
