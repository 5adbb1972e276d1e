-- What is asked is the search's task.
use Rattle.std.proofs.Common.{refl, sym, subst, ap}
use Rattle.olap_ast.specs.{Frozen.Frozen, Trees.formula_of}
use Rattle.olap_clauses.specs.Engines.{trail_of, variables_of}
use Rattle.olap_schema.specs.Schemas.{schema_of}
use Rattle.olap_dimsat.proofs.MadeLemmas.{handed_one, keeps, left_for, made_still, none_found, none_shaped, suited_with}
use Rattle.olap_dimsat.specs.{Asking.task_of, Tasks.{IsOne, Task}}
use Rattle.olap_dimsat.proofs.searching.Search.any.Goals as goal

pub exists-found-requires : goal.exists-found-requires
exists-found-requires c =
    let t = task_of c.of-asker.result in
    let k = keeps (schema_of c.args.schema.now) (formula_of c.args.question.now) c.args.self.now t c.of-asker.ensures
    c.requires.made in
    record {
      suited = k.suited;
      ready = k.ready;
      shaped = none_shaped t (trail_of c.args.self.now.engine) c.requires.made.empty;
    }

pub returns-then-not-found-clause-none : goal.returns-then-not-found-clause-none
returns-then-not-found-clause-none c = λ _.
    let t = task_of c.of-asker.result in
    let k = keeps (schema_of c.args.schema.now) (formula_of c.args.question.now) c.args.self.now t c.of-asker.ensures
    c.requires.made in
    subst (λ (u : Task). (f : Frozen) → IsOne u f → ⊥) c.of-asker.ensures
    (none_found t c.args.self.now.engine k.ready c.requires.made.empty
    (c.exists-found.ensures.none c.if-not-found.true))

pub returns-then-not-found-clause-made : goal.returns-then-not-found-clause-made
returns-then-not-found-clause-made c =
    let s = schema_of c.args.schema.now in
    let q = formula_of c.args.question.now in
    let t = task_of c.of-asker.result in
    let k = keeps s q c.args.self.now t c.of-asker.ensures c.requires.made in
    made_still s q c.args.self.now _ t c.exists-found.new.engine c.of-asker.ensures refl c.requires.made
    e.suited e.ready k.best u.variables (λ v h. u.admits v h) u.trail
  where
    open c use {exists-found.ensures as e, undo.ensures as u}

pub returns-clause-some : goal.returns-clause-some
returns-clause-some c = λ _.
    let out = c.hand_out.ensures in
    handed_one (schema_of c.args.schema.now) (formula_of c.args.question.now) c.args.self.now
    (task_of c.of-asker.result) c.of-asker.ensures c.requires.made c.exists-found.new.leaf.frozen _
    c.exists-found.ensures.suited.frozen out.into_root out.into_edges out.into_names
    (c.exists-found.ensures.one c.if-not-found.false)

pub returns-clause-made : goal.returns-clause-made
returns-clause-made c =
    let s = schema_of c.args.schema.now in
    let q = formula_of c.args.question.now in
    let t = task_of c.of-asker.result in
    let k = keeps s q c.args.self.now t c.of-asker.ensures c.requires.made in
    made_still s q c.args.self.now _ t c.exists-found.new.engine c.of-asker.ensures refl c.requires.made
    (suited_with t c.exists-found.new.leaf c.hand_out.new.found (variables_of c.exists-found.new.engine) e.suited
    (left_for t c.args.self.now c.args.into.now c.hand_out.new.found k.best c.requires.sizes
    out.left_root out.left_edges out.left_names (sym (ap (λ (x : Task). x.question.root) c.of-asker.ensures))))
    e.ready k.best u.variables (λ v h. u.admits v h) u.trail
  where
    open c use {exists-found.ensures as e, undo.ensures as u, hand_out.ensures as out}
