-- What is asked is the search's task.
use Rattle.std.proofs.Common.{refl, sym, subst, ap}
use Rattle.olap_ast.specs.Trees.{formula_of}
use Rattle.olap_base.specs.Graph.{IsCategory}
use Rattle.olap_clauses.specs.Engines.{variables_of}
use Rattle.olap_schema.specs.Schemas.{schema_of}
use Rattle.olap_dimsat.{proofs.MadeLemmas.{handed_one, keeps, left_for, made_still, suited_with}, specs.Asking.task_of}
use Rattle.olap_dimsat.specs.Tasks.{Task, graph_of}
use Rattle.olap_dimsat.proofs.searching.Search.look.Goals as goal

pub look-found-requires : goal.look-found-requires
look-found-requires c =
    let k = keeps (schema_of c.args.schema.now) (formula_of c.args.question.now) c.args.self.now
    (task_of c.of-asker.result) c.of-asker.ensures c.requires.made in
    record {
      suited = k.suited;
      ready = k.ready;
      target = subst (λ (t : Task). IsCategory (graph_of t) c.args.target.0) (sym c.of-asker.ensures) c.requires.target;
    }

pub returns-then-not-found-clause-made : goal.returns-then-not-found-clause-made
returns-then-not-found-clause-made c =
    let s = schema_of c.args.schema.now in
    let q = formula_of c.args.question.now in
    let t = task_of c.of-asker.result in
    let k = keeps s q c.args.self.now t c.of-asker.ensures c.requires.made in
    made_still s q c.args.self.now _ t c.look-found.new.engine c.of-asker.ensures refl c.requires.made
    e.suited e.ready k.best u.variables (λ v h. u.admits v h) u.trail
  where
    open c use {look-found.ensures as e, undo.ensures as u}

pub returns-clause-some : goal.returns-clause-some
returns-clause-some c = λ _.
    let out = c.hand_out.ensures in
    handed_one (schema_of c.args.schema.now) (formula_of c.args.question.now) c.args.self.now
    (task_of c.of-asker.result) c.of-asker.ensures c.requires.made c.look-found.new.leaf.frozen _
    c.look-found.ensures.suited.frozen out.into_root out.into_edges out.into_names
    (c.look-found.ensures.one c.if-not-found.false)

pub returns-clause-made : goal.returns-clause-made
returns-clause-made c =
    let s = schema_of c.args.schema.now in
    let q = formula_of c.args.question.now in
    let t = task_of c.of-asker.result in
    let k = keeps s q c.args.self.now t c.of-asker.ensures c.requires.made in
    made_still s q c.args.self.now _ t c.look-found.new.engine c.of-asker.ensures refl c.requires.made
    (suited_with t c.look-found.new.leaf c.hand_out.new.found (variables_of c.look-found.new.engine) e.suited
    (left_for t c.args.self.now c.args.into.now c.hand_out.new.found k.best c.requires.sizes
    out.left_root out.left_edges out.left_names (sym (ap (λ (x : Task). x.question.root) c.of-asker.ensures))))
    e.ready k.best u.variables (λ v h. u.admits v h) u.trail
  where
    open c use {look-found.ensures as e, undo.ensures as u, hand_out.ensures as out}
