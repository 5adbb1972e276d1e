-- What is asked is the search's task, and by all places the list is one of all.
use Rattle.std.proofs.{Common.{◌≡◌, List, refl, subst, map}, lemmas.Result.{IfErr-weaker, IfOk-weaker}}
use Rattle.std.specs.Prelude.{All, IfErr, IfOk}
use Rattle.olap_ast.specs.Trees.{formula_of}
use Rattle.olap_base.specs.Refusing.{IsFor}
use Rattle.olap_frozen.specs.{LeastFound.frozen_of, Leaves.IsSized, declared.frozen.Frozen.Frozen}
use Rattle.olap_names.specs.Names.{candidates_of}
use Rattle.olap_schema.specs.Schemas.{schema_of}
use Rattle.olap_dimsat.proofs.{ListedLemmas.{all_frozen, more_than, weaker_for}, MadeLemmas.{keeps, made_still}}
use Rattle.olap_dimsat.specs.{Asking.task_of, Listed.{AreAllFrozen, AreMoreThan}}
use Rattle.olap_dimsat.specs.Tasks.{Task, schema_of as schema_in, graph_of}
use Rattle.olap_dimsat.proofs.searching.Search.all.Goals as goal

pub list-listed-requires : goal.list-listed-requires
list-listed-requires c =
    let k = keeps (schema_of c.args.schema.now) (formula_of c.args.question.now) c.args.self.now
    (task_of c.of-asker.result) c.of-asker.ensures c.requires.made in
    record {
      suited = k.suited;
      ready = k.ready;
      best = k.best;
      empty = c.requires.made.empty;
      places = λ q h. (c.places-apart.ensures q).0 h;
    }

pub returns-clause-all : goal.returns-clause-all
returns-clause-all c =
    let u = task_of c.of-asker.result in
    let k = keeps (schema_of c.args.schema.now) (formula_of c.args.question.now) c.args.self.now u c.of-asker.ensures
    c.requires.made in
    subst (λ (t : Task). IfOk c.list-listed.result (λ (list : List Frozen). AreAllFrozen (schema_in t)
    t.question.formula t.question.root
    (candidates_of t.question.candidates) (map frozen_of list))) c.of-asker.ensures
    (IfOk-weaker c.list-listed.result _ _ (λ list a. all_frozen u c.places-apart.result (map frozen_of list)
    k.suited.task (λ q h. (c.places-apart.ensures q).1 h) a) c.list-listed.ensures.all)

pub returns-clause-roots : goal.returns-clause-roots
returns-clause-roots c =
    subst (λ (t : Task). IfOk c.list-listed.result (λ (list : List Frozen). All
    (λ (f : Frozen). f.root.0 ≡ t.question.root) list))
    c.of-asker.ensures c.list-listed.ensures.roots

pub returns-clause-sized : goal.returns-clause-sized
returns-clause-sized c =
    subst (λ (t : Task). IfOk c.list-listed.result (λ (list : List Frozen). All
    (λ (f : Frozen). IsSized (graph_of t) t.question.candidates f.edges f.names) list)) c.of-asker.ensures
    c.list-listed.ensures.sized

pub returns-clause-too_many : goal.returns-clause-too_many
returns-clause-too_many c =
    let u = task_of c.of-asker.result in
    let k = keeps (schema_of c.args.schema.now) (formula_of c.args.question.now) c.args.self.now u c.of-asker.ensures
    c.requires.made in
    subst (λ (t : Task). IfErr c.list-listed.result (IsFor (λ _. AreMoreThan c.args.limit (schema_in t)
    t.question.formula t.question.root (candidates_of t.question.candidates))))
    c.of-asker.ensures
    (IfErr-weaker c.list-listed.result _ _ (λ e m. weaker_for _ _ e (λ _ n. more_than u c.places-apart.result
    c.args.limit k.suited.task n) m) c.list-listed.ensures.too_many)

pub returns-clause-made : goal.returns-clause-made
returns-clause-made c =
    made_still (schema_of c.args.schema.now) (formula_of c.args.question.now) c.args.self.now _
    (task_of c.of-asker.result) c.list-listed.new.engine c.of-asker.ensures refl c.requires.made l.suited l.ready l.best
    u.variables (λ v h. u.admits v h) u.trail
  where
    open c use {list-listed.ensures as l, undo.ensures as u}
