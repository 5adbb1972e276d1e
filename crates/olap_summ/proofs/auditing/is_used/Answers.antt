use Rattle.std.proofs.{Common.{◌≡◌, false, map, refl}, lemmas.Result.IfOk-weaker}
use Rattle.olap_base.specs.declared.ids.CatId.{CatId}
use Rattle.olap_ast.{proofs.SourceLemmas.no_more_constants, specs.Formula.Formula.Path}
use Rattle.olap_schema.specs.Schemas.{schema_of}
use Rattle.olap_summ.proofs.AuditLemmas.{edge_at_child, path_of, unused_is}
use Rattle.olap_summ.proofs.auditing.is_used.Goals as goal

pub ask-requires-clause-root : goal.ask-requires-clause-root
ask-requires-clause-root c =
    (c.constraints-valid.ensures.valid.hierarchy.categories c.args.child.0 c.args.parent.0 c.requires.edge).0

pub ask-requires-clause-question : goal.ask-requires-clause-question
ask-requires-clause-question c =
    rw (path_of c.from_vec.result c.push.new.self.items c.new-path.result.items c.args.parent
    c.from_vec.ensures c.in_ok-push.ensures.items c.new-path.ensures.items)
    (edge_at_child (schema_of c.args.schema.now).graph c.args.child.0 c.args.parent.0
    c.constraints-valid.ensures.valid.hierarchy c.requires.edge)

pub ask-requires-clause-few : goal.ask-requires-clause-few
ask-requires-clause-few c =
    no_more_constants (schema_of c.args.schema.now) (Path (map (λ (d : CatId). d.0) c.from_vec.result))
    c.constraints-valid.ensures.valid refl refl

pub returns-clause-no : goal.returns-clause-no
returns-clause-no c =
    let s = schema_of c.args.schema.now in
    let path = path_of c.from_vec.result c.push.new.self.items c.new-path.result.items c.args.parent
    c.from_vec.ensures c.in_ok-push.ensures.items c.new-path.ensures.items in
    IfOk-weaker c.ask.result _ _ (λ b h. unused_is s c.args.child.0 c.args.parent.0 (b ≡ false) (rw path at h))
    c.ask.ensures.no
