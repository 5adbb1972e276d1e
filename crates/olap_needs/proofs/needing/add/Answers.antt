use Rattle.std.proofs.Common.{◌∙◌, refl, subst, sym, true≢false}
use Rattle.olap_ast.specs.Trees.{numbers_of}
use Rattle.olap_base.specs.Graph.{Graph, IsBottom}
use Rattle.olap_schema.specs.Schemas.{schema_of}
use Rattle.olap_needs.{proofs.ListingLemmas.{added, none_added}, specs.Needs.IsNeeded}
use Rattle.olap_needs.proofs.needing.add.Goals as goal

pub returns-then-not-is_bottom : goal.returns-then-not-is_bottom
returns-then-not-is_bottom c =
    let s = schema_of c.args.schema.now in
    let b = c.args.b.0 in
    none_added s c.args.target.0 (numbers_of c.args.sources.now) b c.args.needs.now
    (λ n. true≢false (sym (c.is_bottom.ensures.1 (subst (λ (g : Graph). IsBottom g b) (sym c.graph.ensures) n.0))
    ∙ c.if-not-is_bottom.true))

pub returns-then-branch : goal.returns-then-branch
returns-then-branch c =
    none_added (schema_of c.args.schema.now) c.args.target.0 (numbers_of c.args.sources.now) c.args.b.0 c.args.needs.now
    (λ n. n.1 (c.in_ok-is_met.ensures.0 c.if-branch.true))

pub returns : goal.returns
returns c =
    let s = schema_of c.args.schema.now in
    let b = c.args.b.0 in
    let bottom = subst (λ (g : Graph). IsBottom g b) c.graph.ensures (c.is_bottom.ensures.0 c.if-not-is_bottom.false) in
    let needed : IsNeeded s c.args.target.0 (numbers_of c.args.sources.now) b =
    (bottom, λ u. true≢false (sym (c.in_ok-is_met.ensures.1 u) ∙ c.if-branch.false)) in
    added s c.args.target.0 (numbers_of c.args.sources.now) b c.args.needs.now
    (record { constraints = c.push.new.self; emptied = c.push_if.new.categories })
    (record { root = c.args.b; formula = c.in_ok-formula.formula }) c.args.b c.in_ok-emptied.emptied refl refl
    c.in_ok-formula.ensures needed c.in_ok-emptied.ensures c.in_ok-push_if.ensures c.in_ok-push.ensures.items
