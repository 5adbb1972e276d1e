use Rattle.std.proofs.Common.{◌≡◌, ℕ, List, [], ◌∷◌, Option, ap, arith, sym, ◌∙◌}
use Rattle.std.proofs.lemmas.List.{get_or_read, map-append}
use Rattle.olap_ast.specs.{Schema.Schema, Trees.numbers_of}
use Rattle.olap_base.specs.{Graph.Graph, declared.ids.CatId.CatId}
use Rattle.olap_cube_summ.specs.Dimensions.{schemas_of}
use Rattle.olap_graph.specs.Lookups.{category_named}
use Rattle.olap_cubes.proofs.NameLemmas.{categories_all, named_all, named_more, named_not}
use Rattle.olap_cubes.proofs.naming.named.Goals as goal

-- what a name is in a graph, told in other words
looked_up : {g h : Graph} {a b : List ℕ} {o : Option ℕ} → g ≡ h → a ≡ b → category_named g a ≡ o
    → category_named h b ≡ o
looked_up {h = h} {a = a} p q e = sym (ap (category_named h) q) ∙ sym (ap (λ g. category_named g a) p) ∙ e

pub names-preserved : goal.names-preserved
names-preserved c =
    let schemas = schemas_of c.args.cube.now in
    let graph = c.graph.ensures ∙ ap (λ (s : Schema). s.graph) c.schema.ensures in
    let name = c.bytes.ensures ∙ get_or_read names k c.index-names-k.result c.names-test.true c.index-names-k.is [] in
    named_more schemas names k (numbers_of c.names.categories.items) (numbers_of c.push.new.self.items)
    c.in-Some.category.0 (omega (arith, c.requires.one_each)) c.names-test.true c.names.invariant
    (looked_up graph name (sym c.in-Some.ensures.place)) (rw graph at c.in-Some.ensures.category)
    (ap numbers_of c.in_ok-push-in-Some.ensures.items
    ∙ map-append (λ (s : CatId). s.0) c.names.categories.items (c.in-Some.category ∷ []))
  where
    open c use {args.names.now as names, names.k}

pub returns-in-None-clause-named : goal.returns-in-None-clause-named
returns-in-None-clause-named c =
    let schemas = schemas_of c.args.cube.now in
    let graph = c.graph.ensures ∙ ap (λ (s : Schema). s.graph) c.schema.ensures in
    let name = c.bytes.ensures ∙ get_or_read names k c.index-names-k.result c.names-test.true c.index-names-k.is [] in
    sym (named_not schemas names k (numbers_of c.names.categories.items) (omega (arith, c.requires.one_each))
    c.names-test.true c.names.invariant (looked_up graph name (sym c.in-None.ensures.place)))
  where
    open c use {args.names.now as names, names.k}

pub returns-clause-named : goal.returns-clause-named
returns-clause-named c =
    sym (named_all (schemas_of c.args.cube.now) c.args.names.now c.names.k (numbers_of c.names.categories.items)
    (omega arith) c.names.invariant)

pub returns-clause-categories : goal.returns-clause-categories
returns-clause-categories c =
    categories_all (schemas_of c.args.cube.now) c.args.names.now c.names.k (numbers_of c.names.categories.items)
    (omega (arith, c.requires.one_each)) c.names.invariant
