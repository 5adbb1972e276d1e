use Rattle.std.{proofs.Common.{sym, subst, ap, ◌∙◌}, specs.Prelude.All}
use Rattle.olap_base.specs.{Graph.{Graph, IsCategory}, Instance.{Instance, IsMember, ReachesCategory}}
use Rattle.olap_base.specs.declared.ids.CatId.{CatId}
use Rattle.olap_cex.specs.{CexText.counterexample_text, FoundFor.{IsFoundFor, found_instance, found_place}}
use Rattle.olap_frozen.specs.LeastFound.{frozen_of}
use Rattle.olap_names.specs.Names.{candidates_of, with_graph}
use Rattle.olap_schema.specs.Schemas.{schema_of}
use Rattle.olap_ast.specs.Trees.{numbers_of}
use Rattle.olap_reasoning.proofs.CertificateLemmas.{found_for_difference, root_there, sources_are, target_reached}
use Rattle.olap_reasoning.proofs.differing.sums.Goals as goal

pub counterexample-requires-clause-found : goal.counterexample-requires-clause-found
counterexample-requires-clause-found c =
    subst (λ (g : Graph). IsFoundFor g c.args.found.now) (sym c.graph-graph.ensures)
    (found_for_difference (schema_of c.args.schema.now) c.args.target.0 (numbers_of c.args.sources.now) c.args.found.now
    c.requires.found c.constraints-constraints.ensures.texts)

pub counterexample-requires-clause-sources : goal.counterexample-requires-clause-sources
counterexample-requires-clause-sources c =
    subst (λ (g : Graph). All (λ (s : CatId). IsCategory g s.0) c.args.sources.now) (sym c.graph-graph.ensures)
    (sources_are (schema_of c.args.schema.now).graph c.args.sources.now c.requires.sources)

pub counterexample-requires-clause-reaches : goal.counterexample-requires-clause-reaches
counterexample-requires-clause-reaches c =
    let found = c.args.found.now in
    subst (λ (g : Graph). ReachesCategory (found_instance g found) (found_place g found) c.args.target.0)
    (sym c.graph-graph.ensures)
    (target_reached c.question_is_true.ensures (schema_of c.args.schema.now) c.args.target.0
    (numbers_of c.args.sources.now) found c.constraints-constraints.ensures.valid.hierarchy c.requires.found)

pub print_cex-requires-clause-fact : goal.print_cex-requires-clause-fact
print_cex-requires-clause-fact c =
    let found = c.args.found.now in
    let e = c.in_ok-cex.ensures.cex in
    let g = c.graph-graph.result.now in
    let there = subst (λ (g : Graph). IsMember (found_instance g found) (found_place g found))
    (sym c.graph-graph.ensures)
    (root_there c.root_is_member.ensures (schema_of c.args.schema.now) c.args.target.0
    (numbers_of c.args.sources.now) found c.constraints-constraints.ensures.valid.hierarchy c.requires.found) in
    subst (λ (i : Instance). IsMember i c.in_ok-cex.cex.fact.0) (sym e.instance)
    (subst (λ x. IsMember (found_instance g found) x) (sym e.fact) there)

pub returns : goal.returns
returns c =
    let s = schema_of c.args.schema.now in
    let found = c.args.found.now in
    c.in_ok-text.ensures.text ∙ c.in_ok-cex.ensures.text s.constraints
    ∙ ap (λ (g : Graph). counterexample_text (with_graph g s.constraints) (candidates_of found.candidates)
    found.frozen.root.0 (frozen_of found.frozen) c.args.target.0 (numbers_of c.args.sources.now)) c.graph-graph.ensures
