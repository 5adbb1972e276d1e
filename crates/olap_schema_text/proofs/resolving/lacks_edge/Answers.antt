-- An edge leads to the next category.
use Rattle.std.proofs.{Common.{◌≡◌, ◌∷◌, ◌∙◌, is_some, map, rules, true}, lemmas.List.Elements.{All-head, All-tail}}
use Rattle.olap_base.specs.{Graph.IsCategory, declared.ids.CatId.CatId}
use Rattle.olap_graph.specs.Lookups.{edge_between}
use Rattle.olap_schema_text.{proofs.CategoryLemmas.joined_on, specs.Known.graph_seen}
use Rattle.olap_schema_text.proofs.resolving.lacks_edge.Goals as goal

pub categories-preserved : goal.categories-preserved
categories-preserved c =
    let g = graph_seen c.args.known.now in
    let first : c.categories.left.now ≡ d ∷ ds = search rules in
    let joined : is_some (edge_between g child d.0) ≡ true = search rules in
    let there = rw first at c.categories.invariant.there in
    record {
      so_far = (rw first at c.categories.invariant.so_far) ∙ joined_on g child d.0 (map (λ x. x.0) ds) joined;
      child = All-head (λ (x : CatId). IsCategory g x.0) d ds there;
      there = All-tail (λ (x : CatId). IsCategory g x.0) d ds there;
    }
  where
    open c use {categories.child.0 as child, in-Some.parent.now as d, in-Some.others.now as ds}
