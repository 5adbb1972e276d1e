use Rattle.std.{proofs.Common.{◌≡◌, ap, sym, ◌∙◌, w64}, proofs.lemmas.Int.to_z-of_z, specs.Prelude.slice_index}
use Rattle.olap_ast.specs.Trees.{op_of}
use Rattle.olap_names.specs.Names.{candidates_of, name_at}
use Rattle.olap_numerals.specs.Comparing.{is_numbered}
use Rattle.olap_frozen.proofs.LeafLemmas.{number_there}
use Rattle.olap_frozen.proofs.leaves.LeafShape.number_is.Goals as goal

pub returns : goal.returns
returns c =
    let s = c.args.self.now in
    let k = candidates_of s.candidates.now in
    let op = op_of c.args.op in
    let text = name_at k c.args.c.0 (slice_index s.names.now c.args.c.0) in
    let same : c.bytes.result.now ≡ text = c.bytes.ensures ∙ c.name.ensures
    ∙ ap (λ n. name_at k c.args.c.0 (slice_index s.names.now n)) c.from.ensures in
    let passes = rw (to_z-of_z w64 c.args.n c.ranges.n) at c.passes.ensures in
    let told : c.passes.result ≡ is_numbered text op c.args.n = passes ∙ ap (λ t. is_numbered t op c.args.n) same in
    number_there s.graph.now s.candidates.now s.root.0 s.edges.now s.names.now s.rows.now c.has.ensures.hierarchy
    s.leaf c.args.c.0 op c.args.n c.passes.result (sym c.has.ensures.present ∙ c.if-not-has.false)
    (λ t. sym told ∙ t, λ t. told ∙ t)
