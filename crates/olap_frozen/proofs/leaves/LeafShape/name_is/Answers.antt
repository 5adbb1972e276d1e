use Rattle.std.{proofs.Common.{ap, sym, ◌∙◌}, specs.Prelude.slice_index}
use Rattle.olap_names.specs.Names.{candidates_of, name_at}
use Rattle.olap_frozen.proofs.LeafLemmas.{name_there, same_texts}
use Rattle.olap_frozen.proofs.leaves.LeafShape.name_is.Goals as goal

pub returns : goal.returns
returns c =
    let s = c.args.self.now in
    let k = candidates_of s.candidates.now in
    name_there s.graph.now s.candidates.now s.root.0 s.edges.now s.names.now s.rows.now c.has.ensures.hierarchy s.leaf
    c.args.c.0 c.args.k.now c.eq.result (sym c.has.ensures.present ∙ c.if-not-has.false)
    (same_texts c.eq.result c.bytes.result.now c.bytes-2.result.now
    (name_at k c.args.c.0 (slice_index s.names.now c.args.c.0)) c.args.k.now
    c.eq.ensures (c.bytes.ensures ∙ c.name.ensures
    ∙ ap (λ n. name_at k c.args.c.0 (slice_index s.names.now n)) c.from.ensures) c.bytes-2.ensures)
