use Rattle.std.proofs.Common.{◌+◌, sym, subst, arith}
use Rattle.olap_names.{proofs.WalkLemmas.{last_open_here, last_open_more}, specs.Walks.IsLastOpen}
use Rattle.olap_plain.proofs.SearchLemmas.{full_at, open_at}
use Rattle.olap_plain.{proofs.searching.last_absent.Goals.{then-not-edges-e, else-not-edges-e}, specs.Searching.code_of}
use Rattle.olap_plain.proofs.searching.last_absent.Goals as goal

pub edges-preserved : goal.edges-preserved
edges-preserved c =
    let bits = c.args.edges.now in
    let e = c.edges.e in
    elim c.if-not-edges-e.branch [
      | then-not-edges-e w ↦ subst (λ o. IsLastOpen (λ c. 1) (code_of bits) (e + 1) o) (sym w.last-is)
          (last_open_here (λ c. 1) (code_of bits) e (open_at bits e (omega arith) w.if-not-edges-e.true))
      | else-not-edges-e w ↦ subst (λ o. IsLastOpen (λ c. 1) (code_of bits) (e + 1) o) (sym w.last-is)
          (last_open_more (λ c. 1) (code_of bits) e c.edges.last (full_at bits e (omega arith) w.if-not-edges-e.false)
          c.edges.invariant)
    ]
