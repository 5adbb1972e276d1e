use Rattle.std.proofs.{Common.{ℕ, ◌<◌, subst, sym}, lemmas.List.{get_or-map, length-map}}
use Rattle.olap_base.specs.{Graph.IsCategory, declared.ids.CatId.CatId}
use Rattle.olap_nav.proofs.printing.print_sources.Goals as goal

pub name-requires : goal.name-requires
name-requires c =
    let number : CatId → ℕ = λ s. s.0 in
    let k = c.sources.source-index in
    let within = subst (λ (n : ℕ). k < n) (sym (length-map c.args.sources.now number)) c.sources-test.true in
    subst (IsCategory c.args.graph.now) (get_or-map number c.args.sources.now k _ 0 c.sources-test.true)
    (c.requires k 0 within)
