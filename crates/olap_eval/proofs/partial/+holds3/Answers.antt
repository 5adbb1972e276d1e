-- The parts of a list: the value of each is counted, and then those of the rest.
use Rattle.std.proofs.Common.{◌≡◌, ◌∙◌, ◌∷◌, [], ap, sym}
use Rattle.olap_ast.specs.Trees.{formula_of, terms_of}
use Rattle.olap_eval.{proofs.PartialLemmas.count_on, specs.Partial.{value_at, values_of}}
use Rattle.olap_eval.proofs.partial.+holds3.Goals as goal

pub counted-returns-in-More : goal.counted-returns-in-More
counted-returns-in-More g t c = λ xs h.
    let k = g.P.Partial.known c.args.p.now in
    let first : value_at k r (formula_of c.in-More.f.value) ≡ v =
    sym (c.holds3.ensures ∙ ap (λ f. value_at k r (formula_of f)) c.deref.ensures) in
    let left = ap (λ ts. values_of k r (terms_of ts)) (sym c.deref-in-More.ensures) in
    let e = ap (λ ts. values_of k r (terms_of ts)) c.in-More.is
    ∙ ap (λ w. w ∷ values_of k r (terms_of c.in-More.rest.value)) first ∙ ap (λ ys. v ∷ ys) left in
    count_on xs _ _ v _ _ e (c.counted.ensures _ (c.add.ensures xs h))
  where
    open c use {args.root.0 as r, holds3.result as v}

pub holds3-returns-in-One : goal.holds3-returns-in-One
holds3-returns-in-One g t c =
    let k = g.P.Partial.known c.args.p.now in
    let r = c.args.root.0 in
    c.result.ensures.list (values_of k r (terms_of c.in-One.parts)) (c.counted.ensures [] c.new.ensures)
    ∙ ap (λ f. value_at k r (formula_of f)) (sym c.in-One.is)
