use Rattle.std.{proofs.Common.{List, ap, nat_eq, ◌∙◌}, specs.Cmp.Lexicographic.pointwise}
use Rattle.olap_base.specs.declared.ids.CatId.{CatId}
use Rattle.olap_cubes.proofs.TupleLemmas.{numbers_compared}
use Rattle.olap_cubes.proofs.naming.is_same.Goals as goal

pub returns : goal.returns
returns c = c.eq.ensures
    ∙ ap (λ (xs : List CatId). pointwise (λ (a b : CatId). nat_eq a.0 b.0) xs c.args.categories.now) c.items.ensures
    ∙ numbers_compared c.args.tuple.now.categories c.args.categories.now
