use Rattle.std.proofs.Common.{◌+◌, refl, ap, ◌++◌, ◌∙◌, drop, map, take}
use Rattle.olap_ast.specs.Trees.{constraint_of}
use Rattle.olap_base.proofs.ListLemmas.{rest_is}
use Rattle.olap_schema.proofs.WithoutLemmas.{left_over}
use Rattle.olap_schema.proofs.copying.others.Goals as goal

pub returns : goal.returns
returns c =
    let behind = map constraint_of (drop (k + 1) constraints) in
    c.in_ok-add_copies-2.ensures
    ∙ ap (λ l. map constraint_of c.add_copies.new.copied.items ++ map constraint_of l) (rest_is (k + 1) constraints)
    ∙ ap (λ l. l ++ behind) c.in_ok-add_copies.ensures
    ∙ ap (λ l. (map constraint_of l ++ map constraint_of (take k constraints)) ++ behind) c.new-copied.ensures.items
    ∙ left_over constraint_of constraints k (k + 1) refl
  where
    open c use {args.index as k, args.constraints.now as constraints}
