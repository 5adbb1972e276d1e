use Rattle.std.{proofs.Common.{◌≡◌, List, ap, drop, sym, take, ◌∙◌}, specs.declared.alloc.Global.Global}
use Rattle.std.specs.declared.string.String.{String}
use Rattle.olap_order.specs.{Behind.by_two, Words.texts}
use Rattle.olap_cubes.{proofs.WordLemmas.cut_words, specs.Cut.cubeview_of}
use Rattle.olap_cubes.proofs.words.cubeview.Goals as goal

pub returns-clause-order : goal.returns-clause-order
returns-clause-order c =
    let first = c.in_ok-schemas.ensures.cases in
    let second = c.in_ok-instances.ensures.cases in
    let left : c.in_ok-instances.words.now ≡ drop k (drop k words) = second.2 ∙ ap (drop k) first.2 in
    let order = cubeview_of (texts c.in_ok-schemas.schemas.now) (texts c.in_ok-instances.instances.now) in
    c.after_files.ensures.order
    ∙ ap (λ (ws : List (String Global)). by_two order (texts ws)) left
    ∙ sym (cut_words words c.in_ok-schemas.schemas.now c.in_ok-instances.instances.now k first.1
    (second.1 ∙ ap (take k) first.2))
  where
    open c use {args.dimensions as k, args.words.now as words}
