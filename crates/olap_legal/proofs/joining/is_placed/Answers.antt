-- Whoever stands in the place of its own category has its row.
use Rattle.std.proofs.{Common.{◌≡◌, ◌<◌, ap, sym, subst, ◌∙◌, arith}, lemmas.Bool.Decides.nat_tests}
use Rattle.olap_legal.specs.{Laying.cell, Rows.none}
use Rattle.olap_legal.proofs.joining.is_placed.Goals as goal

pub get-requires-clause-d : goal.get-requires-clause-d
get-requires-clause-d c =
    subst (λ d. d < c.args.categories) (sym c.category.ensures) (c.requires.rows.laid.categories c.args.x c.requires.x)

pub returns : goal.returns
returns c = λ p.
    let at = cell c.args.instance.now c.args.categories c.args.table.now c.args.x in
    c.requires.rows.each c.args.x c.requires.x
    (λ e. let empty : c.get.result ≡ none = c.get.ensures ∙ ap at c.category.ensures ∙ e in
    absurd (grind (arith, nat_tests)))
