-- The sources so far, and those of the views that are left.
use Rattle.std.proofs.Common.{◌≡◌, ◌++◌}
use Rattle.olap_nav.{proofs.ChosenLemmas.left, specs.Plans.{categories_of, sources_in}}
use Rattle.olap_ast.specs.Trees.{numbers_of}
use Rattle.olap_view.specs.Seen.{views_of}
use Rattle.olap_nav.proofs.masks.sources.Given as goal

abbrev pub invariant-views : goal.invariant-views
invariant-views l = numbers_of l.sources.items ++ categories_of (left l.store.views l.k l.mask)
    ≡ sources_in (views_of l.store) l.mask
