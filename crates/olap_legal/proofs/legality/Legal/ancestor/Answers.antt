-- The place of the table.
use Rattle.std.proofs.Common.{◌<◌, length, sym, subst}
use Rattle.olap_base.specs.Instance.{Instance}
use Rattle.olap_legal.{proofs.TableLemmas.ancestor_of, specs.Ancestors.IsAncestor}
use Rattle.olap_legal.proofs.legality.Legal.ancestor.Goals as goal

pub returns-in-Some-clause-some : goal.returns-in-Some-clause-some
returns-in-Some-clause-some c =
    let inside = subst (λ (i : Instance). x < length i) (sym c.self.view_is) c.requires in
    subst (λ (i : Instance). IsAncestor i x c.args.c.0 c.in-Some.y) c.self.view_is
    (ancestor_of a.instance a.categories x c.args.c.0 c.in-Some.y a.table c.self.invariant.table inside
    c.in-Some.ensures.some)
  where
    open c use {self.inside as a, args.x.0 as x}
