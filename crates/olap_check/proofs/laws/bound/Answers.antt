-- The bounds that every instance has.
use Rattle.std.proofs.Common.{◌<◌, sym, subst}
use Rattle.olap_base.specs.Instance.{category_of}
use Rattle.olap_check.proofs.laws.bound.Goals as goal

pub returns-clause-bounded : goal.returns-clause-bounded
returns-clause-bounded c = record {
  categories = λ x h.
      subst (λ n. category_of c.args.instance.now x < n) (sym c.categories.ensures.count) (c.requires.categories x h);
  few = c.members-members.ensures.few;
  places = c.members-members.ensures.sound.parents_are_members;
}
