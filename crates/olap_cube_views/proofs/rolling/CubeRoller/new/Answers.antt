-- Nothing was taken.
use Rattle.std.proofs.Common.{[], ap, refl, sym, ◌∙◌}
use Rattle.olap_records.specs.Standing.{behind}
use Rattle.olap_cube_views.specs.Dimensions.{categories_in, instances_in}
use Rattle.olap_cube_views.proofs.rolling.CubeRoller.new.Goals as goal

pub returns : goal.returns
returns c = record {
  taken = record {
    graphs = refl;
    instances = c.new-2.ensures.instances ∙ ap instances_in c.in_ok-lent.ensures.columns;
    target_is = c.new-2.ensures.target ∙ ap categories_in c.in_ok-lent.ensures.columns;
    done = [];
    facts = [];
    stands_at = ap (behind []) (sym c.new.ensures);
    counted = record { fresh = λ e. record { none = refl; no_facts = refl }; going = λ e. absurd (cc e) };
    stands_for = c.new-2.ensures.stands;
  };
}
