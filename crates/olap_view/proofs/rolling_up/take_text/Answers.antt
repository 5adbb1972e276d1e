-- A whole text is one piece.
use Rattle.std.proofs.Common.{[], ap, ◌∙◌}
use Rattle.olap_records.specs.Standing.{unmarked}
use Rattle.olap_view.proofs.RollerLemmas.{whole-taken}
use Rattle.olap_view.proofs.rolling_up.take_text.Goals as goal

pub returns : goal.returns
returns c = record {
  takes = λ g i categories h.
      whole-taken g i categories c.without_mark.result.now c.args.text.items
      (c.without_mark.ensures ∙ ap unmarked c.deref.ensures.value) c.take.result
      (c.take.ensures.takes g i categories [] h);
}
