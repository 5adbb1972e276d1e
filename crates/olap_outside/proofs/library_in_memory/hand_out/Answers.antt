use Rattle.std.proofs.Common.{length-drop, min, ◌∙◌, ap}
use Rattle.olap_outside.proofs.Places.{handed}
use Rattle.olap_base.proofs.ListLemmas.{rest_is}
use Rattle.olap_outside.proofs.library_in_memory.hand_out.Goals as goal

pub returns-clause-handed : goal.returns-clause-handed
returns-clause-handed c =
    let rest = rest_is c.args.start c.args.content.now in
    let copied = rw rest at c.copy_from_slice.ensures.after in
    let least = rw rest at c.min.ensures in
    let len = c.min-count.ensures ∙ ap (λ m. min m c.args.chunk) least in
    handed _ _ _ _ _ c.args.chunk copied (simp length-drop at len) c.requires.within c.requires.some
