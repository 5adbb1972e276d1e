-- The places that are met are remembered, or asked now.
use Rattle.std.proofs.Common.{length}
use Rattle.olap_bits.specs.Sets.{members}
use Rattle.olap_check.{proofs.BlockLemmas.select_narrowed, proofs.WayLemmas.select_kept, specs.Seen.IsSo}
use Rattle.olap_check.proofs.blocks.Block.narrowed.Goals as goal

pub returns-in-Some-clause-places : goal.returns-in-Some-clause-places
returns-in-Some-clause-places c =
    let set = members c.in-Some.kept.now in
    let kept = c.in-Some.ensures i c.requires in
    select_narrowed (length b.part.now) (members c.args.places) set
    (select_kept i b.root.0 b.start b.part.now b.sound.is_part (IsSo i c.args.asked) set kept) c.meet.ensures
  where
    open c use {args.self.now as b, args.self.now.instance.now as i}

pub returns-in-None-clause-places : goal.returns-in-None-clause-places
returns-in-None-clause-places c =
    let b = c.args.self.now in
    select_narrowed (length b.part.now) (members c.args.places) (members c.ask.result) c.ask.ensures.places
    c.meet-in-None.ensures
