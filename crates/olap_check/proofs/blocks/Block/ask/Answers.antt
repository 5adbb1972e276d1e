-- What was asked now is kept.
use Rattle.olap_bits.specs.Sets.{members}
use Rattle.olap_check.{proofs.WayLemmas.kept_from, specs.Seen.IsSo}
use Rattle.olap_check.proofs.blocks.Block.ask.Goals as goal

pub returns-clause-seen : goal.returns-clause-seen
returns-clause-seen c =
    let set = members c.places_of-places.result in
    let kept = kept_from i b.root.0 b.start b.part.now b.sound.is_part (IsSo i c.args.asked) set
    c.places_of-places.ensures in
    c.keep.ensures i c.requires kept
  where
    open c use {args.self.now as b, args.self.now.instance.now as i}
