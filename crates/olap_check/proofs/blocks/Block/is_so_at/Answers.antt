-- The member of a place, with the row that the table has of it.
use Rattle.std.proofs.Common.{get_or}
use Rattle.olap_check.{proofs.AboveLemmas.above_shape, specs.Above.IsAbove}
use Rattle.olap_check.proofs.blocks.Block.is_so_at.Goals as goal

pub invariant_of-above : goal.invariant_of-above
invariant_of-above c =
    let x = get_or b.part.now c.args.k 0 in
    let member = (b.sound.is_part.each c.args.k c.requires).0 in
    let sound : IsAbove b.instance.now b.categories x b.table.now =
    record { inside = member.0; bounded = t.bounded; table = t.table } in
    record { sound = sound; row_is_shape = above_shape b.instance.now b.categories x b.table.now sound }
  where
    open c use {args.self.now as b, args.self.now.sound.has_table as t}
