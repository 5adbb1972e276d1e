use Rattle.std.proofs.Common.{arith}
use Rattle.olap_frozen.proofs.SoundLemmas.{tops_more}
use Rattle.olap_frozen.proofs.sound.tops.Goals.{else-row_has-via-then-row_has+else-not-row_has, else-row_has-via-else-row_has}
use Rattle.olap_frozen.proofs.sound.tops.Goals as goal

pub categories-preserved : goal.categories-preserved
categories-preserved c =
    grind (arith, else-row_has-via-then-row_has+else-not-row_has, tops_more, else-row_has-via-else-row_has)
