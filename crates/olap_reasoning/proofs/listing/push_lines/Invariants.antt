-- The lines of the frozen dimensions so far are appended.
use Rattle.std.proofs.Common.{◌≡◌, ◌++◌, flat_map, map, take}
use Rattle.olap_cex.specs.FrozenText.{frozen_text}
use Rattle.olap_frozen.specs.LeastFound.{frozen_of}
use Rattle.olap_names.specs.Names.{candidates_of}
use Rattle.olap_reasoning.proofs.listing.push_lines.Given as goal

abbrev pub invariant-lines : goal.invariant-lines
invariant-lines l = l.out.items ≡ l.fn.out.items ++ flat_map
    (frozen_text l.graph (candidates_of l.candidates) l.fn.root.0) (map frozen_of (take l.frozen-index l.all))
