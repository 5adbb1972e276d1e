-- The definitions' place after one in a tree that is written.
--     place_in    its decisions
--     IsRooted    the root that is kept beside them is theirs
use Rattle.std.specs.Prelude.{◌≡◌}
use Rattle.olap_proof.specs.declared.cases.Case.TheInside as case
use Rattle.olap_proof.specs.Places.{Place}

-- its decisions
abbrev pub place_in : case.Inside → Place
place_in a = a.place

-- the root that is kept beside them is theirs
abbrev pub IsRooted : case.Inside → Type 0
IsRooted a = a.place.decided.root ≡ a.root.0
