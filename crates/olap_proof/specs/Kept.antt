-- The definitions' place that the program's stands for.
use Rattle.std.specs.Prelude.{map}
use Rattle.olap_proof.specs.declared.places.Place.TheInside as place
use Rattle.olap_proof.specs.KeptParts.{naming_kept}
use Rattle.olap_proof.specs.Places.{Place}

-- all decisions
abbrev pub place_kept : place.Inside → Place
place_kept a = record {
  decided = a.trail;
  namings = map naming_kept a.namings.items;
  ways = a.ways;
}
