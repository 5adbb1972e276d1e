-- The definitions' decision on a name that the program's stands for.
use Rattle.olap_proof.specs.declared.places.Naming.{Naming as OneNaming}
use Rattle.olap_proof.specs.Places.{Naming}

-- a decision on a name
abbrev pub naming_kept : OneNaming → Naming
naming_kept n = record { category = n.category.0; index = n.index }
