-- The numbers of a set.
use Rattle.std.specs.Prelude.{ℕ}
use Rattle.std.specs.FinSet as set
use Rattle.std.specs.Ordering.{nat_cmp}
use Rattle.olap_bits.specs.declared.sets.CatSet.{CatSet}
use Rattle.olap_bits.specs.CatSet.{numbers_of}

-- the numbers of a set; every public clause speaks of them
abbrev pub members : {W : ℕ} → CatSet W → set.FinSet nat_cmp
members s = numbers_of s.words
