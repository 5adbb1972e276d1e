-- The inside of an id: its bytes, wherever they stand.
use Rattle.std.specs.Prelude.{ℕ, List}
use Rattle.olap_instance.specs.declared.ids.Bytes.{Bytes}
use Rattle.olap_instance.specs.declared.ids.Bytes.TheVariants.{Long, Short}
use Rattle.olap_instance.specs.declared.ids.Id.TheInside.{Inside}

-- the bytes, in the id itself or in memory of their own
abbrev pub bytes_of : Bytes → List ℕ
bytes_of (Short bytes) = bytes
bytes_of (Long bytes) = bytes.items

-- the bytes that an id stands for
abbrev pub bytes_of_id : Inside → List ℕ
bytes_of_id a = bytes_of a.bytes
