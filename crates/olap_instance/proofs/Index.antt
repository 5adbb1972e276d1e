-- An index of ids: a look-up gives the place, and a new id goes last.
use Rattle.std.proofs.Common.{arith, ◌≡◌, ◌+◌, ◌∷◌, ◌++◌, ℕ, List, [], false, None, refl}
use Rattle.std.specs.{List.{list_any, position_from}, Str.bytes_eq}
use Rattle.indexmap.specs.IndexSet.{insert_key}
use Rattle.olap_base.specs.Naming.{place_of}

-- an id without a place is none of these
none-among : (q : List ℕ) (ids : List (List ℕ)) (n : ℕ) → position_from (bytes_eq q) n ids ≡ None
    → list_any (bytes_eq q) ids ≡ false
none-among q [] n e = refl
none-among q (id ∷ ids) n e = grind (arith, none-among q ids (n + 1))

-- an id that has no place goes last
pub id-last : (ids : List (List ℕ)) (id : List ℕ) → place_of id ids ≡ None → insert_key bytes_eq ids id ≡ ids ++ id ∷ []
id-last ids id none = rw (none-among id ids 0 none) refl
