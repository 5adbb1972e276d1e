-- A field of a record, by std's word.
use Rattle.std.proofs.Common.{◌≡◌, ◌<◌, ◌∷◌, ℕ, zero, suc, List, [], length, slice_get, None, refl, sym, ◌∙◌}
use Rattle.std.proofs.lemmas.Option.{slice_get-get_or}
use Rattle.csv.specs.Records.{field_at}

-- csv's field of a record is std's element of a list
pub field-is : (fields : List (List ℕ)) (i : ℕ) → field_at fields i ≡ slice_get fields i
unfolding field_at
field-is [] i = refl
field-is (f ∷ fs) zero = refl
field-is (f ∷ fs) (suc i) = field-is fs i

-- a field below the number of fields is there
pub field-there : (fields : List (List ℕ)) (i : ℕ) → i < length fields → field_at fields i ≡ None → ⊥
field-there fields i h e = let s = slice_get-get_or fields i [] h in cc (sym (field-is fields i) ∙ e, s)
