-- One record more: it has no fault, and its member is the next.
use Rattle.std.proofs.{Common.{arith, ◌≡◌, ◌++◌, ◌∷◌, [], List, ℕ, refl}, lemmas.List.map-append}
use Rattle.olap_records.proofs.Seeing.{see-more}
use Rattle.olap_instance.proofs.entering.enter_rows.Goals as goal

pushed : (xs ys : List (List ℕ)) (x y : List ℕ) → xs ≡ ys → x ≡ y → xs ++ x ∷ [] ≡ ys ++ y ∷ []
pushed xs ys x y e f = rw (e, f) refl

pub rows-preserved : goal.rows-preserved
rows-preserved c = grind (arith, see-more, map-append, pushed)
