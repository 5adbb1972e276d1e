-- Whether the first record is the header.
use Rattle.std.proofs.Common.{arith, ◌≡◌, ◌↔◌, ◌∷◌, Bool, ℕ, List, IsTrue}
use Rattle.std.proofs.lemmas.Slice.Eq.{bytes_eq-Decides, slice_eq-Decides}
use Rattle.olap_instance.specs.InstanceText.{header}
use Rattle.olap_records.specs.Tables.{begins_with}
use Rattle.olap_base.proofs.ListLemmas.{same_truth}

-- the test of the first record is the header's
pub header-is : (row : List (List ℕ)) (after : List (List (List ℕ))) (b : Bool) → IsTrue b ↔ (row ≡ header)
    → b ≡ begins_with header (row ∷ after)
header-is row after b h = grind (arith, slice_eq-Decides, bytes_eq-Decides, same_truth)
