-- The constraint at a place of the list is unmet.
use Rattle.std.proofs.Common.{◌↔◌, ℕ, zero, suc, ◌<◌, List, [], ◌∷◌, length, get_or, arith}
use Rattle.olap_ast.specs.{Frozen.Candidates, Schema.Constraint}
use Rattle.olap_proof.specs.{Closing.{IsUnmet, IsUnmetAt}, Places.Place, declared.forms.Form.Form}

-- it is the one that stands there
pub unmet_at : (f : Form) (k : Candidates) (p : Place) (cs : List Constraint) (n : ℕ) (d : Constraint)
    → n < length cs → IsUnmet f k p (get_or cs n d) ↔ IsUnmetAt f cs n k p
unmet_at f k p [] n d l = absurd (omega (arith, l))
unmet_at f k p (c ∷ cs) zero d l = (λ h. h, λ h. h)
unmet_at f k p (c ∷ cs) (suc n) d l = unmet_at f k p cs n d (omega (arith, l))
