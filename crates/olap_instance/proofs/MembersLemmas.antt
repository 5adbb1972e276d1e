-- Members and their parents.
use Rattle.std.proofs.Common.{◌≡◌, ◌<◌, ◌∷◌, ℕ, zero, suc, List, [], length, map, get_or, refl, ap, arith}
use Rattle.olap_base.specs.Instance.{Instance, member_at}
use Rattle.olap_instance.specs.Members.{with_parents}

-- members with parents are as many
pub length-with_parents : (ms : Instance) (ps : List (List ℕ)) → length ms ≡ length ps
    → length (with_parents ms ps) ≡ length ms
length-with_parents [] ps e = refl
length-with_parents (m ∷ ms) [] e = absurd (omega arith)
length-with_parents (m ∷ ms) (p ∷ ps) e = let h = length-with_parents ms ps (omega arith) in omega arith

-- the member at a place has the parents there
pub member_at-with_parents : (ms : Instance) (ps : List (List ℕ)) (x : ℕ) → length ms ≡ length ps → x < length ms
    → member_at (with_parents ms ps) x ≡ record (member_at ms x) { parents = get_or ps x [] }
member_at-with_parents [] ps x e l = absurd (omega arith)
member_at-with_parents (m ∷ ms) [] x e l = absurd (omega arith)
member_at-with_parents (m ∷ ms) (p ∷ ps) zero e l = refl
member_at-with_parents (m ∷ ms) (p ∷ ps) (suc x) e l = member_at-with_parents ms ps x (omega arith) (omega arith)

-- ids stay
pub ids-with_parents : (ms : Instance) (ps : List (List ℕ)) → length ms ≡ length ps
    → map (λ m. m.id) (with_parents ms ps) ≡ map (λ m. m.id) ms
ids-with_parents [] ps e = refl
ids-with_parents (m ∷ ms) [] e = absurd (omega arith)
ids-with_parents (m ∷ ms) (p ∷ ps) e = ap (λ (t : List (List ℕ)). m.id ∷ t) (ids-with_parents ms ps (omega arith))
