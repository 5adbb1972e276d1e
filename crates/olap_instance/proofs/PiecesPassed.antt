-- What the pieces of a field so far have given.
use Rattle.std.proofs.{Common.{arith, ◌≡◌, ◌++◌, ◌∷◌, ◌∙◌, ℕ, List, [], map, Some, sym}, lemmas.List.map-append}
use Rattle.olap_base.specs.Naming.{place_of}
use Rattle.olap_records.proofs.Seeing.{HasSeen, see-all}
use Rattle.olap_instance.{proofs.PieceLemmas.places-read, specs.InstanceText.piece_fault, specs.Passes.AreParents}

-- one piece more names a member
pub places-more : (ids before : List (List ℕ)) (piece : List ℕ) (found now : List ℕ) (m : ℕ)
    → map (λ p. place_of p ids) before ≡ map Some found → place_of piece ids ≡ Some m → now ≡ found ++ m ∷ []
    → map (λ p. place_of p ids) (before ++ piece ∷ []) ≡ map Some now
places-more ids before piece found now m h ep en =
    map-append (λ p. place_of p ids) before (piece ∷ []) ∙ rw (h, ep, en) (sym (map-append Some found (m ∷ [])))

-- where all pieces have passed, the members that they name are the parents
pub passed-all : (ids ps before left : List (List ℕ)) (found : List ℕ) → HasSeen (piece_fault ids) ps before left
    → left ≡ [] → map (λ p. place_of p ids) before ≡ map Some found → AreParents ids ps found
passed-all ids ps before left found seen none h = grind (arith, see-all, places-read)
