-- One record more of a printed instance.
use Rattle.std.proofs.Common.{arith, ◌≡◌, ◌+◌, ◌<◌, ◌++◌, ◌∷◌, ◌∙◌, ℕ, List, [], length, map, take, get_or, refl, ap, subst}
use Rattle.std.proofs.lemmas.{Grind.common_steps, List.{map-append, take_more}, List.Elements.Contains-get_or}
use Rattle.std.specs.{List.join_with_byte, Prelude.{All, Contains, OnOk, Result}}
use Rattle.olap_base.{proofs.ListLemmas.Contains-map, specs.Bytes.semicolon, specs.Graph.Graph}
use Rattle.olap_base.specs.{Instance.{Instance, Member, member_at}, declared.ids.MemberId.MemberId}
use Rattle.olap_graph.specs.Lookups.{name_of_category}
use Rattle.olap_records.{proofs.ReadingBack.texts-push, specs.Texts.{text_of_row, text_of_rows}}
use Rattle.olap_instance.specs.Printing.{member_fields, parent_ids}

-- the text grew by one member's record
pub rows-more : (top : List (List ℕ)) (f : Member → List (List ℕ)) (ms : Instance) (k : ℕ) (out new : List ℕ)
    → k < length ms
    → out ≡ text_of_rows (top ∷ map f (take k ms)) → new ≡ out ++ text_of_row (f (member_at ms k))
    → new ≡ text_of_rows (top ∷ map f (take (k + 1) ms))
rows-more top f ms k out new l eo en = grind (arith, common_steps, take_more, map-append, texts-push)

-- the ids of the members that a list names
ids-named : (i : Instance) (ms : List MemberId)
    → map (λ m. (member_at i m.0).id) ms ≡ map (λ p. (member_at i p).id) (map (λ m. m.0) ms)
ids-named i [] = refl
ids-named i (m ∷ ms) = ap (λ (t : List (List ℕ)). (member_at i m.0).id ∷ t) (ids-named i ms)

-- the ids of parents are those of their places
pub parents-named : (i : Instance) (ms : List MemberId) (m : Member) → map (λ p. p.0) ms ≡ m.parents
    → map (λ m. (member_at i m.0).id) ms ≡ parent_ids i m
parents-named i ms m e = ids-named i ms ∙ ap (map (λ p. (member_at i p).id)) e

-- the members that a list names are inside
pub inside-all : (n : ℕ) (ms : List MemberId) (ps : List ℕ) → map (λ p. p.0) ms ≡ ps
    → ((y : ℕ) → Contains ps y → y < n) → All (λ m. m.0 < n) ms
inside-all n ms ps e h k d l =
    h (get_or ms k d).0
    (subst (λ t. Contains t (get_or ms k d).0) e
    (Contains-map (λ m. m.0) ms (get_or ms k d) (Contains-get_or ms k d l)))

-- a record of these fields is the member's
pub same-fields : (g : Graph) (i : Instance) (m : Member) (id category name parents : List ℕ) → id ≡ m.id
    → category ≡ name_of_category g m.category
    → name ≡ m.name → parents ≡ join_with_byte semicolon (parent_ids i m)
    → id ∷ category ∷ name ∷ parents ∷ [] ≡ member_fields g i m
same-fields g i m id category name parents a b c d = rw (a, b, c, d) refl

-- a row that was added is known by its fields
pub row-same : {T E : Type 0} (r : Result T E) (old new : List ℕ) (fields same : List (List ℕ)) → fields ≡ same
    → OnOk r (new ≡ old ++ text_of_row fields) → OnOk r (new ≡ old ++ text_of_row same)
row-same r old new fields same e h = subst (λ (t : List (List ℕ)). OnOk r (new ≡ old ++ text_of_row t)) e h
