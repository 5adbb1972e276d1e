-- Pieces joined by semicolons, and cut again.
use Rattle.std.proofs.Common.{◌≡◌, ◌≢◌, ◌+◌, ◌<◌, ◌++◌, ◌∷◌, ◌==◌, inl, inr, Bool, false, ℕ, zero, suc, List, [], length, take, get_or, if◌then◌else◌, refl, arith, append_assoc}
use Rattle.std.proofs.lemmas.{Bool.or_parts, Bool.Decides.eqb_tells, Grind.common_steps}
use Rattle.std.proofs.lemmas.List.{length-append, length-take-le, take_more, Splits.{slice_split_at, slice_split_none}}
use Rattle.std.proofs.lemmas.Str.{IsUtf8-append, IsUtf8-from_ascii, IsUtf8-nil, Ascii.IsAscii-from_all}
use Rattle.std.specs.{List.{join_with_byte, list_any, slice_split}, Prelude.All, Str.IsUtf8}
use Rattle.olap_base.specs.Bytes.{semicolon}
use Rattle.olap_instance.specs.InstanceText.{pieces_of}

-- one piece more, after others
join-next : (y : List ℕ) (ys : List (List ℕ)) (x : List ℕ)
    → join_with_byte semicolon (y ∷ (ys ++ x ∷ [])) ≡ join_with_byte semicolon (y ∷ ys) ++ semicolon ∷ x
join-next y [] x = refl
join-next y (z ∷ zs) x = search (append_assoc, join-next z zs x)

-- one piece more, after those before it
pub join-more : (ids : List (List ℕ)) (i : ℕ) (old new : List ℕ) → i < length ids → old
    ≡ join_with_byte semicolon (take i ids)
    → new ≡ old ++ (if i == 0 then get_or ids i [] else semicolon ∷ get_or ids i [])
    → new ≡ join_with_byte semicolon (take (i + 1) ids)
join-more ids i old new l eo en = grind (arith, common_steps, length-take-le, take_more, eqb_tells, join-next)

-- where none is so, each isn't
none-any : (f : ℕ → Bool) (xs : List ℕ) → list_any f xs ≡ false → All (λ x. f x ≡ false) xs
none-any f [] e i d l = absurd (omega arith)
none-any f (x ∷ xs) e zero d l = (or_parts (f x) (list_any f xs) e).0
none-any f (x ∷ xs) e (suc i) d l = none-any f xs (or_parts (f x) (list_any f xs) e).1 i d (omega arith)

-- a piece has a byte, and no semicolon
abbrev pub IsPiece : List ℕ → Type 0
IsPiece x = (length x ≢ 0) × (list_any (λ b. b == semicolon) x ≡ false)

-- joined pieces are cut into the same pieces
split-joined : (y : List ℕ) (ys : List (List ℕ)) → IsPiece y → All IsPiece ys
    → slice_split (λ b. b == semicolon) (join_with_byte semicolon (y ∷ ys)) ≡ y ∷ ys
split-joined y [] h t = slice_split_none (λ b. b == semicolon) y (none-any (λ b. b == semicolon) y h.1)
split-joined y (z ∷ zs) h t =
    grind (
      arith,
      slice_split_at,
      none-any,
      split-joined z zs (t 0 [] (omega arith)) (λ i d l. t (suc i) d (omega arith)),
    )

-- and are no empty text
some-byte : (y : List ℕ) (ys : List (List ℕ)) → IsPiece y → length (join_with_byte semicolon (y ∷ ys)) ≢ 0
some-byte y [] p = p.0
some-byte y (z ∷ zs) p = λ e. let n = length-append y (semicolon ∷ join_with_byte semicolon (z ∷ zs)) in omega arith

-- the pieces of joined pieces
pub pieces-joined : (xs : List (List ℕ)) → All IsPiece xs → pieces_of (join_with_byte semicolon xs) ≡ xs
pieces-joined [] h = refl
pieces-joined (y ∷ ys) h =
    let first : IsPiece y = h 0 [] (omega arith) in
    elim (eqb_tells (length (join_with_byte semicolon (y ∷ ys))) 0) [
      | inl t ↦ absurd (some-byte y ys first t.1)
      | inr f ↦ rw f.0 (split-joined y ys first (λ i d l. h (suc i) d (omega arith)))
    ]

-- a semicolon is ASCII
small : All (λ b. b < 128) (semicolon ∷ [])
small zero d l = omega arith
small (suc i) d l = absurd (omega arith)

-- and so UTF-8
semicolon-utf8 : IsUtf8 (semicolon ∷ [])
semicolon-utf8 = IsUtf8-from_ascii (semicolon ∷ []) (IsAscii-from_all (semicolon ∷ []) small)

-- joined texts of UTF-8 are UTF-8
pub utf8-joined : (xs : List (List ℕ)) → All IsUtf8 xs → IsUtf8 (join_with_byte semicolon xs)
utf8-joined [] h = IsUtf8-nil
utf8-joined (y ∷ []) h = h 0 [] (omega arith)
utf8-joined (y ∷ z ∷ zs) h =
    IsUtf8-append y (semicolon ∷ join_with_byte semicolon (z ∷ zs)) (h 0 [] (omega arith))
    (IsUtf8-append (semicolon ∷ []) (join_with_byte semicolon (z ∷ zs)) semicolon-utf8
    (utf8-joined (z ∷ zs) (λ i d l. h (suc i) d (omega arith))))
