-- The pieces of a word.
use Rattle.std.proofs.Common.{None, Some, ◌≡◌, ◌==◌, ◌<◌, ◌+◌, ℕ, true, false, List, length, arith, ap, ◌∙◌, refl}
use Rattle.std.{proofs.lemmas.List.Splits.length-slice_split, specs.Char.is_ascii_digit, specs.List.list_all}
use Rattle.std.specs.{Prelude.{◌&&◌, ◌∷◌, [], Bool, IsTrue, ◌↔◌, count_by}, Str.all_ascii_digits}
use Rattle.olap_grammar.specs.Words.{ends_of, path_of, pieces_of, reach_of}
use Rattle.olap_grammar.specs.Forms as words

-- there is at least one
pub some_pieces : (mark : ℕ) (w : List ℕ) (xs : List (List ℕ)) → xs ≡ pieces_of mark w → 0 < length xs
unfolding pieces_of
some_pieces mark w xs e = let l = ap length e ∙ length-slice_split (λ b. b == mark) w in omega arith

-- two tests of one fact are one
pub same_answer : {P : Type 0} (a b : Bool) → IsTrue a ↔ P → IsTrue b ↔ P → a ≡ b
same_answer true false p q = absurd (let e : false ≡ true = q.1 (p.0 refl) in cc)
same_answer false true p q = absurd (let e : false ≡ true = p.1 (q.0 refl) in cc)
same_answer a b p q = refl

-- there is one piece more than marks
pub pieces_count : (mark : ℕ) (w : List ℕ) → length (pieces_of mark w) ≡ count_by (λ b. b == mark) w + 1
unfolding pieces_of
pieces_count mark w = length-slice_split (λ b. b == mark) w

-- digits are tested one by one
pub each_is_digit : (ds : List ℕ) → list_all is_ascii_digit ds ≡ all_ascii_digits ds
each_is_digit [] = refl
each_is_digit (d ∷ ds) = ap (λ r. is_ascii_digit d && r) (each_is_digit ds)

-- a root and what stands after it are a path
pub path_on : (root : List ℕ) (mark : ℕ) (w : List ℕ)
    → path_of (root ∷ pieces_of mark w) ≡ Some (words.Atom.Path root (pieces_of mark w))
path_on root mark w = go (pieces_of mark w) (some_pieces mark w (pieces_of mark w) refl)
  where
    go : (ds : List (List ℕ)) → 0 < length ds → path_of (root ∷ ds) ≡ Some (words.Atom.Path root ds)
    go [] l = absurd (omega (arith, l))
    go (d ∷ ds) l = refl

-- more than three names are joined by no `.`
pub reach_on : (root d e : List ℕ) (mark : ℕ) (w : List ℕ) → reach_of (root ∷ d ∷ e ∷ pieces_of mark w) ≡ None
reach_on root d e mark w = go (pieces_of mark w) (some_pieces mark w (pieces_of mark w) refl)
  where
    go : (ds : List (List ℕ)) → 0 < length ds → reach_of (root ∷ d ∷ e ∷ ds) ≡ None
    go [] l = absurd (omega (arith, l))
    go (x ∷ ds) l = refl

-- more than two are compared with nothing
pub ends_on : (root d : List ℕ) (mark : ℕ) (w : List ℕ) → ends_of (root ∷ d ∷ pieces_of mark w) ≡ None
ends_on root d mark w = go (pieces_of mark w) (some_pieces mark w (pieces_of mark w) refl)
  where
    go : (ds : List (List ℕ)) → 0 < length ds → ends_of (root ∷ d ∷ ds) ≡ None
    go [] l = absurd (omega (arith, l))
    go (x ∷ ds) l = refl
