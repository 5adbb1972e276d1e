-- A text that is cut at its marks, piece by piece.
use Rattle.std.proofs.Common.{◌≡◌, ◌+◌, ◌<◌, ◌∷◌, ◌∙◌, Bool, true, false, Bor, ℕ, List, [], cond, length, take, drop, nat_lt, Option, Some, None, IfSome, refl, ap, arith}
use Rattle.std.proofs.lemmas.{Bool.{le-ltb, ltb-false, ltb-true}, List.Splits.slice_split_first}
use Rattle.std.specs.List.{after_first, before_first, onto_first, position, position_or_len, slice_split}

-- nothing left counts 0, a text counts its length and one more
abbrev pub size_left : Option (Bor (List ℕ)) → ℕ
size_left None = 0
size_left (Some text) = length text.now + 1

module _ (p : ℕ → Bool) where
  -- a place is given only where the test is true, and is that place
  found-at : (b : Bool) (k i : ℕ) → cond b (Some k) None ≡ Some i → (b ≡ true) × (k ≡ i)
  found-at true k i e = (refl, cc)
  found-at false k i e = cc

  -- no place is given only where the test is false
  not-found : (b : Bool) (k : ℕ) → cond b (Some k) None ≡ None → b ≡ false
  not-found true k e = cc
  not-found false k e = refl

  -- by the first byte and the rest: a text in which no mark stands is one piece
  whole-step : (x : ℕ) (xs : List ℕ) (b : Bool) → p x ≡ b
      → nat_lt (position_or_len p (x ∷ xs)) (length (x ∷ xs)) ≡ false
      → (nat_lt (position_or_len p xs) (length xs) ≡ false → slice_split p xs ≡ xs ∷ [])
      → slice_split p (x ∷ xs) ≡ (x ∷ xs) ∷ []
  whole-step x xs true h e rest = let l = ltb-false 0 (length (x ∷ xs)) (rw h at e) in absurd (omega (arith, l))
  whole-step x xs false h e rest =
      let l = ltb-false (1 + position_or_len p xs) (length (x ∷ xs)) (rw h at e) in
      let below = le-ltb (position_or_len p xs) (length xs) (omega (arith, l)) in
      let one : slice_split p (x ∷ xs) ≡ onto_first x (slice_split p xs) = rw h refl in
      one ∙ ap (onto_first x) (rest below)

  -- where the first mark isn't before the end, the text is one piece
  whole-split : (xs : List ℕ) → nat_lt (position_or_len p xs) (length xs) ≡ false → slice_split p xs ≡ xs ∷ []
  whole-split [] e = refl
  whole-split (x ∷ xs) e = whole-step x xs (p x) refl e (whole-split xs)

  -- a text without a mark is one piece
  pub split-none : (xs : List ℕ) → position p xs ≡ None → slice_split p xs ≡ xs ∷ []
  split-none xs e = whole-split xs (not-found _ _ e)

  -- the first piece ends at the first mark, which stands before the end, and the others stand after it
  pub split-some : (xs : List ℕ) (i : ℕ) → position p xs ≡ Some i
      → (slice_split p xs ≡ take i xs ∷ slice_split p (drop (i + 1) xs)) × (i < length xs)
  split-some xs i e =
      let f = found-at _ _ i e in
      let l = ltb-true (position_or_len p xs) (length xs) f.0 in
      let cut : slice_split p xs ≡ before_first p xs ∷ slice_split p (after_first p xs) = slice_split_first p xs 0 l in
      (rw f.1 at cut, rw f.1 at l)

-- what stands after a piece is less than what it was cut from
pub smaller : (left others : Option (Bor (List ℕ))) (text : Bor (List ℕ)) → left ≡ Some text
    → IfSome others (λ o. length o.now < length text.now) → size_left others < size_left left
smaller left None text e l = rw e (omega arith)
smaller left (Some o) text e l = rw e (omega (arith, l))
