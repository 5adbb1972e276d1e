-- Orders by this many words: those that the code takes one by one are those of all words.
use Rattle.std.proofs.Common.{◌≡◌, ◌<◌, ◌≤◌, ◌==◌, ℕ, List, [], ◌∷◌, false, cond, None, Some, length, ap, refl, sym, arith}
use Rattle.std.proofs.lemmas.Bool.{le-leb, Decides.nat_tests}
use Rattle.olap_order.specs.Arguments.{at_least, exactly}
use Rattle.olap_order.specs.{Behind.{by_four, by_one, by_three, by_three_or_more, by_two, by_two_or_more}, Order.Order}

-- a number isn't a smaller one
isnt_less : (m n : ℕ) → n < m → (m == n) ≡ false
isnt_less m n l = grind (arith, nat_tests)

module _ {Q : Type 0} (order : List (List ℕ) → Order Q) where
  -- more words than that are no command
  none_by : (n : ℕ) (words : List (List ℕ)) → n < length words → None ≡ exactly n order words
  none_by n words l = ap (λ b. cond b (Some (order words)) None) (sym (isnt_less (length words) n l))

  -- as many words or more are one
  some_by : (n : ℕ) (words : List (List ℕ)) → n ≤ length words → Some (order words) ≡ at_least n order words
  some_by n words l = ap (λ b. cond b (Some (order words)) None) (sym (le-leb n (length words) l))

  -- by one word
  pub one_is : (words : List (List ℕ)) → by_one (λ a. order (a ∷ [])) words ≡ exactly 1 order words
  one_is [] = refl
  one_is (a ∷ []) = refl
  one_is (a ∷ b ∷ more) = none_by 1 (a ∷ b ∷ more) (omega arith)

  -- by two
  pub two_is : (words : List (List ℕ)) → by_two (λ a b. order (a ∷ b ∷ [])) words ≡ exactly 2 order words
  two_is [] = refl
  two_is (a ∷ []) = refl
  two_is (a ∷ b ∷ []) = refl
  two_is (a ∷ b ∷ c ∷ more) = none_by 2 (a ∷ b ∷ c ∷ more) (omega arith)

  -- by three
  pub three_is : (words : List (List ℕ)) → by_three (λ a b c. order (a ∷ b ∷ c ∷ [])) words ≡ exactly 3 order words
  three_is [] = refl
  three_is (a ∷ []) = refl
  three_is (a ∷ b ∷ []) = refl
  three_is (a ∷ b ∷ c ∷ []) = refl
  three_is (a ∷ b ∷ c ∷ d ∷ more) = none_by 3 (a ∷ b ∷ c ∷ d ∷ more) (omega arith)

  -- by four
  pub four_is : (words : List (List ℕ))
      → by_four (λ a b c d. order (a ∷ b ∷ c ∷ d ∷ [])) words ≡ exactly 4 order words
  four_is [] = refl
  four_is (a ∷ []) = refl
  four_is (a ∷ b ∷ []) = refl
  four_is (a ∷ b ∷ c ∷ []) = refl
  four_is (a ∷ b ∷ c ∷ d ∷ []) = refl
  four_is (a ∷ b ∷ c ∷ d ∷ e ∷ more) = none_by 4 (a ∷ b ∷ c ∷ d ∷ e ∷ more) (omega arith)

  -- by two, and those after them
  pub two_or_more_is : (words : List (List ℕ))
      → by_two_or_more (λ a b more. order (a ∷ b ∷ more)) words ≡ at_least 2 order words
  two_or_more_is [] = refl
  two_or_more_is (a ∷ []) = refl
  two_or_more_is (a ∷ b ∷ more) = some_by 2 (a ∷ b ∷ more) (omega arith)

  -- by three, and those after them
  pub three_or_more_is : (words : List (List ℕ))
      → by_three_or_more (λ a b c more. order (a ∷ b ∷ c ∷ more)) words ≡ at_least 3 order words
  three_or_more_is [] = refl
  three_or_more_is (a ∷ []) = refl
  three_or_more_is (a ∷ b ∷ []) = refl
  three_or_more_is (a ∷ b ∷ c ∷ more) = some_by 3 (a ∷ b ∷ c ∷ more) (omega arith)
