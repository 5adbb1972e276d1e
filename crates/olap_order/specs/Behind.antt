-- The words after a command's name, one by one, as the code takes them.
--     by_one, by_two, by_three, by_four   an order that takes exactly that many words
--     by_two_or_more, by_three_or_more    that takes them and any number of words after them
--     another_category, categories_from   different categories, one after the other
use Rattle.std.specs.Prelude.{ℕ, List, [], ◌∷◌, ◌==◌, Option, None, Some}
use Rattle.olap_base.specs.Graph.{Graph}
use Rattle.olap_order.specs.Order.{Order}
use Rattle.olap_order.specs.Steps.{another, category_word, in_turn}

-- an order that takes exactly one word; with any other number of words it is no command
abbrev pub by_one : {Q : Type 0} → (List ℕ → Order Q) → List (List ℕ) → Option (Order Q)
by_one order (a ∷ []) = Some (order a)
by_one order words = None

-- exactly two
abbrev pub by_two : {Q : Type 0} → (List ℕ → List ℕ → Order Q) → List (List ℕ) → Option (Order Q)
by_two order (a ∷ b ∷ []) = Some (order a b)
by_two order words = None

-- exactly three
abbrev pub by_three : {Q : Type 0} → (List ℕ → List ℕ → List ℕ → Order Q) → List (List ℕ) → Option (Order Q)
by_three order (a ∷ b ∷ c ∷ []) = Some (order a b c)
by_three order words = None

-- exactly four
abbrev pub by_four : {Q : Type 0} → (List ℕ → List ℕ → List ℕ → List ℕ → Order Q) → List (List ℕ) → Option (Order Q)
by_four order (a ∷ b ∷ c ∷ d ∷ []) = Some (order a b c d)
by_four order words = None

-- two, and any number of words after them
abbrev pub by_two_or_more : {Q : Type 0} → (List ℕ → List ℕ → List (List ℕ) → Order Q) → List (List ℕ)
    → Option (Order Q)
by_two_or_more order (a ∷ b ∷ more) = Some (order a b more)
by_two_or_more order words = None

-- three, and any number of words after them
abbrev pub by_three_or_more : {Q : Type 0} → (List ℕ → List ℕ → List ℕ → List (List ℕ) → Order Q) → List (List ℕ)
    → Option (Order Q)
by_three_or_more order (a ∷ b ∷ c ∷ more) = Some (order a b c more)
by_three_or_more order words = None

-- ---- several categories

-- a category that isn't among the earlier ones; else the fault with the name `twice`
abbrev pub another_category : List ℕ → Graph → ℕ → List ℕ → List ℕ → Order ℕ
another_category twice g = another (λ d c. d == c) twice (category_word g)

-- the earlier categories and those of these words, from the word of this number on, all different
abbrev pub categories_from : List ℕ → Graph → ℕ → List ℕ → List (List ℕ) → Order (List ℕ)
categories_from twice g = in_turn (another_category twice g)
