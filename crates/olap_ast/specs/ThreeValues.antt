-- Truth values of which some are unknown, and what connectives give of them.
--     MayBe            a value may turn out to be this Boolean
--     IsAgreed         the Boolean that is given always, else Unknown
--     Always           a connective gives this Boolean, whatever the value turns out to be
--     AlwaysBoth       the same of a connective of two
--     AlwaysOne        the same of `one(..)`
--     value_of         the value that is agreed, as a function
--     value_of_both    the same of a connective of two
--     value_of_one     the same of `one(..)`, by two numbers
--     ValuesAgree      these functions are what is agreed
use Rattle.std.specs.Prelude.{◌≡◌, ◌↔◌, ◌&&◌, ◌||◌, ◌-◌, ◌^◌, ℕ, zero, suc, List, [], ◌∷◌, Bool, true, false, not, min, filter, length, if◌then◌else◌}
use Rattle.olap_ast.specs.declared.three_values.Truth3.{Truth3}
use Rattle.olap_ast.specs.declared.three_values.Truth3.TheVariants.{No, Yes, Unknown}

-- the value may turn out to be this Boolean
abbrev pub MayBe : Truth3 → Bool → Type 0
MayBe No b = b ≡ false
MayBe Yes b = b ≡ true
MayBe Unknown b = Unit {0}

-- Yes exactly if true is given always, No exactly if false is, else Unknown
pub record IsAgreed (Given : Bool → Type 0) (value : Truth3) : Type 0 where
  pub yes : (value ≡ Yes) ↔ Given true
  pub no : (value ≡ No) ↔ Given false

-- ---- connectives

-- false only of true and false
abbrev pub implies : Bool → Bool → Bool
implies p q = not p || q

-- the two are equal
abbrev pub iff : Bool → Bool → Bool
iff p q = if p then q else not q

-- the two differ
abbrev pub xor : Bool → Bool → Bool
xor p q = not (iff p q)

-- the connective gives b, whatever the value turns out to be
abbrev pub Always : (Bool → Bool) → Truth3 → Bool → Type 0
Always f x b = (p : Bool) → MayBe x p → f p ≡ b

-- the connective gives b, whatever the two turn out to be
abbrev pub AlwaysBoth : (Bool → Bool → Bool) → Truth3 → Truth3 → Bool → Type 0
AlwaysBoth f x y b = (p q : Bool) → MayBe x p → MayBe y q → f p q ≡ b

-- none is true
abbrev pub none : List Bool → Bool
none [] = true
none (b ∷ bs) = not b && none bs

-- exactly one place is true
abbrev pub exactly_one : List Bool → Bool
exactly_one [] = false
exactly_one (b ∷ bs) = if b then none bs else exactly_one bs

-- the values may turn out to be these Booleans, place by place
abbrev pub MayAllBe : List Truth3 → List Bool → Type 0
MayAllBe [] [] = Unit {0}
MayAllBe [] (b ∷ bs) = ⊥
MayAllBe (x ∷ xs) [] = ⊥
MayAllBe (x ∷ xs) (b ∷ bs) = MayBe x b × MayAllBe xs bs

-- whether exactly one is true is b, however the unknowns turn out
abbrev pub AlwaysOne : List Truth3 → Bool → Type 0
AlwaysOne xs b = (bs : List Bool) → MayAllBe xs bs → exactly_one bs ≡ b

-- ---- the value that is agreed, as a function

-- the value of a Boolean that is known
abbrev pub known : Bool → Truth3
known false = No
known true = Yes

-- what two values agree on, else Unknown
abbrev pub common : Truth3 → Truth3 → Truth3
common No No = No
common Yes Yes = Yes
common x y = Unknown

-- what is common to all that a value may turn out to be
abbrev pub over : Truth3 → (Bool → Truth3) → Truth3
over No f = f false
over Yes f = f true
over Unknown f = common (f false) (f true)

-- the value of a connective of one value
abbrev pub value_of : (Bool → Bool) → Truth3 → Truth3
value_of f x = over x (λ p. known (f p))

-- the value of a connective of two
abbrev pub value_of_both : (Bool → Bool → Bool) → Truth3 → Truth3 → Truth3
value_of_both f x y = over x (λ p. over y (λ q. known (f p q)))

-- whether it is true
abbrev pub is_yes : Truth3 → Bool
is_yes Yes = true
is_yes x = false

-- whether it is unknown
abbrev pub is_unknown : Truth3 → Bool
is_unknown Unknown = true
is_unknown x = false

-- how many are true
abbrev pub yes_count : List Truth3 → ℕ
yes_count xs = length (filter is_yes xs)

-- how many are unknown
abbrev pub unknown_count : List Truth3 → ℕ
unknown_count xs = length (filter is_unknown xs)

-- whether exactly one is true, if this many are true and this many unknown
abbrev pub value_of_counts : ℕ → ℕ → Truth3
value_of_counts zero zero = No
value_of_counts (suc zero) zero = Yes
value_of_counts (suc (suc y)) u = No
value_of_counts y u = Unknown

-- the value of `one(..)`
abbrev pub value_of_one : List Truth3 → Truth3
value_of_one xs = value_of_counts (yes_count xs) (unknown_count xs)

-- the two numbers of the list, which stand still at their last value
pub record IsCount (xs : List Truth3) (y u : ℕ) : Type 0 where
  pub of_yes : y ≡ min (yes_count xs) (2 ^ 32 - 1)
  pub of_unknown : u ≡ min (unknown_count xs) (2 ^ 32 - 1)

-- each value is the one that is agreed
pub record ValuesAgree : Type 0 where
  pub one : (f : Bool → Bool) (x : Truth3) → IsAgreed (Always f x) (value_of f x)
  pub both : (f : Bool → Bool → Bool) (x y : Truth3) → IsAgreed (AlwaysBoth f x y) (value_of_both f x y)
  pub list : (xs : List Truth3) → IsAgreed (AlwaysOne xs) (value_of_one xs)
