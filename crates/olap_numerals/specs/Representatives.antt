-- Numbers that stand for all, where only comparisons with some constants are asked.
--     IsNumberName                  the number is one of those that names are made of
--     representative                the one that stands for a number
--     AreNumberNames                their numerals, ascending, the first and the others
--     RepresentativesAnswerAlike    the representative is one of them, and answers as the number does
--     NumberNamesExist              there are such numerals
use Rattle.std.specs.Prelude.{◌≡◌, ◌↔◌, ◌⊎◌, ◌+ℤ◌, ◌<ℤ◌, ◌≤ℤ◌, Bool, ℕ, ℤ, pos, negsuc, List, [], ◌∷◌, map, filter, fold, Option, Some, None, AllPairs, Contains, IsTrue, if◌then◌else◌}
use Rattle.std.specs.Int.{int_max, int_min}
use Rattle.std.specs.Int.Signed.{lt_z}
use Rattle.std.proofs.Math.IntN.{ℤ_discrete}
use Rattle.olap_base.specs.Deciding.{decide_contains, is_yes, is_yes_is}
use Rattle.olap_numerals.specs.Comparing.{Op, compares}
use Rattle.olap_numerals.specs.Numerals.{IsSmall, canonical}

-- the number is one of the constants, and none of these is less
pub record IsLeast (ns : List ℤ) (a : ℤ) : Type 0 where
  pub is_one : Contains ns a
  pub least : (n : ℤ) → Contains ns n → a ≤ℤ n

-- a constant, one more than a constant, one less than the least, or 0 if there are none
abbrev pub IsNear : List ℤ → ℤ → Type 0
IsNear ns a = Contains ns a ⊎ (((n : ℤ) × Contains ns n × (a ≡ n +ℤ pos 1))
    ⊎ (((n : ℤ) × IsLeast ns n × (a ≡ n +ℤ negsuc 0)) ⊎ ((ns ≡ []) × (a ≡ pos 0))))

-- a number that stands for others: near the constants, and within the bounds
abbrev pub IsNumberName : List ℤ → ℤ → Type 0
IsNumberName ns a = IsSmall a × IsNear ns a

-- their numerals, ascending by the numbers: the first, and the others
pub record AreNumberNames (ns : List ℤ) (first : List ℕ) (others : List (List ℕ)) : Type 0 where
  pub numbers : List ℤ
  pub spelled : first ∷ others ≡ map canonical numbers
  pub ascending : AllPairs ◌<ℤ◌ numbers
  pub sound : (a : ℤ) → Contains numbers a → IsNumberName ns a
  pub complete : (a : ℤ) → IsNumberName ns a → Contains numbers a

-- the numbers that names are made of, ascending
pub record AreRepresentatives (ns reps : List ℤ) : Type 0 where
  pub ascending : AllPairs ◌<ℤ◌ reps
  pub sound : (a : ℤ) → Contains reps a → IsNumberName ns a
  pub complete : (a : ℤ) → IsNumberName ns a → Contains reps a

-- a constant or one more than one, within the bounds
abbrev pub IsUpTo : List ℤ → ℤ → Type 0
IsUpTo ns a = IsSmall a × (Contains ns a ⊎ ((n : ℤ) × Contains ns n × (a ≡ n +ℤ pos 1)))

-- one less than the least, within the bounds, or 0 if there is none
abbrev pub IsLastNear : Option ℤ → ℤ → Type 0
IsLastNear None a = a ≡ pos 0
IsLastNear (Some n) a = IsSmall a × (a ≡ n +ℤ negsuc 0)

-- ---- the representative

-- the greatest of the numbers
abbrev pub greatest : List ℤ → Option ℤ
greatest [] = None
greatest (n ∷ ns) = Some (fold int_max n ns)

-- the least of the numbers
abbrev pub least : List ℤ → Option ℤ
least [] = None
least (n ∷ ns) = Some (fold int_min n ns)

-- one less than the number, or 0 if there is none
abbrev pub before_least : Option ℤ → ℤ
before_least None = pos 0
before_least (Some n) = n +ℤ negsuc 0

-- one more than the number; if there is none, what stands before the least
abbrev pub after_greatest : Option ℤ → Option ℤ → ℤ
after_greatest None l = before_least l
after_greatest (Some n) l = n +ℤ pos 1

-- whether it is one of the constants
pub is_number_constant : List ℤ → ℤ → Bool
is_number_constant ns a = is_yes (decide_contains ℤ_discrete ns a)

-- it is true exactly if the number is one of them
pub is_number_constant_is : (ns : List ℤ) (a : ℤ) → IsTrue (is_number_constant ns a) ↔ Contains ns a
unfolding is_number_constant
is_number_constant_is ns a = is_yes_is (decide_contains ℤ_discrete ns a)

-- a constant stands for itself, and else one more than the greatest constant below it
abbrev pub representative : List ℤ → ℤ → ℤ
representative ns a =
    if is_number_constant ns a then a else after_greatest (greatest (filter (λ n. lt_z n a) ns)) (least ns)

-- ---- what holds of them

-- all are within the bounds of numerals
abbrev pub AreSmall : List ℤ → Type 0
AreSmall ns = (n : ℤ) → Contains ns n → IsSmall n

-- the one answers each comparison with a constant as the other does
abbrev pub AnswersAlike : List ℤ → ℤ → ℤ → Type 0
AnswersAlike ns a b = (op : Op) (n : ℤ) → Contains ns n → compares op a n ≡ compares op b n

abbrev pub RepresentativesAnswerAlike : Type 0
RepresentativesAnswerAlike = (ns : List ℤ) (a : ℤ) → AreSmall ns → IsSmall a →
    IsNumberName ns (representative ns a) × AnswersAlike ns (representative ns a) a

abbrev pub NumberNamesExist : Type 0
NumberNamesExist = (ns : List ℤ) → AreSmall ns →
    (first : List ℕ) × (others : List (List ℕ)) × AreNumberNames ns first others
