-- Lemmas on numbers, tests and options that std lacks.
use Rattle.std.proofs.Common.{◌≡◌, ◌||◌, Bool, true, false, refl, ◌≢◌, ◌==◌, ℕ, arith, ℤ, to_z, of_z, w64, ◌<◌, ◌⊎◌, ◌≤◌, suc, ◌+◌, ◌&&◌, cond, Option, None, Some, sym, ◌∙◌, ◌↔◌, List, [], ◌∷◌, subst, inl, inr, Result, Ok, Err}
use Rattle.std.{proofs.lemmas.Int.to_z-of_z, specs.Prelude.{not, IsTrue, is_some, IfOk}}
use Rattle.olap_base.specs.{OneFact.HoldsTimes, Views.{ExactlyOne, NoneOf}}
use mir.Val.{SFits}

-- or with false changes nothing
pub or_false : (b : Bool) → (b || false) ≡ b
or_false true = refl
or_false false = refl

-- or with true is true
pub or_true : (b : Bool) → (b || true) ≡ true
or_true true = refl
or_true false = refl

-- a number that tests unequal to 0 is not 0
pub not_zero : (n : ℕ) → (n == 0) ≡ false → n ≢ 0
not_zero n f e = cc (rw e at f)

-- a number equals itself
pub eqb_same : (c : ℕ) → (c == c) ≡ true
eqb_same c = grind arith

-- a function of two numbers of 64 bits sees them as they are
pub in_64_bits : (g : ℤ → ℤ → ℤ) (x y : ℤ) → SFits w64 x → SFits w64 y
    → g (to_z w64 (of_z w64 x)) (to_z w64 (of_z w64 y)) ≡ g x y
in_64_bits g x y p q = rw (to_z-of_z w64 x p, to_z-of_z w64 y q)

-- if `not a or b` is false, a is true
pub first_of_not_or : (u b : Bool) → (not u || b) ≡ false → u ≡ true
first_of_not_or true b e = refl
first_of_not_or false b e = absurd (cc)

-- one number is less than another, equal to it, or greater
pub less_equal_greater : (m n : ℕ) → (m < n) ⊎ ((m ≡ n) ⊎ (n < m))
less_equal_greater m n = grind arith

-- one number is at most another, or greater
pub at_most_or_greater : (n m : ℕ) → (n ≤ m) ⊎ (m < n)
at_most_or_greater n m = grind arith

-- what is below a successor is its number or below it
pub same_or_below_suc : (m j : ℕ) → m < suc j → (m ≡ j) ⊎ (m < j)
same_or_below_suc m j h = grind arith

-- what is below the next number is below the number or is it
pub below_or_same : (k i : ℕ) → k < i + 1 → (k < i) ⊎ (k ≡ i)
below_or_same k i l = grind arith

-- what is below the next number is the number or below it
pub same_or_below : (w k : ℕ) → w < k + 1 → (w ≡ k) ⊎ (w < k)
same_or_below w k h = grind arith

-- what is at most a number is less or equal
pub less_or_equal : (x y : ℕ) → x ≤ y → (x < y) ⊎ (x ≡ y)
less_or_equal x y l = grind arith

-- what is at most a number is equal or less
pub equal_or_less : (j x : ℕ) → j ≤ x → (j ≡ x) ⊎ (suc j ≤ x)
equal_or_less j x l = grind arith

-- three tests are not all true where the second is false
pub and_without_second : (a b c : Bool) → b ≡ false → a && (b && c) ≡ false
and_without_second true b c e = rw e refl
and_without_second false b c e = refl

-- None past a test means that the test failed and what follows is None
pub none_past : {K : Type 0} (b : Bool) (k : K) (o : Option K) → cond b (Some k) o ≡ None → (b ≡ false) × (o ≡ None)
none_past true k o e = absurd (cc)
none_past false k o e = (refl, e)

-- what a false test decides is not so
pub refuted : {P : Type 0} (r : Bool) → r ≡ false → IsTrue r ↔ P → P → ⊥
refuted r e d p = let z : false ≡ true = sym e ∙ d.1 p in cc

-- an option that is no value is None
pub none_from_never : {A : Type 0} (o : Option A) → ((x : A) → o ≡ Some x → ⊥) → o ≡ None
none_from_never None f = refl
none_from_never (Some x) f = absurd (f x refl)

-- an option that tests as none is None
pub none_from_is_some : {A : Type 0} (o : Option A) → is_some o ≡ false → o ≡ None
none_from_is_some None e = refl
none_from_is_some (Some x) e = cc e

-- equal options have equal values
pub some_same : {A : Type 0} (x y : A) → Some x ≡ Some y → x ≡ y
some_same x y q = cc

-- equivalence is transitive
pub iff_trans : {A B C : Type 0} → A ↔ B → B ↔ C → A ↔ C
iff_trans f g = (λ a. g.0 (f.0 a), λ c. f.1 (g.1 c))

-- either of two numbers of 64 bits has 64 bits
pub either_fits : (b : Bool) (x y : ℤ) → SFits w64 x → SFits w64 y → SFits w64 (cond b x y)
either_fits true x y p q = p
either_fits false x y p q = q

-- what follows from both of two facts of a result
pub both_ok : {A E : Type 0} (r : Result A E) (P Q R : A → Type 0) → ((a : A) → P a → Q a → R a) → IfOk r P
    → IfOk r Q → IfOk r R
both_ok (Ok a) P Q R f p q = f a p q
both_ok (Err e) P Q R f p q = p

-- what follows from a fact of a result
pub if_ok : {A E : Type 0} (r : Result A E) (P Q : A → Type 0) → ((a : A) → P a → Q a) → IfOk r P → IfOk r Q
if_ok (Ok a) P Q f p = f a p
if_ok (Err e) P Q f p = p

-- what holds of 0 in a list holds of none
pub none_times : {A : Type 0} (P : A → Type 0) (xs : List A) → HoldsTimes P xs 0 → NoneOf P xs
none_times P [] h = tt
none_times P (x ∷ xs) (inl t) = let z : 0 ≡ suc t.1 = t.2 in absurd (omega arith)
none_times P (x ∷ xs) (inr t) = (t.0, none_times P xs t.1)

-- what holds of 1 in a list holds of exactly one
pub one_time : {A : Type 0} (P : A → Type 0) (xs : List A) → HoldsTimes P xs 1 → ExactlyOne P xs
one_time P [] h = let z : 1 ≡ 0 = h in absurd (omega arith)
one_time P (x ∷ xs) (inl t) = let z : 1 ≡ suc t.1 = t.2 in let m : t.1 ≡ 0 = omega arith in
    inl (t.0, none_times P xs (subst (λ w. HoldsTimes P xs w) m t.3))
one_time P (x ∷ xs) (inr t) = inr (t.0, one_time P xs t.1)
