-- What all that the unknowns may turn out to be agree on.
use Rattle.std.proofs.Common.{◌≡◌, ◌↔◌, ◌+◌, ◌-◌, ◌^◌, ◌∙◌, ◌∷◌, ◌++◌, ℕ, zero, suc, min, length, length-append, List, [], Bool, true, false, if◌then◌else◌, ap, arith, refl, sym, subst}
use Rattle.std.{proofs.lemmas.List.Elements.filter-append, specs.Prelude.filter}
use Rattle.olap_ast.specs.ThreeValues.{Always, AlwaysBoth, AlwaysOne, IsAgreed, IsCount, MayAllBe, MayBe, ValuesAgree, common, exactly_one, is_unknown, is_yes, known, none, over, unknown_count, value_of, value_of_both, value_of_counts, value_of_one, yes_count}
use Rattle.olap_ast.specs.declared.three_values.Truth3.{Truth3, TheVariants.{No, Yes, Unknown}}

-- the value is that of a Boolean exactly if the Boolean is given
abbrev Agrees : (Bool → Type 0) → Truth3 → Type 0
Agrees Given v = (b : Bool) → (v ≡ known b) ↔ Given b

-- so it is agreed
agreed : (Given : Bool → Type 0) (v : Truth3) → Agrees Given v → IsAgreed Given v
agreed Given v a = record { yes = a true; no = a false }

-- a known truth is what all agree on
known_agrees : (c : Bool) → Agrees (λ b. c ≡ b) (known c)
known_agrees false false = (λ e. refl, λ e. refl)
known_agrees true true = (λ e. refl, λ e. refl)
known_agrees c b = (λ e. absurd (cc), λ e. absurd (cc))

-- two values have a known one in common where both are it
common_is : (u v : Truth3) (b : Bool) → (common u v ≡ known b) ↔ ((u ≡ known b) × (v ≡ known b))
common_is No No b = (λ e. (e, e), λ t. t.0)
common_is Yes Yes b = (λ e. (e, e), λ t. t.0)
common_is u v false = (λ e. absurd (cc), λ t. absurd (cc t.0))
common_is u v true = (λ e. absurd (cc), λ t. absurd (cc t.0))

-- ---- connectives

module _ (Given : Bool → Bool → Type 0) (f : Bool → Truth3) (each : (p : Bool) → Agrees (Given p) (f p)) where
  -- what holds given p holds given what is equal to p
  at : (b p q : Bool) → q ≡ p → Given p b → Given q b
  at b p q e g = subst (λ c. Given c b) (sym e) g

  -- what is common to all that a value may turn out to be
  over_agrees : (x : Truth3) → Agrees (λ b. (p : Bool) → MayBe x p → Given p b) (over x f)
  over_agrees No b = (λ e p m. at b false p m ((each false b).0 e), λ g. (each false b).1 (g false refl))
  over_agrees Yes b = (λ e p m. at b true p m ((each true b).0 e), λ g. (each true b).1 (g true refl))
  over_agrees Unknown b = (
    λ e p m. let t = (common_is (f false) (f true) b).0 e in any ((each false b).0 t.0) ((each true b).0 t.1) p,
    λ g. (common_is (f false) (f true) b).1 ((each false b).1 (g false tt), (each true b).1 (g true tt)),
  )
    where
      any : Given false b → Given true b → (p : Bool) → Given p b
      any g h false = g
      any g h true = h

-- a connective of one value
value_agrees : (f : Bool → Bool) (x : Truth3) → Agrees (Always f x) (value_of f x)
value_agrees f x = over_agrees (λ p b. f p ≡ b) (λ p. known (f p)) (λ p. known_agrees (f p)) x

-- a connective of two values
both_agree : (f : Bool → Bool → Bool) (x y : Truth3) → Agrees (AlwaysBoth f x y) (value_of_both f x y)
both_agree f x y b =
    let t = over_agrees (λ p b. (q : Bool) → MayBe y q → f p q ≡ b) (λ p. over y (λ q. known (f p q)))
    (λ p. over_agrees (λ q b. f p q ≡ b) (λ q. known (f p q)) (λ q. known_agrees (f p q)) y) x b in
    (λ e p q m n. t.0 e p m q n, λ g. t.1 (λ p m q n. g p q m n))

-- ---- lists

-- whether none of the values is true, and whether exactly one is
abbrev value_of_none : List Truth3 → Truth3
value_of_none [] = Yes
value_of_none (x ∷ xs) = over x (λ b. if b then No else value_of_none xs)

-- whether exactly one is
abbrev value_by_parts : List Truth3 → Truth3
value_by_parts [] = No
value_by_parts (x ∷ xs) = over x (λ b. if b then value_of_none xs else value_by_parts xs)

-- whatever the values turn out to be, the test answers b
abbrev AlwaysTests : (List Bool → Bool) → List Truth3 → Bool → Type 0
AlwaysTests test xs b = (bs : List Bool) → MayAllBe xs bs → test bs ≡ b

-- of a list that isn't empty, place by place
cons_agrees : (test : List Bool → Bool) (x : Truth3) (xs : List Truth3) (f : Bool → Truth3)
    → ((p : Bool) → Agrees (AlwaysTests (λ bs. test (p ∷ bs)) xs) (f p)) → Agrees (AlwaysTests test (x ∷ xs)) (over x f)
cons_agrees test x xs f each b =
    let t = over_agrees (λ p. AlwaysTests (λ bs. test (p ∷ bs)) xs) f each x b in
    (λ e. to (t.0 e), λ g. t.1 (λ p m bs n. g (p ∷ bs) (m, n)))
  where
    to : ((p : Bool) → MayBe x p → AlwaysTests (λ bs. test (p ∷ bs)) xs b) → AlwaysTests test (x ∷ xs) b
    to h [] m = absurd m
    to h (p ∷ bs) m = h p m.0 bs m.1

-- of the empty list
empty_agrees : (test : List Bool → Bool) → Agrees (AlwaysTests test []) (known (test []))
empty_agrees test b = (λ q. only ((known_agrees (test []) b).0 q), λ g. (known_agrees (test []) b).1 (g [] tt))
  where
    only : test [] ≡ b → AlwaysTests test [] b
    only q [] m = q
    only q (c ∷ bs) m = absurd m

-- where one is true, it is not so that none is
some_agrees : (xs : List Truth3) → Agrees (AlwaysTests (λ bs. none (true ∷ bs)) xs) No
some_agrees xs false = (λ e bs m. refl, λ g. refl)
some_agrees xs true = (λ e. absurd (cc), λ g. absurd (let e = g (least xs) (may xs) in cc))
  where
    least : List Truth3 → List Bool
    least [] = []
    least (x ∷ xs) = is_yes x ∷ least xs

    may : (xs : List Truth3) → MayAllBe xs (least xs)
    may [] = tt
    may (Unknown ∷ xs) = (tt, may xs)
    may (x ∷ xs) = (refl, may xs)

-- whether none is true
none_agrees : (xs : List Truth3) → Agrees (AlwaysTests none xs) (value_of_none xs)
none_agrees [] = empty_agrees none
none_agrees (x ∷ xs) = cons_agrees none x xs (λ b. if b then No else value_of_none xs) (each (none_agrees xs))
  where
    each : Agrees (AlwaysTests none xs) (value_of_none xs) → (p : Bool)
        → Agrees (AlwaysTests (λ bs. none (p ∷ bs)) xs) (if p then No else value_of_none xs)
    each a false = a
    each a true = some_agrees xs

-- whether exactly one is
parts_agree : (xs : List Truth3) → Agrees (AlwaysOne xs) (value_by_parts xs)
parts_agree [] = empty_agrees exactly_one
parts_agree (x ∷ xs) =
    cons_agrees exactly_one x xs (λ b. if b then value_of_none xs else value_by_parts xs) (each (parts_agree xs))
  where
    each : Agrees (AlwaysOne xs) (value_by_parts xs) → (p : Bool)
        → Agrees (AlwaysTests (λ bs. exactly_one (p ∷ bs)) xs) (if p then value_of_none xs else value_by_parts xs)
    each a false = a
    each a true = none_agrees xs

-- ---- by the two numbers

-- whether none is true, by the numbers of Yes and of Unknown
abbrev none_of_counts : ℕ → ℕ → Truth3
none_of_counts zero zero = Yes
none_of_counts zero (suc u) = Unknown
none_of_counts (suc y) u = No

-- the two numbers tell whether none is true
none_counted : (xs : List Truth3) → value_of_none xs ≡ none_of_counts (yes_count xs) (unknown_count xs)
none_counted (No ∷ xs) = none_counted xs
none_counted (Unknown ∷ xs) = ap (λ v. common v No) (none_counted xs) ∙ last (yes_count xs) (unknown_count xs)
  where
    last : (y u : ℕ) → common (none_of_counts y u) No ≡ none_of_counts y (suc u)
    last zero zero = refl
    last y u = refl
none_counted xs = refl

-- and whether exactly one is
parts_counted : (xs : List Truth3) → value_by_parts xs ≡ value_of_one xs
parts_counted [] = refl
parts_counted (No ∷ xs) = parts_counted xs
parts_counted (Yes ∷ xs) = none_counted xs ∙ first (yes_count xs) (unknown_count xs)
  where
    first : (y u : ℕ) → none_of_counts y u ≡ value_of_counts (suc y) u
    first zero zero = refl
    first y u = refl
parts_counted (Unknown ∷ xs) =
    ap (λ v. common v (value_of_none xs)) (parts_counted xs)
    ∙ ap (λ v. common (value_of_one xs) v) (none_counted xs) ∙ last (yes_count xs) (unknown_count xs)
  where
    last : (y u : ℕ) → common (value_of_counts y u) (none_of_counts y u) ≡ value_of_counts y (suc u)
    last zero zero = refl
    last (suc zero) zero = refl
    last y u = refl

-- what is computed is what all agree on
pub values_agree : ValuesAgree
values_agree = record {
  one = λ f x. agreed (Always f x) _ (value_agrees f x);
  both = λ f x y. agreed (AlwaysBoth f x y) _ (both_agree f x y);
  list = λ xs. subst (IsAgreed (AlwaysOne xs)) (parts_counted xs) (agreed (AlwaysOne xs) _ (parts_agree xs));
}

-- ---- the two numbers of a list

-- one more value adds to a number what it is itself
one_more : (p : Truth3 → Bool) (xs : List Truth3) (t : Truth3)
    → length (filter p (xs ++ t ∷ [])) ≡ length (filter p xs) + length (filter p (t ∷ []))
one_more p xs t = ap (λ ys. length ys) (filter-append p xs (t ∷ [])) ∙ length-append (filter p xs) (filter p (t ∷ []))

-- one more value
pub count_no : (xs : List Truth3) (t : Truth3) (y u : ℕ) → t ≡ No → IsCount xs y u → IsCount (xs ++ t ∷ []) y u
count_no xs t y u e c = subst (λ v. IsCount (xs ++ v ∷ []) y u) (sym e) (record {
  of_yes = omega (arith, one_more is_yes xs No, c.of_yes);
  of_unknown = omega (arith, one_more is_unknown xs No, c.of_unknown);
})

-- one more Yes
pub count_yes : (xs : List Truth3) (t : Truth3) (y u z : ℕ) → t ≡ Yes → z ≡ min (y + 1) (2 ^ 32 - 1) → IsCount xs y u
    → IsCount (xs ++ t ∷ []) z u
count_yes xs t y u z e q c = subst (λ v. IsCount (xs ++ v ∷ []) z u) (sym e) (record {
  of_yes = omega (arith, one_more is_yes xs Yes, c.of_yes, q);
  of_unknown = omega (arith, one_more is_unknown xs Yes, c.of_unknown);
})

-- one more Unknown
pub count_unknown : (xs : List Truth3) (t : Truth3) (y u z : ℕ) → t ≡ Unknown → z ≡ min (u + 1) (2 ^ 32 - 1)
    → IsCount xs y u → IsCount (xs ++ t ∷ []) y z
count_unknown xs t y u z e q c = subst (λ v. IsCount (xs ++ v ∷ []) y z) (sym e) (record {
  of_yes = omega (arith, one_more is_yes xs Unknown, c.of_yes);
  of_unknown = omega (arith, one_more is_unknown xs Unknown, c.of_unknown, q);
})

-- the value is the same where a number stands still
pub counts_are : (xs : List Truth3) (y u : ℕ) → IsCount xs y u → value_of_counts y u ≡ value_of_one xs
counts_are xs y u c = go y u (yes_count xs) (unknown_count xs) c.of_yes c.of_unknown
  where
    go : (y u m n : ℕ) → y ≡ min m (2 ^ 32 - 1) → u ≡ min n (2 ^ 32 - 1) → value_of_counts y u ≡ value_of_counts m n
    go zero zero zero zero e q = refl
    go zero (suc u) zero (suc n) e q = refl
    go (suc zero) zero (suc zero) zero e q = refl
    go (suc zero) (suc u) (suc zero) (suc n) e q = refl
    go (suc (suc y)) u (suc (suc m)) n e q = refl
    go y u m n e q = absurd (omega arith)
