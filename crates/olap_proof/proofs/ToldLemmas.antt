-- Values that aren't unknown.
--     formula_told     a formula is told where what it asks is
use Rattle.std.proofs.Common.{◌≡◌, ℕ, ℤ, zero, suc, List, [], ◌∷◌, Bool, true, false, refl, subst, sym, inl, inr, arith}
use Rattle.std.specs.Prelude.{Contains, ◌&&◌, ◌||◌, not}
use Rattle.olap_base.specs.Deciding.{contains_cases}
use Rattle.olap_ast.specs.Formula.{Formula, Formula.And, Formula.Compare, Formula.Equals, Formula.Falsity, Formula.Iff, Formula.Implies, Formula.Not, Formula.One, Formula.Or, Formula.Path, Formula.Reach, Formula.Truth, Formula.Via, Formula.Xor, Terms, Terms.End, Terms.More}
use Rattle.olap_ast.specs.{Frozen.Candidates, Schema.Constraint}
use Rattle.olap_ast.specs.ThreeValues.{iff, implies, known, unknown_count, value_of, value_of_both, value_of_counts, xor, yes_count}
use Rattle.olap_ast.specs.declared.three_values.Truth3.{Truth3, TheVariants.{No, Yes, Unknown}}
use Rattle.olap_eval.specs.Partial.{Agrees as Tells, Knowledge, value_along, value_at, values_of}
use Rattle.olap_numerals.specs.Comparing.{Op}
use Rattle.olap_proof.specs.{Closing.{IsUnmet, IsUnmetAt}, Places.Place, declared.forms.Form.Form}

-- ---- values that aren't unknown

-- the value is `Yes` or `No`
abbrev pub IsTold : Truth3 → Type 0
IsTold No = Unit {0}
IsTold Yes = Unit {0}
IsTold Unknown = ⊥

-- a truth value is told
known_told : (b : Bool) → IsTold (known b)
known_told true = tt
known_told false = tt

-- and so is what is made of a told one
one_told : (f : Bool → Bool) (x : Truth3) → IsTold x → IsTold (value_of f x)
one_told f No h = known_told (f false)
one_told f Yes h = known_told (f true)
one_told f Unknown h = absurd h

-- and of two
both_told : (f : Bool → Bool → Bool) (x y : Truth3) → IsTold x → IsTold y → IsTold (value_of_both f x y)
both_told f No No h i = known_told (f false false)
both_told f No Yes h i = known_told (f false true)
both_told f No Unknown h i = absurd i
both_told f Yes No h i = known_told (f true false)
both_told f Yes Yes h i = known_told (f true true)
both_told f Yes Unknown h i = absurd i
both_told f Unknown y h i = absurd h

-- of what is told and false nothing more is asked
and_told : (x y : Truth3) → IsTold x → (x ≡ Yes → IsTold y) → IsTold (value_of_both ◌&&◌ x y)
and_told No No h f = tt
and_told No Yes h f = tt
and_told No Unknown h f = tt
and_told Yes y h f = both_told ◌&&◌ Yes y tt (f refl)
and_told Unknown y h f = absurd h

-- and of counts without an unknown
counts_told : (y u : ℕ) → u ≡ 0 → IsTold (value_of_counts y u)
counts_told zero zero e = tt
counts_told (suc zero) zero e = tt
counts_told (suc (suc y)) u e = tt
counts_told zero (suc u) e = absurd (omega arith)
counts_told (suc zero) (suc u) e = absurd (omega arith)

-- what is told and isn't false is true
pub truth_told : (v : Truth3) (P : Type 0) → Tells v P → IsTold v → (v ≡ No → ⊥) → P
truth_told No P t h n = absurd (n refl)
truth_told Yes P t h n = t
truth_told Unknown P t h n = absurd h

-- where what is asked of the root's category and of those that it reaches is told, so is each formula
module _ (k : Knowledge) (Here : ℕ → Type 0) (edges : (a b : ℕ) → IsTold (k.edge a b))
    (reaching : (a b : ℕ) → Here a → IsTold (k.reaches a b)) (there : (a b : ℕ) → k.reaches a b ≡ Yes → Here b)
    (names : (a : ℕ) (text : List ℕ) → Here a → IsTold (k.name a text))
    (numbers : (a : ℕ) (op : Op) (n : ℤ) → Here a → IsTold (k.number a op n)) where
  along_told : (c : ℕ) (cs : List ℕ) → IsTold (value_along k c cs)
  along_told c [] = tt
  along_told c (d ∷ ds) = both_told ◌&&◌ (k.edge c d) (value_along k d ds) (edges c d) (along_told d ds)

  mutual
    pub formula_told : (c : ℕ) → Here c → (f : Formula) → IsTold (value_at k c f)
    formula_told c h Truth = tt
    formula_told c h Falsity = tt
    formula_told c h (Path cs) = along_told c cs
    formula_told c h (Reach d) = reaching c d h
    formula_told c h (Via d e) =
        and_told (k.reaches c d) (k.reaches d e) (reaching c d h) (λ y. reaching d e (there c d y))
    formula_told c h (Equals d text) =
        and_told (k.reaches c d) (k.name d text) (reaching c d h) (λ y. names d text (there c d y))
    formula_told c h (Compare d op n) =
        and_told (k.reaches c d) (k.number d op n) (reaching c d h) (λ y. numbers d op n (there c d y))
    formula_told c h (Not f) = one_told not (value_at k c f) (formula_told c h f)
    formula_told c h (And f g) =
        both_told ◌&&◌ (value_at k c f) (value_at k c g) (formula_told c h f) (formula_told c h g)
    formula_told c h (Or f g) =
        both_told ◌||◌ (value_at k c f) (value_at k c g) (formula_told c h f) (formula_told c h g)
    formula_told c h (Implies f g) =
        both_told implies (value_at k c f) (value_at k c g) (formula_told c h f) (formula_told c h g)
    formula_told c h (Iff f g) =
        both_told iff (value_at k c f) (value_at k c g) (formula_told c h f) (formula_told c h g)
    formula_told c h (Xor f g) =
        both_told xor (value_at k c f) (value_at k c g) (formula_told c h f) (formula_told c h g)
    formula_told c h (One ts) =
        counts_told (yes_count (values_of k c ts)) (unknown_count (values_of k c ts)) (none_unknown c h ts)

    none_unknown : (c : ℕ) → Here c → (ts : Terms) → unknown_count (values_of k c ts) ≡ 0
    none_unknown c h End = refl
    none_unknown c h (More f ts) = go (value_at k c f) (formula_told c h f) (none_unknown c h ts)
      where
        go : (v : Truth3) → IsTold v → unknown_count (values_of k c ts) ≡ 0
            → unknown_count (v ∷ values_of k c ts) ≡ 0
        go No t e = e
        go Yes t e = e
        go Unknown t e = absurd t

-- ---- constraints

-- a constraint that is unmet has a number
pub unmet_listed : (f : Form) (k : Candidates) (p : Place) (cs : List Constraint) (c : Constraint) → Contains cs c
    → IsUnmet f k p c → (n : ℕ) × IsUnmetAt f cs n k p
unmet_listed f k p [] c m h = absurd (omega (arith, m.1))
unmet_listed f k p (d ∷ cs) c m h = elim (contains_cases c d cs m) [
  | inl e ↦ (0, subst (λ x. IsUnmet f k p x) (sym e) h)
  | inr i ↦ let w = unmet_listed f k p cs c i h in (suc w.0, w.1)
]
