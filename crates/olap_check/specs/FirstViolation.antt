-- The first violation of a law or a constraint, as a function. How it is found is hidden: it is what its laws say.
--     first_violation        the first violation, if there is one
--     first_violation_is     none exactly if the instance is legal, and else the first
--     first_violation_none   none, of a legal instance
--     first_violation_some   the first one, if there is a first one
use Rattle.std.proofs.Common.{◌≡◌, ℕ, zero, suc, List, [], ◌∷◌, refl, ap, sym, subst, ◌∙◌, inl, inr, arith}
use Rattle.std.specs.Prelude.{Option, Some, None, MatchOption}
use native.Mathlib.Decide.{ℕ_discrete}
use mathlib.Core.List.{List-discrete}
use Rattle.olap_base.specs.Instance.{Instance, IsInstance}
use Rattle.olap_base.specs.Deciding.{dec_and, dec_iff}
use Rattle.olap_numerals.specs.Named.{HasNumerals}
use Rattle.olap_ast.specs.Schema.{Schema, IsLegal}
use Rattle.olap_ast.specs.Violation.{Violation, Violation.NoEdge, Violation.NoParent, Violation.SameCategory, Violation.TwoAncestors, Violation.Shortcut, Violation.Unmet, IsViolation, IsFirstViolation, rank}
use Rattle.olap_base.specs.Ranks.{IsNotAfter}
use Rattle.olap_ast.proofs.Unviolated.{legal_exactly}
use Rattle.olap_ast.proofs.Least.{Fits, IsFirst, FirstOrNone, first_list}
use Rattle.olap_ast.proofs.Violated.{decide_violation, above_ranks, ranks_fit}

-- ---- violations by their ranks

-- the violation of a law's number and two places; the last law takes every other number
by_numbers : ℕ → ℕ → ℕ → Violation
by_numbers (suc zero) a b = NoEdge a b
by_numbers (suc (suc zero)) a b = NoParent a
by_numbers (suc (suc (suc zero))) a b = SameCategory a
by_numbers (suc (suc (suc (suc zero)))) a b = TwoAncestors a b
by_numbers (suc (suc (suc (suc (suc zero))))) a b = Shortcut a b
by_numbers n a b = Unmet a b

-- the violation of a rank
of_rank : List ℕ → Violation
of_rank (n ∷ a ∷ b ∷ xs) = by_numbers n a b
of_rank xs = NoParent 0

of_rank-rank : (v : Violation) → of_rank (rank v) ≡ v
unfolding of_rank by_numbers
of_rank-rank (NoEdge x k) = refl
of_rank-rank (NoParent x) = refl
of_rank-rank (SameCategory x) = refl
of_rank-rank (TwoAncestors x c) = refl
of_rank-rank (Shortcut x k) = refl
of_rank-rank (Unmet k x) = refl

-- violations of one rank are equal
same_rank : (v w : Violation) → rank v ≡ rank w → v ≡ w
same_rank v w e = sym (of_rank-rank v) ∙ ap of_rank e ∙ of_rank-rank w

-- lists neither of which comes after the other are equal
not_after_both : (xs ys : List ℕ) → IsNotAfter xs ys → IsNotAfter ys xs → xs ≡ ys
not_after_both [] [] a b = refl
not_after_both [] (y ∷ ys) a b = absurd b
not_after_both (x ∷ xs) [] a b = absurd a
not_after_both (x ∷ xs) (y ∷ ys) (inl l) (inl m) = absurd (omega arith)
not_after_both (x ∷ xs) (y ∷ ys) (inl l) (inr m) = let e = m.0 in absurd (omega arith)
not_after_both (x ∷ xs) (y ∷ ys) (inr l) (inl m) = let e = l.0 in absurd (omega arith)
not_after_both (x ∷ xs) (y ∷ ys) (inr l) (inr m) = let e = l.0 in let q = not_after_both xs ys l.1 m.1 in cc

-- there is one first violation at most
only_one : (s : Schema) (i : Instance) (v w : Violation) → IsFirstViolation s i v → IsFirstViolation s i w → v ≡ w
only_one s i v w f g =
    same_rank v w (not_after_both (rank v) (rank w) (f.least w g.is_one) (g.least v f.is_one))

-- ---- the first violation

-- a violation has this rank
abbrev HasRank : Schema → Instance → List ℕ → Type 0
HasRank s i xs = (v : Violation) × (rank v ≡ xs) × IsViolation s i v

-- whether a violation has this rank
decide_rank : (s : Schema) (i : Instance) (xs : List ℕ) → Dec (HasRank s i xs)
decide_rank s i xs = dec_iff (λ t. (of_rank xs, t.0, t.1)) (λ t. back t.0 t.1 t.2)
    (dec_and (List-discrete ℕ_discrete (rank (of_rank xs)) xs) (decide_violation s i (of_rank xs)))
  where
    back : (v : Violation) → rank v ≡ xs → IsViolation s i v → (rank (of_rank xs) ≡ xs) × IsViolation s i (of_rank xs)
    back v e h = let q : of_rank xs ≡ v = ap of_rank (sym e) ∙ of_rank-rank v in
        (ap rank q ∙ e, subst (λ w. IsViolation s i w) (sym q) h)

-- the violation of the first rank
answer : (s : Schema) (i : Instance) → FirstOrNone (HasRank s i) → Option Violation
answer s i (inl t) = Some t.1.has.0
answer s i (inr f) = None

-- the first rank of a violation, or none
find : (s : Schema) (i : Instance) → FirstOrNone (HasRank s i)
find s i = first_list 3 (above_ranks s i) (HasRank s i) (decide_rank s i)
    (λ xs t. subst (λ ys. Fits 3 (above_ranks s i) ys) t.1 (ranks_fit s i t.0 t.2))

-- the first violation of a law or a constraint, if there is one
pub first_violation : Schema → Instance → Option Violation
first_violation s i = answer s i (find s i)

-- a violation of the first rank is the first
first_of : (s : Schema) (i : Instance) (xs : List ℕ) (t : IsFirst (HasRank s i) xs) → IsFirstViolation s i t.has.0
first_of s i xs t = record {
  is_one = t.has.2;
  least = λ w h. subst (λ r. IsNotAfter r (rank w)) (sym t.has.1) (t.least (rank w) (w, refl, h));
}

-- an instance with numerals has none exactly if it is legal; else this is the first one
pub first_violation_is : (s : Schema) (i : Instance) → IsInstance i → HasNumerals s.graph i →
    MatchOption (first_violation s i) (IsLegal s i) (IsFirstViolation s i)
unfolding first_violation answer
first_violation_is s i v numerals = go (find s i)
  where
    go : (o : FirstOrNone (HasRank s i)) → MatchOption (answer s i o) (IsLegal s i) (IsFirstViolation s i)
    go (inl t) = first_of s i t.0 t.1
    go (inr f) = (legal_exactly s i v numerals).1 (λ w h. f (rank w) (w, refl, h))

-- of a legal instance there is none
pub first_violation_none : (s : Schema) (i : Instance) → IsLegal s i → first_violation s i ≡ None
unfolding first_violation answer
first_violation_none s i l = go (find s i)
  where
    go : (o : FirstOrNone (HasRank s i)) → answer s i o ≡ None
    go (inl t) = absurd ((legal_exactly s i l.is_instance l.numerals).0 l t.1.has.0 t.1.has.2)
    go (inr f) = refl

-- if there is a first one, it is that
pub first_violation_some : (s : Schema) (i : Instance) → IsInstance i → (v : Violation) → IsFirstViolation s i v →
    first_violation s i ≡ Some v
unfolding first_violation answer
first_violation_some s i n v h = go (find s i)
  where
    go : (o : FirstOrNone (HasRank s i)) → answer s i o ≡ Some v
    go (inl t) = ap Some (only_one s i t.1.has.0 v (first_of s i t.0 t.1) h)
    go (inr f) = absurd (f (rank v) (v, refl, h.is_one))

-- an instance with numerals has no first violation exactly if it is legal; else this is the first one
abbrev pub FirstViolationIsFirst : Type 0
FirstViolationIsFirst = (s : Schema) (i : Instance) → IsInstance i → HasNumerals s.graph i →
    MatchOption (first_violation s i) (IsLegal s i) (IsFirstViolation s i)
