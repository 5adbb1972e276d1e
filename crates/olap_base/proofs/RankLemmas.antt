-- Lemmas on the order of ranks.
use Rattle.std.proofs.Common.{ℕ, List, [], ◌∷◌, refl, inr, ◌≡◌, inl, arith, ◌∙◌}
use Rattle.olap_base.specs.Ranks.{IsNotAfter}

-- a rank is not after itself
pub not_after_itself : (xs : List ℕ) → IsNotAfter xs xs
not_after_itself [] = tt
not_after_itself (x ∷ xs) = inr (refl, not_after_itself xs)

-- two ranks of which neither is after the other are equal
pub not_after_both : (xs ys : List ℕ) → IsNotAfter xs ys → IsNotAfter ys xs → xs ≡ ys
not_after_both [] [] a b = refl
not_after_both [] (y ∷ ys) a b = absurd b
not_after_both (x ∷ xs) [] a b = absurd a
not_after_both (x ∷ xs) (y ∷ ys) (inl l) (inl m) = absurd (omega arith)
not_after_both (x ∷ xs) (y ∷ ys) (inl l) (inr m) = let e = m.0 in absurd (omega arith)
not_after_both (x ∷ xs) (y ∷ ys) (inr l) (inl m) = let e = l.0 in absurd (omega arith)
not_after_both (x ∷ xs) (y ∷ ys) (inr l) (inr m) = let e = l.0 in let q = not_after_both xs ys l.1 m.1 in cc

-- the order of ranks is transitive
pub not_after_again : (xs ys zs : List ℕ) → IsNotAfter xs ys → IsNotAfter ys zs → IsNotAfter xs zs
not_after_again [] ys zs a b = tt
not_after_again (x ∷ xs) [] zs a b = absurd a
not_after_again (x ∷ xs) (y ∷ ys) [] a b = absurd b
not_after_again (x ∷ xs) (y ∷ ys) (z ∷ zs) (inl l) (inl m) = inl (omega arith)
not_after_again (x ∷ xs) (y ∷ ys) (z ∷ zs) (inl l) (inr m) = let e = m.0 in inl (omega arith)
not_after_again (x ∷ xs) (y ∷ ys) (z ∷ zs) (inr l) (inl m) = let e = l.0 in inl (omega arith)
not_after_again (x ∷ xs) (y ∷ ys) (z ∷ zs) (inr l) (inr m) = inr (l.0 ∙ m.0, not_after_again xs ys zs l.1 m.1)
