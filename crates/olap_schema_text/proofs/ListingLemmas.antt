-- One part more of a list of parts.
use Rattle.std.proofs.Common.{◌≡◌, ℕ, List, [], ◌∷◌, ◌++◌, Result, Ok, Err, map, refl, ap, sym}
use Rattle.olap_ast.{proofs.ListingLemmas.parts_before-push, specs.Listing.parts_before, specs.Trees.formula_of}
use Rattle.olap_ast.specs.declared.formulas.Formula.{Formula}
use Rattle.olap_base.specs.Following.{goes_on}
use Rattle.olap_ast.specs.Formula as Meaning

-- a list with these parts in front, or its fault
abbrev with_parts : List Formula → Result Meaning.Terms (List ℕ) → Result Meaning.Terms (List ℕ)
with_parts fs read = goes_on read (λ terms. Ok (parts_before (map formula_of fs) terms))

-- a part that is resolved comes after those that are
pub part_on : (whole left next rest : Result Meaning.Terms (List ℕ)) (first : Result Meaning.Formula (List ℕ))
    (parts more : List Formula) (f : Formula) → whole ≡ with_parts parts left
    → left ≡ goes_on first (λ x. goes_on rest (λ xs. Ok (Meaning.Terms.More x xs))) → first ≡ Ok (formula_of f)
    → next ≡ rest → more ≡ parts ++ f ∷ [] → whole ≡ with_parts more next
part_on whole left next rest first parts more f a b c d e = rw (a, b, c, d, e) (go rest)
  where
    go : (r : Result Meaning.Terms (List ℕ))
        → with_parts parts (goes_on r (λ xs. Ok (Meaning.Terms.More (formula_of f) xs)))
        ≡ with_parts (parts ++ f ∷ []) r
    go (Ok xs) = ap (λ terms. Ok terms) (sym (parts_before-push parts f xs))
    go (Err k) = refl
