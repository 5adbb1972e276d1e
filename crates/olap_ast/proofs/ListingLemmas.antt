-- One more part at the end of those before.
use Rattle.std.proofs.Common.{◌≡◌, List, [], ◌∷◌, ◌++◌, map, refl, ap}
use Rattle.olap_ast.specs.{Listing.parts_before, Trees.formula_of, declared.formulas.Formula.Formula}
use Rattle.olap_ast.specs.Formula as Meaning

-- the parts and one more before some terms are the parts before that one and the terms
pub parts_before-push : (fs : List Formula) (f : Formula) (terms : Meaning.Terms) →
    parts_before (map formula_of (fs ++ f ∷ [])) terms
    ≡ parts_before (map formula_of fs) (Meaning.Terms.More (formula_of f) terms)
parts_before-push [] f terms = refl
parts_before-push (g ∷ fs) f terms = ap (Meaning.Terms.More (formula_of g)) (parts_before-push fs f terms)
