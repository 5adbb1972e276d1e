-- Two formulas that a connective joins, whichever it is.
use Rattle.std.proofs.Common.{◌≡◌, ◌+◌, ◌++◌, ◌⊎◌, ◌∙◌, ℕ, refl, ap, inl, inr}
use Rattle.olap_base.specs.Graph.{Graph}
use Rattle.olap_ast.specs.{Atoms.{comparisons, equalities}, Trees.formula_of, Valid.node_count}
use Rattle.olap_ast.specs.declared.formulas.Formula.{Formula}
use Rattle.olap_schema_text.specs.{Printing.{formula_text, joined_text}, Resolving.join}
use Rattle.olap_grammar.specs.declared.tokens.Joint.{Joint}
use Rattle.olap_ast.specs.Formula as Meaning
use Rattle.olap_grammar.specs.declared.tokens.Joint.TheVariants as joint

-- a tree of two parts is joined by its connective
pub joined_by : {a b c d e : Formula} (f : Formula) (x y : Meaning.Formula) → formula_of a ≡ join joint.And x y
    → formula_of b ≡ join joint.Or x y → formula_of c ≡ join joint.Implies x y → formula_of d ≡ join joint.Iff x y
    → formula_of e ≡ join joint.Xor x y
    → (f ≡ a) ⊎ ((f ≡ b) ⊎ ((f ≡ c) ⊎ ((f ≡ d) ⊎ (f ≡ e)))) → (j : Joint) × (formula_of f ≡ join j x y)
joined_by f x y p q r s t (inl h) = (joint.And, ap (λ (z : Formula). formula_of z) h ∙ p)
joined_by f x y p q r s t (inr (inl h)) = (joint.Or, ap (λ (z : Formula). formula_of z) h ∙ q)
joined_by f x y p q r s t (inr (inr (inl h))) = (joint.Implies, ap (λ (z : Formula). formula_of z) h ∙ r)
joined_by f x y p q r s t (inr (inr (inr (inl h)))) = (joint.Iff, ap (λ (z : Formula). formula_of z) h ∙ s)
joined_by f x y p q r s t (inr (inr (inr (inr h)))) = (joint.Xor, ap (λ (z : Formula). formula_of z) h ∙ t)

-- the same tree has as many nodes
pub counted : {x y : Formula} → x ≡ y → node_count (formula_of x) ≡ node_count (formula_of y)
counted e = ap (λ (z : Formula). node_count (formula_of z)) e

-- it has one node more than the two parts
pub joint_nodes : (j : Joint) (x y : Meaning.Formula) → node_count (join j x y) ≡ 1 + node_count x + node_count y
joint_nodes joint.And x y = refl
joint_nodes j x y = refl

-- its text is those of the two with the mark between
pub joint_text : (g : Graph) (r : ℕ) (j : Joint) (x y : Meaning.Formula)
    → formula_text g r (join j x y) ≡ joined_text j (formula_text g r x) (formula_text g r y)
joint_text g r joint.And x y = refl
joint_text g r j x y = refl

-- its atoms on texts are those of the two
pub joint_equalities : (j : Joint) (x y : Meaning.Formula) → equalities (join j x y) ≡ equalities x ++ equalities y
joint_equalities joint.And x y = refl
joint_equalities j x y = refl

-- and its atoms on numbers
pub joint_comparisons : (j : Joint) (x y : Meaning.Formula) → comparisons (join j x y) ≡ comparisons x ++ comparisons y
joint_comparisons joint.And x y = refl
joint_comparisons j x y = refl
