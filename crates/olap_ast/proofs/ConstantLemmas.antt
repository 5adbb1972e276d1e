-- The atoms of the constraints and of the question compare names with constants alone.
use Rattle.std.proofs.{Common.{ℕ, ℤ, List}, lemmas.List.Elements.{Contains-append_left, Contains-append_right}}
use Rattle.std.specs.Prelude.{Contains, flat_map}
use Rattle.olap_base.proofs.ListLemmas.{Contains-flat_map}
use Rattle.olap_ast.{proofs.ComparedLemmas.{number_of_atom, text_of_atom}, specs.Atoms.{comparisons, equalities}}
use Rattle.olap_ast.specs.{Constants.IsConstant, Formula.{Formula, Constant.ANumber, Constant.AText}}
use Rattle.olap_ast.specs.Schema.{Schema, Constraint}

-- where the atom stands in a constraint
pub constant_in_constraint : (s : Schema) (q : Formula) (c : Constraint) → Contains s.constraints c →
    (d : ℕ) (text : List ℕ) → Contains (equalities c.formula) (record { category = d; text = text }) →
    IsConstant s q d (AText text)
constant_in_constraint s q c h d text a =
    text_of_atom s q d text (Contains-append_left (flat_map (λ (b : Constraint). equalities b.formula) s.constraints)
    (equalities q) (record { category = d; text = text })
    (Contains-flat_map (λ (b : Constraint). equalities b.formula) s.constraints c
    (record { category = d; text = text }) h a))

-- where it stands in the question
pub constant_in_question : (s : Schema) (q : Formula) (d : ℕ) (text : List ℕ) →
    Contains (equalities q) (record { category = d; text = text }) → IsConstant s q d (AText text)
constant_in_question s q d text a = text_of_atom s q d text
    (Contains-append_right (flat_map (λ (b : Constraint). equalities b.formula) s.constraints) (equalities q)
    (record { category = d; text = text }) a)

-- ---- numbers

-- where the atom stands in a constraint
pub number_in_constraint : (s : Schema) (q : Formula) (c : Constraint) → Contains s.constraints c →
    (d : ℕ) (n : ℤ) → Contains (comparisons c.formula) (record { category = d; number = n }) →
    IsConstant s q d (ANumber n)
number_in_constraint s q c h d n a =
    number_of_atom s q d n
    (Contains-append_left (flat_map (λ (b : Constraint). comparisons b.formula) s.constraints)
    (comparisons q) (record { category = d; number = n })
    (Contains-flat_map (λ (b : Constraint). comparisons b.formula) s.constraints c
    (record { category = d; number = n }) h a))

-- where it stands in the question
pub number_in_question : (s : Schema) (q : Formula) (d : ℕ) (n : ℤ) →
    Contains (comparisons q) (record { category = d; number = n }) → IsConstant s q d (ANumber n)
number_in_question s q d n a = number_of_atom s q d n
    (Contains-append_right (flat_map (λ (b : Constraint). comparisons b.formula) s.constraints) (comparisons q)
    (record { category = d; number = n }) a)
