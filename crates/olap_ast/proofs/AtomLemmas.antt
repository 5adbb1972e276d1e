-- What holds of each atom of the constraints and of a question that are of the graph.
--     atoms_are_of    each atom of a formula of the graph is of the graph
--     all_each        so what holds of each atom on names that is holds of those of a schema and a question
use Rattle.std.proofs.Common.{◌≡◌, ℕ, List, [], ◌∷◌, true, false, get_or}
use Rattle.std.proofs.lemmas.List.Elements.{All-append, All-cons, All-contains, All-contains_itself, All-nil}
use Rattle.std.specs.Prelude.{All, Contains, flat_map, ◌≤◌, length}
use Rattle.olap_base.{proofs.ListLemmas.contains_head, specs.Deciding.contains_cons}
use Rattle.olap_base.specs.{Graph.{Graph, IsCategory, is_number}, Limits.most_text_bytes}
use Rattle.olap_numerals.specs.Numerals.{IsSmall}
use Rattle.olap_ast.{proofs.ComparedLemmas.text_of_atom, specs.Atoms.{Equality, all_equalities}}
use Rattle.olap_ast.specs.Constants.{HasKinds, all_compared}
use Rattle.olap_ast.specs.Formula.{Compared, Constant, Constant.ANumber, Constant.AText, Formula, Formula.And, Formula.Compare, Formula.Equals, Formula.Iff, Formula.Implies, Formula.Not, Formula.One, Formula.Or, Formula.Xor, Terms, Terms.End, Terms.More, compared, compared_in}
use Rattle.olap_ast.specs.{Schema.{Constraint, Schema}, Valid.{AreFormulasAt, IsFormulaAt}}

-- ---- the atoms of one formula

-- a constant with which the names of a category's members can be compared
abbrev Fits : Graph → ℕ → Constant → Type 0
Fits g d (AText k) = IsCategory g d × (is_number g d ≡ false) × (length k ≤ most_text_bytes)
Fits g d (ANumber n) = IsCategory g d × (is_number g d ≡ true) × IsSmall n

-- an atom is of the graph
abbrev IsOf : Graph → Compared → Type 0
IsOf g a = Fits g a.category a.constant

mutual
  -- each atom of a formula of the graph is of the graph
  atoms_are_of : (g : Graph) (r : ℕ) (f : Formula) → IsFormulaAt g r f → All (IsOf g) (compared f)
  atoms_are_of g r (Equals d k) v = All-cons (IsOf g) _ [] v (All-nil (IsOf g))
  atoms_are_of g r (Compare d op n) v = All-cons (IsOf g) _ [] v (All-nil (IsOf g))
  atoms_are_of g r (Not f) v = atoms_are_of g r f v
  atoms_are_of g r (And f h) v = All-append (IsOf g) _ _ (atoms_are_of g r f v.0) (atoms_are_of g r h v.1)
  atoms_are_of g r (Or f h) v = All-append (IsOf g) _ _ (atoms_are_of g r f v.0) (atoms_are_of g r h v.1)
  atoms_are_of g r (Implies f h) v = All-append (IsOf g) _ _ (atoms_are_of g r f v.0) (atoms_are_of g r h v.1)
  atoms_are_of g r (Iff f h) v = All-append (IsOf g) _ _ (atoms_are_of g r f v.0) (atoms_are_of g r h v.1)
  atoms_are_of g r (Xor f h) v = All-append (IsOf g) _ _ (atoms_are_of g r f v.0) (atoms_are_of g r h v.1)
  atoms_are_of g r (One ts) v = atoms_of_terms_are_of g r ts v
  atoms_are_of g r f v = All-nil (IsOf g)

  -- and of the parts of `one(..)`
  atoms_of_terms_are_of : (g : Graph) (r : ℕ) (ts : Terms) → AreFormulasAt g r ts → All (IsOf g) (compared_in ts)
  atoms_of_terms_are_of g r End v = All-nil (IsOf g)
  atoms_of_terms_are_of g r (More f ts) v =
      All-append (IsOf g) _ _ (atoms_are_of g r f v.0) (atoms_of_terms_are_of g r ts v.1)

-- ---- the atoms of the constraints and of a question

-- the constraints are of the graph
abbrev pub AreOf : Graph → List Constraint → Type 0
AreOf g cs = (c : Constraint) → Contains cs c → IsFormulaAt g c.root c.formula

-- each atom of them and of a question is of the graph
all_are_of : (g : Graph) (cs : List Constraint) (r : ℕ) (q : Formula) → AreOf g cs → IsFormulaAt g r q
    → All (IsOf g) (all_compared cs q)
all_are_of g cs r q f v = All-append (IsOf g) _ _ (constraints cs f) (atoms_are_of g r q v)
  where
    constraints : (cs : List Constraint) → AreOf g cs → All (IsOf g) (flat_map (λ c. compared c.formula) cs)
    constraints [] f = All-nil (IsOf g)
    constraints (c ∷ cs) f = All-append (IsOf g) _ _ (atoms_are_of g c.root c.formula (f c (contains_head c cs)))
        (constraints cs (λ d h. f d (contains_cons d cs c h)))

module _ (s : Schema) (r : ℕ) (q : Formula) (f : AreOf s.graph s.constraints) (v : IsFormulaAt s.graph r q) where
  -- so is each with one of their constants
  constant_fits : (d : ℕ) (k : Constant)
      → Contains (all_compared s.constraints q) (record { category = d; constant = k })
      → Fits s.graph d k
  constant_fits d k c = All-contains (IsOf s.graph) (all_compared s.constraints q) _
      (all_are_of s.graph s.constraints r q f v) c

  -- the atoms are of the kinds of their categories
  pub has_kinds : HasKinds s q
  has_kinds = record {
    texts = λ d k c. (constant_fits d (AText k) c).1;
    numbers = λ d n c. let t = constant_fits d (ANumber n) c in (t.1, t.2);
  }

-- it holds of each atom on names that is of the graph
abbrev pub OfNames : Graph → (Equality → Type 0) → Type 0
OfNames g P = (d : ℕ) (k : List ℕ) → IsCategory g d × (is_number g d ≡ false) × (length k ≤ most_text_bytes)
    → P (record { category = d; text = k })

-- so it holds of those of the constraints and of the question
pub all_each : (P : Equality → Type 0) (s : Schema) (r : ℕ) (q : Formula) → OfNames s.graph P
    → AreOf s.graph s.constraints → IsFormulaAt s.graph r q → All P (all_equalities s q)
all_each P s r q of f v i d l =
    let a = get_or (all_equalities s q) i d in
    of a.category a.text (constant_fits s r q f v a.category (AText a.text)
    (text_of_atom s q a.category a.text (All-contains_itself (all_equalities s q) i d l)))
