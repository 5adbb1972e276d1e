-- Questions with the same atoms on names and numbers have the same names, and so share frozen dimensions where both are
-- true.
use Rattle.std.proofs.Common.{◌≡◌, ℕ, ℤ, suc, List, Bool, true, false, sym, subst, inl, inr}
use Rattle.olap_base.specs.Graph.{is_number}
use Rattle.olap_numerals.specs.Representatives.{AreNumberNames, IsNumberName}
use Rattle.olap_ast.proofs.ComparedLemmas.{atom_of_number, atom_of_text, number_of_atom, numbers_are, text_of_atom}
use Rattle.olap_ast.specs.Atoms.{comparisons, equalities}
use Rattle.olap_ast.specs.Constants.{HasKinds, IsConstant, IsFreshName, IsNameOf, fresh_candidate, numbers}
use Rattle.olap_ast.specs.Formula.{Constant.ANumber, Constant.AText, Formula, Holds}
use Rattle.olap_ast.specs.{Frozen.{AreCandidates, AreNamesOf, Candidates, Frozen, IsFrozen, thawed}, Schema.Schema}

module _ (s : Schema) (p q : Formula) (same : equalities p ≡ equalities q)
    (same_numbers : comparisons p ≡ comparisons q) where
  -- a text of one question is one of the other
  text_too : (d : ℕ) (text : List ℕ) → IsConstant s p d (AText text) → IsConstant s q d (AText text)
  text_too d text c = text_of_atom s q d text (rw same at (atom_of_text s p d text c))

  -- and back
  text_back : (d : ℕ) (text : List ℕ) → IsConstant s q d (AText text) → IsConstant s p d (AText text)
  text_back d text c = text_of_atom s p d text (rw same (atom_of_text s q d text c))

  -- a number of the other is one of this one
  number_back : (d : ℕ) (n : ℤ) → IsConstant s q d (ANumber n) → IsConstant s p d (ANumber n)
  number_back d n c = number_of_atom s p d n (rw same_numbers (atom_of_number s q d n c))

  -- what holds of the numbers of a category for one question holds for the other
  on_numbers : (P : List ℤ → Type 0) (d : ℕ) → P (numbers s p d) → P (numbers s q d)
  on_numbers P d h = subst P (sym (numbers_are s q d)) (rw same_numbers at (subst P (numbers_are s p d) h))

  -- a fresh name for one is fresh for the other
  fresh_too : (name : List ℕ) → IsFreshName s p name → IsFreshName s q name
  fresh_too name f = record {
    underscores = f.underscores;
    spelled = f.spelled;
    free = λ d c. f.free d (text_back d name c);
    first = λ m l. let t = f.first m l in
        (t.0, text_too t.0 (fresh_candidate m) t.1);
  }

  -- the kinds are those of the other
  pub kinds_too : HasKinds s p → HasKinds s q
  kinds_too h = record {
    texts = λ d text c. h.texts d text (text_back d text c);
    numbers = λ d n c. h.numbers d n (number_back d n c);
  }

  -- a category's names are those of the other
  names_too : (kind : Bool) (d : ℕ) (first : List ℕ) (others : List (List ℕ)) → AreNamesOf kind s p d first others
      → AreNamesOf kind s q d first others
  names_too false d first others a = (
    fresh_too first a.0,
    record {
      ordered = a.1.ordered;
      sound = λ text c. text_too d text (a.1.sound text c);
      complete = λ text c. a.1.complete text (text_back d text c);
    },
  )
  names_too true d first others a = on_numbers (λ ns. AreNumberNames ns first others) d a

  -- candidates for one are candidates for the other
  pub candidates_too : (k : Candidates) → AreCandidates s p k → AreCandidates s q k
  candidates_too k a = record {
    kinds = kinds_too a.kinds;
    names = λ c. names_too (is_number s.graph (suc c)) (suc c) (k.first (suc c)) (k.texts (suc c)) (a.names c);
  }

  -- a member's name for one is one for the other
  name_too : (kind : Bool) (d : ℕ) (name : List ℕ) → IsNameOf kind s p d name → IsNameOf kind s q d name
  name_too false d name n = elim n [
    | inl c ↦ inl (text_too d name c)
    | inr f ↦ inr (fresh_too name f)
  ]
  name_too true d name n = (n.0, on_numbers (λ ns. IsNumberName ns n.0) d n.1, n.2)

  -- a frozen dimension for one is one for the other, where its root meets that
  pub frozen_too : (r : ℕ) (k : Candidates) (f : Frozen) (t : IsFrozen s p r k f)
      → Holds (thawed s k r f) t.stands_for.root q → IsFrozen s q r k f
  frozen_too r k f t h = record {
    edge_count = t.edge_count;
    name_count = t.name_count;
    in_range = t.in_range;
    absent = t.absent;
    stands_for = record {
      legal = t.stands_for.legal;
      one_each = t.stands_for.one_each;
      root = t.stands_for.root;
      root_is = t.stands_for.root_is;
      reached = t.stands_for.reached;
      named = λ y m d. name_too _ _ _ (t.stands_for.named y m d);
      true_at_root = h;
    };
  }
