-- Tests of the tokens of a printed formula, where the tokens of its atoms are known to fail.
--     none_passes    no token of the formula passes
use Rattle.std.{proofs.Common.{◌≡◌, ℕ, Bool, false, List, [], ◌∷◌, ◌++◌, codes, refl}, specs.List.list_any}
use Rattle.olap_base.specs.Graph.{Graph}
use Rattle.olap_ast.specs.{Formula.{Formula, Terms}, Valid.{AreFormulasAt, IsFormulaAt}}
use Rattle.olap_grammar.specs.declared.tokens.{Joint.Joint, Mark.Mark, Token.Token}
use Rattle.olap_schema_text.proofs.{BackBytes.none-append, PrintTokens.{joined_tokens, spelt, spelt_list, spelt_rest}}
use Rattle.olap_ast.specs.Formula as Meaning
use Rattle.olap_grammar.specs.declared.tokens.Token.TheVariants as token
use Rattle.olap_grammar.specs.declared.tokens.Mark.TheVariants as mark
use Rattle.olap_grammar.specs.declared.tokens.Joint.TheVariants as joint

-- one token that fails in front
pub none-cons : {A : Type 0} (p : A → Bool) (x : A) (xs : List A) → p x ≡ false → list_any p xs ≡ false
    → list_any p (x ∷ xs) ≡ false
none-cons p x xs d e = rw d e

-- an atom, `true` or `false`
abbrev pub IsLeaf : Formula → Type 0
IsLeaf (Meaning.Formula.Not f) = ⊥
IsLeaf (Meaning.Formula.And f k) = ⊥
IsLeaf (Meaning.Formula.Or f k) = ⊥
IsLeaf (Meaning.Formula.Implies f k) = ⊥
IsLeaf (Meaning.Formula.Iff f k) = ⊥
IsLeaf (Meaning.Formula.Xor f k) = ⊥
IsLeaf (Meaning.Formula.One fs) = ⊥
IsLeaf f = Unit {0}

-- no mark, no token of a leaf and no `one` passes the test
pub record Spares (g : Graph) (r : ℕ) (p : Token → Bool) : Type 0 where
  pub marks : (m : Mark) → p (token.Mark m) ≡ false
  pub one : p (token.Word (codes "one")) ≡ false
  pub leaves : (f : Formula) → IsFormulaAt g r f → IsLeaf f → list_any p (spelt g r f) ≡ false

module _ (g : Graph) (r : ℕ) (p : Token → Bool) (s : Spares g r p) where
  marked : (m : Mark) (ts : List Token) → list_any p ts ≡ false → list_any p (token.Mark m ∷ ts) ≡ false
  marked m ts e = none-cons p (token.Mark m) ts (s.marks m) e

  closed : (ts : List Token) → list_any p ts ≡ false → list_any p (ts ++ token.Mark mark.Close ∷ []) ≡ false
  closed ts e = none-append p ts (token.Mark mark.Close ∷ []) e (marked mark.Close [] refl)

  joined : (j : Joint) (l k : List Token) → list_any p l ≡ false → list_any p k ≡ false
      → list_any p (joined_tokens j l k) ≡ false
  joined j l k d e =
      marked mark.Open (l ++ token.Mark (mark.Joint j) ∷ (k ++ token.Mark mark.Close ∷ []))
      (none-append p l (token.Mark (mark.Joint j) ∷ (k ++ token.Mark mark.Close ∷ [])) d
      (marked (mark.Joint j) (k ++ token.Mark mark.Close ∷ []) (closed k e)))

  mutual
    pub none_passes : (f : Formula) → IsFormulaAt g r f → list_any p (spelt g r f) ≡ false
    none_passes (Meaning.Formula.Not f) v = marked mark.Not (spelt g r f) (none_passes f v)
    none_passes (Meaning.Formula.And f k) v =
        joined joint.And (spelt g r f) (spelt g r k) (none_passes f v.0) (none_passes k v.1)
    none_passes (Meaning.Formula.Or f k) v =
        joined joint.Or (spelt g r f) (spelt g r k) (none_passes f v.0) (none_passes k v.1)
    none_passes (Meaning.Formula.Implies f k) v =
        joined joint.Implies (spelt g r f) (spelt g r k) (none_passes f v.0) (none_passes k v.1)
    none_passes (Meaning.Formula.Iff f k) v =
        joined joint.Iff (spelt g r f) (spelt g r k) (none_passes f v.0) (none_passes k v.1)
    none_passes (Meaning.Formula.Xor f k) v =
        joined joint.Xor (spelt g r f) (spelt g r k) (none_passes f v.0) (none_passes k v.1)
    none_passes (Meaning.Formula.One fs) v =
        none-cons p (token.Word (codes "one"))
        (token.Mark mark.Open ∷ (spelt_list g r fs ++ token.Mark mark.Close ∷ [])) s.one
        (marked mark.Open (spelt_list g r fs ++ token.Mark mark.Close ∷ [])
        (closed (spelt_list g r fs) (none_of_list fs v)))
    none_passes f v = s.leaves f v tt

    none_of_list : (fs : Terms) → AreFormulasAt g r fs → list_any p (spelt_list g r fs) ≡ false
    none_of_list Meaning.Terms.End v = refl
    none_of_list (Meaning.Terms.More f fs) v =
        none-append p (spelt g r f) (spelt_rest g r fs) (none_passes f v.0) (none_of_rest fs v.1)

    none_of_rest : (fs : Terms) → AreFormulasAt g r fs → list_any p (spelt_rest g r fs) ≡ false
    none_of_rest Meaning.Terms.End v = refl
    none_of_rest (Meaning.Terms.More f fs) v =
        marked mark.Comma (spelt g r f ++ spelt_rest g r fs)
        (none-append p (spelt g r f) (spelt_rest g r fs) (none_passes f v.0) (none_of_rest fs v.1))
