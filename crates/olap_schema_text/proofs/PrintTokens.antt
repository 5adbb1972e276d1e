-- The tokens that a printed formula is cut into.
use Rattle.std.specs.Prelude.{ℕ, ℤ, pos, negsuc, List, [], ◌∷◌, ◌++◌, codes}
use Rattle.olap_base.specs.Graph.{Graph}
use Rattle.olap_ast.specs.Formula.{Formula, Terms}
use Rattle.olap_numerals.specs.Numerals.{canonical}
use Rattle.olap_grammar.specs.{Grammar.comparing, declared.tokens.Joint.Joint, declared.tokens.Token.Token}
use Rattle.olap_schema_text.specs.Printing.{atom_word, compared_word}
use Rattle.olap_ast.specs.Formula as Meaning
use Rattle.olap_grammar.specs.declared.tokens.Token.TheVariants as token
use Rattle.olap_grammar.specs.declared.tokens.Mark.TheVariants as mark
use Rattle.olap_grammar.specs.declared.tokens.Joint.TheVariants as joint

-- the token of a number's canonical numeral
abbrev pub number_token : ℤ → Token
number_token (pos n) = token.Word (canonical (pos n))
number_token (negsuc n) = token.Signed (canonical (negsuc n))

-- two formulas in brackets with a connective between them
abbrev pub joined_tokens : Joint → List Token → List Token → List Token
joined_tokens j left right =
    token.Mark mark.Open ∷ (left ++ token.Mark (mark.Joint j) ∷ (right ++ token.Mark mark.Close ∷ []))

abbrev mutual
  -- a formula's tokens
  pub spelt : Graph → ℕ → Formula → List Token
  spelt g r Meaning.Formula.Truth = token.Word (codes "true") ∷ []
  spelt g r Meaning.Formula.Falsity = token.Word (codes "false") ∷ []
  spelt g r (Meaning.Formula.Path cs) = token.Word (atom_word g r 95 cs) ∷ []
  spelt g r (Meaning.Formula.Reach d) = token.Word (atom_word g r 46 (d ∷ [])) ∷ []
  spelt g r (Meaning.Formula.Via d e) = token.Word (atom_word g r 46 (d ∷ e ∷ [])) ∷ []
  spelt g r (Meaning.Formula.Equals d k) =
      token.Word (compared_word g r d) ∷ token.Mark mark.Equal ∷ token.Quoted k ∷ []
  spelt g r (Meaning.Formula.Compare d op n) =
      token.Word (compared_word g r d) ∷ token.Mark (comparing op) ∷ number_token n ∷ []
  spelt g r (Meaning.Formula.Not f) = token.Mark mark.Not ∷ spelt g r f
  spelt g r (Meaning.Formula.And f h) = joined_tokens joint.And (spelt g r f) (spelt g r h)
  spelt g r (Meaning.Formula.Or f h) = joined_tokens joint.Or (spelt g r f) (spelt g r h)
  spelt g r (Meaning.Formula.Implies f h) = joined_tokens joint.Implies (spelt g r f) (spelt g r h)
  spelt g r (Meaning.Formula.Iff f h) = joined_tokens joint.Iff (spelt g r f) (spelt g r h)
  spelt g r (Meaning.Formula.Xor f h) = joined_tokens joint.Xor (spelt g r f) (spelt g r h)
  spelt g r (Meaning.Formula.One fs) =
      token.Word (codes "one") ∷ token.Mark mark.Open ∷ (spelt_list g r fs ++ token.Mark mark.Close ∷ [])

  pub spelt_list : Graph → ℕ → Terms → List Token
  spelt_list g r Meaning.Terms.End = []
  spelt_list g r (Meaning.Terms.More f fs) = spelt g r f ++ spelt_rest g r fs

  pub spelt_rest : Graph → ℕ → Terms → List Token
  spelt_rest g r Meaning.Terms.End = []
  spelt_rest g r (Meaning.Terms.More f fs) = token.Mark mark.Comma ∷ (spelt g r f ++ spelt_rest g r fs)
