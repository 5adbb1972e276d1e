-- The checks of a printed formula's tokens that look at no graph.
use Rattle.std.proofs.Common.{◌≡◌, ◌≤◌, ◌+◌, ℕ, ℤ, pos, false, List, [], ◌∷◌, ◌++◌, max, refl, append_assoc, append-nil, arith, sym, ◌∙◌, codes, nat_lt}
use Rattle.olap_base.specs.{Graph.{Graph, IsCategory, IsHierarchy}, Limits.most_depth}
use Rattle.olap_ast.specs.Formula.{Formula, Terms}
use Rattle.olap_ast.specs.Valid.{IsFormulaAt, depth_of, depth_of_terms, node_count, node_count_of_terms}
use Rattle.olap_numerals.specs.Comparing.{Op}
use Rattle.olap_grammar.specs.{Brackets.{is_close, is_open, opens_over}, Grammar.comparing, Nodes.nodes_of}
use Rattle.olap_grammar.specs.declared.tokens.{Joint.Joint, Token.Token}
use Rattle.olap_schema_text.proofs.PrintFormula.{spelt_is_formula}
use Rattle.olap_schema_text.proofs.PrintTokens.{joined_tokens, number_token, spelt, spelt_list, spelt_rest}
use Rattle.olap_schema_text.proofs.{ResolvedLemmas.{nodes_in, nodes_in_all}, ValidFormulas.form_nodes}
use Rattle.olap_schema_text.proofs.Written.{all_written, written}
use Rattle.olap_ast.specs.Formula as Meaning
use Rattle.olap_grammar.specs.declared.tokens.Token.TheVariants as token
use Rattle.olap_grammar.specs.declared.tokens.Mark.TheVariants as mark
use Rattle.olap_grammar.specs.declared.tokens.Joint.TheVariants as joint
use Rattle.olap_grammar.specs.declared.tokens.Version.TheVariants as version

-- ---- nodes

mutual
  -- the formula over words has as many nodes as the formula
  written_nodes : (g : Graph) (r : ℕ) (f : Formula) → nodes_in (written g r f) ≡ node_count f
  written_nodes g r (Meaning.Formula.Not f) = rw (written_nodes g r f) refl
  written_nodes g r (Meaning.Formula.And f h) = rw (written_nodes g r f, written_nodes g r h) refl
  written_nodes g r (Meaning.Formula.Or f h) = rw (written_nodes g r f, written_nodes g r h) refl
  written_nodes g r (Meaning.Formula.Implies f h) = rw (written_nodes g r f, written_nodes g r h) refl
  written_nodes g r (Meaning.Formula.Iff f h) = rw (written_nodes g r f, written_nodes g r h) refl
  written_nodes g r (Meaning.Formula.Xor f h) = rw (written_nodes g r f, written_nodes g r h) refl
  written_nodes g r (Meaning.Formula.One fs) = rw (all_nodes g r fs) refl
  written_nodes g r f = refl

  all_nodes : (g : Graph) (r : ℕ) (fs : Terms) → nodes_in_all (all_written g r fs) ≡ node_count_of_terms fs
  all_nodes g r Meaning.Terms.End = refl
  all_nodes g r (Meaning.Terms.More f fs) = rw (written_nodes g r f, all_nodes g r fs) refl

-- and so have its tokens
pub nodes_are : (g : Graph) → IsHierarchy g → (r : ℕ) → IsCategory g r → (f : Formula) → IsFormulaAt g r f
    → nodes_of version.Two (spelt g r f) ≡ node_count f
nodes_are g h r l f v = sym (form_nodes version.Two (spelt_is_formula g h r l f v)) ∙ written_nodes g r f

-- ---- brackets

-- one more of both brackets changes nothing
shifted : (o c : ℕ) (ts : List Token) → opens_over (o + 1) (c + 1) ts ≡ opens_over o c ts
unfolding opens_over
shifted o c [] = refl
shifted o c (token.Mark mark.Open ∷ ts) =
    let n : nat_lt ((c + 1) + most_depth) ((o + 1) + 1) ≡ nat_lt (c + most_depth) (o + 1) = grind (arith) in
    rw (n, shifted (o + 1) c ts) refl
shifted o c (token.Mark mark.Close ∷ ts) = shifted o (c + 1) ts
shifted o c (t ∷ ts) = shifted o c ts

-- where this many more may be open, these tokens open and close brackets in pairs
abbrev pub Balances : ℕ → List Token → Type 0
Balances d ts = (o c : ℕ) (us : List Token) → o + d ≤ c + most_depth → opens_over o c (ts ++ us) ≡ opens_over o c us

-- one bracket more is open
opened : (o c : ℕ) (ts : List Token) → o + 1 ≤ c + most_depth
    → opens_over o c (token.Mark mark.Open ∷ ts) ≡ opens_over (o + 1) c ts
unfolding opens_over
opened o c ts l = let n : nat_lt (c + most_depth) (o + 1) ≡ false = grind (arith) in rw n refl

-- and closed again
closed : (o c : ℕ) (us : List Token) → opens_over (o + 1) c (token.Mark mark.Close ∷ us) ≡ opens_over o c us
unfolding opens_over
closed o c us = shifted o c us

-- what is no bracket opens nothing
beside : (t : Token) (o c : ℕ) (us : List Token) → is_open t ≡ false → is_close t ≡ false
    → opens_over o c (t ∷ us) ≡ opens_over o c us
unfolding opens_over
beside (token.Mark mark.Open) o c us p q = absurd (cc)
beside (token.Mark mark.Close) o c us p q = absurd (cc)
beside t o c us p q = refl

-- nor does a comparison with a number
compared_on : (op : Op) (z : ℤ) (o c : ℕ) (us : List Token)
    → opens_over o c (token.Mark (comparing op) ∷ number_token z ∷ us) ≡ opens_over o c us
compared_on op z o c us = beside (token.Mark (comparing op)) o c (number_token z ∷ us) (opens_not op) (closes_not op)
    ∙ number_on z
  where
    opens_not : (op : Op) → is_open (token.Mark (comparing op)) ≡ false
    opens_not Op.Equal = refl
    opens_not op = refl

    closes_not : (op : Op) → is_close (token.Mark (comparing op)) ≡ false
    closes_not Op.Equal = refl
    closes_not op = refl

    number_on : (z : ℤ) → opens_over o c (number_token z ∷ us) ≡ opens_over o c us
    number_on (pos n) = beside _ o c us refl refl
    number_on z = beside _ o c us refl refl

module _ (g : Graph) (r : ℕ) where
  -- two formulas in brackets, joined
  both_balance : (j : Joint) (f h : Formula) → Balances (depth_of f) (spelt g r f) → Balances (depth_of h) (spelt g r h)
      → Balances (1 + max (depth_of f) (depth_of h)) (joined_tokens j (spelt g r f) (spelt g r h))
  both_balance j f h p q o c us b =
      let l = spelt g r f in
      let r = spelt g r h in
      let left = p (o + 1) c (token.Mark (mark.Joint j) ∷ (r ++ token.Mark mark.Close ∷ us)) (omega arith) in
      let right = q (o + 1) c (token.Mark mark.Close ∷ us) (omega arith) in
      simp append_assoc
      (opened o c (l ++ token.Mark (mark.Joint j) ∷ (r ++ token.Mark mark.Close ∷ us)) (omega arith) ∙ left
      ∙ beside (token.Mark (mark.Joint j)) (o + 1) c (r ++ token.Mark mark.Close ∷ us) refl refl ∙ right
      ∙ closed o c us)

  mutual
    -- a formula's brackets are in pairs, and no more are open than it has levels
    balances : (f : Formula) → Balances (depth_of f) (spelt g r f)
    balances (Meaning.Formula.Equals d k) o c us b =
        beside (token.Word _) o c (token.Mark mark.Equal ∷ token.Quoted k ∷ us) refl refl
        ∙ beside (token.Mark mark.Equal) o c (token.Quoted k ∷ us) refl refl ∙ beside (token.Quoted k) o c us refl refl
    balances (Meaning.Formula.Compare d op n) o c us b =
        beside (token.Word _) o c (token.Mark (comparing op) ∷ number_token n ∷ us) refl refl ∙ compared_on op n o c us
    balances (Meaning.Formula.Not f) o c us b =
        beside (token.Mark mark.Not) o c (spelt g r f ++ us) refl refl ∙ balances f o c us (omega arith)
    balances (Meaning.Formula.And f h) o c us b = both_balance joint.And f h (balances f) (balances h) o c us b
    balances (Meaning.Formula.Or f h) o c us b = both_balance joint.Or f h (balances f) (balances h) o c us b
    balances (Meaning.Formula.Implies f h) o c us b = both_balance joint.Implies f h (balances f) (balances h) o c us b
    balances (Meaning.Formula.Iff f h) o c us b = both_balance joint.Iff f h (balances f) (balances h) o c us b
    balances (Meaning.Formula.Xor f h) o c us b = both_balance joint.Xor f h (balances f) (balances h) o c us b
    balances (Meaning.Formula.One fs) o c us b =
        let list = list_balances fs (o + 1) c (token.Mark mark.Close ∷ us) (omega arith) in
        simp append_assoc
        (beside (token.Word (codes "one")) o c
        (token.Mark mark.Open ∷ (spelt_list g r fs ++ token.Mark mark.Close ∷ us)) refl refl
        ∙ opened o c (spelt_list g r fs ++ token.Mark mark.Close ∷ us) (omega arith) ∙ list ∙ closed o c us)
    balances f o c us b = beside (token.Word _) o c us refl refl

    list_balances : (fs : Terms) → Balances (depth_of_terms fs) (spelt_list g r fs)
    list_balances Meaning.Terms.End o c us b = refl
    list_balances (Meaning.Terms.More f fs) o c us b =
        simp append_assoc (balances f o c (spelt_rest g r fs ++ us) (omega arith)
        ∙ rest_balances fs o c us (omega arith))

    rest_balances : (fs : Terms) → Balances (depth_of_terms fs) (spelt_rest g r fs)
    rest_balances Meaning.Terms.End o c us b = refl
    rest_balances (Meaning.Terms.More f fs) o c us b =
        simp append_assoc (beside (token.Mark mark.Comma) o c (spelt g r f ++ (spelt_rest g r fs ++ us)) refl refl
        ∙ balances f o c (spelt_rest g r fs ++ us) (omega arith) ∙ rest_balances fs o c us (omega arith))

  -- no more brackets are open than the formula is deep
  pub few_open : (f : Formula) → depth_of f ≤ most_depth → opens_over 0 0 (spelt g r f) ≡ false
  unfolding opens_over
  few_open f l = let e = balances f 0 0 [] (omega arith) in rw (append-nil (spelt g r f)) at e
