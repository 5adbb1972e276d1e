-- A formula over words has as many nodes as its tokens; a formula of a graph is one of a larger graph.
use Rattle.std.proofs.Common.{◌≡◌, ◌+◌, ℕ, false, cond, List, [], ◌∷◌, ◌++◌, Option, Some, None, append-nil, append_assoc, refl, ap, ◌∙◌, subst, arith}
use Rattle.std.specs.{Option.option_map, Prelude.codes}
use Rattle.olap_ast.specs.Formula.{Formula, Formula.Path, Formula.Reach, Formula.Via, Formula.Equals, Formula.Compare, Formula.Not, Formula.And, Formula.Or, Formula.Implies, Formula.Iff, Formula.Xor, Formula.One, Terms, Terms.End, Terms.More}
use Rattle.olap_ast.specs.Valid.{AreFormulasAt, IsFormulaAt}
use Rattle.olap_base.specs.{Chains.IsChain, Graph.{Graph, HasEdge, IsCategory, is_number}}
use Rattle.olap_numerals.specs.Comparing.{Op}
use Rattle.olap_grammar.specs.Forms.{Atom, Form, Forms}
use Rattle.olap_grammar.specs.Grammar.{IsFormula, IsFormula.looser, IsFormula.joined, IsFormula.negated, IsFormula.bracketed, IsFormula.listed, IsFormula.plain, IsFormula.equal, IsFormula.compared, IsItems, IsItems.last, IsItems.more, IsList, IsList.none, IsList.some, comparing, digits_of}
use Rattle.olap_grammar.specs.Nodes.{compares, is_node, nodes_behind, nodes_of}
use Rattle.olap_grammar.specs.{Words.{atoms_of, compare_of, equal_of, plain_of}, declared.tokens.Token.Token}
use Rattle.olap_grammar.specs.declared.tokens.Version.{Version}
use Rattle.olap_schema_text.proofs.ResolvedLemmas.{nodes_in, nodes_in_all}
use Rattle.olap_grammar.specs.Forms as words
use Rattle.olap_grammar.specs.declared.tokens.Token.TheVariants as token
use Rattle.olap_grammar.specs.declared.tokens.Mark.TheVariants as mark
use Rattle.olap_grammar.specs.declared.tokens.Version.TheVariants as version

-- ---- nodes

-- an atom is one node
atom_nodes : (o : Option Atom) (f : Form) → option_map words.Form.Of o ≡ Some f → nodes_in f ≡ 1
atom_nodes None f e = absurd (cc)
atom_nodes (Some a) f e = let s : words.Form.Of a ≡ f = cc in subst (λ x. nodes_in x ≡ 1) s refl

-- no tokens have none
no_nodes : (v : Version) → nodes_behind v false [] ≡ 0
unfolding nodes_behind
no_nodes v = refl

-- a token that doesn't compare in the second version, and isn't compared with
node_at : (v : Version) (t : Token) (ts : List Token) → compares version.Two t ≡ false
    → nodes_behind v false (t ∷ ts) ≡ cond (is_node t) 1 0 + nodes_behind v false ts
unfolding nodes_behind
node_at version.One t ts e = refl
node_at version.Two t ts e = ap (λ b. cond (is_node t) 1 0 + nodes_behind version.Two b ts) e

-- the word alone is a node of an equality
equal_nodes : (v : Version) (w k : List ℕ) (us : List Token)
    → nodes_behind v false (token.Word w ∷ token.Mark mark.Equal ∷ token.Quoted k ∷ us)
    ≡ 1 + (0 + (0 + nodes_behind v false us))
unfolding nodes_behind
equal_nodes version.One w k us = refl
equal_nodes version.Two w k us = refl

-- and of a comparison
compared_nodes : (op : Op) (t : Token) (w digits : List ℕ) (us : List Token) → digits_of t ≡ Some digits
    → nodes_behind version.Two false (token.Word w ∷ token.Mark (comparing op) ∷ t ∷ us)
    ≡ 1 + (0 + (0 + nodes_behind version.Two false us))
unfolding nodes_behind
compared_nodes Op.Equal (token.Word b) w digits us p = refl
compared_nodes Op.Equal (token.Signed b) w digits us p = refl
compared_nodes Op.Less (token.Word b) w digits us p = refl
compared_nodes Op.Less (token.Signed b) w digits us p = refl
compared_nodes Op.AtMost (token.Word b) w digits us p = refl
compared_nodes Op.AtMost (token.Signed b) w digits us p = refl
compared_nodes op b w digits us p = absurd (cc)

-- a word with a number is one
comparison_nodes : (v : Version) (op : Op) (t : Token) (w digits : List ℕ) (f : Form) (us : List Token)
    → digits_of t ≡ Some digits → option_map words.Form.Of (compare_of v w op digits) ≡ Some f
    → nodes_behind v false (token.Word w ∷ token.Mark (comparing op) ∷ t ∷ us)
    ≡ 1 + (0 + (0 + nodes_behind v false us))
comparison_nodes version.One op t w digits f us p e = absurd (cc)
comparison_nodes version.Two op t w digits f us p e = compared_nodes op t w digits us p

-- tokens in a bracket have their nodes
bracket_nodes : (v : Version) (ts us : List Token)
    → nodes_behind v false (token.Mark mark.Open ∷ ((ts ++ token.Mark mark.Close ∷ []) ++ us))
    ≡ nodes_behind v false (ts ++ token.Mark mark.Close ∷ us)
bracket_nodes v ts us = omega (
  arith,
  node_at v (token.Mark mark.Open) ((ts ++ token.Mark mark.Close ∷ []) ++ us) refl,
  ap (nodes_behind v false) (append_assoc ts (token.Mark mark.Close ∷ []) us),
)

module _ (v : Version) where
  mutual
    -- a formula has as many nodes as its tokens, whatever stands after them
    nodes_on : {n : ℕ} {ts : List Token} {f : Form} → IsFormula (atoms_of v) n ts f → (us : List Token)
        → nodes_behind v false (ts ++ us) ≡ nodes_in f + nodes_behind v false us
    nodes_on (looser d) us = nodes_on d us
    nodes_on (joined j {left = left} {right = right} {f = f} {g = k} d e) us =
        let more : List Token = token.Mark (mark.Joint j) ∷ (right ++ us) in
        omega (
          arith,
          ap (nodes_behind v false) (append_assoc left (token.Mark (mark.Joint j) ∷ right) us),
          nodes_on d more,
          node_at v (token.Mark (mark.Joint j)) (right ++ us) refl,
          nodes_on e us,
        )
    nodes_on (negated {ts = ts} d) us = omega (arith, node_at v (token.Mark mark.Not) (ts ++ us) refl, nodes_on d us)
    nodes_on (bracketed {ts = ts} d) us =
        omega (
          arith,
          bracket_nodes v ts us,
          nodes_on d (token.Mark mark.Close ∷ us),
          node_at v (token.Mark mark.Close) us refl,
        )
    nodes_on (listed {ts = ts} d) us =
        omega (
          arith,
          node_at v (token.Word (codes "one")) (token.Mark mark.Open ∷ ((ts ++ token.Mark mark.Close ∷ []) ++ us)) refl,
          bracket_nodes v ts us,
          list_nodes_on d (token.Mark mark.Close ∷ us),
          node_at v (token.Mark mark.Close) us refl,
        )
    nodes_on (plain {w = w} {f = f} e) us =
        omega (arith, node_at v (token.Word w) us refl, atom_nodes (plain_of w) f e)
    nodes_on (equal {w = w} {k = k} {f = f} e) us =
        omega (arith, equal_nodes v w k us, atom_nodes (equal_of w k) f e)
    nodes_on (compared op t {w = w} {digits = digits} {f = f} p e) us =
        omega (
          arith,
          comparison_nodes v op t w digits f us p e,
          atom_nodes (compare_of v w op digits) f e,
        )

    list_nodes_on : {ts : List Token} {fs : Forms} → IsList (atoms_of v) ts fs → (us : List Token)
        → nodes_behind v false (ts ++ us) ≡ nodes_in_all fs + nodes_behind v false us
    list_nodes_on none us = omega arith
    list_nodes_on (some d) us = items_nodes_on d us

    items_nodes_on : {ts : List Token} {fs : Forms} → IsItems (atoms_of v) ts fs → (us : List Token)
        → nodes_behind v false (ts ++ us) ≡ nodes_in_all fs + nodes_behind v false us
    items_nodes_on (last d) us = omega (arith, nodes_on d us)
    items_nodes_on (more {ts = ts} {us = vs} d e) us =
        omega (
          arith,
          ap (nodes_behind v false) (append_assoc ts (token.Mark mark.Comma ∷ vs) us),
          nodes_on d (token.Mark mark.Comma ∷ (vs ++ us)),
          node_at v (token.Mark mark.Comma) (vs ++ us) refl,
          items_nodes_on e us,
        )

  -- a formula has as many nodes as its tokens
  pub form_nodes : {n : ℕ} {ts : List Token} {f : Form} → IsFormula (atoms_of v) n ts f
      → nodes_in f ≡ nodes_of v ts
  form_nodes {ts = ts} d =
      omega (arith, nodes_on d [], ap (nodes_behind v false) (append-nil ts), no_nodes v)

-- ---- a larger graph

-- the one graph has the categories and edges of the other, of the same kinds, and it may be more
pub record IsWithin (g h : Graph) : Type 0 where
  pub categories : (c : ℕ) → IsCategory g c → IsCategory h c
  pub kinds : (c : ℕ) → IsCategory g c → is_number h c ≡ is_number g c
  pub edges : (c d : ℕ) → HasEdge g c d → HasEdge h c d

-- a chain of edges is one in a larger graph
chain_within : (g h : Graph) → IsWithin g h → (cs : List ℕ) → IsChain (HasEdge g) cs → IsChain (HasEdge h) cs
chain_within g h w (c ∷ d ∷ cs) t = (w.edges c d t.0, chain_within g h w (d ∷ cs) t.1)
chain_within g h w cs t = tt

module _ (g h : Graph) (within : IsWithin g h) (c : ℕ) where
  mutual
    -- a formula of a graph is one of a larger graph
    pub grown_is_valid : (f : Formula) → IsFormulaAt g c f → IsFormulaAt h c f
    grown_is_valid (Path cs) t = (t.0, chain_within g h within (c ∷ cs) t.1, t.2)
    grown_is_valid (Reach d) t = within.categories d t
    grown_is_valid (Via d e) t = (within.categories d t.0, within.categories e t.1)
    grown_is_valid (Equals d k) t = (within.categories d t.0, within.kinds d t.0 ∙ t.1, t.2)
    grown_is_valid (Compare d op n) t = (within.categories d t.0, within.kinds d t.0 ∙ t.1, t.2)
    grown_is_valid (Not f) t = grown_is_valid f t
    grown_is_valid (And f k) t = (grown_is_valid f t.0, grown_is_valid k t.1)
    grown_is_valid (Or f k) t = (grown_is_valid f t.0, grown_is_valid k t.1)
    grown_is_valid (Implies f k) t = (grown_is_valid f t.0, grown_is_valid k t.1)
    grown_is_valid (Iff f k) t = (grown_is_valid f t.0, grown_is_valid k t.1)
    grown_is_valid (Xor f k) t = (grown_is_valid f t.0, grown_is_valid k t.1)
    grown_is_valid (One ts) t = grown_are_valid ts t
    grown_is_valid f t = tt

    grown_are_valid : (ts : Terms) → AreFormulasAt g c ts → AreFormulasAt h c ts
    grown_are_valid End t = tt
    grown_are_valid (More f ts) t = (grown_is_valid f t.0, grown_are_valid ts t.1)
