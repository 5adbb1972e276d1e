-- Nodes and open brackets, token by token.
use Rattle.std.proofs.Common.{◌≡◌, ◌+◌, ◌++◌, ◌∷◌, ℕ, zero, suc, Bool, true, false, cond, List, [], nat_lt, Some, refl, ap, arith}
use Rattle.std.proofs.lemmas.Bool.{ltb-false}
use Rattle.olap_numerals.specs.Comparing.{Op}
use Rattle.olap_base.specs.Limits.{most_depth}
use Rattle.olap_grammar.specs.{Brackets.{is_close, is_open, opens_over}, Grammar.{comparing, digits_of}}
use Rattle.olap_grammar.specs.{Nodes.{compares, is_node, nodes_behind, nodes_of}, declared.tokens.Token.Token}
use Rattle.olap_grammar.specs.declared.tokens.Version.{Version}
use Rattle.olap_grammar.specs.declared.tokens.Token.TheVariants as token
use Rattle.olap_grammar.specs.declared.tokens.Mark.TheVariants as mark
use Rattle.olap_grammar.specs.declared.tokens.Version.TheVariants as version

-- ---- nodes

-- a token that doesn't compare in the second version is a node or none, and what stands after it is counted by itself
pub node_at : (v : Version) (t : Token) (us : List Token) → compares version.Two t ≡ false
    → nodes_of v (t ∷ us) ≡ cond (is_node t) 1 0 + nodes_of v us
unfolding nodes_behind
node_at version.One t us e = refl
node_at version.Two t us e = ap (λ b. cond (is_node t) 1 0 + nodes_behind version.Two b us) e

-- no tokens have none
pub no_nodes : (v : Version) → nodes_of v [] ≡ 0
unfolding nodes_behind
no_nodes v = refl

-- after these tokens nodes are counted as by themselves
abbrev pub Adds : Version → List Token → Type 0
Adds v ts = (us : List Token) → nodes_of v (ts ++ us) ≡ nodes_of v ts + nodes_of v us

-- what stands after three tokens is counted by itself where the last doesn't compare
pub three_add : (v : Version) (t u w : Token) → compares v w ≡ false → Adds v (t ∷ u ∷ w ∷ [])
unfolding nodes_behind
three_add v t u w e us = rw e (omega arith)

-- nothing is compared with what comes after a string
pub quoted_ends : (v : Version) (k : List ℕ) → compares v (token.Quoted k) ≡ false
quoted_ends version.One k = refl
quoted_ends version.Two k = refl

-- nor after a number
pub number_ends : (v : Version) (t : Token) (digits : List ℕ) → digits_of t ≡ Some digits → compares v t ≡ false
number_ends version.One (token.Word w) digits e = refl
number_ends v (token.Quoted k) digits e = absurd cc
number_ends v (token.Mark m) digits e = absurd cc
number_ends v t digits e = refl

-- ---- brackets

-- after some tokens as many more may be opened, and with the rest too many are never open
pub record Goes (room : ℕ) (rest : List Token) : Type 0 where
  pub opened : ℕ
  pub closed : ℕ
  pub left : opened + room ≡ closed + most_depth
  pub on : opens_over opened closed rest ≡ false

-- after a `(` there is less room
pub opens : (room o c : ℕ) (rest : List Token) → o + room ≡ c + most_depth
    → opens_over o c (token.Mark mark.Open ∷ rest) ≡ false
    → (less : ℕ) × (room ≡ suc less) × (o + 1 + less ≡ c + most_depth) × (opens_over (o + 1) c rest ≡ false)
unfolding opens_over
opens room o c rest e h = go room (nat_lt (c + most_depth) (o + 1)) refl e h
  where
    go : (r : ℕ) (b : Bool) → nat_lt (c + most_depth) (o + 1) ≡ b → o + r ≡ c + most_depth
        → cond b true (opens_over (o + 1) c rest) ≡ false
        → (less : ℕ) × (r ≡ suc less) × (o + 1 + less ≡ c + most_depth) × (opens_over (o + 1) c rest ≡ false)
    go r true p f g = absurd (cc)
    go zero false p f g = let l = ltb-false (c + most_depth) (o + 1) p in absurd (omega (arith, l, f))
    go (suc less) false p f g = (less, refl, omega (arith, f), g)

-- after a `)` there is more room
pub closes : (room less o c : ℕ) (rest : List Token) → room ≡ suc less → o + less ≡ c + most_depth
    → opens_over o c (token.Mark mark.Close ∷ rest) ≡ false → Goes room rest
unfolding opens_over
closes room less o c rest r e h = record { opened = o; closed = c + 1; left = omega (arith, r, e); on = h }

-- what is no bracket changes nothing
pub passes : (o c : ℕ) (t : Token) (rest : List Token) → is_open t ≡ false → is_close t ≡ false
    → opens_over o c (t ∷ rest) ≡ false → opens_over o c rest ≡ false
unfolding opens_over
passes o c (token.Mark mark.Open) rest p q h = absurd cc
passes o c (token.Mark mark.Close) rest p q h = absurd cc
passes o c t rest p q h = h

-- nor a word with a string
pub equality_passes : (o c : ℕ) (w k : List ℕ) (rest : List Token)
    → opens_over o c (token.Word w ∷ token.Mark mark.Equal ∷ token.Quoted k ∷ rest) ≡ false
    → opens_over o c rest ≡ false
unfolding opens_over
equality_passes o c w k rest h = h

-- nor one with a number
pub number_passes : (o c : ℕ) (op : Op) (t : Token) (w digits : List ℕ) (rest : List Token) → digits_of t ≡ Some digits
    → opens_over o c (token.Word w ∷ token.Mark (comparing op) ∷ t ∷ rest) ≡ false → opens_over o c rest ≡ false
unfolding opens_over
number_passes o c Op.Equal (token.Word u) w digits rest e h = h
number_passes o c op (token.Quoted k) w digits rest e h = absurd cc
number_passes o c op (token.Mark m) w digits rest e h = absurd cc
number_passes o c op t w digits rest e h = h
