-- A formula that never opens too many brackets has few tokens for its nodes.
use Rattle.std.proofs.Common.{◌≡◌, ◌≤◌, ◌+◌, ◌*◌, ◌++◌, ◌∷◌, ◌∙◌, ℕ, zero, suc, false, List, [], length, refl, sym, ap, arith, append_assoc, append-nil}
use Rattle.std.proofs.{Math.Nat.{add-mul, mul-add}, lemmas.List.length-append}
use Rattle.olap_grammar.proofs.TokenLemmas.{node_at, no_nodes, Adds, three_add, quoted_ends, number_ends, Goes, opens, closes, passes, equality_passes, number_passes}
use Rattle.olap_grammar.specs.{Brackets.{most_tokens, opens_over}, Forms.{Form, Forms}}
use Rattle.olap_grammar.specs.Grammar.{Atoms, comparing, IsFormula, looser, joined, negated, bracketed, listed, plain, equal, compared, IsList, none, some, IsItems, last, more}
use Rattle.olap_grammar.specs.{Nodes.{compares, nodes_of}, declared.tokens.Joint.Joint, declared.tokens.Token.Token}
use Rattle.olap_grammar.specs.declared.tokens.Version.{Version}
use Rattle.olap_base.specs.Limits.{most_depth}
use Rattle.olap_grammar.specs.declared.tokens.Token.TheVariants as token
use Rattle.olap_grammar.specs.declared.tokens.Mark.TheVariants as mark
use Rattle.olap_grammar.specs.declared.tokens.Version.TheVariants as version

-- ---- products

-- with room for this many brackets more, tokens for each node
abbrev each : ℕ → ℕ
each room = 2 * room + 3

-- and a comma after a part
abbrev each_part : ℕ → ℕ
each_part room = 2 * room + 4

-- with room for one bracket more each node has two tokens more
more_room : (room n : ℕ) → each (suc room) * n ≡ each room * n + 2 * n
more_room room n =
    let e : each (suc room) ≡ each room + 2 = omega arith in
    ap (λ x. x * n) e ∙ add-mul (each room) 2 n

-- a part has its comma besides
with_comma : (room n : ℕ) → each_part room * n ≡ each room * n + n
with_comma room n =
    let e : each_part room ≡ each room + 1 = omega arith in
    omega (arith, (ap (λ x. x * n) e ∙ add-mul (each room) 1 n))

-- one node more
one_node : (x n : ℕ) → x * (1 + n) ≡ x + x * n
one_node x n = let e = mul-add x 1 n in omega (arith, e)

-- two formulas and the connective between them
joined_fits : (room n m l k : ℕ) → l ≤ each room * n → k ≤ each room * m
    → l + (1 + k) ≤ each room * (n + (1 + m))
joined_fits room n m l k h i = omega (arith, h, i, mul-add (each room) n (1 + m), one_node (each room) m)

-- a formula and its `!`
negated_fits : (room n l : ℕ) → l ≤ each room * n → 1 + l ≤ each room * (1 + n)
negated_fits room n l h = let e = one_node (each room) n in omega (arith, h, e)

-- a formula and two brackets
bracketed_fits : (room n l : ℕ) → 1 ≤ n → l ≤ each room * n → 2 + l ≤ each (suc room) * n
bracketed_fits room n l s h = let e = more_room room n in omega (arith, s, h, e)

-- parts, their brackets and the word before them
listed_fits : (room n l : ℕ) → l ≤ each_part room * n → 3 + l ≤ each (suc room) * (1 + n)
listed_fits room n l h = omega (arith, h, one_node (each (suc room)) n, more_room room n, with_comma room n)

-- the last part has no comma
last_fits : (room n l : ℕ) → l ≤ each room * n → l ≤ each_part room * n
last_fits room n l h = let e = with_comma room n in omega (arith, h, e)

-- a part, its comma, and the others
more_fits : (room n m l k : ℕ) → 1 ≤ n → l ≤ each room * n → k ≤ each_part room * m
    → l + (1 + k) ≤ each_part room * (n + m)
more_fits room n m l k s h i = omega (arith, s, h, i, mul-add (each_part room) n m, with_comma room n)

-- the three tokens of an atom
atom_fits : (room n : ℕ) → 1 ≤ n → 3 ≤ each room * n
atom_fits room zero h = absurd (omega (arith, h))
atom_fits room (suc n) h = let e = one_node (each room) n in omega (arith, e)

-- ---- formulas

-- a formula has few tokens, its brackets are closed after it, and no mark that compares stands at its end
record Fits (v : Version) (room : ℕ) (ts rest : List Token) : Type 0 where
  goes : Goes room rest
  adds : Adds v ts
  some : 1 ≤ nodes_of v ts
  few : length ts ≤ each room * nodes_of v ts

-- so do parts of a list, with their commas
record PartsFit (v : Version) (room : ℕ) (ts rest : List Token) : Type 0 where
  goes : Goes room rest
  adds : Adds v ts
  few : length ts ≤ each_part room * nodes_of v ts

-- nodes before and after a token that doesn't compare add up
between_adds : (v : Version) (t : Token) (left right : List Token) → compares version.Two t ≡ false → Adds v left
    → Adds v right → Adds v (left ++ t ∷ right)
between_adds v t left right n p q us =
    let e = ap (nodes_of v) (append_assoc left (t ∷ right) us) in
    omega (arith, e, p (t ∷ (right ++ us)), node_at v t (right ++ us) n, p (t ∷ right), node_at v t right n, q us)

-- the tokens in brackets, with the closing one
record InBrackets (v : Version) (ts : List Token) : Type 0 where
  nodes : nodes_of v (ts ++ token.Mark mark.Close ∷ []) ≡ nodes_of v ts
  all : length (ts ++ token.Mark mark.Close ∷ []) ≡ length ts + 1
  adds : Adds v (ts ++ token.Mark mark.Close ∷ [])

-- and so do those in brackets
in_brackets : (v : Version) (ts : List Token) → Adds v ts → InBrackets v ts
in_brackets v ts p =
    let n = p (token.Mark mark.Close ∷ []) in
    record {
      nodes = omega (arith, n, node_at v (token.Mark mark.Close) [] refl, no_nodes v);
      all = omega (arith, length-append ts (token.Mark mark.Close ∷ []));
      adds = between_adds v (token.Mark mark.Close) ts [] refl p (λ us. omega (arith, no_nodes v));
    }

-- after a token that doesn't compare
token_adds : (v : Version) (t : Token) (ts : List Token) → compares version.Two t ≡ false → Adds v ts → Adds v (t ∷ ts)
token_adds v t ts e p us = omega (arith, node_at v t (ts ++ us) e, node_at v t ts e, p us)

-- two formulas that fit, joined
fit_joined : (v : Version) (room : ℕ) (left right rest : List Token) (j : Joint)
    → Fits v room left (token.Mark (mark.Joint j) ∷ (right ++ rest))
    → Fits v room right rest → Fits v room (left ++ token.Mark (mark.Joint j) ∷ right) rest
fit_joined v room left right rest j h i =
    let s = h.some in
    let same : nodes_of v (left ++ token.Mark (mark.Joint j) ∷ right) ≡ nodes_of v left + (1 + nodes_of v right) =
    omega (arith, h.adds (token.Mark (mark.Joint j) ∷ right), node_at v (token.Mark (mark.Joint j)) right refl) in
    let b = joined_fits room (nodes_of v left) (nodes_of v right) (length left) (length right) h.few i.few in
    record {
      goes = i.goes;
      adds = between_adds v (token.Mark (mark.Joint j)) left right refl h.adds i.adds;
      some = omega (arith, same);
      few = rw same (omega (arith, length-append left (token.Mark (mark.Joint j) ∷ right), b));
    }

-- one, negated
fit_negated : (v : Version) (room : ℕ) (ts rest : List Token) → Fits v room ts rest
    → Fits v room (token.Mark mark.Not ∷ ts) rest
fit_negated v room ts rest h =
    let same : nodes_of v (token.Mark mark.Not ∷ ts) ≡ 1 + nodes_of v ts = node_at v (token.Mark mark.Not) ts refl in
    record {
      goes = h.goes;
      adds = token_adds v (token.Mark mark.Not) ts refl h.adds;
      some = omega (arith, same);
      few = rw same (omega (arith, negated_fits room (nodes_of v ts) (length ts) h.few));
    }

-- a bound for what room and nodes are
as_many : (v : Version) (room less : ℕ) (us : List Token) (n : ℕ) → room ≡ suc less → nodes_of v us ≡ n
    → length us ≤ each (suc less) * n → length us ≤ each room * nodes_of v us
as_many v room less us n r e h = rw (r, e) h

-- one with room for a bracket less, in brackets
fit_bracketed : (v : Version) (room less : ℕ) (ts rest : List Token) → room ≡ suc less → Goes room rest
    → Fits v less ts (token.Mark mark.Close ∷ rest)
    → Fits v room (token.Mark mark.Open ∷ (ts ++ token.Mark mark.Close ∷ [])) rest
fit_bracketed v room less ts rest r g h =
    let us : List Token = token.Mark mark.Open ∷ (ts ++ token.Mark mark.Close ∷ []) in
    let t = in_brackets v ts h.adds in
    let n = node_at v (token.Mark mark.Open) (ts ++ token.Mark mark.Close ∷ []) refl in
    let same : nodes_of v us ≡ nodes_of v ts = omega (arith, n, t.nodes) in
    let b = bracketed_fits less (nodes_of v ts) (length ts) h.some h.few in
    let few : length us ≤ each (suc less) * nodes_of v ts = omega (arith, t.all, b) in
    record {
      goes = g;
      adds = token_adds v (token.Mark mark.Open) (ts ++ token.Mark mark.Close ∷ []) refl t.adds;
      some = omega (arith, same, h.some);
      few = as_many v room less us (nodes_of v ts) r same few;
    }

-- parts, in brackets
fit_listed : (v : Version) (room less : ℕ) (w : List ℕ) (ts rest : List Token) → room ≡ suc less → Goes room rest
    → PartsFit v less ts (token.Mark mark.Close ∷ rest)
    → Fits v room (token.Word w ∷ token.Mark mark.Open ∷ (ts ++ token.Mark mark.Close ∷ [])) rest
fit_listed v room less w ts rest r g h =
    let vs : List Token = token.Mark mark.Open ∷ (ts ++ token.Mark mark.Close ∷ []) in
    let t = in_brackets v ts h.adds in
    let n = node_at v (token.Mark mark.Open) (ts ++ token.Mark mark.Close ∷ []) refl in
    let m = node_at v (token.Word w) vs refl in
    let same : nodes_of v (token.Word w ∷ vs) ≡ 1 + nodes_of v ts = omega (arith, n, m, t.nodes) in
    let b = listed_fits less (nodes_of v ts) (length ts) h.few in
    let few : length (token.Word w ∷ vs) ≡ 3 + length ts = omega (arith, t.all) in
    let all : length (token.Word w ∷ vs) ≤ each (suc less) * (1 + nodes_of v ts) = omega (arith, few, b) in
    record {
      goes = g;
      adds = token_adds v (token.Word w) vs refl
          (token_adds v (token.Mark mark.Open) (ts ++ token.Mark mark.Close ∷ []) refl t.adds);
      some = omega (arith, same);
      few = as_many v room less (token.Word w ∷ vs) (1 + nodes_of v ts) r same all;
    }

-- an atom
fit_plain : (v : Version) (room : ℕ) (w : List ℕ) (rest : List Token) → Goes room rest
    → Fits v room (token.Word w ∷ []) rest
fit_plain v room w rest g =
    let s = node_at v (token.Word w) [] refl in
    let one : 1 ≤ nodes_of v (token.Word w ∷ []) = omega (arith, s) in
    record {
      goes = g;
      adds = λ us. let e = node_at v (token.Word w) us refl in omega (arith, e, s, no_nodes v);
      some = one;
      few = omega (arith, atom_fits room (nodes_of v (token.Word w ∷ [])) one);
    }

-- a word with a mark that compares and what it is compared with
fit_compared : (v : Version) (room : ℕ) (w : List ℕ) (t u : Token) (rest : List Token) → Goes room rest
    → compares v u ≡ false → Fits v room (token.Word w ∷ t ∷ u ∷ []) rest
fit_compared v room w t u rest g e =
    let ts : List Token = token.Word w ∷ t ∷ u ∷ [] in
    let one : 1 ≤ nodes_of v ts = omega (arith, node_at v (token.Word w) (t ∷ u ∷ []) refl) in
    record {
      goes = g;
      adds = three_add v (token.Word w) t u e;
      some = one;
      few = atom_fits room (nodes_of v ts) one;
    }

-- the last part
fit_last : (v : Version) (room : ℕ) (ts rest : List Token) → Fits v room ts rest → PartsFit v room ts rest
fit_last v room ts rest h =
    record { goes = h.goes; adds = h.adds; few = last_fits room (nodes_of v ts) (length ts) h.few }

-- a part before others
fit_more : (v : Version) (room : ℕ) (ts us rest : List Token) → Fits v room ts (token.Mark mark.Comma ∷ (us ++ rest))
    → PartsFit v room us rest
    → PartsFit v room (ts ++ token.Mark mark.Comma ∷ us) rest
fit_more v room ts us rest h i =
    let n = h.adds (token.Mark mark.Comma ∷ us) in
    let m = node_at v (token.Mark mark.Comma) us refl in
    let same : nodes_of v (ts ++ token.Mark mark.Comma ∷ us) ≡ nodes_of v ts + nodes_of v us = omega (arith, n, m) in
    let b = more_fits room (nodes_of v ts) (nodes_of v us) (length ts) (length us) h.some h.few i.few in
    record {
      goes = i.goes;
      adds = between_adds v (token.Mark mark.Comma) ts us refl h.adds i.adds;
      few = rw same (omega (arith, length-append ts (token.Mark mark.Comma ∷ us), b));
    }

mutual
  fits : {a : Atoms Form} {n : ℕ} {ts : List Token} {f : Form} → IsFormula a n ts f
      → (v : Version) (room o c : ℕ) (rest : List Token) → o + room ≡ c + most_depth
      → opens_over o c (ts ++ rest) ≡ false → Fits v room ts rest
  fits (looser d) v room o c rest e h = fits d v room o c rest e h
  fits (joined j {left = left} {right = right} p q) v room o c rest e h =
      let s : opens_over o c (left ++ token.Mark (mark.Joint j) ∷ (right ++ rest)) ≡ false =
      ap (opens_over o c) (sym (append_assoc left (token.Mark (mark.Joint j) ∷ right) rest)) ∙ h in
      let one = fits p v room o c (token.Mark (mark.Joint j) ∷ (right ++ rest)) e s in
      let g = one.goes in
      let two = fits q v room g.opened g.closed rest g.left
      (passes g.opened g.closed (token.Mark (mark.Joint j)) (right ++ rest) refl refl g.on) in
      fit_joined v room left right rest j one two
  fits (negated {ts = ts} d) v room o c rest e h =
      fit_negated v room ts rest (fits d v room o c rest e (passes o c (token.Mark mark.Not) (ts ++ rest) refl refl h))
  fits (bracketed {ts = ts} d) v room o c rest e h =
      let t = opens room o c ((ts ++ token.Mark mark.Close ∷ []) ++ rest) e h in
      let s : opens_over (o + 1) c (ts ++ token.Mark mark.Close ∷ rest) ≡ false =
      ap (opens_over (o + 1) c) (sym (append_assoc ts (token.Mark mark.Close ∷ []) rest)) ∙ t.3 in
      let inner = fits d v t.0 (o + 1) c (token.Mark mark.Close ∷ rest) t.2 s in
      let g = inner.goes in
      fit_bracketed v room t.0 ts rest t.1 (closes room t.0 g.opened g.closed rest t.1 g.left g.on) inner
  fits (listed {ts = ts} d) v room o c rest e h =
      let t = opens room o c ((ts ++ token.Mark mark.Close ∷ []) ++ rest) e (passes o c (token.Word _) _ refl refl h) in
      let s : opens_over (o + 1) c (ts ++ token.Mark mark.Close ∷ rest) ≡ false =
      ap (opens_over (o + 1) c) (sym (append_assoc ts (token.Mark mark.Close ∷ []) rest)) ∙ t.3 in
      let inner = list_fits d v t.0 (o + 1) c (token.Mark mark.Close ∷ rest) t.2 s in
      let g = inner.goes in
      fit_listed v room t.0 _ ts rest t.1 (closes room t.0 g.opened g.closed rest t.1 g.left g.on) inner
  fits (plain {w = w} k) v room o c rest e h =
      fit_plain v room w rest
      (record { opened = o; closed = c; left = e; on = passes o c (token.Word w) rest refl refl h })
  fits (equal {w = w} {k = k} p) v room o c rest e h =
      fit_compared v room w (token.Mark mark.Equal) (token.Quoted k) rest
      (record { opened = o; closed = c; left = e; on = equality_passes o c w k rest h }) (quoted_ends v k)
  fits (compared op t {w = w} {digits = digits} d p) v room o c rest e h =
      fit_compared v room w (token.Mark (comparing op)) t rest
      (record { opened = o; closed = c; left = e; on = number_passes o c op t w digits rest d h })
      (number_ends v t digits d)

  list_fits : {a : Atoms Form} {ts : List Token} {fs : Forms} → IsList a ts fs
      → (v : Version) (room o c : ℕ) (rest : List Token) → o + room ≡ c + most_depth
      → opens_over o c (ts ++ rest) ≡ false → PartsFit v room ts rest
  list_fits none v room o c rest e h =
      record {
        goes = record { opened = o; closed = c; left = e; on = h };
        adds = λ us. let z = no_nodes v in omega (arith, z);
        few = omega arith;
      }
  list_fits (some d) v room o c rest e h = items_fit d v room o c rest e h

  items_fit : {a : Atoms Form} {ts : List Token} {fs : Forms} → IsItems a ts fs
      → (v : Version) (room o c : ℕ) (rest : List Token) → o + room ≡ c + most_depth
      → opens_over o c (ts ++ rest) ≡ false → PartsFit v room ts rest
  items_fit (last {ts = ts} d) v room o c rest e h = fit_last v room ts rest (fits d v room o c rest e h)
  items_fit (more {ts = ts} {us = us} p q) v room o c rest e h =
      let s : opens_over o c (ts ++ token.Mark mark.Comma ∷ (us ++ rest)) ≡ false =
      ap (opens_over o c) (sym (append_assoc ts (token.Mark mark.Comma ∷ us) rest)) ∙ h in
      let one = fits p v room o c (token.Mark mark.Comma ∷ (us ++ rest)) e s in
      let g = one.goes in
      let two = items_fit q v room g.opened g.closed rest g.left
      (passes g.opened g.closed (token.Mark mark.Comma) (us ++ rest) refl refl g.on) in
      fit_more v room ts us rest one two

-- no more than `most_tokens` of its nodes
pub few_tokens : (v : Version) (a : Atoms Form) (ts : List Token) (f : Form) → IsFormula a 1 ts f
    → opens_over 0 0 ts ≡ false → length ts ≤ most_tokens (nodes_of v ts)
few_tokens v a ts f d h = (fits d v most_depth 0 0 [] refl (ap (opens_over 0 0) (append-nil ts) ∙ h)).few
