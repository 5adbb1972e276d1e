-- What is counted of tokens, gone over from the left, is so of all of them.
use Rattle.std.proofs.Common.{◌≡◌, ◌≤◌, ◌<◌, ◌+◌, ◌-◌, ◌∷◌, ◌∙◌, ◌||◌, ◌&&◌, Bool, true, false, not, cond, ℕ, List, [], nat_lt, refl, ap, arith}
use Rattle.std.{proofs.lemmas.Bool.{ltb-false, ltb-true}, specs.List.fold}
use Rattle.olap_base.specs.Limits.{most_depth}
use Rattle.olap_grammar.specs.{Brackets.opens_over, Keeping.IsTallyOf, Nodes.{compares, is_node, nodes_behind}}
use Rattle.olap_grammar.specs.Tallying.{added, counted, counted_nodes, nothing_tallied, tallied}
use Rattle.olap_grammar.specs.declared.{tallying.Tally.Tally, tokens.Token.Token, tokens.Version.Version}
use Rattle.olap_grammar.specs.declared.tokens.Token.TheVariants as token
use Rattle.olap_grammar.specs.declared.tokens.Mark.TheVariants as mark

-- ---- nodes

-- this many are counted of this many
record Counts (n all : ℕ) : Type 0 where
  few : n ≤ all
  exact : n < counted_nodes → n ≡ all

-- one node more, as far as nodes are counted
one_more : (n all : ℕ) → Counts n all → Counts (counted n) (all + 1)
one_more n all h = go (nat_lt n counted_nodes) refl
  where
    go : (b : Bool) → nat_lt n counted_nodes ≡ b → Counts (cond b (n + 1) n) (all + 1)
    go true e =
        let f = h.exact (ltb-true n counted_nodes e) in
        record { few = omega (arith, f); exact = λ m. omega (arith, f) }
    go false e =
        record { few = omega (arith, h.few); exact = λ m. absurd (omega (arith, ltb-false n counted_nodes e, m)) }

-- a tally, with one node more or not
abbrev with_node : Bool → Tally → Tally
with_node b y = cond b (record y { nodes = counted y.nodes }) y

-- a token that may be a node
with_node_nodes : (b : Bool) (y : Tally) → (with_node b y).nodes ≡ cond b (counted y.nodes) y.nodes
with_node_nodes true y = refl
with_node_nodes false y = refl

-- brackets are no nodes
no_node : (c : Bool) (n : ℕ) → n ≡ cond (not c && false) (counted n) n
no_node true n = refl
no_node false n = refl

-- a node is counted unless it is compared with, and no other token is
nodes_tallied : (y : Tally) (t : Token)
    → (added y t).nodes ≡ cond (not y.is_compared && is_node t) (counted y.nodes) y.nodes
nodes_tallied y (token.Word w) = with_node_nodes (not y.is_compared && true) y
nodes_tallied y (token.Mark mark.Open) = no_node y.is_compared y.nodes
nodes_tallied y (token.Mark mark.Close) = no_node y.is_compared y.nodes
nodes_tallied y (token.Mark mark.Not) = with_node_nodes (not y.is_compared && true) y
nodes_tallied y (token.Mark (mark.Joint j)) = with_node_nodes (not y.is_compared && true) y
nodes_tallied y t = with_node_nodes (not y.is_compared && false) y

-- and one that is none
as_before : (n all : ℕ) → Counts n all → Counts n (all + 0)
as_before n all h =
    record { few = omega (arith, h.few); exact = λ m. let e = h.exact m in omega (arith, e) }

-- either
one_token : (b : Bool) (n all : ℕ) → Counts n all → Counts (cond b (counted n) n) (all + cond b 1 0)
one_token true n all h = one_more n all h
one_token false n all h = as_before n all h

-- all tokens
counts_on : (v : Version) (ts : List Token) (y : Tally) (before : ℕ) → Counts y.nodes before
    → Counts (fold (tallied v) y ts).nodes (before + nodes_behind v y.is_compared ts)
unfolding nodes_behind
counts_on v [] y before h = as_before y.nodes before h
counts_on v (t ∷ ts) y before h =
    let node : Bool = not y.is_compared && is_node t in
    let one : Counts (tallied v y t).nodes (before + cond node 1 0) =
    rw (nodes_tallied y t) (one_token node y.nodes before h) in
    let all = counts_on v ts (tallied v y t) (before + cond node 1 0) one in
    record { few = omega (arith, all.few); exact = λ m. let g = all.exact m in omega (arith, g) }

-- ---- brackets

-- the two tests of a `(` are one
same_test : (o c : ℕ) → nat_lt most_depth (o + 1 - c) ≡ nat_lt (c + most_depth) (o + 1)
same_test o c = go (nat_lt most_depth (o + 1 - c)) (nat_lt (c + most_depth) (o + 1)) refl refl
  where
    go : (a b : Bool) → nat_lt most_depth (o + 1 - c) ≡ a → nat_lt (c + most_depth) (o + 1) ≡ b → a ≡ b
    go true true p q = refl
    go false false p q = refl
    go true false p q =
        absurd (omega (arith, ltb-true most_depth (o + 1 - c) p, ltb-false (c + most_depth) (o + 1) q))
    go false true p q =
        absurd (omega (arith, ltb-false most_depth (o + 1 - c) p, ltb-true (c + most_depth) (o + 1) q))

-- too many brackets once are too many for good
once_too_deep : (d b : Bool) (x : Bool) → ((d || b) || x) ≡ (d || cond b true x)
once_too_deep false true x = refl
once_too_deep d b x = refl

-- nothing more is so
nothing_more : (d : Bool) → d ≡ (d || false)
nothing_more true = refl
nothing_more false = refl

-- a node more leaves the brackets as they are
same_brackets : {A : Type 0} (part : Tally → A) (b : Bool) (y : Tally)
    → part (record y { nodes = counted y.nodes }) ≡ part y → part (with_node b y) ≡ part y
same_brackets part true y e = e
same_brackets part false y e = refl

-- after tokens of which the first isn't a bracket
deep_after : (v : Version) (ts : List Token) (b : Bool) (y : Tally) (t : Token) (d : Bool) (o c : ℕ)
    → ((z : Tally) → z.too_deep ≡ d → z.opened ≡ o → z.closed ≡ c
    → (fold (tallied v) z ts).too_deep ≡ (d || opens_over o c ts))
    → y.too_deep ≡ d → y.opened ≡ o → y.closed ≡ c
    → (fold (tallied v) (record (with_node b y) { is_compared = compares v t }) ts).too_deep ≡ (d || opens_over o c ts)
deep_after v ts b y t d o c later e f g =
    later (record (with_node b y) { is_compared = compares v t })
    (same_brackets (λ z. z.too_deep) b y refl ∙ e)
    (same_brackets (λ z. z.opened) b y refl ∙ f)
    (same_brackets (λ z. z.closed) b y refl ∙ g)

-- whether there are too many, over all tokens
deep_on : (v : Version) (ts : List Token) (d : Bool) (o c : ℕ) (y : Tally) → y.too_deep ≡ d → y.opened ≡ o
    → y.closed ≡ c → (fold (tallied v) y ts).too_deep ≡ (d || opens_over o c ts)
unfolding opens_over
deep_on v [] d o c y e f g = e ∙ nothing_more d
deep_on v (token.Mark mark.Open ∷ ts) d o c y e f g =
    deep_on v ts (d || nat_lt most_depth (o + 1 - c)) (o + 1) c (tallied v y (token.Mark mark.Open)) (rw (e, f, g) refl)
    (rw f refl) g
    ∙ ap (λ b. (d || b) || opens_over (o + 1) c ts) (same_test o c)
    ∙ once_too_deep d (nat_lt (c + most_depth) (o + 1)) (opens_over (o + 1) c ts)
deep_on v (token.Mark mark.Close ∷ ts) d o c y e f g =
    deep_on v ts d o (c + 1) (tallied v y (token.Mark mark.Close)) e f (rw g refl)
deep_on v (token.Word w ∷ ts) d o c y e f g =
    deep_after v ts (not y.is_compared && true) y (token.Word w) d o c (deep_on v ts d o c) e f g
deep_on v (token.Quoted k ∷ ts) d o c y e f g =
    deep_after v ts (not y.is_compared && false) y (token.Quoted k) d o c (deep_on v ts d o c) e f g
deep_on v (token.Signed w ∷ ts) d o c y e f g =
    deep_after v ts (not y.is_compared && false) y (token.Signed w) d o c (deep_on v ts d o c) e f g
deep_on v (token.Mark mark.Comma ∷ ts) d o c y e f g =
    deep_after v ts (not y.is_compared && false) y (token.Mark mark.Comma) d o c (deep_on v ts d o c) e f g
deep_on v (token.Mark mark.Colon ∷ ts) d o c y e f g =
    deep_after v ts (not y.is_compared && false) y (token.Mark mark.Colon) d o c (deep_on v ts d o c) e f g
deep_on v (token.Mark mark.Equal ∷ ts) d o c y e f g =
    deep_after v ts (not y.is_compared && false) y (token.Mark mark.Equal) d o c (deep_on v ts d o c) e f g
deep_on v (token.Mark mark.Less ∷ ts) d o c y e f g =
    deep_after v ts (not y.is_compared && false) y (token.Mark mark.Less) d o c (deep_on v ts d o c) e f g
deep_on v (token.Mark mark.AtMost ∷ ts) d o c y e f g =
    deep_after v ts (not y.is_compared && false) y (token.Mark mark.AtMost) d o c (deep_on v ts d o c) e f g
deep_on v (token.Mark mark.Not ∷ ts) d o c y e f g =
    deep_after v ts (not y.is_compared && true) y (token.Mark mark.Not) d o c (deep_on v ts d o c) e f g
deep_on v (token.Mark (mark.Joint j) ∷ ts) d o c y e f g =
    deep_after v ts (not y.is_compared && true) y (token.Mark (mark.Joint j)) d o c (deep_on v ts d o c) e f g

-- ---- both

-- so what was counted is so of the tokens
pub tally_is : (v : Version) (ts : List Token) → IsTallyOf v (fold (tallied v) nothing_tallied ts) ts
tally_is v ts =
    let n = counts_on v ts nothing_tallied 0 (record { few = omega arith; exact = λ m. refl }) in
    record {
      few = omega (arith, n.few);
      nodes = λ m. let e = n.exact m in omega (arith, e);
      too_deep = deep_on v ts false 0 0 nothing_tallied refl refl refl;
    }
