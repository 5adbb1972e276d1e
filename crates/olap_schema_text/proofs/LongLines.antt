-- Tokens that are more than a formula may have, of which only the first are kept: why they are refused.
--     many_nodes, too_deep, bad_form    the fault of the formula, by what was counted
--     unversioned, no_constraint, no_formula    the fault of the line
use Rattle.std.proofs.Common.{◌≡◌, ◌≤◌, ◌<◌, ◌+◌, ◌-◌, ◌++◌, ◌∷◌, ◌∙◌, true, false, ℕ, suc, List, length, Option, None, Some, Err, refl, sym, ap, subst, arith, inl, inr}
use Rattle.std.{proofs.lemmas.Bool.{cases_lt, lt-ltb, or_left}, proofs.lemmas.List.length-append, specs.Borrow.Bor}
use Rattle.std.specs.Prelude.{is_some, unwrap_or, codes}
use Rattle.olap_ast.specs.Schema.{Schema}
use Rattle.olap_base.specs.Limits.{most_nodes}
use Rattle.olap_grammar.proofs.{FewTokens.few_tokens, ReaderLemmas.found_is_formula}
use Rattle.olap_grammar.specs.{Brackets.{most_tokens, opens_over}, Forms.Form}
use Rattle.olap_grammar.specs.{Keeping.{Begins, BeginsFound, IsTallyOf, Kept}, Machine.the_formula}
use Rattle.olap_grammar.specs.{Nodes.{nodes_behind, nodes_of}, Tallying.counted_nodes, Words.atoms_of}
use Rattle.olap_grammar.specs.declared.{tallying.Tally.Tally, tokens.Token.Token, tokens.Version.Version}
use Rattle.olap_schema_text.proofs.{FormLemmas.few_alone, StatementLemmas.{IsSaid, is_said, long_says, longer}}
use Rattle.olap_schema_text.specs.Judging.{Above, form_read, statement_read}
use Rattle.olap_schema_text.specs.Parts.{has_too_many_nodes, question_cut, tokens_read, version_at}
use Rattle.olap_schema_text.specs.{Reading.{IsTallyBehind, said}, Statements.{Statement, statement_of}}
use Rattle.olap_schema_text.specs.declared.statements.Statement.{Statement as Said}
use Rattle.olap_grammar.specs.declared.tokens.Token.TheVariants as token
use Rattle.olap_grammar.specs.declared.tokens.Mark.TheVariants as mark
use Rattle.olap_grammar.specs.declared.tokens.Version.TheVariants as version
use Rattle.olap_schema_text.specs.Statements as says
use Rattle.olap_schema_text.specs.declared.statements.Statement.TheVariants as statement

-- ---- constraints

-- a constraint is two words, a colon, and its formula
abbrev Fronts : List Token → List ℕ → List Token → Type 0
Fronts ts root us = (w : List ℕ) × (ts ≡ token.Word w ∷ token.Word root ∷ token.Mark mark.Colon ∷ us)

-- a constraint has two nodes before its formula
nodes_fronted : (v : Version) (w root : List ℕ) (us : List Token)
    → nodes_of v (token.Word w ∷ token.Word root ∷ token.Mark mark.Colon ∷ us) ≡ 1 + (1 + (0 + nodes_of v us))
unfolding nodes_behind
nodes_fronted version.One w root us = refl
nodes_fronted version.Two w root us = refl

-- what was counted of a constraint's line was counted of its formula, after two nodes
tally_behind : (v : Version) (y : Tally) (ts : List Token) (root : List ℕ) (us : List Token) → Fronts ts root us
    → IsTallyOf v y ts → IsTallyBehind v 2 y us
unfolding opens_over
tally_behind v y ts root us f h =
    let g : IsTallyOf v y (token.Word f.0 ∷ token.Word root ∷ token.Mark mark.Colon ∷ us) =
    subst (IsTallyOf v y) f.1 h in
    let few = g.few in
    let count = nodes_fronted v f.0 root us in
    record {
      few = omega (arith, few, count);
      nodes = λ l. let e = g.nodes l in omega (arith, e, count);
      too_deep = g.too_deep;
    }

-- ---- formulas

module _ (v : Version) (before front : ℕ) (y : Tally) (ts : List Token)
    (behind : IsTallyBehind v front y ts)
  where
    -- where not all nodes were counted, the formula has too many by itself
    both_many : front ≤ 3 → counted_nodes ≤ y.nodes
        → has_too_many_nodes before (y.nodes - front) ≡ has_too_many_nodes before (nodes_of v ts)
    both_many f l =
        or_left _ _ (lt-ltb most_nodes (y.nodes - front) (omega (arith, f, l)))
        ∙ sym (or_left _ _ (lt-ltb most_nodes (nodes_of v ts) (omega (arith, f, l, behind.few))))

    -- so what was counted says whether it has too many
    same_test : front ≤ 3 → has_too_many_nodes before (y.nodes - front) ≡ has_too_many_nodes before (nodes_of v ts)
    same_test f = elim (cases_lt y.nodes counted_nodes) [
      | inl l ↦ ap (has_too_many_nodes before) (let e = behind.nodes l in omega (arith, e))
      | inr l ↦ both_many f l
    ]

    pub many_nodes : front ≤ 3 → has_too_many_nodes before (y.nodes - front) ≡ true
        → form_read v before ts ≡ Err (codes "TooManyNodes")
    unfolding form_read
    many_nodes f t = rw (sym (same_test f) ∙ t) refl

    few_test : front ≤ 3 → has_too_many_nodes before (y.nodes - front) ≡ false
        → has_too_many_nodes before (nodes_of v ts) ≡ false
    few_test f t = sym (same_test f) ∙ t

    pub too_deep : front ≤ 3 → has_too_many_nodes before (y.nodes - front) ≡ false → y.too_deep ≡ true
        → form_read v before ts ≡ Err (codes "TooDeep")
    unfolding form_read
    too_deep f t d = rw (few_test f t, sym behind.too_deep ∙ d) refl

    none_formed : nodes_of v ts ≤ most_nodes → opens_over 0 0 ts ≡ false → most_tokens most_nodes < length ts
        → the_formula (atoms_of v) ts ≡ None
    none_formed l d long = go (the_formula (atoms_of v) ts) refl
      where
        go : (o : Option Form) → the_formula (atoms_of v) ts ≡ o → o ≡ None
        go None e = refl
        go (Some f) e =
            absurd (omega (arith, l, few_tokens v (atoms_of v) ts f (found_is_formula (atoms_of v) ts f e) d, long))

    pub bad_form : front ≤ 3 → has_too_many_nodes before (y.nodes - front) ≡ false → y.too_deep ≡ false
        → most_tokens most_nodes < length ts → form_read v before ts ≡ Err (codes "BadForm")
    unfolding form_read
    bad_form f t d long =
        let few = few_test f t in
        let shallow : opens_over 0 0 ts ≡ false = sym behind.too_deep ∙ d in
        rw (few, shallow, none_formed (few_alone before (nodes_of v ts) few) shallow long) refl

-- ---- the line

module _ (a : Above) (n : ℕ) (k : Kept) (o : Option (List Token)) (found : BeginsFound (version_at a) k o)
    (more : k.more ≡ true) (room : most_tokens most_nodes + 3 ≤ k.most)
  where
    abbrev ts : List Token
    ts = found.0

    abbrev begins : Begins (version_at a) k ts
    begins = found.2

    kept : 4 ≤ length k.first
    kept = let f = begins.full more in omega (arith, f, room)

    long : most_tokens most_nodes + 3 < length ts
    long =
        let e : length ts ≡ length (k.first ++ begins.rest) = ap length begins.parts in
        omega (arith, e, length-append k.first begins.rest, begins.full more, begins.others more, room)

    four : 4 ≤ length ts
    four = let l = long in omega (arith, l)

    -- the line says what the tokens that are kept do
    says_as_kept : statement_of ts ≡ longer (statement_of k.first) begins.rest
    says_as_kept = ap statement_of begins.parts ∙ long_says k.first begins.rest kept

    pub unversioned : is_some a.version ≡ false → tokens_read a n o ≡ Err (codes "BadForm")
    unversioned e = rw (found.1, says_as_kept) (go a.version (statement_of k.first) e)
      where
        go : (v : Option Version) (s : Statement) → is_some v ≡ false
            → statement_read a n v (longer s begins.rest) ≡ Err (codes "BadForm")
        go (Some v) s p = absurd (cc)
        go None (says.Statement.Version u) p = refl
        go v s p = refl

    -- the tokens that are kept say anything but a constraint
    pub no_constraint : (s : Said) → said s ≡ statement_of k.first
        → ((root : Bor (List ℕ)) (us : Bor (List Token)) → s ≡ statement.Constraint root us → ⊥)
        → tokens_read a n o ≡ Err (codes "BadForm")
    no_constraint s e f = rw (found.1, says_as_kept, ← e) (go s a.version f)
      where
        go : (t : Said) (v : Option Version)
            → ((root : Bor (List ℕ)) (us : Bor (List Token)) → t ≡ statement.Constraint root us → ⊥)
            → statement_read a n v (longer (said t) begins.rest) ≡ Err (codes "BadForm")
        go (statement.Version u) None p = refl
        go (statement.Category name number) None p = refl
        go (statement.Edge child parent) None p = refl
        go (statement.Constraint root us) v p = absurd (p root us refl)
        go statement.Other None p = refl
        go t v p = refl

    -- the fault of the formula is the line's
    pub no_formula : (e : List ℕ) (root : List ℕ) (us : List Token) → is_some a.version ≡ true
        → says.Statement.Constraint root us ≡ statement_of k.first
        → ((vs : List Token) → IsTallyBehind (version_at a) 2 k.tally vs → most_tokens most_nodes < length vs
        → form_read (version_at a) a.nodes vs ≡ Err e) → tokens_read a n o ≡ Err e
    no_formula e root us v c h =
        let whole : List Token = us ++ begins.rest in
        let is : statement_of ts ≡ says.Statement.Constraint root whole = says_as_kept ∙ rw (← c) refl in
        let front : Fronts ts root whole = subst (IsSaid ts) is (is_said ts) in
        let same : length ts ≡ suc (suc (suc (length whole))) = ap length front.1 in
        let behind = tally_behind (version_at a) k.tally ts root whole front begins.tally in
        rw (found.1, is) (go a.version v (h whole behind (omega (arith, same, long))))
      where
        go : (w : Option Version) → is_some w ≡ true
            → form_read (unwrap_or w version.One) a.nodes (us ++ begins.rest) ≡ Err e
            → statement_read a n w (says.Statement.Constraint root (us ++ begins.rest)) ≡ Err e
        go None p q = absurd (cc)
        go (Some w) p q = rw q refl

-- ---- a question

-- what was counted of tokens was counted of them after nothing
nothing_in_front : (v : Version) (y : Tally) (ts : List Token) → IsTallyOf v y ts → IsTallyBehind v 0 y ts
nothing_in_front v y ts h =
    let few = h.few in
    record { few = omega (arith, few); nodes = λ l. let e = h.nodes l in omega (arith, e); too_deep = h.too_deep }

-- the fault of the formula is the question's
pub no_question : (s : Schema) (root : ℕ) (k : Kept) (o : Option (List Token)) (e : List ℕ)
    → BeginsFound version.Two k o
    → k.more ≡ true → most_tokens most_nodes ≤ k.most
    → ((ts : List Token) → IsTallyBehind version.Two 0 k.tally ts → most_tokens most_nodes < length ts
    → form_read version.Two 0 ts ≡ Err e) → question_cut s root o ≡ Err e
no_question s root k o e found more room h =
    let b = found.2 in
    let p : length found.0 ≡ length (k.first ++ b.rest) = ap length b.parts in
    let t = b.others more in
    let behind = nothing_in_front version.Two k.tally found.0 b.tally in
    rw (found.1, h found.0 behind (omega (arith, p, length-append k.first b.rest, b.full more, t, room))) refl
