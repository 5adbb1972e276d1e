-- What a reader of tokens says is what they are read as.
use Rattle.std.proofs.Common.{◌≡◌, ◌≤◌, ◌+◌, ℕ, Bool, true, false, cond, Option, None, Some, Ok, Err, nat_le, nat_lt, refl, arith, codes}
use Rattle.std.proofs.lemmas.Bool.{le-ltb, ltb-false, or_from, or_parts}
use Rattle.olap_base.specs.{Following.given, Limits.{most_depth, most_nodes, most_schema_nodes}}
use Rattle.olap_grammar.specs.{Answering.formula_answer, Forms.{Form, depth_of}}
use Rattle.olap_schema_text.specs.{Parts.has_too_many_nodes, Reading.form_answer}

-- whatever the formula is
pub same_answer : (o : Option Form)
    → given o (codes "BadForm") (λ f. cond (nat_lt most_depth (depth_of f)) (Err (codes "TooDeep")) (Ok f))
    ≡ form_answer (formula_answer o)
same_answer None = refl
same_answer (Some f) = go (nat_le (depth_of f) most_depth) refl
  where
    go : (b : Bool) → nat_le (depth_of f) most_depth ≡ b
        → cond (nat_lt most_depth (depth_of f)) (Err (codes "TooDeep")) (Ok f) ≡ form_answer (formula_answer (Some f))
    go true e = let m : nat_lt most_depth (depth_of f) ≡ false = grind (arith, e) in rw (e, m) refl
    go false e = let m : nat_lt most_depth (depth_of f) ≡ true = grind (arith, e) in rw (e, m) refl

-- a formula that hasn't too many nodes has few by itself
pub few_alone : (before n : ℕ) → has_too_many_nodes before n ≡ false → n ≤ most_nodes
few_alone before n h = ltb-false most_nodes n (or_parts _ _ h).0

-- and few with those on the lines above
pub few_in_all : (before n : ℕ) → has_too_many_nodes before n ≡ false → before + n ≤ most_schema_nodes
few_in_all before n h = ltb-false most_schema_nodes (before + n) (or_parts _ _ h).1

-- one that has few, by itself and with those, hasn't too many
pub not_too_many : (before n : ℕ) → n ≤ most_nodes → before + n ≤ most_schema_nodes
    → has_too_many_nodes before n ≡ false
not_too_many before n few all =
    or_from _ _ (le-ltb most_nodes n few) (le-ltb most_schema_nodes (before + n) all)
