-- Brackets of a line: no more than its bytes.
use Rattle.std.proofs.Common.{◌≡◌, ◌≤◌, ◌+◌, ◌&&◌, ◌∷◌, ◌++◌, ◌∙◌, ap, cond, ℕ, suc, Bool, true, false, not, nat_lt, List, [], Option, Some, None, refl, arith, length}
use Rattle.std.specs.{Char.is_ascii_digit, Prelude.◌==◌}
use Rattle.olap_base.specs.Bytes.{backslash, equals_sign, greater_than_sign, hyphen, less_than_sign, quotation_mark, space, tab}
use Rattle.olap_grammar.specs.{Cutter.cut_of, Cutting.{has_numbers, is_word_byte}, CuttingMachine.mark_of}
use Rattle.olap_grammar.specs.Keeping.{Going, Kept, after_dash, after_less, between, keep, kept_step, marked}
use Rattle.olap_grammar.specs.{Tallying.{brackets, counted, tallied}, declared.cutting.Begun.Begun}
use Rattle.olap_grammar.specs.declared.{tallying.Tally.Tally, tokens.Mark.Mark, tokens.Token.Token}
use Rattle.olap_grammar.specs.declared.tokens.Version.{Version}
use Rattle.olap_grammar.specs.declared.cutting.Begun.TheVariants as begun
use Rattle.olap_grammar.specs.declared.tokens.Joint.TheVariants as joint
use Rattle.olap_grammar.specs.declared.tokens.Mark.TheVariants as mark
use Rattle.olap_grammar.specs.declared.tokens.Token.TheVariants as token

-- a node more is no bracket
unchanged : (y : Tally) (b : Bool) → brackets (cond b (record y { nodes = counted y.nodes }) y) ≡ brackets y
unchanged y true = refl
unchanged y false = refl

-- nor is a word
pub after_word : (v : Version) (y : Tally) (w : List ℕ) → brackets (tallied v y (token.Word w)) ≡ brackets y
after_word v y w = unchanged y (not y.is_compared && true)

-- nor a number
pub after_signed : (v : Version) (y : Tally) (w : List ℕ) → brackets (tallied v y (token.Signed w)) ≡ brackets y
after_signed v y w = unchanged y (not y.is_compared && false)

-- nor `<`
pub after_less_mark : (v : Version) (y : Tally) → brackets (tallied v y (token.Mark mark.Less)) ≡ brackets y
after_less_mark v y = unchanged y (not y.is_compared && false)

-- a token that may be a node is at most one bracket
none : (y : Tally) (b : Bool) → brackets (cond b (record y { nodes = counted y.nodes }) y) ≤ suc (brackets y)
none y true = omega arith
none y false = omega arith

-- so is any
one_more : (v : Version) (y : Tally) (t : Token) → brackets (tallied v y t) ≤ suc (brackets y)
one_more v y (token.Word w) = none y (not y.is_compared && true)
one_more v y (token.Mark mark.Open) = omega arith
one_more v y (token.Mark mark.Close) = omega arith
one_more v y (token.Mark mark.Not) = none y (not y.is_compared && true)
one_more v y (token.Mark (mark.Joint j)) = none y (not y.is_compared && true)
one_more v y t = none y (not y.is_compared && false)

-- whatever is kept, the token is counted
kept_tally : (v : Version) (k : Kept) (t : Token) → (keep v k t).tally ≡ tallied v k.tally t
kept_tally v k t = go (nat_lt (length k.first) k.most)
  where
    go : (b : Bool) → Kept.tally (cond b
        (record { most = k.most; first = k.first ++ t ∷ []; more = k.more; tally = tallied v k.tally t })
        (record { most = k.most; first = k.first; more = true; tally = tallied v k.tally t })) ≡ tallied v k.tally t
    go true = refl
    go false = refl

-- and is one bracket at most
keeps_one : (v : Version) (k : Kept) (t : Token) → brackets (keep v k t).tally ≤ suc (brackets k.tally)
keeps_one v k t = let e = ap brackets (kept_tally v k t) in let l = one_more v k.tally t in omega (arith, e, l)

-- the brackets so far
abbrev brackets_in : Going → ℕ
brackets_in (Going.Between k) = brackets k.tally
brackets_in (Going.InWord k w) = brackets k.tally
brackets_in (Going.InQuotes k w) = brackets k.tally
brackets_in (Going.Escaped k w) = brackets k.tally
brackets_in (Going.InSigned k w) = brackets k.tally
brackets_in (Going.Dash k) = brackets k.tally
brackets_in (Going.Less k) = brackets k.tally
brackets_in (Going.LessDash k) = brackets k.tally
brackets_in Going.Stuck = 0

-- of two ways to go on, the one that is taken
either : (b : Bool) (x y : Going) (n : ℕ) → brackets_in x ≤ n → brackets_in y ≤ n → brackets_in (cond b x y) ≤ n
either true x y n p q = p
either false x y n p q = q

-- a mark, or none
marks_one : (v : Version) (k : Kept) (m : Option Mark) → brackets_in (marked v k m) ≤ suc (brackets k.tally)
marks_one v k None = omega arith
marks_one v k (Some m) = keeps_one v k (token.Mark m)

-- a byte where nothing was begun
between_one : (v : Version) (k : Kept) (b n : ℕ) → brackets k.tally ≤ n → brackets_in (between v k b) ≤ suc n
between_one v k b n l =
    let same : brackets k.tally ≤ suc n = omega (arith, l) in
    either (is_word_byte b) _ _ _ same
    (either (b == space) _ _ _ same
    (either (b == tab) _ _ _ same
    (either (b == quotation_mark) _ _ _ same
    (either (b == hyphen) _ _ _ same
    (either (b == less_than_sign) _ _ _ same (omega (arith, l, marks_one v k (mark_of b))))))))

-- a byte after `-`
dash_one : (v : Version) (k : Kept) (b n : ℕ) → brackets k.tally ≤ n → brackets_in (after_dash v k b) ≤ suc n
dash_one v k b n l = either (has_numbers v && is_ascii_digit b) _ _ _ (omega (arith, l)) (omega arith)

-- the brackets are those before a token that is none
as_many : (v : Version) (k : Kept) (t : Token) → brackets (tallied v k.tally t) ≡ brackets k.tally
    → brackets (keep v k t).tally ≤ brackets k.tally
as_many v k t e = let f = ap brackets (kept_tally v k t) in omega (arith, e, f)

-- a byte after `<`
less_one : (v : Version) (k : Kept) (b : ℕ) → brackets_in (after_less v k b) ≤ suc (brackets k.tally)
less_one v k b =
    let less = as_many v k (token.Mark mark.Less) (after_less_mark v k.tally) in
    either (has_numbers v) _ _ _
    (either (b == equals_sign) _ _ _ (keeps_one v k (token.Mark mark.AtMost))
    (between_one v (keep v k (token.Mark mark.Less)) b _ less))
    (omega arith)

-- a byte is one bracket at most
one_byte : (v : Version) (g : Going) (b : ℕ) → brackets_in (kept_step v g b) ≤ suc (brackets_in g)
one_byte v (Going.Between k) b = between_one v k b _ (omega arith)
one_byte v (Going.InWord k w) b =
    either (is_word_byte b) _ _ _ (omega arith)
    (between_one v (keep v k (token.Word w)) b _ (as_many v k (token.Word w) (after_word v k.tally w)))
one_byte v (Going.InSigned k w) b =
    either (is_word_byte b) _ _ _ (omega arith)
    (between_one v (keep v k (token.Signed w)) b _ (as_many v k (token.Signed w) (after_signed v k.tally w)))
one_byte v (Going.InQuotes k q) b =
    either (b == quotation_mark) _ _ _ (keeps_one v k (token.Quoted q))
    (either (b == backslash) _ _ _ (omega arith) (omega arith))
one_byte v (Going.Escaped k q) b =
    either (b == quotation_mark) _ _ _ (omega arith) (either (b == backslash) _ _ _ (omega arith) (omega arith))
one_byte v (Going.Dash k) b =
    either (b == greater_than_sign) _ _ _ (keeps_one v k (token.Mark (mark.Joint joint.Implies)))
    (dash_one v k b _ (omega arith))
one_byte v (Going.Less k) b = either (b == hyphen) _ _ _ (omega arith) (less_one v k b)
one_byte v (Going.LessDash k) b =
    either (b == greater_than_sign) _ _ _ (keeps_one v k (token.Mark (mark.Joint joint.Iff)))
    (dash_one v (keep v k (token.Mark mark.Less)) b _
    (as_many v k (token.Mark mark.Less) (after_less_mark v k.tally)))
one_byte v Going.Stuck b = omega arith

-- what was begun has no bracket of its own
brackets_cut : (begun : Begun) (bs : List ℕ) (k : Kept) → brackets_in (cut_of begun bs k) ≡ brackets k.tally
brackets_cut begun.Nothing bs k = refl
brackets_cut b bs k = refl

-- so there is room for the brackets of the bytes that are left
pub still_room : (v : Version) (begun next : Begun) (bs cs : List ℕ) (k m : Kept) (b : ℕ) (left others line : List ℕ)
    → kept_step v (cut_of begun bs k) b ≡ cut_of next cs m → left ≡ b ∷ others
    → brackets k.tally + length left ≤ length line → brackets m.tally + length others ≤ length line
still_room v begun next bs cs k m b left others line e l h =
    let after = ap brackets_in e ∙ brackets_cut next cs m in
    omega (arith, one_byte v (cut_of begun bs k) b, brackets_cut begun bs k, after, ap length l, h)
