-- The lines of a text, the first at a time; and which bytes are text.
use Rattle.std.proofs.Common.{◌≡◌, ◌==◌, ◌+◌, ◌-◌, add-one, ◌<◌, ◌≤◌, ℕ, suc, Bool, true, false, cond, List, [], ◌∷◌, length, take, drop, refl, sym, ap, ◌∙◌, arith}
use Rattle.std.proofs.lemmas.{Bool.eqb-true, List.take_rest, Str.IsUtf8-from_is_utf8}
use Rattle.std.specs.{List.onto_first, Prelude.Ok, Str.{IsUtf8, is_utf8}}
use Rattle.olap_schema_text.specs.{Judging.{Above, lines_on}, Lines.{line_length, lines_of}}

-- up to its LF stands the first line
pub lines_first : (text : List ℕ) → line_length text < length text →
    lines_of text ≡ take (line_length text) text ∷ lines_of (drop (suc (line_length text)) text)
unfolding lines_of line_length
lines_first [] h = absurd (omega arith)
lines_first (b ∷ bs) h = go (b == 10) h (λ k. lines_first bs k)
  where
    go : (c : Bool) → cond c 0 (suc (line_length bs)) < length (b ∷ bs) →
        (line_length bs < length bs → lines_of bs ≡ take (line_length bs) bs ∷ lines_of
        (drop (suc (line_length bs)) bs)) →
        cond c ([] ∷ lines_of bs) (onto_first b (lines_of bs))
        ≡ take (cond c 0 (suc (line_length bs))) (b ∷ bs) ∷ lines_of
        (drop (suc (cond c 0 (suc (line_length bs)))) (b ∷ bs))
    go true k rest = refl
    go false k rest = ap (onto_first b) (rest (omega arith))

-- without a LF the text is one line
pub lines_last : (text : List ℕ) → 0 < length text → length text ≤ line_length text → lines_of text ≡ text ∷ []
unfolding lines_of line_length
lines_last [] h l = absurd (omega arith)
lines_last (b ∷ bs) h l = go (b == 10) l (λ k m. lines_last bs k m) bs refl
  where
    go : (c : Bool) → length (b ∷ bs) ≤ cond c 0 (suc (line_length bs)) →
        (0 < length bs → length bs ≤ line_length bs → lines_of bs ≡ bs ∷ []) → (cs : List ℕ) → cs ≡ bs →
        cond c ([] ∷ lines_of bs) (onto_first b (lines_of bs)) ≡ (b ∷ bs) ∷ []
    go true k rest cs e = absurd (omega arith)
    go false k rest [] e = rw (← e) refl
    go false k rest (c ∷ cs) e =
        ap (onto_first b) (rest (let n : 0 < length bs = rw (← e) (omega arith) in n) (omega arith))

-- an empty text has no lines
pub no_lines : lines_of [] ≡ []
unfolding lines_of
no_lines = refl

-- the same, in the words of the code
pub cut_first : (text : List ℕ) (k : ℕ) → k ≡ line_length text → k < length text →
    lines_of text ≡ take k text ∷ lines_of (take (length text - (k + 1)) (drop (k + 1) text))
cut_first text k e h =
    rw (take_rest text (k + 1), add-one) (rw (← e) at (lines_first text (omega arith)))

-- the last line has no LF
pub cut_last : (text : List ℕ) (k : ℕ) → k ≡ line_length text → 0 < length text → length text ≤ k
    → lines_of text ≡ text ∷ lines_of []
cut_last text k e h l = lines_last text h (omega arith) ∙ ap (λ ls. text ∷ ls) (sym no_lines)

-- what isn't UTF-8 isn't by the test
pub not_utf8 : (bs : List ℕ) → (IsUtf8 bs → ⊥) → is_utf8 bs ≡ false
not_utf8 bs h = go (is_utf8 bs) refl
  where
    go : (c : Bool) → is_utf8 bs ≡ c → c ≡ false
    go true e = absurd (h (IsUtf8-from_is_utf8 bs e))
    go false e = refl

-- where nothing is left, the lines so far are all
pub all_read : (a : Above) (n : ℕ) (left : List ℕ) → (length left == 0) ≡ true
    → lines_on (Ok a) n (lines_of left) ≡ Ok a
all_read a n [] e = rw no_lines refl
all_read a n (b ∷ bs) e = absurd (let z : length (b ∷ bs) ≡ 0 = eqb-true (length (b ∷ bs)) 0 e in omega arith)
