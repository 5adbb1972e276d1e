-- The lines of a printed text, and what a line of plain bytes says.
use Rattle.std.proofs.Common.{◌≡◌, ◌==◌, ◌+◌, ◌-◌, ℕ, zero, suc, false, List, [], ◌∷◌, ◌++◌, Some, length, refl, arith, ap, ◌∙◌}
use Rattle.std.{proofs.lemmas.Bool.or_parts, specs.List.{list_any, onto_first}, specs.Prelude.{Ok, slice_index}}
use Rattle.olap_grammar.specs.{CuttingMachine.tokens_of, declared.tokens.Token.Token}
use Rattle.olap_schema_text.{proofs.BackBytes.{IsPlain, not_bad}, specs.Judging.{Above, line_read, lines_on}}
use Rattle.olap_schema_text.specs.{Lines.{chomped, is_quiet, lines_of}, Parts.{tokens_read, version_at}}
use Rattle.olap_schema_text.specs.Printing.{text_of_lines}
use Rattle.olap_schema.specs.Readable.{is_control}

-- a text without control characters, byte by byte
no_control : (b : ℕ) (bs : List ℕ) → list_any is_control (b ∷ bs) ≡ false
    → (is_control b ≡ false) × (list_any is_control bs ≡ false)
no_control b bs e = or_parts (is_control b) (list_any is_control bs) e

-- has no LF
no_lf : (b : ℕ) → is_control b ≡ false → (b == 10) ≡ false
no_lf b e = grind arith

-- nor CR
no_cr : (b : ℕ) → is_control b ≡ false → (b == 13) ≡ false
no_cr b e = grind arith

-- so it is a line if an LF stands after it
one_line : (line rest : List ℕ) → list_any is_control line ≡ false → lines_of (line ++ 10 ∷ rest) ≡ line ∷ lines_of rest
unfolding lines_of
one_line [] rest e = refl
one_line (b ∷ line) rest e =
    let n = no_control b line e in
    rw (no_lf b n.0) (ap (onto_first b) (one_line line rest n.1))

-- each line is plain
abbrev pub ArePlain : List (List ℕ) → Type 0
ArePlain [] = Unit {0}
ArePlain (line ∷ lines) = IsPlain line × ArePlain lines

-- the lines of the text are the lines
pub lines_are : (lines : List (List ℕ)) → ArePlain lines → lines_of (text_of_lines lines) ≡ lines
unfolding lines_of text_of_lines
lines_are [] p = refl
lines_are (line ∷ lines) p = one_line line (text_of_lines lines) p.0.plain ∙ ap (λ ls. line ∷ ls) (lines_are lines p.1)

-- and has no CR at its end
no_cr_at : (line : List ℕ) (k : ℕ) → list_any is_control line ≡ false → (slice_index line k == 13) ≡ false
no_cr_at [] k e = refl
no_cr_at (b ∷ line) zero e = no_cr b (no_control b line e).0
no_cr_at (b ∷ line) (suc k) e = no_cr_at line k (no_control b line e).1

-- so nothing is taken off it
chomped_stays : (line : List ℕ) → IsPlain line → chomped line ≡ line
chomped_stays line p = rw (no_cr_at line (length line - 1) p.plain) refl

-- a line that says something is read by its tokens
pub line_says : (a : Above) (n : ℕ) (line : List ℕ) (ts : List Token) → IsPlain line → is_quiet line ≡ false
    → tokens_of (version_at a) line ≡ Some ts →
    line_read a n line ≡ tokens_read a n (Some ts)
unfolding line_read
line_says a n line ts p q e = rw (not_bad line p, q, e) refl

-- the lines from such a line on
pub goes_on : (a b : Above) (n : ℕ) (line : List ℕ) (ts : List Token) (lines : List (List ℕ)) → IsPlain line
    → is_quiet line ≡ false → tokens_of (version_at a) line ≡ Some ts →
    tokens_read a (n + 1) (Some ts) ≡ Ok b → lines_on (Ok a) n (line ∷ lines) ≡ lines_on (Ok b) (n + 1) lines
goes_on a b n line ts lines p q e r =
    ap (λ l. lines_on (line_read a (n + 1) l) (n + 1) lines) (chomped_stays line p)
    ∙ ap (λ x. lines_on x (n + 1) lines) (line_says a (n + 1) line ts p q e ∙ r)
