-- The constants of a line that is UTF-8 without control characters are so too.
use Rattle.std.proofs.Common.{◌≡◌, ◌<◌, ◌≤◌, ℕ, zero, suc, true, false, List, [], ◌∷◌, ◌++◌, Some, length, get_or, drop, append_assoc, nat_lt, refl, sym, arith, subst, inl, inr}
use Rattle.std.proofs.lemmas.Bool.{eqb-true, leb-true, ltb-true, and_parts, or_parts, or_cases}
use Rattle.std.proofs.lemmas.List.{drop_at, take_at, Concat.flat_map-cons, Elements.Contains-append_cases}
use Rattle.std.proofs.lemmas.Str.{IsCharBoundary-after_ascii, IsCharBoundary-before_ascii, IsUtf8-append, IsUtf8-drop, IsUtf8-take}
use Rattle.std.specs.{Char.{is_ascii_alphanumeric, is_ascii_digit}, Int.is_in_range, List.{list_all, list_any}}
use Rattle.std.specs.{Prelude.{◌==◌, ◌||◌, Contains, flat_map}, Str.IsUtf8}
use Rattle.olap_ast.specs.{Atoms.{Equality, equalities}, Schema.Constraint}
use Rattle.olap_base.{proofs.ListLemmas.{Contains-nil, contains_head}, specs.Deciding.{contains_cases, contains_cons}}
use Rattle.olap_grammar.proofs.CutSound.{found_is_cut}
use Rattle.olap_grammar.specs.Cutting.{AreWordBytes, IsCut, IsCut.end, IsCut.blank, IsCut.tabbed, IsCut.word, IsCut.quoted, IsCut.signed, IsCut.marked, Spells, Spells.nothing, Spells.quote, Spells.slash, Spells.other, is_word_byte, mark_bytes}
use Rattle.olap_grammar.specs.{CuttingMachine.tokens_of, declared.tokens.Mark.Mark, declared.tokens.Token.Token}
use Rattle.olap_grammar.specs.declared.tokens.Version.{Version}
use Rattle.olap_schema.specs.Readable.{AreTexts, is_bad, is_control}
use Rattle.olap_schema_text.proofs.BackBytes.{IsPlain, from_not_bad, not_bad}
use Rattle.olap_grammar.specs.declared.tokens.Joint.TheVariants as joint
use Rattle.olap_grammar.specs.declared.tokens.Token.TheVariants as token
use Rattle.olap_grammar.specs.declared.tokens.Mark.TheVariants as mark

-- ---- cutting a text at ASCII bytes

-- after an ASCII byte a plain text is plain
past_ascii : (b : ℕ) (bs : List ℕ) → b < 128 → IsPlain (b ∷ bs) → IsPlain bs
past_ascii b bs l p = record {
  utf8 = IsUtf8-drop (b ∷ bs) 1 p.utf8 (IsCharBoundary-after_ascii (b ∷ bs) 0 p.utf8 (omega arith) l);
  plain = (or_parts _ _ p.plain).1;
}

-- the byte between two texts
at_seam : (xs : List ℕ) (b : ℕ) (ys : List ℕ)
    → (length xs < length (xs ++ b ∷ ys)) × (get_or (xs ++ b ∷ ys) (length xs) 0 ≡ b)
at_seam [] b ys = (omega arith, refl)
at_seam (x ∷ xs) b ys = let t = at_seam xs b ys in (omega (arith, t.0), t.1)

-- a text of UTF-8 can be cut before an ASCII byte
cut_utf8 : (xs : List ℕ) (b : ℕ) (ys : List ℕ) → b < 128 → IsUtf8 (xs ++ b ∷ ys) → IsUtf8 xs × IsUtf8 (b ∷ ys)
cut_utf8 xs b ys l u =
    let t = at_seam xs b ys in
    let here = IsCharBoundary-before_ascii (xs ++ b ∷ ys) (length xs) t.0 (omega (arith, t.1)) in (
      subst IsUtf8 (take_at xs (b ∷ ys) (length xs) refl) (IsUtf8-take (xs ++ b ∷ ys) (length xs) u here),
      subst IsUtf8 (drop_at xs (b ∷ ys) (length xs) refl) (IsUtf8-drop (xs ++ b ∷ ys) (length xs) u here),
    )

-- no control characters in both, none in or_cases
no_control : (xs ys : List ℕ) → list_any is_control (xs ++ ys) ≡ false
    → (list_any is_control xs ≡ false) × (list_any is_control ys ≡ false)
no_control [] ys h = (refl, h)
no_control (x ∷ xs) ys h =
    let t = or_parts (is_control x) (list_any is_control (xs ++ ys)) h in
    let u = no_control xs ys t.1 in
    (rw t.0 u.0, u.1)

-- a plain text can be cut there
cut_plain : (xs : List ℕ) (b : ℕ) (ys : List ℕ) → b < 128 → IsPlain (xs ++ b ∷ ys) → IsPlain xs × IsPlain (b ∷ ys)
cut_plain xs b ys l p =
    let t = cut_utf8 xs b ys l p.utf8 in
    let u = no_control xs (b ∷ ys) p.plain in
    (record { utf8 = t.0; plain = u.0 }, record { utf8 = t.1; plain = u.1 })

-- a text without one of its ASCII bytes
without : (xs : List ℕ) (b : ℕ) (ys : List ℕ) → b < 128 → IsUtf8 (xs ++ b ∷ ys) → IsUtf8 (xs ++ ys)
without xs b ys l u =
    let t = cut_utf8 xs b ys l u in
    IsUtf8-append xs ys t.0 (IsUtf8-drop (b ∷ ys) 1 t.1 (IsCharBoundary-after_ascii (b ∷ ys) 0 t.1 (omega arith) l))

-- ---- strings

-- what a string spells is UTF-8
spelt : {bs k : List ℕ} → Spells bs k → (before : List ℕ) → IsUtf8 (before ++ bs) → IsUtf8 (before ++ k)
spelt nothing before u = u
spelt (quote {bs = bs} {k = k} s) before u =
    let rest : IsUtf8 (before ++ 34 ∷ bs) = without before 92 (34 ∷ bs) (omega arith) u in
    subst IsUtf8 (append_assoc before (34 ∷ []) k)
    (spelt s (before ++ 34 ∷ []) (subst IsUtf8 (sym (append_assoc before (34 ∷ []) bs)) rest))
spelt (slash {bs = bs} {k = k} s) before u =
    let rest : IsUtf8 (before ++ 92 ∷ bs) = without before 92 (92 ∷ bs) (omega arith) u in
    subst IsUtf8 (append_assoc before (92 ∷ []) k)
    (spelt s (before ++ 92 ∷ []) (subst IsUtf8 (sym (append_assoc before (92 ∷ []) bs)) rest))
spelt (other {b = b} {bs = bs} {k = k} p q s) before u =
    subst IsUtf8 (append_assoc before (b ∷ []) k)
    (spelt s (before ++ b ∷ []) (subst IsUtf8 (sym (append_assoc before (b ∷ []) bs)) u))

-- and has no control characters
spelt_controls : {bs k : List ℕ} → Spells bs k → list_any is_control bs ≡ false → list_any is_control k ≡ false
spelt_controls nothing h = refl
spelt_controls (quote {bs = bs} s) h = spelt_controls s h
spelt_controls (slash {bs = bs} s) h = spelt_controls s h
spelt_controls (other {b = b} {bs = bs} {k = k} p q s) h = let t =
    or_parts (is_control b) (list_any is_control bs) h in rw t.0 (spelt_controls s t.1)

-- ---- tokens

-- a string is such a text
abbrev pub IsFine : Token → Type 0
IsFine t = (k : List ℕ) → t ≡ token.Quoted k → IsPlain k

-- each string among the tokens is such a text
abbrev pub AreFine : List Token → Type 0
AreFine [] = Unit {0}
AreFine (t ∷ ts) = IsFine t × AreFine ts

-- fine tokens without the first
pub drop_fine : (n : ℕ) (ts : List Token) → AreFine ts → AreFine (drop n ts)
drop_fine zero ts h = h
drop_fine (suc n) [] h = tt
drop_fine (suc n) (t ∷ ts) h = drop_fine n ts h.1

-- and in two parts
pub parts_fine : (ts us : List Token) → AreFine (ts ++ us) → AreFine ts × AreFine us
parts_fine [] us h = (tt, h)
parts_fine (t ∷ ts) us h = let r = parts_fine ts us h.1 in ((h.0, r.0), r.1)

-- all bytes are ASCII
abbrev AreAscii : List ℕ → Type 0
AreAscii [] = Unit {0}
AreAscii (b ∷ bs) = (b < 128) × AreAscii bs

-- after ASCII bytes a plain text is plain
past_all : (xs bs : List ℕ) → AreAscii xs → IsPlain (xs ++ bs) → IsPlain bs
past_all [] bs a p = p
past_all (x ∷ xs) bs a p = past_all xs bs a.1 (past_ascii x (xs ++ bs) a.0 p)

-- a byte of a range is at most its end
in_range : (low high b : ℕ) → is_in_range low high b ≡ true → b ≤ high
in_range low high b h = leb-true b high (and_parts _ _ h).1

-- digits are ASCII
digit_byte : (b : ℕ) → is_ascii_digit b ≡ true → b < 128
digit_byte b h = let l = in_range 48 57 b h in omega arith

-- and letters
letter_or_digit : (b : ℕ) → is_ascii_alphanumeric b ≡ true → b < 128
letter_or_digit b h = elim (or_cases (is_in_range 48 57 b || is_in_range 65 90 b) (is_in_range 97 122 b) h) [
  | inl left ↦ elim (or_cases (is_in_range 48 57 b) (is_in_range 65 90 b) left) [
    | inl digit ↦ let l = in_range 48 57 b digit in omega arith
    | inr upper ↦ let l = in_range 65 90 b upper in omega arith
  ]
  | inr lower ↦ let l = in_range 97 122 b lower in omega arith
]

-- and so all bytes of words
word_byte : (b : ℕ) → is_word_byte b ≡ true → b < 128
word_byte b h = elim (or_cases (is_ascii_alphanumeric b || (b == 95)) (b == 46) h) [
  | inl left ↦ elim (or_cases (is_ascii_alphanumeric b) (b == 95) left) [
    | inl letter ↦ letter_or_digit b letter
    | inr low ↦ let e = eqb-true b 95 low in omega arith
  ]
  | inr dot ↦ let e = eqb-true b 46 dot in omega arith
]

-- and words
word_ascii : (w : List ℕ) → AreWordBytes w → AreAscii w
word_ascii [] h = tt
word_ascii (b ∷ w) h = (word_byte b h.0, word_ascii w h.1)

-- the bytes of a mark are
mark_ascii : (m : Mark) → list_all (λ b. nat_lt b 128) (mark_bytes m) ≡ true
mark_ascii (mark.Joint joint.Iff) = refl
mark_ascii m = refl

-- by a test
tested_ascii : (bs : List ℕ) → list_all (λ b. nat_lt b 128) bs ≡ true → AreAscii bs
tested_ascii [] h = tt
tested_ascii (b ∷ bs) h = let t = and_parts _ _ h in (ltb-true b 128 t.0, tested_ascii bs t.1)

-- so the tokens of a plain line are fine
cut_is_fine : {v : Version} {line : List ℕ} {ts : List Token} → IsCut v line ts → IsPlain line → AreFine ts
cut_is_fine end p = tt
cut_is_fine (blank {bs = bs} d) p = cut_is_fine d (past_ascii 32 bs (omega arith) p)
cut_is_fine (tabbed {bs = bs} d) p = cut_is_fine d (past_ascii 9 bs (omega arith) p)
cut_is_fine (word b w {bs = bs} h e d) p =
    (λ k q. absurd (cc), cut_is_fine d (past_all (b ∷ w) bs (word_ascii (b ∷ w) h) p))
cut_is_fine (quoted {body = body} {k = k} {bs = bs} s d) p =
    let t = cut_plain body 34 bs (omega arith) (past_ascii 34 (body ++ 34 ∷ bs) (omega arith) p) in
    let text : IsPlain k = record { utf8 = spelt s [] t.0.utf8; plain = spelt_controls s t.0.plain } in
    (λ j q. let e : k ≡ j = cc in subst IsPlain e text, cut_is_fine d (past_ascii 34 bs (omega arith) t.1))
cut_is_fine (signed b w {bs = bs} two digit h e d) p =
    let ascii : AreAscii (45 ∷ b ∷ w) = (omega arith, (digit_byte b digit, word_ascii w h)) in
    (λ k q. absurd (cc), cut_is_fine d (past_all (45 ∷ b ∷ w) bs ascii p))
cut_is_fine (marked m {bs = bs} known ends d) p =
    (λ k q. absurd (cc), cut_is_fine d (past_all (mark_bytes m) bs (tested_ascii (mark_bytes m) (mark_ascii m)) p))

-- the tokens of such a line
pub line_is_fine : (v : Version) (line : List ℕ) (ts : List Token) → is_bad line ≡ false → tokens_of v line ≡ Some ts
    → AreFine ts
line_is_fine v line ts h e = cut_is_fine (found_is_cut v line ts e) (from_not_bad line h)

-- ---- constants

-- no constants, none that isn't plain
pub no_texts : AreTexts []
no_texts a c = absurd (Contains-nil a c)

-- one that is plain
pub one_text : (d : ℕ) (k : List ℕ) → IsPlain k → AreTexts ((record { category = d; text = k }) ∷ [])
one_text d k p a c = elim (contains_cases a (record { category = d; text = k }) [] c) [
  | inl e ↦ subst (λ (x : Equality). is_bad x.text ≡ false) e (not_bad k p)
  | inr n ↦ absurd (Contains-nil a n)
]

-- constants of two formulas
pub both_texts : (xs ys : List Equality) → AreTexts xs → AreTexts ys → AreTexts (xs ++ ys)
both_texts xs ys p q a c = elim (Contains-append_cases xs ys a c) [ inl d ↦ p a d | inr d ↦ q a d ]

-- where it is so of each constraint, it is so of all their constants
pub all_texts : (cs : List Constraint) → ((c : Constraint) → Contains cs c → AreTexts (equalities c.formula))
    → AreTexts (flat_map (λ c. equalities c.formula) cs)
all_texts [] h = no_texts
all_texts (c ∷ cs) h =
    subst AreTexts (sym (flat_map-cons (λ (k : Constraint). equalities k.formula) c cs))
    (both_texts (equalities c.formula) (flat_map (λ k. equalities k.formula) cs) (h c (contains_head c cs))
    (all_texts cs (λ k d. h k (contains_cons k cs c d))))
