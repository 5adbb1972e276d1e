-- A line that can be cut is cut into its tokens.
use Rattle.std.proofs.Common.{◌≡◌, ◌==◌, ℕ, Bool, true, false, arith, List, [], ◌∷◌, ◌++◌, refl, Some, append_assoc, append-nil, ap, ◌∙◌}
use Rattle.std.specs.{Char.is_ascii_digit, List.fold}
use Rattle.olap_grammar.proofs.LongestLemmas.{ends_of}
use Rattle.olap_grammar.specs.Cutting.{is_word_byte, AreWordBytes, EndsWord, mark_bytes, IsMarkIn, Spells, nothing, quote, slash, other, IsCut, end, blank, tabbed, word, quoted, signed, marked}
use Rattle.olap_grammar.specs.CuttingMachine.{Between, InWord, InQuotes, InSigned, Dash, Less, LessDash, cut_step, cut_ended, tokens_of}
use Rattle.olap_grammar.specs.{Longest.{EndsDash, EndsLess, EndsMark}, declared.tokens.Mark.Mark}
use Rattle.olap_grammar.specs.declared.tokens.{Token.Token, Version.Version}
use Rattle.olap_grammar.specs.declared.tokens.Token.TheVariants as token
use Rattle.olap_grammar.specs.declared.tokens.Mark.TheVariants as mark
use Rattle.olap_grammar.specs.declared.tokens.Joint.TheVariants as joint
use Rattle.olap_grammar.specs.declared.tokens.Version.TheVariants as version

-- a word goes on
in_word : (v : Version) (ts : List Token) (w : List ℕ) (b : ℕ) → is_word_byte b ≡ true
    → cut_step v (InWord ts w) b ≡ InWord ts (w ++ b ∷ [])
in_word v ts w b h = rw h refl

-- and a number with its sign
in_signed : (v : Version) (ts : List Token) (w : List ℕ) (b : ℕ) → is_word_byte b ≡ true
    → cut_step v (InSigned ts w) b ≡ InSigned ts (w ++ b ∷ [])
in_signed v ts w b h = rw h refl

-- a word begins
begins_word : (v : Version) (ts : List Token) (b : ℕ) → is_word_byte b ≡ true
    → cut_step v (Between ts) b ≡ InWord ts (b ∷ [])
begins_word v ts b h = rw h refl

-- a string goes on with a byte that stands for itself
in_quotes : (v : Version) (ts : List Token) (k : List ℕ) (b : ℕ) → b == 34 ≡ false → b == 92 ≡ false
    → cut_step v (InQuotes ts k) b ≡ InQuotes ts (k ++ b ∷ [])
in_quotes v ts k b p q = rw (p, q) refl

-- a word goes on over all its bytes
word_goes_on : (v : Version) (ts : List Token) (w u bs : List ℕ) → AreWordBytes u
    → fold (cut_step v) (InWord ts w) (u ++ bs) ≡ fold (cut_step v) (InWord ts (w ++ u)) bs
word_goes_on v ts w [] bs h = rw append-nil refl
word_goes_on v ts w (b ∷ u) bs h = let ih = word_goes_on v ts (w ++ b ∷ []) u bs h.1 in
    let e : (w ++ b ∷ []) ++ u ≡ w ++ b ∷ u = simp append_assoc in
    ap (λ s. fold (cut_step v) s (u ++ bs)) (in_word v ts w b h.0) ∙ rw e at ih

-- and ends before what is none of them
word_ends : (v : Version) (ts : List Token) (w bs : List ℕ) → EndsWord bs
    → cut_ended v (fold (cut_step v) (InWord ts w) bs)
    ≡ cut_ended v (fold (cut_step v) (Between (ts ++ token.Word w ∷ [])) bs)
word_ends v ts w [] h = refl
word_ends v ts w (b ∷ bs) h = rw h refl

-- the same of a number
number_goes_on : (v : Version) (ts : List Token) (w u bs : List ℕ) → AreWordBytes u
    → fold (cut_step v) (InSigned ts w) (u ++ bs) ≡ fold (cut_step v) (InSigned ts (w ++ u)) bs
number_goes_on v ts w [] bs h = rw append-nil refl
number_goes_on v ts w (b ∷ u) bs h = let ih = number_goes_on v ts (w ++ b ∷ []) u bs h.1 in
    let e : (w ++ b ∷ []) ++ u ≡ w ++ b ∷ u = simp append_assoc in
    ap (λ s. fold (cut_step v) s (u ++ bs)) (in_signed v ts w b h.0) ∙ rw e at ih

-- the same of a number
number_ends : (v : Version) (ts : List Token) (w bs : List ℕ) → EndsWord bs
    → cut_ended v (fold (cut_step v) (InSigned ts w) bs)
    ≡ cut_ended v (fold (cut_step v) (Between (ts ++ token.Signed w ∷ [])) bs)
number_ends v ts w [] h = refl
number_ends v ts w (b ∷ bs) h = rw h refl

-- a digit is no `>`
digit_other : (d : ℕ) → is_ascii_digit d ≡ true → d == 62 ≡ false
digit_other d h = grind arith

-- a digit after `-` begins a number
begins_number : (ts : List Token) (d : ℕ) → is_ascii_digit d ≡ true
    → cut_step version.Two (Dash ts) d ≡ InSigned ts (45 ∷ d ∷ [])
begins_number ts d h = rw (digit_other d h, h) refl

-- after `<` and `-`, where no arrow ends, the rest is cut as after a `-` after the mark `<`
dash_on : (ts : List Token) (bs : List ℕ) → EndsDash bs
    → cut_ended version.Two (fold (cut_step version.Two) (LessDash ts) bs)
    ≡ cut_ended version.Two (fold (cut_step version.Two) (Dash (ts ++ token.Mark mark.Less ∷ [])) bs)
dash_on ts [] h = refl
dash_on ts (b ∷ bs) h = rw h refl

-- after a `<` that is no part of a longer mark, the rest is cut as after the mark `<`
less_on : (ts : List Token) (bs : List ℕ) → EndsLess bs
    → cut_ended version.Two (fold (cut_step version.Two) (Less ts) bs)
    ≡ cut_ended version.Two (fold (cut_step version.Two) (Between (ts ++ token.Mark mark.Less ∷ [])) bs)
less_on ts [] h = refl
less_on ts (b ∷ bs) h = go (b == 45) refl
  where
    go : (t : Bool) → b == 45 ≡ t
        → cut_ended version.Two (fold (cut_step version.Two) (Less ts) (b ∷ bs))
        ≡ cut_ended version.Two (fold (cut_step version.Two) (Between (ts ++ token.Mark mark.Less ∷ [])) (b ∷ bs))
    go true e = let same : b ≡ 45 = grind (arith) in rw same (dash_on ts bs (h.1 e))
    go false e = rw (e, h.0) refl

-- a string goes on up to its quote
quotes_end : {body k : List ℕ} → Spells body k → (v : Version) (ts : List Token) (start bs : List ℕ)
    → fold (cut_step v) (InQuotes ts start) (body ++ 34 ∷ bs)
    ≡ fold (cut_step v) (Between (ts ++ token.Quoted (start ++ k) ∷ [])) bs
quotes_end nothing v ts start bs = rw append-nil refl
quotes_end (quote {k = k} d) v ts start bs = let e : (start ++ 34 ∷ []) ++ k ≡ start ++ 34 ∷ k =
    simp append_assoc in rw e at (quotes_end d v ts (start ++ 34 ∷ []) bs)
quotes_end (slash {k = k} d) v ts start bs = let e : (start ++ 92 ∷ []) ++ k ≡ start ++ 92 ∷ k =
    simp append_assoc in rw e at (quotes_end d v ts (start ++ 92 ∷ []) bs)
quotes_end (other {b = b} {bs = body} {k = k} p q d) v ts start bs = let e : (start ++ b ∷ []) ++ k ≡ start ++ b ∷ k =
    simp append_assoc in ap (λ s. fold (cut_step v) s (body ++ 34 ∷ bs)) (in_quotes v ts start b p q)
    ∙ rw e at (quotes_end d v ts (start ++ b ∷ []) bs)

-- so the line is cut into its tokens, whatever was cut before
cut_on : {v : Version} {line : List ℕ} {ts : List Token} → IsCut v line ts → (done : List Token)
    → cut_ended v (fold (cut_step v) (Between done) line) ≡ Some (done ++ ts)
cut_on end done = rw append-nil refl
cut_on (blank d) done = cut_on d done
cut_on (tabbed d) done = cut_on d done
cut_on {v = v} (word b w {bs = bs} {ts = ts} h n d) done =
    let e : (done ++ token.Word (b ∷ w) ∷ []) ++ ts ≡ done ++ token.Word (b ∷ w) ∷ ts = simp append_assoc in
    ap (λ s. cut_ended v (fold (cut_step v) s (w ++ bs))) (begins_word v done b h.0)
    ∙ ap (cut_ended v) (word_goes_on v done (b ∷ []) w bs h.1) ∙ word_ends v done (b ∷ w) bs n
    ∙ rw e at (cut_on d (done ++ token.Word (b ∷ w) ∷ []))
cut_on {v = v} (quoted {k = k} {bs = bs} {ts = ts} s d) done =
    let e : (done ++ token.Quoted k ∷ []) ++ ts ≡ done ++ token.Quoted k ∷ ts = simp append_assoc in
    rw (quotes_end s v done [] bs) (rw e at (cut_on d (done ++ token.Quoted k ∷ [])))
cut_on {v = v} (signed c w {bs = bs} {ts = ts} two digit h n d) done =
    go v two (cut_on d (done ++ token.Signed (45 ∷ c ∷ w) ∷ []))
  where
    go : (v : Version) → v ≡ version.Two
        → cut_ended v (fold (cut_step v) (Between (done ++ token.Signed (45 ∷ c ∷ w) ∷ [])) bs)
        ≡ Some ((done ++ token.Signed (45 ∷ c ∷ w) ∷ []) ++ ts)
        → cut_ended v (fold (cut_step v) (Between done) (45 ∷ c ∷ (w ++ bs)))
        ≡ Some (done ++ token.Signed (45 ∷ c ∷ w) ∷ ts)
    go version.One q ih = absurd (cc)
    go version.Two q ih =
        let e : (done ++ token.Signed (45 ∷ c ∷ w) ∷ []) ++ ts ≡ done ++ token.Signed (45 ∷ c ∷ w) ∷ ts =
        simp append_assoc in
        ap (λ s. cut_ended version.Two (fold (cut_step version.Two) s (w ++ bs))) (begins_number done c digit)
        ∙ ap (cut_ended version.Two) (number_goes_on version.Two done (45 ∷ c ∷ []) w bs h)
        ∙ number_ends version.Two done (45 ∷ c ∷ w) bs n ∙ rw e at ih
cut_on {v = v} (marked m {bs = bs} {ts = ts} in' ends d) done =
    let e : (done ++ token.Mark m ∷ []) ++ ts ≡ done ++ token.Mark m ∷ ts = simp append_assoc in
    go v m bs in' (ends_of v m bs in' ends) (rw e at (cut_on d (done ++ token.Mark m ∷ [])))
  where
    less : (v : Version) (bs : List ℕ) → v ≡ version.Two → EndsLess bs
        → cut_ended v (fold (cut_step v) (Between (done ++ token.Mark mark.Less ∷ [])) bs)
        ≡ Some (done ++ token.Mark mark.Less ∷ ts)
        → cut_ended v (fold (cut_step v) (Less done) bs) ≡ Some (done ++ token.Mark mark.Less ∷ ts)
    less version.One bs q ends h = absurd (cc)
    less version.Two bs q ends h = less_on done bs ends ∙ h

    at_most : (v : Version) (bs : List ℕ) → v ≡ version.Two
        → cut_ended v (fold (cut_step v) (Between (done ++ token.Mark mark.AtMost ∷ [])) bs)
        ≡ Some (done ++ token.Mark mark.AtMost ∷ ts)
        → cut_ended v (fold (cut_step v) (Less done) (61 ∷ bs)) ≡ Some (done ++ token.Mark mark.AtMost ∷ ts)
    at_most version.One bs q h = absurd (cc)
    at_most version.Two bs q h = h

    go : (v : Version) (n : Mark) (bs : List ℕ) → IsMarkIn n v → EndsMark n bs
        → cut_ended v (fold (cut_step v) (Between (done ++ token.Mark n ∷ [])) bs) ≡ Some (done ++ token.Mark n ∷ ts)
        → cut_ended v (fold (cut_step v) (Between done) (mark_bytes n ++ bs)) ≡ Some (done ++ token.Mark n ∷ ts)
    go v mark.Less bs in' ends h = less v bs in' ends h
    go v mark.AtMost bs in' ends h = at_most v bs in' h
    go v (mark.Joint joint.Iff) bs in' ends h = h
    go v n bs in' ends h = h

-- a line that can be cut is cut into its tokens
pub cut_is_found : (v : Version) (line : List ℕ) (ts : List Token) → IsCut v line ts → tokens_of v line ≡ Some ts
unfolding tokens_of
cut_is_found v line ts d = cut_on d []
