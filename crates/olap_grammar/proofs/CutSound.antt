-- A line is cut into the tokens that are found.
use Rattle.std.proofs.Common.{◌≡◌, ◌==◌, ◌⊎◌, ◌&&◌, inl, inr, ℕ, Bool, true, false, List, [], ◌∷◌, ◌++◌, refl, sym, ◌∙◌, Option, Some, None, append_assoc, append-nil, if◌then◌else◌}
use Rattle.std.{proofs.lemmas.Bool.eqb-true, specs.Char.is_ascii_digit, specs.List.fold}
use Rattle.olap_base.proofs.ListLemmas.{first_true, second_true}
use Rattle.olap_grammar.proofs.LongestLemmas.{cut_mark}
use Rattle.olap_grammar.specs.Cutting.{is_word_byte, AreWordBytes, EndsWord, mark_bytes, IsMarkIn, Spells, nothing, quote, slash, other, IsCut, end, blank, tabbed, word, quoted, signed, has_numbers}
use Rattle.olap_grammar.specs.CuttingMachine.{Cut, Between, InWord, InQuotes, Escaped, InSigned, Dash, Less, LessDash, Stuck, after_dash, after_less, between, mark_of, cut_step, cut_ended, tokens_of}
use Rattle.olap_grammar.specs.{Longest.EndsMark, declared.tokens.Mark.Mark, declared.tokens.Token.Token}
use Rattle.olap_grammar.specs.declared.tokens.Version.{Version}
use Rattle.olap_grammar.specs.CuttingMachine as machine
use Rattle.olap_grammar.specs.declared.tokens.Token.TheVariants as token
use Rattle.olap_grammar.specs.declared.tokens.Mark.TheVariants as mark
use Rattle.olap_grammar.specs.declared.tokens.Joint.TheVariants as joint
use Rattle.olap_grammar.specs.declared.tokens.Version.TheVariants as version

-- the tokens before, and the rest of the line is cut into the tokens after them
pub record Follows (v : Version) (done : List Token) (bs : List ℕ) (all : List Token) : Type 0 where
  pub later : List Token
  pub whole : all ≡ done ++ later
  pub cut : IsCut v bs later

-- the bytes of a word go on, and end in a token of a kind
pub record EndsRunAt (v : Version) (of : List ℕ → Token) (done : List Token) (w bs : List ℕ) (all : List Token) : Type 0
  where
    pub more : List ℕ
    pub rest : List ℕ
    pub line : bs ≡ more ++ rest
    pub bytes : AreWordBytes more
    pub ends : EndsWord rest
    pub follows : Follows v (done ++ of (w ++ more) ∷ []) rest all

-- the string ends with what it spells, and the rest is cut
pub record EndsQuotesAt (v : Version) (done : List Token) (k bs : List ℕ) (all : List Token) : Type 0 where
  pub body : List ℕ
  pub text : List ℕ
  pub rest : List ℕ
  pub line : bs ≡ body ++ 34 ∷ rest
  pub spelt : Spells body text
  pub follows : Follows v (done ++ token.Quoted (k ++ text) ∷ []) rest all

-- from the state on, the rest of the line gives all the tokens
abbrev pub Gives : Version → Cut → List ℕ → List Token → Type 0
Gives v (Between ts) bs all = Follows v ts bs all
Gives v (InWord ts w) bs all = EndsRunAt v (λ w. token.Word w) ts w bs all
Gives v (InSigned ts w) bs all = EndsRunAt v (λ w. token.Signed w) ts w bs all
Gives v (InQuotes ts k) bs all = EndsQuotesAt v ts k bs all
Gives v (Escaped ts k) bs all = (b : ℕ) × (rest : List ℕ) × (bs ≡ b ∷ rest) × ((b ≡ 34) ⊎ (b ≡ 92))
    × EndsQuotesAt v ts (k ++ b ∷ []) rest all
Gives v (Dash ts) bs all = Follows v ts (45 ∷ bs) all
Gives v (Less ts) bs all = Follows v ts (60 ∷ bs) all
Gives v (LessDash ts) bs all = Follows v ts (60 ∷ 45 ∷ bs) all
Gives v Stuck bs all = ⊥

-- a choice by a test
choose : {A : Type 0} (P : A → Type 0) (Q : Type 0) (t : Bool) (x y : A) → (t ≡ true → P x → Q)
    → (t ≡ false → P y → Q) → P (if t then x else y) → Q
choose P Q true x y f g h = f refl h
choose P Q false x y f g h = g refl h

-- a mark in front of what follows it
after_mark : (v : Version) (m : Mark) (done : List Token) (bs : List ℕ) (all : List Token) → IsMarkIn m v
    → EndsMark m bs → Follows v (done ++ token.Mark m ∷ []) bs all → Follows v done (mark_bytes m ++ bs) all
after_mark v m done bs all in' ends h = record {
  later = token.Mark m ∷ h.later;
  whole = rw h.whole (simp append_assoc);
  cut = cut_mark m in' ends h.cut;
}

-- numbers stand in the second version alone
is_two : (v : Version) → has_numbers v ≡ true → v ≡ version.Two
is_two version.One e = absurd (cc)
is_two version.Two e = refl

-- a number with its sign
signed_gives : (v : Version) (ts : List Token) (d : ℕ) (bs : List ℕ) (all : List Token) → v ≡ version.Two
    → is_ascii_digit d ≡ true → EndsRunAt v (λ w. token.Signed w) ts (45 ∷ d ∷ []) bs all
    → Follows v ts (45 ∷ d ∷ bs) all
signed_gives v ts d bs all two digit h = rw h.line (record {
  later = token.Signed (45 ∷ d ∷ h.more) ∷ h.follows.later;
  whole = rw h.follows.whole (simp append_assoc);
  cut = signed d h.more two digit h.bytes h.ends h.follows.cut;
})

-- a mark that is found for a byte is spelt by it, if that holds of the marks after the first
first_mark : (b c : ℕ) (first m : Mark) (others : Option Mark) → mark_bytes first ≡ c ∷ []
    → (others ≡ Some m → mark_bytes m ≡ b ∷ []) → (if b == c then Some first else others) ≡ Some m
    → mark_bytes m ≡ b ∷ []
first_mark b c first m others spelt later h = go (b == c) refl h
  where
    go : (t : Bool) → b == c ≡ t → (if t then Some first else others) ≡ Some m → mark_bytes m ≡ b ∷ []
    go true e q = let same : first ≡ m = cc in rw (← same, eqb-true b c e) spelt
    go false e q = later q

-- the mark that a byte is by itself is spelt by it
spelt_by : (b : ℕ) (m : Mark) → mark_of b ≡ Some m → mark_bytes m ≡ b ∷ []
spelt_by b m =
    first_mark b 40 mark.Open m _ refl
    (first_mark b 41 mark.Close m _ refl
    (first_mark b 44 mark.Comma m _ refl
    (first_mark b 58 mark.Colon m _ refl
    (first_mark b 61 mark.Equal m _ refl
    (first_mark b 33 mark.Not m _ refl
    (first_mark b 94 (mark.Joint joint.Xor) m _ refl
    (first_mark b 124 (mark.Joint joint.Or) m _ refl
    (first_mark b 38 (mark.Joint joint.And) m _ refl (λ h. absurd (cc))))))))))

-- what holds of each mark of one byte holds of the one that is found
first_holds : (P : Mark → Type 0) (t : Bool) (first m : Mark) (others : Option Mark) → P first
    → (others ≡ Some m → P m) → (if t then Some first else others) ≡ Some m → P m
first_holds P true first m others p later h = let same : first ≡ m = cc in rw (← same) p
first_holds P false first m others p later h = later h

-- a mark of one byte is of each version, and no longer one begins with it
plain_mark : (v : Version) (b : ℕ) (m : Mark) (bs : List ℕ) → mark_of b ≡ Some m → IsMarkIn m v × EndsMark m bs
plain_mark v b m bs =
    let P : Mark → Type 0 = λ m. IsMarkIn m v × EndsMark m bs in
    first_holds P (b == 40) mark.Open m _ (tt, tt)
    (first_holds P (b == 41) mark.Close m _ (tt, tt)
    (first_holds P (b == 44) mark.Comma m _ (tt, tt)
    (first_holds P (b == 58) mark.Colon m _ (tt, tt)
    (first_holds P (b == 61) mark.Equal m _ (tt, tt)
    (first_holds P (b == 33) mark.Not m _ (tt, tt)
    (first_holds P (b == 94) (mark.Joint joint.Xor) m _ (tt, tt)
    (first_holds P (b == 124) (mark.Joint joint.Or) m _ (tt, tt)
    (first_holds P (b == 38) (mark.Joint joint.And) m _ (tt, tt) (λ h. absurd (cc))))))))))

-- a byte that is a mark by itself
mark_gives : (v : Version) (ts : List Token) (b : ℕ) (bs : List ℕ) (all : List Token) (found : Option Mark)
    → mark_of b ≡ found → Gives v (machine.marked ts found) bs all → Follows v ts (b ∷ bs) all
mark_gives v ts b bs all None e h = absurd h
mark_gives v ts b bs all (Some m) e h =
    let line : mark_bytes m ++ bs ≡ b ∷ bs = rw (spelt_by b m e) refl in
    let plain = plain_mark v b m bs e in
    rw line at (after_mark v m ts bs all plain.0 plain.1 h)

-- a byte where nothing was begun
between_gives : (v : Version) (ts : List Token) (b : ℕ) (bs : List ℕ) (all : List Token) → Gives v (between ts b) bs all
    → Follows v ts (b ∷ bs) all
between_gives v ts b bs all =
    let P : Cut → Type 0 = λ s. Gives v s bs all in
    let Q : Type 0 = Follows v ts (b ∷ bs) all in
    choose P Q (is_word_byte b) _ _
    (λ e h. record {
      later = token.Word (b ∷ h.more) ∷ h.follows.later;
      whole = rw h.follows.whole
          (simp append_assoc);
      cut = rw h.line (word b h.more (e, h.bytes) h.ends h.follows.cut);
    })
    (λ n. choose P Q (b == 32) _ _
    (λ e h. rw (eqb-true b 32 e) (record { later = h.later; whole = h.whole; cut = blank h.cut }))
    (λ n. choose P Q (b == 9) _ _
    (λ e h. rw (eqb-true b 9 e) (record { later = h.later; whole = h.whole; cut = tabbed h.cut }))
    (λ n. choose P Q (b == 34) _ _
    (λ e h. rw (eqb-true b 34 e, h.line)
    (record {
      later = token.Quoted h.text ∷ h.follows.later;
      whole = rw h.follows.whole
          (simp append_assoc);
      cut = quoted h.spelt h.follows.cut;
    }))
    (λ n. choose P Q (b == 45) _ _ (λ e h. rw (eqb-true b 45 e) h)
    (λ n. choose P Q (b == 60) _ _ (λ e h. rw (eqb-true b 60 e) h)
    (λ n h. mark_gives v ts b bs all (mark_of b) refl h))))))

-- a byte after `-` that ends no arrow
dash_gives : (v : Version) (ts : List Token) (b : ℕ) (bs : List ℕ) (all : List Token)
    → Gives v (after_dash v ts b) bs all → Follows v ts (45 ∷ b ∷ bs) all
dash_gives v ts b bs all = choose (λ s. Gives v s bs all) (Follows v ts (45 ∷ b ∷ bs) all)
    (has_numbers v && is_ascii_digit b) _ _
    (λ e h. signed_gives v ts b bs all (is_two v (first_true (has_numbers v) (is_ascii_digit b) e))
    (second_true (has_numbers v) (is_ascii_digit b) e) h)
    (λ n h. absurd h)

-- a byte after `<` that isn't `-`
less_gives : (v : Version) (ts : List Token) (b : ℕ) (bs : List ℕ) (all : List Token) → b == 45 ≡ false
    → Gives v (after_less v ts b) bs all → Follows v ts (60 ∷ b ∷ bs) all
less_gives v ts b bs all m =
    let P : Cut → Type 0 = λ s. Gives v s bs all in
    let Q : Type 0 = Follows v ts (60 ∷ b ∷ bs) all in
    choose P Q (has_numbers v) _ _
    (λ e. choose P Q (b == 61) _ _
    (λ f h. rw (eqb-true b 61 f) (after_mark v mark.AtMost ts bs all (is_two v e) tt h))
    (λ n h. after_mark v mark.Less ts (b ∷ bs) all (is_two v e)
    (n, λ y. absurd (let z : true ≡ false = sym y ∙ m in cc))
    (between_gives v (ts ++ token.Mark mark.Less ∷ []) b bs all h)))
    (λ n h. absurd h)

-- one more byte of a run
run_goes_on : (v : Version) (of : List ℕ → Token) (ts : List Token) (w : List ℕ) (b : ℕ) (bs : List ℕ)
    (all : List Token) → is_word_byte b ≡ true → EndsRunAt v of ts (w ++ b ∷ []) bs all
    → EndsRunAt v of ts w (b ∷ bs) all
run_goes_on v of ts w b bs all e h = record {
  more = b ∷ h.more;
  rest = h.rest;
  line = rw h.line refl;
  bytes = (e, h.bytes);
  ends = h.ends;
  follows = let same : (w ++ b ∷ []) ++ h.more ≡ w ++ b ∷ h.more = simp append_assoc in rw same at h.follows;
}

-- a byte that is none of the run
run_ends : (v : Version) (of : List ℕ → Token) (ts : List Token) (w : List ℕ) (b : ℕ) (bs : List ℕ) (all : List Token)
    → is_word_byte b ≡ false → Follows v (ts ++ of w ∷ []) (b ∷ bs) all → EndsRunAt v of ts w (b ∷ bs) all
run_ends v of ts w b bs all n h = record {
  more = [];
  rest = b ∷ bs;
  line = refl;
  bytes = tt;
  ends = n;
  follows = rw append-nil h;
}

-- one byte more in front
step_gives : (v : Version) (s : Cut) (b : ℕ) (bs : List ℕ) (all : List Token) → Gives v (cut_step v s b) bs all
    → Gives v s (b ∷ bs) all
step_gives v (Between ts) b bs all h = between_gives v ts b bs all h
step_gives v (InWord ts w) b bs all h =
    choose (λ s. Gives v s bs all) (EndsRunAt v (λ w. token.Word w) ts w (b ∷ bs) all) (is_word_byte b) _ _
    (run_goes_on v (λ w. token.Word w) ts w b bs all)
    (λ n h. run_ends v (λ w. token.Word w) ts w b bs all n (between_gives v (ts ++ token.Word w ∷ []) b bs all h)) h
step_gives v (InSigned ts w) b bs all h =
    choose (λ s. Gives v s bs all) (EndsRunAt v (λ w. token.Signed w) ts w (b ∷ bs) all) (is_word_byte b) _ _
    (run_goes_on v (λ w. token.Signed w) ts w b bs all)
    (λ n h. run_ends v (λ w. token.Signed w) ts w b bs all n (between_gives v (ts ++ token.Signed w ∷ []) b bs all h)) h
step_gives v (InQuotes ts k) b bs all h =
    let P : Cut → Type 0 = λ s. Gives v s bs all in
    let Q : Type 0 = EndsQuotesAt v ts k (b ∷ bs) all in
    choose P Q (b == 34) _ _
    (λ e h. record {
      body = [];
      text = [];
      rest = bs;
      line = rw
          (eqb-true b 34 e) refl;
      spelt = nothing;
      follows = rw append-nil h;
    })
    (λ n. choose P Q (b == 92) _ _ (λ e h. escaped (eqb-true b 92 e) h.0 h.1 h.2 h.3 h.4)
    (λ m h. record {
      body = b ∷ h.body;
      text = b ∷ h.text;
      rest = h.rest;
      line = rw h.line refl;
      spelt = other n m
          h.spelt;
      follows = let same : (k ++ b ∷ []) ++ h.text ≡ k ++ b ∷ h.text =
          simp append_assoc in rw same at h.follows;
    })) h
  where
    escaped : b ≡ 92 → (c : ℕ) (rest : List ℕ) → bs ≡ c ∷ rest → (c ≡ 34) ⊎ (c ≡ 92)
        → EndsQuotesAt v ts (k ++ c ∷ []) rest all → EndsQuotesAt v ts k (b ∷ bs) all
    escaped e c rest l (inl q) h =
        record {
          body = 92 ∷ 34 ∷ h.body;
          text = 34 ∷ h.text;
          rest = h.rest;
          line = rw
              (e, l, q, h.line) refl;
          spelt = quote h.spelt;
          follows =
              let same : (k ++ c ∷ []) ++ h.text ≡ k ++ 34 ∷ h.text = rw q (simp append_assoc) in
              rw same at h.follows;
        }
    escaped e c rest l (inr q) h =
        record {
          body = 92 ∷ 92 ∷ h.body;
          text = 92 ∷ h.text;
          rest = h.rest;
          line = rw
              (e, l, q, h.line) refl;
          spelt = slash h.spelt;
          follows =
              let same : (k ++ c ∷ []) ++ h.text ≡ k ++ 92 ∷ h.text = rw q (simp append_assoc) in
              rw same at h.follows;
        }
step_gives v (Escaped ts k) b bs all h =
    let P : Cut → Type 0 = λ s. Gives v s bs all in
    let Q : Type 0 = Gives v (Escaped ts k) (b ∷ bs) all in
    choose P Q (b == 34) _ _ (λ e h. (b, bs, refl, inl (eqb-true b 34 e), h))
    (λ n. choose P Q (b == 92) _ _ (λ e h. (b, bs, refl, inr (eqb-true b 92 e), h)) (λ m h. absurd h)) h
step_gives v (Dash ts) b bs all h =
    choose (λ s. Gives v s bs all) (Follows v ts (45 ∷ b ∷ bs) all) (b == 62) _ _
    (λ e h. rw (eqb-true b 62 e) (after_mark v (mark.Joint joint.Implies) ts bs all tt tt h))
    (λ n h. dash_gives v ts b bs all h) h
step_gives v (Less ts) b bs all h =
    choose (λ s. Gives v s bs all) (Follows v ts (60 ∷ b ∷ bs) all) (b == 45) _ _
    (λ e h. rw (eqb-true b 45 e) h) (λ n h. less_gives v ts b bs all n h) h
step_gives v (LessDash ts) b bs all h =
    choose (λ s. Gives v s bs all) (Follows v ts (60 ∷ 45 ∷ b ∷ bs) all) (b == 62) _ _
    (λ e h. rw (eqb-true b 62 e) (after_mark v (mark.Joint joint.Iff) ts bs all tt tt h))
    (λ n. choose (λ s. Gives v s bs all) (Follows v ts (60 ∷ 45 ∷ b ∷ bs) all) (has_numbers v && is_ascii_digit b) _ _
    (λ e h.
    let two = is_two v (first_true (has_numbers v) (is_ascii_digit b) e) in
    after_mark v mark.Less ts (45 ∷ b ∷ bs) all two (refl, λ y. n)
    (signed_gives v (ts ++ token.Mark mark.Less ∷ []) b bs all two
    (second_true (has_numbers v) (is_ascii_digit b) e) h))
    (λ m h. absurd h)) h
step_gives v Stuck b bs all h = absurd h

-- a run that ends with the line
run_ended : (v : Version) (of : List ℕ → Token) (ts : List Token) (w : List ℕ) (all : List Token)
    → ts ++ of w ∷ [] ≡ all → EndsRunAt v of ts w [] all
run_ended v of ts w all e = record {
  more = [];
  rest = [];
  line = refl;
  bytes = tt;
  ends = tt;
  follows = record { later = []; whole = simp append-nil (sym e); cut = end };
}

-- a `<` at the end of the line
less_ended : (v : Version) (ts all : List Token) (t : Bool) → has_numbers v ≡ t
    → (if t then Some (ts ++ token.Mark mark.Less ∷ []) else None) ≡ Some all → Follows v ts (60 ∷ []) all
less_ended v ts all true e h = record {
  later = token.Mark mark.Less ∷ [];
  whole = cc;
  cut = cut_mark mark.Less (is_two v e) tt end;
}
less_ended v ts all false e h = absurd cc

-- the end of the line
ended_gives : (v : Version) (s : Cut) (all : List Token) → cut_ended v s ≡ Some all → Gives v s [] all
ended_gives v (Between ts) all h = record { later = []; whole = rw append-nil cc; cut = end }
ended_gives v (InWord ts w) all h = run_ended v (λ w. token.Word w) ts w all cc
ended_gives v (InSigned ts w) all h = run_ended v (λ w. token.Signed w) ts w all cc
ended_gives v (Less ts) all h = less_ended v ts all (has_numbers v) refl h
ended_gives v s all h = absurd cc

-- so what the machine finds is a cut
run_gives : (v : Version) (s : Cut) (bs : List ℕ) (all : List Token)
    → cut_ended v (fold (cut_step v) s bs) ≡ Some all → Gives v s bs all
run_gives v s [] all h = ended_gives v s all h
run_gives v s (b ∷ bs) all h = step_gives v s b bs all (run_gives v (cut_step v s b) bs all h)

-- a line is cut into the tokens that are found
pub found_is_cut : (v : Version) (line : List ℕ) (ts : List Token) → tokens_of v line ≡ Some ts → IsCut v line ts
unfolding tokens_of
found_is_cut v line ts e = let h : Follows v [] line ts = run_gives v (Between []) line ts e in rw h.whole h.cut
