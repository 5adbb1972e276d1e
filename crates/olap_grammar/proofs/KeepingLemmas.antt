-- The cutter that keeps the first tokens, against the one that keeps all.
--     kept-is     it keeps of a line what is kept of its tokens
use Rattle.std.proofs.Common.{◌≡◌, ◌≤◌, ◌<◌, ◌==◌, ◌++◌, ◌∷◌, ◌∙◌, ◌&&◌, if◌then◌else◌, Bool, true, false, ℕ, List, [], cond, length, nat_lt, Option, Some, None, refl, sym, ap, subst, arith, append_assoc, append-nil}
use Rattle.std.proofs.lemmas.{Bool.{ltb-false, ltb-true}, List.length-append, List.Sums.fold-append}
use Rattle.std.specs.{Char.is_ascii_digit, List.fold, Option.option_map}
use Rattle.olap_grammar.{proofs.TallyLemmas.tally_is, specs.Cutter.FailsWith, specs.Cutting.{is_word_byte, has_numbers}}
use Rattle.olap_grammar.specs.CuttingMachine.{Cut, mark_of, tokens_of}
use Rattle.olap_grammar.specs.Keeping.{Begins, BeginsFound, Going, IsTallyOf, Kept, keep, kept_tokens, nothing_kept}
use Rattle.olap_grammar.specs.{Tallying.tallied, declared.refusals.NoTokens.NoTokens, declared.tallying.Tally.Tally}
use Rattle.olap_grammar.specs.declared.tokens.{Mark.Mark, Token.Token, Version.Version}
use Rattle.olap_base.specs.declared.refusals.Refusal.{Refusal}
use Rattle.olap_grammar.specs.CuttingMachine as machine
use Rattle.olap_grammar.specs.Keeping as keeping
use Rattle.olap_base.specs.declared.refusals.Refusal.TheVariants as refusal
use Rattle.olap_grammar.specs.declared.tokens.Token.TheVariants as token
use Rattle.olap_grammar.specs.declared.tokens.Mark.TheVariants as mark
use Rattle.olap_grammar.specs.declared.tokens.Joint.TheVariants as joint

-- ---- what is kept of a line

module _ (v : Version) (most : ℕ) where
  abbrev summary : List Token → Kept
  summary ts = fold (keep v) (nothing_kept most) ts

  abbrev seen : Cut → Going
  seen (machine.Between ts) = keeping.Between (summary ts)
  seen (machine.InWord ts w) = keeping.InWord (summary ts) w
  seen (machine.InQuotes ts k) = keeping.InQuotes (summary ts) k
  seen (machine.Escaped ts k) = keeping.Escaped (summary ts) k
  seen (machine.InSigned ts w) = keeping.InSigned (summary ts) w
  seen (machine.Dash ts) = keeping.Dash (summary ts)
  seen (machine.Less ts) = keeping.Less (summary ts)
  seen (machine.LessDash ts) = keeping.LessDash (summary ts)
  seen machine.Stuck = keeping.Stuck

  pushed : (ts : List Token) (t : Token) → summary (ts ++ t ∷ []) ≡ keep v (summary ts) t
  pushed ts t = fold-append (keep v) (nothing_kept most) ts (t ∷ [])

  one_more : (ts : List Token) (t : Token)
      → seen (machine.Between (ts ++ t ∷ [])) ≡ keeping.Between (keep v (summary ts) t)
  one_more ts t = ap keeping.Between (pushed ts t)

  choose : (b : Bool) (x y : Cut) (v w : Going) → seen x ≡ v → seen y ≡ w → seen (cond b x y) ≡ cond b v w
  choose true x y v w e f = e
  choose false x y v w e f = f

  marked-seen : (ts : List Token) (found : Option Mark)
      → seen (machine.marked ts found) ≡ keeping.marked v (summary ts) found
  marked-seen ts None = refl
  marked-seen ts (Some m) = one_more ts (token.Mark m)

  between-seen : (ts : List Token) (b : ℕ) → seen (machine.between ts b) ≡ keeping.between v (summary ts) b
  between-seen ts b =
      choose (is_word_byte b) _ _ _ _ refl
      (choose (b == 32) _ _ _ _ refl
      (choose (b == 9) _ _ _ _ refl
      (choose (b == 34) _ _ _ _ refl
      (choose (b == 45) _ _ _ _ refl
      (choose (b == 60) _ _ _ _ refl
      (marked-seen ts (mark_of b)))))))

  dash-seen : (ts : List Token) (b : ℕ)
      → seen (machine.after_dash v ts b) ≡ keeping.after_dash v (summary ts) b
  dash-seen ts b = choose (has_numbers v && is_ascii_digit b) _ _ _ _ refl refl

  less-seen : (ts : List Token) (b : ℕ)
      → seen (machine.after_less v ts b) ≡ keeping.after_less v (summary ts) b
  less-seen ts b =
      choose (has_numbers v) _ _ _ _
      (choose (b == 61) _ _ _ _ (one_more ts (token.Mark mark.AtMost))
      (between-seen (ts ++ token.Mark mark.Less ∷ []) b
      ∙ ap (λ k. keeping.between v k b) (pushed ts (token.Mark mark.Less)))) refl

  step-seen : (c : Cut) (b : ℕ) → seen (machine.cut_step v c b) ≡ keeping.kept_step v (seen c) b
  step-seen (machine.Between ts) b = between-seen ts b
  step-seen (machine.InSigned ts w) b =
      choose (is_word_byte b) _ _ _ _ refl
      (between-seen (ts ++ token.Signed w ∷ []) b ∙ ap (λ k. keeping.between v k b) (pushed ts (token.Signed w)))
  step-seen (machine.InWord ts w) b =
      choose (is_word_byte b) _ _ _ _ refl
      (between-seen (ts ++ token.Word w ∷ []) b ∙ ap (λ k. keeping.between v k b) (pushed ts (token.Word w)))
  step-seen (machine.InQuotes ts k) b =
      choose (b == 34) _ _ _ _ (one_more ts (token.Quoted k)) (choose (b == 92) _ _ _ _ refl refl)
  step-seen (machine.Escaped ts k) b = choose (b == 34) _ _ _ _ refl (choose (b == 92) _ _ _ _ refl refl)
  step-seen (machine.Dash ts) b =
      choose (b == 62) _ _ _ _ (one_more ts (token.Mark (mark.Joint joint.Implies))) (dash-seen ts b)
  step-seen (machine.Less ts) b = choose (b == 45) _ _ _ _ refl (less-seen ts b)
  step-seen (machine.LessDash ts) b =
      choose (b == 62) _ _ _ _ (one_more ts (token.Mark (mark.Joint joint.Iff)))
      (dash-seen (ts ++ token.Mark mark.Less ∷ []) b
      ∙ ap (λ k. keeping.after_dash v k b) (pushed ts (token.Mark mark.Less)))
  step-seen machine.Stuck b = refl

  fold-seen : (bs : List ℕ) (c : Cut)
      → seen (fold (machine.cut_step v) c bs) ≡ fold (keeping.kept_step v) (seen c) bs
  fold-seen [] c = refl
  fold-seen (b ∷ bs) c =
      fold-seen bs (machine.cut_step v c b) ∙ ap (λ g. fold (keeping.kept_step v) g bs) (step-seen c b)

  less-ended : (t : Bool) (ts : List Token)
      → (if t then Some (keep v (summary ts) (token.Mark mark.Less)) else None)
      ≡ option_map summary (if t then Some (ts ++ token.Mark mark.Less ∷ []) else None)
  less-ended true ts = ap Some (sym (pushed ts (token.Mark mark.Less)))
  less-ended false ts = refl

  ended-seen : (c : Cut) → keeping.kept_ended v (seen c) ≡ option_map summary (machine.cut_ended v c)
  ended-seen (machine.InSigned ts w) = ap Some (sym (pushed ts (token.Signed w)))
  ended-seen (machine.InWord ts w) = ap Some (sym (pushed ts (token.Word w)))
  ended-seen (machine.Less ts) = less-ended (has_numbers v) ts
  ended-seen c = refl

  pub kept-is : (line : List ℕ) → kept_tokens v most line ≡ option_map summary (tokens_of v line)
  unfolding kept_tokens tokens_of
  kept-is line =
      ap (keeping.kept_ended v) (sym (fold-seen line (machine.Between [])))
      ∙ ended-seen (fold (machine.cut_step v) (machine.Between []) line)

-- ---- what is kept of tokens

-- of each token as much is counted, whether it is kept or not
tally-of : (b : Bool) (x y : Kept) (m : Tally) → x.tally ≡ m → y.tally ≡ m → (cond b x y).tally ≡ m
tally-of true x y m e f = e
tally-of false x y m e f = f

-- what is counted doesn't depend on what is kept
tally-on : (v : Version) (ts : List Token) (k : Kept) → (fold (keep v) k ts).tally ≡ fold (tallied v) k.tally ts
tally-on v [] k = refl
tally-on v (t ∷ ts) k =
    tally-on v ts (keep v k t)
    ∙ ap (λ y. fold (tallied v) y ts) (tally-of (nat_lt (length k.first) k.most) _ _ (tallied v k.tally t) refl refl)

-- if there is room there are no more
no-more : (b : Bool) (most n : ℕ) → n < most → (b ≡ true → most ≤ n) → b ≡ false
no-more true most n l f = let h = f refl in absurd (omega (arith, l, h))
no-more false most n l f = refl

-- the tokens begin with those kept
record Keeps (k : Kept) (ts : List Token) : Type 0 where
  rest : List Token
  parts : ts ≡ k.first ++ rest
  all : k.more ≡ false → rest ≡ []
  full : k.more ≡ true → k.most ≤ length k.first
  others : k.more ≡ true → 0 < length rest

-- one token more
begins-more : (v : Version) (k : Kept) (done : List Token) (t : Token) → Keeps k done
    → Keeps (keep v k t) (done ++ t ∷ [])
begins-more v k done t h = go (nat_lt (length k.first) k.most) refl
  where
    go : (b : Bool) → nat_lt (length k.first) k.most ≡ b
        → Keeps
        (cond b (record { most = k.most; first = k.first ++ t ∷ []; more = k.more; tally = tallied v k.tally t })
        (record { most = k.most; first = k.first; more = true; tally = tallied v k.tally t })) (done ++ t ∷ [])
    go true e =
        let l = ltb-true (length k.first) k.most e in
        let none = h.all (no-more k.more k.most (length k.first) l h.full) in
        let same : done ≡ k.first = h.parts ∙ ap (λ r. k.first ++ r) none ∙ append-nil k.first in
        record {
          rest = [];
          parts = ap (λ d. d ++ t ∷ []) same ∙ sym (append-nil (k.first ++ t ∷ []));
          all = λ m. refl;
          full = λ m. let f = h.full m in absurd (omega (arith, l, f));
          others = λ m. let f = h.full m in absurd (omega (arith, l, f));
        }
    go false e = record {
      rest = h.rest ++ t ∷ [];
      parts = ap (λ d. d ++ t ∷ []) h.parts ∙ append_assoc k.first h.rest (t ∷ []);
      all = λ m. absurd (cc);
      full = λ m. ltb-false (length k.first) k.most e;
      others = λ m. let l = length-append h.rest (t ∷ []) in omega (arith, l);
    }

-- all tokens more
begins-on : (v : Version) (ts done : List Token) (k : Kept) → Keeps k done → Keeps (fold (keep v) k ts) (done ++ ts)
begins-on v [] done k h = subst (Keeps k) (sym (append-nil done)) h
begins-on v (t ∷ ts) done k h =
    rw (append_assoc done (t ∷ []) ts) at (begins-on v ts (done ++ t ∷ []) (keep v k t) (begins-more v k done t h))

-- what is kept of tokens is a beginning of them
pub begins : (v : Version) (most : ℕ) (ts : List Token) → Begins v (summary v most ts) ts
begins v most ts =
    let k = begins-on v ts [] (nothing_kept most)
    (record { rest = []; parts = refl; all = λ m. refl; full = λ m. absurd (cc); others = λ m. absurd (cc) }) in
    record {
      rest = k.rest;
      parts = k.parts;
      all = k.all;
      full = k.full;
      others = k.others;
      tally = subst (λ y. IsTallyOf v y ts) (sym (tally-on v ts (nothing_kept most))) (tally_is v ts);
    }

-- how many may be kept stays, in either case
most-of : (b : Bool) (x y : Kept) (m : ℕ) → x.most ≡ m → y.most ≡ m → (cond b x y).most ≡ m
most-of true x y m e f = e
most-of false x y m e f = f

-- and over all tokens
most-on : (v : Version) (ts : List Token) (k : Kept) → (fold (keep v) k ts).most ≡ k.most
most-on v [] k = refl
most-on v (t ∷ ts) k = most-on v ts (keep v k t) ∙ most-of (nat_lt (length k.first) k.most) _ _ k.most refl refl

-- ---- what a call's clause says

-- so what is kept of a line begins its tokens
pub found : (v : Version) (most : ℕ) (line : List ℕ) (k : Kept) → kept_tokens v most line ≡ Some k
    → BeginsFound v k (tokens_of v line)
found v most line k e = go (tokens_of v line) (sym (kept-is v most line) ∙ e)
  where
    go : (o : Option (List Token)) → option_map (summary v most) o ≡ Some k → BeginsFound v k o
    go None f = absurd (cc)
    go (Some ts) f =
        let same : summary v most ts ≡ k = cc in
        (ts, refl, subst (λ j. Begins v j ts) same (begins v most ts))

-- with as many as were allowed
pub same-most : (v : Version) (most : ℕ) (line : List ℕ) (k : Kept) → kept_tokens v most line ≡ Some k → k.most ≡ most
same-most v most line k e = go (tokens_of v line) (sym (kept-is v most line) ∙ e)
  where
    go : (o : Option (List Token)) → option_map (summary v most) o ≡ Some k → k.most ≡ most
    go None f = cc
    go (Some ts) f =
        let same : summary v most ts ≡ k = cc in
        ap (λ (j : Kept). j.most) (sym same) ∙ most-on v ts (nothing_kept most)

-- and a line that can't be cut has none
pub fails : (v : Version) (most : ℕ) (line : List ℕ) (e : Refusal NoTokens) → FailsWith e (kept_tokens v most line)
    → FailsWith e (tokens_of v line)
fails v most line (refusal.Kind r) h = go (tokens_of v line) (sym (kept-is v most line) ∙ h)
  where
    go : (o : Option (List Token)) → option_map (summary v most) o ≡ None → o ≡ None
    go None f = refl
    go (Some ts) f = cc
fails v most line (refusal.Memory m) h = tt
