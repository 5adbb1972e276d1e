-- Brackets that are open: gone over from the left, and counted in a beginning.
use Rattle.std.proofs.Common.{◌≡◌, ◌+◌, ◌<◌, ◌≤◌, ℕ, suc, Bool, true, false, cond, List, [], ◌∷◌, nat_lt, refl, ap, ◌∙◌, take, arith}
use Rattle.std.{proofs.lemmas.Bool.{ltb-false, ltb-true}, proofs.lemmas.List.Sums.sum_by-cons, specs.Prelude.count_by}
use Rattle.olap_base.specs.Limits.{most_depth}
use Rattle.olap_grammar.specs.{Brackets.{is_close, is_open, opens_over}, declared.tokens.Token.Token}
use Rattle.olap_schema_text.specs.Laws.{OpenBracketsAreCounted}
use Rattle.olap_grammar.specs.declared.tokens.Token.TheVariants as token
use Rattle.olap_grammar.specs.declared.tokens.Mark.TheVariants as mark

-- one token more is counted
one_more : (p : Token → Bool) (t : Token) (ts : List Token) → count_by p (t ∷ ts) ≡ cond (p t) 1 0 + count_by p ts
one_more p t ts = sum_by-cons (λ u. cond (p u) 1 0) t ts

-- after this many `(` and this many `)`, some beginning opens too many
abbrev OpensFrom : ℕ → ℕ → List Token → Type 0
OpensFrom o c ts =
    (k : ℕ) × (c + count_by is_close (take k ts) + most_depth < o + count_by is_open (take k ts))

-- a token that is none of these is not counted
not_counted : (p : Token → Bool) (t : Token) (ts : List Token) → p t ≡ false
    → count_by p (t ∷ ts) ≡ 0 + count_by p ts
not_counted p t ts e = one_more p t ts ∙ ap (λ b. cond b 1 0 + count_by p ts) e

-- a token that is no bracket changes nothing
passed : (o c : ℕ) (t : Token) (ts : List Token) → is_open t ≡ false → is_close t ≡ false → OpensFrom o c ts
    → OpensFrom o c (t ∷ ts)
passed o c t ts p q f =
    (suc f.0, omega (arith, not_counted is_open t (take f.0 ts) p, not_counted is_close t (take f.0 ts) q, f.1))

-- where too many are open some beginning has too many
found : (o c : ℕ) (ts : List Token) → opens_over o c ts ≡ true → OpensFrom o c ts
unfolding opens_over
found o c [] h = absurd (cc)
found o c (token.Mark mark.Open ∷ ts) h = go (nat_lt (c + most_depth) (o + 1)) refl h (λ q. found (o + 1) c ts q)
  where
    go : (b : Bool) → nat_lt (c + most_depth) (o + 1) ≡ b → cond b true (opens_over (o + 1) c ts) ≡ true
        → (opens_over (o + 1) c ts ≡ true → OpensFrom (o + 1) c ts) → OpensFrom o c (token.Mark mark.Open ∷ ts)
    go true e q later = (1, let l = ltb-true (c + most_depth) (o + 1) e in omega (arith, l))
    go false e q later =
        let f = later q in (
          suc f.0,
          omega (
            arith,
            one_more is_open (token.Mark mark.Open) (take f.0 ts),
            one_more is_close (token.Mark mark.Open) (take f.0 ts),
            f.1,
          ),
        )
found o c (token.Mark mark.Close ∷ ts) h =
    let f = found o (c + 1) ts h in (
      suc f.0,
      omega (
        arith,
        one_more is_open (token.Mark mark.Close) (take f.0 ts),
        one_more is_close (token.Mark mark.Close) (take f.0 ts),
        f.1,
      ),
    )
found o c (t ∷ ts) h = passed o c t ts refl refl (found o c ts h)

-- the beginning with this many tokens opens too many
abbrev OpensAt : ℕ → ℕ → ℕ → List Token → Type 0
OpensAt k o c ts = c + count_by is_close (take k ts) + most_depth < o + count_by is_open (take k ts)

-- one token less, which is no bracket
left : (k o c : ℕ) (t : Token) (ts : List Token) → is_open t ≡ false → is_close t ≡ false
    → OpensAt (suc k) o c (t ∷ ts) → OpensAt k o c ts
left k o c t ts p q h =
    omega (arith, not_counted is_open t (take k ts) p, not_counted is_close t (take k ts) q, h)

-- where some beginning has too many, too many are open
counted : (k o c : ℕ) (ts : List Token) → o ≤ c + most_depth → OpensAt k o c ts → opens_over o c ts ≡ true
unfolding opens_over
counted (suc k) o c (token.Mark mark.Open ∷ ts) l h =
    go (nat_lt (c + most_depth) (o + 1)) refl
    (λ m. counted k (o + 1) c ts m
    (omega (
      arith,
      one_more is_open (token.Mark mark.Open) (take k ts),
      one_more is_close (token.Mark mark.Open)
          (take k ts),
      h,
    )))
  where
    go : (b : Bool) → nat_lt (c + most_depth) (o + 1) ≡ b
        → (o + 1 ≤ c + most_depth → opens_over (o + 1) c ts ≡ true) → cond b true (opens_over (o + 1) c ts) ≡ true
    go true e later = refl
    go false e later = later (ltb-false (c + most_depth) (o + 1) e)
counted (suc k) o c (token.Mark mark.Close ∷ ts) l h =
    counted k o (c + 1) ts (omega (arith, l))
    (omega (
      arith,
      one_more is_open (token.Mark mark.Close) (take k ts),
      one_more is_close (token.Mark mark.Close)
          (take k ts),
      h,
    ))
counted (suc k) o c (t ∷ ts) l h = counted k o c ts l (left k o c t ts refl refl h)
counted k o c ts l h = absurd (omega (arith, l, h))

-- the law
pub brackets_counted : OpenBracketsAreCounted
brackets_counted ts = (
  λ h. let f = found 0 0 ts h in (f.0, omega (arith, f.1)),
  λ f. counted f.0 0 0 ts (omega arith) (omega (arith, f.1)),
)
