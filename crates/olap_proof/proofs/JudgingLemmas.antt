-- A text is a certificate, or has a first wrong line.
use Rattle.std.proofs.Common.{◌≡◌, ℕ, suc, zero, ◌<◌, ◌+◌, List, [], ◌∷◌, ◌++◌, length, refl, ap, sym, subst, ◌∙◌, inl, inr, arith}
use Rattle.std.{proofs.lemmas.List.{append_assoc, length-append}, specs.Prelude.{◌⊎◌, ◌≢◌}}
use Rattle.olap_base.specs.Deciding.{dec_and, dec_iff, dec_or}
use Rattle.olap_ast.specs.{Formula.Formula, Frozen.Candidates, Schema.Schema}
use Rattle.olap_proof.proofs.{DecidingLemmas.dec_step, StepLemmas.{nothing_runs, runs_first}}
use Rattle.olap_proof.specs.Certificates.{IsCertificateText, Open, Open.Head, Runs, Runs.more, Runs.none, Steps, lines_text, IsFirstWrong}
use Rattle.olap_proof.specs.{Judged.TextsAreJudged, declared.forms.Form.Form}
use native.Mathlib.Decide.{ℕ_discrete}

-- ---- a text cut at an LF

-- what stands before an LF of the text has P
abbrev Cut : (List ℕ → Type 0) → List ℕ → Type 0
Cut P rest = (line : List ℕ) × (later : List ℕ) × (rest ≡ line ++ 10 ∷ later) × P line

-- whether the text can be cut at an LF so that P holds of what stands before it
dec_cut : (P : List ℕ → Type 0) → ((line : List ℕ) → Dec (P line)) → (rest : List ℕ) → Dec (Cut P rest)
dec_cut P d [] = no (λ t. none t.0 t.1 t.2)
  where
    none : (line later : List ℕ) → [] ≡ line ++ 10 ∷ later → ⊥
    none [] later e = cc
    none (x ∷ line) later e = cc
dec_cut P d (b ∷ bs) =
    dec_iff to (λ t. from t.0 t.1 t.2 t.3)
    (dec_or (dec_and (ℕ_discrete b 10) (d [])) (dec_cut (λ line. P (b ∷ line)) (λ line. d (b ∷ line)) bs))
  where
    to : ((b ≡ 10) × P []) ⊎ Cut (λ line. P (b ∷ line)) bs → Cut P (b ∷ bs)
    to (inl t) = ([], bs, ap (λ x. x ∷ bs) t.0, t.1)
    to (inr t) = (b ∷ t.0, t.1, ap (λ l. b ∷ l) t.2, t.3)

    from : (line later : List ℕ) → b ∷ bs ≡ line ++ 10 ∷ later → P line
        → ((b ≡ 10) × P []) ⊎ Cut (λ line. P (b ∷ line)) bs
    from [] later e p = inl ((let q : b ≡ 10 = cc in q), p)
    from (x ∷ line) later e p =
        let q : x ≡ b = cc in
        let h : bs ≡ line ++ 10 ∷ later = cc in
        inr (line, later, h, subst (λ y. P (y ∷ line)) q p)

-- what stands after the cut is shorter
shorter : (line later rest : List ℕ) → rest ≡ line ++ 10 ∷ later → length later < length rest
shorter line later rest e =
    let l : length rest ≡ length line + length (10 ∷ later) = ap length e ∙ length-append line (10 ∷ later) in
    omega (arith, l)

module _ (f : Form) (s : Schema) (q : Formula) (k : Candidates) where
  -- lines close what is open, and are the text
  abbrev Certified : List Open → List ℕ → Type 0
  Certified os rest = (lines : List (List ℕ)) × (rest ≡ lines_text lines) × Runs f s q k lines os []

  -- lines lead to where the text goes on with none that does something
  record Stuck (os : List Open) (rest : List ℕ) : Type 0 where
    lines : List (List ℕ)
    left : List ℕ
    there : List Open
    parts : rest ≡ lines_text lines ++ left
    run : Runs f s q k lines os there
    too_early : left ≡ [] → there ≢ []
    stuck : (line later : List ℕ) (end : List Open) → left ≡ line ++ 10 ∷ later
        → Runs f s q k (line ∷ []) there end → ⊥

  -- a line more in front
  in_front : (line later tail rest : List ℕ) (lines : List (List ℕ)) → rest ≡ line ++ 10 ∷ later
      → later ≡ lines_text lines ++ tail → rest ≡ lines_text (line ∷ lines) ++ tail
  in_front line later tail rest lines e b =
      e ∙ ap (λ l. line ++ 10 ∷ l) b ∙ sym (append_assoc (line ++ 10 ∷ []) (lines_text lines) tail
      ∙ append_assoc line (10 ∷ []) (lines_text lines ++ tail))

  -- lines close what is open, or are stuck
  judge : (n : ℕ) (os : List Open) (rest : List ℕ) → length rest < n → Certified os rest ⊎ Stuck os rest
  judge zero os rest l = absurd (omega arith)
  judge (suc n) [] [] l = inl ([], refl, none)
  judge (suc n) [] (b ∷ bs) l = inr (record {
    lines = [];
    left = b ∷ bs;
    there = [];
    parts = refl;
    run = none;
    too_early = λ e. absurd (cc);
    stuck = λ line later end e run. let z : line ∷ [] ≡ [] = nothing_runs f s q k run refl in cc;
  })
  judge (suc n) (o ∷ os) rest l = go (dec_cut (λ line. (new : List Open) × Steps f s q k line o new)
      (λ line. dec_step f s q k line o) rest) (judge n)
    where
      go : Dec (Cut (λ line. (new : List Open) × Steps f s q k line o new) rest)
          → ((os : List Open) (rest : List ℕ) → length rest < n → Certified os rest ⊎ Stuck os rest)
          → Certified (o ∷ os) rest ⊎ Stuck (o ∷ os) rest
      go (no none_there) again = inr (record {
        lines = [];
        left = rest;
        there = o ∷ os;
        parts = refl;
        run = none;
        too_early = λ e h. cc;
        stuck = λ line later end e run. let w = runs_first f s q k run in none_there (line, later, e, (w.0, w.1));
      })
      go (yes t) again = ahead (again (t.3.0 ++ os) t.1 (let h = shorter t.0 t.1 rest t.2 in omega (arith, h)))
        where
          ahead : Certified (t.3.0 ++ os) t.1 ⊎ Stuck (t.3.0 ++ os) t.1 → Certified (o ∷ os) rest ⊎ Stuck (o ∷ os) rest
          ahead (inl c) = inl (
            t.0 ∷ c.0,
            t.2 ∙ ap (λ z. t.0 ++ 10 ∷ z) c.1 ∙ sym (append_assoc t.0 (10 ∷ []) (lines_text c.0)),
            more t.3.1 c.2,
          )
          ahead (inr w) = inr (record {
            lines = t.0 ∷ w.lines;
            left = w.left;
            there = w.there;
            parts = in_front t.0 t.1 w.left rest w.lines t.2 w.parts;
            run = more t.3.1 w.run;
            too_early = w.too_early;
            stuck = w.stuck;
          })

  -- of a whole text
  judged : (text : List ℕ) → Certified (Head ∷ []) text ⊎ Stuck (Head ∷ []) text
      → IsCertificateText f s q k text ⊎ ((line : ℕ) × IsFirstWrong f s q k text line)
  judged text (inl c) = inl c
  judged text (inr w) = inr (
    length w.lines + 1,
    record {
      lines = w.lines;
      rest = w.left;
      open_there = w.there;
      parts = w.parts;
      counted = refl;
      run = w.run;
      too_early = w.too_early;
      stuck = λ line later left e run. w.stuck line later left e run;
    },
  )

-- the theorem
pub texts_are_judged : TextsAreJudged
texts_are_judged f s q k text c = elim (judged f s q k text
    (judge f s q k (suc (length text)) (Head ∷ []) text (omega arith))) [
      | inl t ↦ inl (k, c, t)
      | inr t ↦ inr (t.0, (k, c, t.1))
    ]
