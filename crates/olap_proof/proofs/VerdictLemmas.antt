-- A text has one first wrong line, or none and is a certificate.
--     one_behind       of two runs over one text, one is after the other
--     verdicts_are_one
use Rattle.std.proofs.Common.{◌≡◌, ◌⊎◌, ◌∙◌, ℕ, ◌+◌, ◌<◌, ◌^◌, List, [], ◌∷◌, ◌++◌, length, inl, inr, refl, ap, sym, subst, arith}
use Rattle.std.proofs.lemmas.List.{append_assoc, append-nil}
use Rattle.olap_base.specs.Graph.{IsHierarchy}
use Rattle.olap_ast.specs.{Formula.Formula, Frozen.{AreCandidates, Candidates}, Schema.Schema}
use Rattle.olap_proof.proofs.{AlikeLemmas.{alike, wrong_alike}, DoingLemmas.step_does, LineLemmas.parted}
use Rattle.olap_proof.proofs.{OneLineLemmas.line_once, PlainLineLemmas.step_whole}
use Rattle.olap_proof.proofs.StepLemmas.{FirstStep, FirstStep.first, first_step, nothing_runs, runs_first, step_bottom, step_head}
use Rattle.olap_proof.specs.Certificates.{IsCertificateText, IsFirstWrong, Open, Open.At, Open.Bottom, Open.Head, Runs, Runs.more, Runs.none, Steps, lines_text}
use Rattle.olap_proof.specs.{Doing.leaves_open, Lines.Line, Verifying.VerdictsAreOne, declared.forms.Form.Form}

module _ (f : Form) (s : Schema) (q : Formula) (k : Candidates) (hier : IsHierarchy s.graph)
    (few : length s.constraints < 2 ^ 64) where
  -- a line does one thing
  steps_once : (line : List ℕ) (o : Open) (new other : List Open) → Steps f s q k line o new
      → Steps f s q k line o other → new ≡ other
  steps_once line Head new other a b = (step_head f s q k a refl).1 ∙ sym (step_head f s q k b refl).1
  steps_once line (Bottom r) new other a b = (step_bottom f s q k a r refl).1 ∙ sym (step_bottom f s q k b r refl).1
  steps_once line (At p) new other a b =
      let m = step_does f s q k p line new a in
      let n = step_does f s q k p line other b in
      m.4 ∙ ap (λ (l : Line). leaves_open k p l) (line_once s hier few m.0 n.0 m.2 n.2 (sym m.1 ∙ n.1)) ∙ sym n.4

  -- ---- one run

  no_lines : {lines : List (List ℕ)} {os end : List Open} → Runs f s q k lines os end → lines ≡ [] → os ≡ end
  no_lines none e = refl
  no_lines (more step run) e = absurd (cc)

  -- the first line runs alone
  first_runs : (line : List ℕ) (lines : List (List ℕ)) (os end : List Open) → Runs f s q k (line ∷ lines) os end
      → (left : List Open) × Runs f s q k (line ∷ []) os left
  first_runs line lines os end run = go (first_step f s q k run line lines refl)
    where
      go : FirstStep f s q k line lines os end → (left : List Open) × Runs f s q k (line ∷ []) os left
      go (first o new rest e step r) =
          (new ++ rest, subst (λ xs. Runs f s q k (line ∷ []) xs (new ++ rest)) (sym e) (more step none))

  -- ---- two runs over one text

  -- lines go on from the one end to the other, and from the one rest to the other
  pub record Behind (xs ys : List (List ℕ)) (a b : List Open) (r t : List ℕ) : Type 0 where
    pub lines : List (List ℕ)
    pub run : Runs f s q k lines a b
    pub rest : r ≡ lines_text lines ++ t
    pub counted : length ys ≡ length xs + length lines

  abbrev OneBehind : List (List ℕ) → List (List ℕ) → List Open → List Open → List ℕ → List ℕ → Type 0
  OneBehind xs ys a b r t = Behind xs ys a b r t ⊎ Behind ys xs b a t r

  longer : (x y : List ℕ) (xs ys : List (List ℕ)) (a b : List Open) (r t : List ℕ) → OneBehind xs ys a b r t
      → OneBehind (x ∷ xs) (y ∷ ys) a b r t
  longer x y xs ys a b r t (inl h) =
      inl (record { lines = h.lines; run = h.run; rest = h.rest; counted = let n = h.counted in omega (arith, n) })
  longer x y xs ys a b r t (inr h) =
      inr (record { lines = h.lines; run = h.run; rest = h.rest; counted = let n = h.counted in omega (arith, n) })

  lines_text_more : (x : List ℕ) (xs : List (List ℕ)) (r : List ℕ)
      → lines_text (x ∷ xs) ++ r ≡ x ++ 10 ∷ (lines_text xs ++ r)
  lines_text_more x xs r =
      append_assoc (x ++ 10 ∷ []) (lines_text xs) r ∙ append_assoc x (10 ∷ []) (lines_text xs ++ r)

  one_behind : {xs : List (List ℕ)} {os a : List Open} → Runs f s q k xs os a → (ys : List (List ℕ)) (b : List Open)
      → Runs f s q k ys os b → (r t : List ℕ) → lines_text xs ++ r ≡ lines_text ys ++ t → OneBehind xs ys a b r t
  one_behind none ys b run r t e = inl (record { lines = ys; run = run; rest = e; counted = omega arith })
  one_behind (more {line = x} {lines = xs} {o = o} {new = new} {rest = rest} {end = a} step run) [] b other r t e =
      inr (record {
        lines = x ∷ xs;
        run = subst (λ os. Runs f s q k (x ∷ xs) os a) (no_lines other refl) (more step run);
        rest = sym e;
        counted = omega arith;
      })
  one_behind (more {line = x} {lines = xs} {o = o} {new = new} {rest = rest} {end = a} step run) (y ∷ ys) b other r t
      e =
      let w = runs_first f s q k other in
      let cut = parted 10 x (lines_text xs ++ r) y (lines_text ys ++ t)
      (step_whole f s q k hier few x o new step) (step_whole f s q k hier few y o w.0 w.1)
      (sym (lines_text_more x xs r) ∙ e ∙ lines_text_more y ys t) in
      let same : w.0 ≡ new = steps_once x o w.0 new (subst (λ l. Steps f s q k l o w.0) (sym cut.0) w.1) step in
      let run_on = subst (λ os. Runs f s q k ys (os ++ rest) b) same w.2 in
      longer x y xs ys a b r t (one_behind run ys b run_on r t cut.1)

  -- ---- the verdict

  module _ (text : List ℕ) where
    -- no line is after the first wrong one
    none_behind : (n : ℕ) (w : IsFirstWrong f s q k text n) (ys : List (List ℕ)) (b : List Open) (t : List ℕ)
        → (h : Behind w.lines ys w.open_there b w.rest t) → h.lines ≡ []
    none_behind n w ys b t h = go h.lines h.run h.rest
      where
        go : (zs : List (List ℕ)) → Runs f s q k zs w.open_there b → w.rest ≡ lines_text zs ++ t → zs ≡ []
        go [] run e = refl
        go (z ∷ zs) run e =
            let one = first_runs z zs w.open_there b run in
            absurd (w.stuck z (lines_text zs ++ t) one.0 (e ∙ lines_text_more z zs t) one.1)

    nothing_counted : (zs : List (List ℕ)) → zs ≡ [] → length zs ≡ 0
    nothing_counted zs e = ap (λ (xs : List (List ℕ)). length xs) e

    one_wrong : (n m : ℕ) → IsFirstWrong f s q k text n → IsFirstWrong f s q k text m → n ≡ m
    one_wrong n m v w = go (one_behind v.run w.lines w.open_there w.run v.rest w.rest (sym v.parts ∙ w.parts))
      where
        go : OneBehind v.lines w.lines v.open_there w.open_there v.rest w.rest → n ≡ m
        go (inl h) =
            let z = nothing_counted h.lines (none_behind n v w.lines w.open_there w.rest h) in
            let c = h.counted in
            let x = v.counted in
            let y = w.counted in
            omega (arith, z, c, x, y)
        go (inr h) =
            let z = nothing_counted h.lines (none_behind m w v.lines v.open_there v.rest h) in
            let c = h.counted in
            let x = v.counted in
            let y = w.counted in
            omega (arith, z, c, x, y)

    early : (n : ℕ) (w : IsFirstWrong f s q k text n) → w.open_there ≡ [] → w.rest ≡ [] → ⊥
    early n w o r = w.too_early r o

    none_wrong : (n : ℕ) → IsFirstWrong f s q k text n → IsCertificateText f s q k text → ⊥
    none_wrong n w t =
        go (one_behind w.run t.0 [] t.2 w.rest [] (sym w.parts ∙ t.1 ∙ sym (append-nil (lines_text t.0))))
      where
        go : OneBehind w.lines t.0 w.open_there [] w.rest [] → ⊥
        go (inl h) =
            let z = none_behind n w t.0 [] [] h in
            early n w (no_lines h.run z) (h.rest ∙ append-nil (lines_text h.lines) ∙ ap (λ xs. lines_text xs) z)
        go (inr h) =
            let z = nothing_runs f s q k h.run refl in
            early n w (sym (no_lines h.run z)) (ap (λ xs. lines_text xs ++ w.rest) (sym z) ∙ sym h.rest)

-- the theorem: of two runs over one text neither can end where the other goes on
pub verdicts_are_one : VerdictsAreOne
verdicts_are_one f s q text hier few = (
  λ line w t. none_wrong f s q t.0 hier few text line (wrong_too w.0 t.0 line w.1 t.1 w.2) t.2,
  λ line other v w. one_wrong f s q v.0 hier few text line other v.2 (wrong_too w.0 v.0 other w.1 v.1 w.2),
)
  where
    wrong_too : (k h : Candidates) (line : ℕ) → AreCandidates s q k → AreCandidates s q h
        → IsFirstWrong f s q k text line → IsFirstWrong f s q h text line
    wrong_too k h line a b w = wrong_alike f s q k h text line (alike s q k h a b) w
