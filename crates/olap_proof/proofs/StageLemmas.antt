-- What a line does where the reading stands.
--     head_.., bottom_.., place_..               a line where this is open first
--     done_none                                  and where nothing is
--     reached_start, reached_more                lines one after another
use Rattle.std.proofs.Common.{◌≡◌, ℕ, suc, ◌+◌, ◌-◌, ◌<◌, ◌≤◌, ◌^◌, ◌++◌, List, [], ◌∷◌, length, map, Bool, true, false, cond, refl, ap, sym, subst, ◌∙◌, arith}
use Rattle.std.proofs.lemmas.{Bool.false_from_ne_true, List.{append_assoc, append-nil, length-append}}
use Rattle.std.proofs.lemmas.List.{Concat.flat_map-append, Elements.Contains-append_right}
use Rattle.std.specs.{List.range_with_len, Prelude.{◌≢◌, Contains, IfSome, None, Option, Some, filter}}
use Rattle.olap_base.proofs.ListLemmas.{Contains-filter, Contains-from_filter, Contains-range_at, contains_head}
use Rattle.olap_base.specs.Graph.{Graph, IsBottom, IsHierarchy, category_count}
use Rattle.olap_ast.specs.{Formula.Formula, Frozen.Candidates, Schema.Schema}
use Rattle.olap_proof.proofs.{CertificateLemmas.bottom_listed, LineLemmas.parted, PlainLineLemmas.step_whole}
use Rattle.olap_proof.proofs.PlainTreeLemmas.{listed_bottom}
use Rattle.olap_proof.proofs.StepLemmas.{FirstStep, FirstStep.first, first_step, runs_first, step_bottom, step_head}
use Rattle.olap_proof.specs.Asking.{names_in, question_in, schema_in}
use Rattle.olap_proof.specs.Certificates.{IsCertificateText, IsFirstWrong, Open, Open.At, Open.Bottom, Open.Head, Runs, Runs.more, Runs.none, Steps, Steps.begins, Steps.roots, bottom_text, bottoms_of, head_text, lines_text, start}
use Rattle.olap_proof.specs.Places.{Place}
use Rattle.olap_proof.specs.Stages.{IsReached, IsStage, RunsFor, StepsTo, bottoms_from, has_no_child, open_at}
use Rattle.olap_proof.specs.declared.{asking.Asked.Asked, forms.Form.Form, stages.Stage.Stage}

-- ---- bottom categories

-- the bottom categories from a number on, by whether it has a child
bottoms_by : (g : Graph) (n : ℕ) (t : Bool) → n < category_count g → has_no_child g n ≡ t
    → bottoms_from g n ≡ cond t (n ∷ bottoms_from g (n + 1)) (bottoms_from g (n + 1))
bottoms_by g n t l h =
    let e : category_count g - n ≡ suc (category_count g - (n + 1)) = omega (arith, l) in
    ap (λ m. filter (has_no_child g) (range_with_len n m)) e
    ∙ ap (λ b. cond b (n ∷ bottoms_from g (n + 1)) (bottoms_from g (n + 1))) h

-- one is the first
pub bottoms_here : (g : Graph) (n : ℕ) → n < category_count g → IsBottom g n
    → bottoms_from g n ≡ n ∷ bottoms_from g (n + 1)
bottoms_here g n l b = bottoms_by g n true l
    (Contains-from_filter (has_no_child g) (range_with_len 1 (length g.names)) n (bottom_listed g n b)).1

-- or it is none
pub bottoms_skip : (g : Graph) (n : ℕ) → 1 ≤ n → n < category_count g → (IsBottom g n → ⊥)
    → bottoms_from g n ≡ bottoms_from g (n + 1)
bottoms_skip g n low l h =
    bottoms_by g n false l (false_from_ne_true (has_no_child g n) (λ t. h (listed_bottom g n
    (Contains-filter (has_no_child g) (range_with_len 1 (length g.names)) n t
    (Contains-range_at 1 (length g.names) n low (omega (arith, l)))))))

-- there are no more
pub bottoms_end : (g : Graph) (n : ℕ) → category_count g ≤ n → bottoms_from g n ≡ []
bottoms_end g n l =
    let e : category_count g - n ≡ 0 = omega (arith, l) in
    ap (λ m. filter (has_no_child g) (range_with_len n m)) e

-- all of them
pub bottoms_all : (g : Graph) → bottoms_of g ≡ bottoms_from g 1
bottoms_all g =
    let e : length g.names ≡ category_count g - 1 = omega arith in
    ap (λ m. filter (has_no_child g) (range_with_len 1 m)) e

-- ---- one line

module _ (f : Form) (s : Schema) (q : Formula) (k : Candidates) where
  pub head_runs : (line : List ℕ) → line ≡ head_text f
      → Runs f s q k (line ∷ []) (Head ∷ []) (map Bottom (bottoms_from s.graph 1))
  head_runs line e =
      subst (λ l. Runs f s q k (l ∷ []) (Head ∷ []) (map Bottom (bottoms_from s.graph 1))) (sym e)
      (subst (λ os. Runs f s q k (head_text f ∷ []) (Head ∷ []) os)
      (append-nil (map Bottom (bottoms_of s.graph)) ∙ ap (map Bottom) (bottoms_all s.graph)) (more begins none))

  pub head_none : (line : List ℕ) → (line ≡ head_text f → ⊥) → (left : List Open)
      → Runs f s q k (line ∷ []) (Head ∷ []) left → ⊥
  head_none line n left run = n (step_head f s q k (runs_first f s q k run).1 refl).0

  pub bottom_runs : (line : List ℕ) (b : ℕ) (rest : List Open) (p : Place) → line ≡ bottom_text s.graph b
      → p ≡ start s.graph b → Runs f s q k (line ∷ []) (Bottom b ∷ rest) (At p ∷ rest)
  bottom_runs line b rest p e i =
      subst (λ l. Runs f s q k (l ∷ []) (Bottom b ∷ rest) (At p ∷ rest)) (sym e)
      (subst (λ (x : Place). Runs f s q k (bottom_text s.graph b ∷ []) (Bottom b ∷ rest) (At x ∷ rest)) (sym i)
      (more roots none))

  pub bottom_none : (line : List ℕ) (b : ℕ) (rest : List Open) → (line ≡ bottom_text s.graph b → ⊥)
      → (left : List Open) → Runs f s q k (line ∷ []) (Bottom b ∷ rest) left → ⊥
  bottom_none line b others n left run = n (step_bottom f s q k (runs_first f s q k run).1 b refl).0

  pub place_runs : (line : List ℕ) (p : Place) (rest new end : List Open) → Steps f s q k line (At p) new
      → new ++ rest ≡ end → Runs f s q k (line ∷ []) (At p ∷ rest) end
  place_runs line p rest new end step e = subst (λ os. Runs f s q k (line ∷ []) (At p ∷ rest) os) e (more step none)

  pub place_none : (line : List ℕ) (p : Place) (rest : List Open)
      → ((new : List Open) → Steps f s q k line (At p) new → ⊥) → (left : List Open)
      → Runs f s q k (line ∷ []) (At p ∷ rest) left → ⊥
  place_none line p others n left run = let t = runs_first f s q k run in n t.0 t.1

  -- ---- lines one after another

  pub runs_append : {xs ys : List (List ℕ)} {os mid end : List Open} → Runs f s q k xs os mid
      → Runs f s q k ys mid end → Runs f s q k (xs ++ ys) os end
  runs_append none r = r
  runs_append (more step run) r = more step (runs_append run r)

  -- what runs as a first line has no LF
  pub first_whole : IsHierarchy s.graph → length s.constraints < 2 ^ 64 → (line : List ℕ) (os left : List Open)
      → Runs f s q k (line ∷ []) os left → Contains line 10 → ⊥
  first_whole h few line os left run = go (first_step f s q k run line [] refl)
    where
      go : FirstStep f s q k line [] os left → Contains line 10 → ⊥
      go (first o new rest e step r) = step_whole f s q k h few line o new step

-- ---- a text

-- this many lines led to what is open there; they are no more than the bytes that were read
pub record IsRead (f : Form) (a : Asked) (text rest : List ℕ) (count : ℕ) (there : Stage) : Type 0 where
  pub reached : IsReached f a text rest count (open_at a there)
  pub stage : IsStage a there
  pub few : count + length rest ≤ length text

module _ (f : Form) (a : Asked) where
  pub reached_start : (text : List ℕ) → IsReached f a text text 0 (Head ∷ [])
  reached_start text = record { lines = []; parts = refl; counted = refl; run = none }

  pub reached_more : (text rest line others : List ℕ) (count : ℕ) (os end : List Open)
      → IsReached f a text rest count os → rest ≡ line ++ 10 ∷ others → RunsFor f a (line ∷ []) os end
      → IsReached f a text others (count + 1) end
  reached_more text rest line others count os end r e run = record {
    lines = r.lines ++ line ∷ [];
    parts = r.parts ∙ ap (λ x. lines_text r.lines ++ x) e
        ∙ ap (λ x. lines_text r.lines ++ x) (sym (append_assoc line (10 ∷ []) others))
        ∙ ap (λ x. lines_text r.lines ++ (x ++ others)) (sym (append-nil (line ++ 10 ∷ [])))
        ∙ sym (append_assoc (lines_text r.lines) (lines_text (line ∷ [])) others)
        ∙ ap (λ x. x ++ others) (sym (flat_map-append (λ (l : List ℕ). l ++ 10 ∷ []) r.lines (line ∷ [])));
    counted = length-append r.lines (line ∷ []) ∙ ap (λ n. n + 1) r.counted;
    run = runs_append f (schema_in a) (question_in a) (names_in a) r.run run;
  }

  not_empty : (line others : List ℕ) → line ++ 10 ∷ others ≡ [] → ⊥
  not_empty [] others e = absurd (cc)
  not_empty (b ∷ line) others e = absurd (cc)

  -- the line that was cut does nothing there
  pub wrong_here : (text rest line others : List ℕ) (count : ℕ) (from : Stage) → IsHierarchy a.graph.now
      → length (schema_in a).constraints < 2 ^ 64 → IsReached f a text rest count (open_at a from)
      → rest ≡ line ++ 10 ∷ others → (Contains line 10 → ⊥) → StepsTo f a from line None
      → IsFirstWrong f (schema_in a) (question_in a) (names_in a) text (count + 1)
  wrong_here text rest line others count from h few r e whole nothing = record {
    lines = r.lines;
    rest = rest;
    open_there = open_at a from;
    parts = r.parts;
    counted = ap (λ n. n + 1) (sym r.counted);
    run = r.run;
    too_early = λ z. absurd (not_empty line others (sym e ∙ z));
    stuck = λ l more left i run.
        let p = parted 10 l more line others
        (first_whole f (schema_in a) (question_in a) (names_in a) h few l (open_at a from) left run) whole
        (sym i ∙ e) in
        nothing left (subst (λ x. RunsFor f a (x ∷ []) (open_at a from) left) p.0 run);
  }

  -- no line is left, and the text is not at its end, or something is open
  wrong_end : (text rest : List ℕ) (count : ℕ) (from : Stage) → IsReached f a text rest count (open_at a from)
      → (Contains rest 10 → ⊥) → (rest ≡ [] → open_at a from ≢ [])
      → IsFirstWrong f (schema_in a) (question_in a) (names_in a) text (count + 1)
  wrong_end text rest count from r whole early = record {
    lines = r.lines;
    rest = rest;
    open_there = open_at a from;
    parts = r.parts;
    counted = ap (λ n. n + 1) (sym r.counted);
    run = r.run;
    too_early = early;
    stuck = λ l more left i run. whole (subst (λ x. Contains x 10) (sym i)
        (Contains-append_right l (10 ∷ more) 10 (contains_head 10 more)));
  }

  -- so the line after the last is wrong, where that is said
  pub wrong_after : (text rest : List ℕ) (count : ℕ) (from : Stage) (o : Option ℕ)
      → IsReached f a text rest count (open_at a from) → (Contains rest 10 → ⊥)
      → IfSome o (λ line. (line ≡ count + 1) × ((rest ≡ []) × (open_at a from ≡ []) → ⊥))
      → IfSome o (IsFirstWrong f (schema_in a) (question_in a) (names_in a) text)
  wrong_after text rest count from None r whole h = tt
  wrong_after text rest count from (Some line) r whole h =
      subst (IsFirstWrong f (schema_in a) (question_in a) (names_in a) text) (sym h.0)
      (wrong_end text rest count from r whole (λ e o. h.1 (e, o)))

  -- the text is at its end, and nothing is open
  pub right_end : (text rest : List ℕ) (count : ℕ) (from : Stage) → IsReached f a text rest count (open_at a from)
      → rest ≡ [] → open_at a from ≡ [] → IsCertificateText f (schema_in a) (question_in a) (names_in a) text
  right_end text rest count from r end closed = (
    r.lines,
    r.parts ∙ ap (λ x. lines_text r.lines ++ x) end ∙ append-nil (lines_text r.lines),
    subst (λ (os : List Open). RunsFor f a r.lines (Head ∷ []) os) closed r.run,
  )
