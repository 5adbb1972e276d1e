-- What lines do is the same whichever candidates are taken.
--     runs_alike      and lines do the same
use Rattle.std.proofs.Common.{◌≡◌, ℕ, zero, suc, ◌+◌, List, [], ◌∷◌, length, map, Option, Some, None, refl, ap, sym, subst}
use Rattle.std.specs.{List.range_with_len, Prelude.option_map, Str.bytes_eq}
use Rattle.olap_base.specs.Graph.{IsDeclared}
use Rattle.olap_ast.{proofs.Determined.{same_first, same_texts}, specs.Formula.Formula}
use Rattle.olap_ast.specs.{Frozen.{AreCandidates, Candidates, text_of_index}, Schema.{Constraint, Schema}}
use Rattle.olap_ast.specs.declared.three_values.Truth3.TheVariants.{No}
use Rattle.olap_eval.specs.Partial.{value_at}
use Rattle.olap_graph.specs.Lookups.{edge_between}
use Rattle.olap_names.specs.Names.{name_at}
use Rattle.olap_numerals.specs.Comparing.{is_numbered}
use Rattle.olap_proof.proofs.ReasonLemmas.{about_of, closes_of, closing}
use Rattle.olap_proof.specs.Certificates.{IsFirstWrong, Open, Open.At, Runs, Runs.more, Runs.none, Steps, Steps.begins, Steps.closes, Steps.edges, Steps.names, Steps.roots, Steps.ways, with_name}
use Rattle.olap_proof.specs.{Closing.{Closes, IsUnmetAt}, Lines.{Line, Line.Asked, Line.NameOf, Line.Unmet, line_text}}
use Rattle.olap_proof.specs.Places.{Naming, Place, index_of, knowledge, name_of, truth_of_edge, truth_of_name, truth_of_reach}
use Rattle.olap_proof.specs.declared.forms.Form.{Form}

-- the same names, and as many of each category
pub record Alike (k h : Candidates) : Type 0 where
  pub names : (c i : ℕ) → name_at k c i ≡ name_at h c i
  pub counts : (c : ℕ) → length (k.texts (suc c)) ≡ length (h.texts (suc c))

-- those of one schema and one question
pub alike : (s : Schema) (q : Formula) (k h : Candidates) → AreCandidates s q k → AreCandidates s q h → Alike k h
alike s q k h a b = record { names = names; counts = λ c. ap length (same_texts s q k h a b c) }
  where
    names : (c i : ℕ) → name_at k c i ≡ name_at h c i
    names zero i = refl
    names (suc c) i =
        let u = same_first s q k h a b c in
        let t = same_texts s q k h a b c in
        λ j. text_of_index (u j) (t j) i

-- candidates are alike either way
alike_back : (k h : Candidates) → Alike k h → Alike h k
alike_back k h a = record { names = λ c i. sym (a.names c i); counts = λ c. sym (a.counts c) }

-- ---- what is known

module _ (f : Form) (k h : Candidates) (a : Alike k h) where
  decided_name_alike : (c : ℕ) (o : Option ℕ) → option_map (name_at k c) o ≡ option_map (name_at h c) o
  decided_name_alike c None = refl
  decided_name_alike c (Some i) = ap (λ (t : List ℕ). Some t) (a.names c i)

  name_alike : (ns : List Naming) (c : ℕ) → name_of k ns c ≡ name_of h ns c
  name_alike ns zero = refl
  name_alike ns (suc c) = decided_name_alike (suc c) (index_of ns (suc c))

  -- the same is known
  pub known_alike : (p : Place) → knowledge f k p ≡ knowledge f h p
  known_alike p = λ j. record {
    edge = λ x y. truth_of_edge p.decided (edge_between p.decided.graph x y);
    reaches = truth_of_reach f p;
    name = λ c text. truth_of_name p c (λ w. bytes_eq w text) (name_alike p.namings c j);
    number = λ c op n. truth_of_name p c (λ w. is_numbered w op n) (name_alike p.namings c j);
  }

  unmet_alike : (p : Place) (cs : List Constraint) (n : ℕ) → IsUnmetAt f cs n k p → IsUnmetAt f cs n h p
  unmet_alike p [] n m = m
  unmet_alike p (c ∷ cs) zero m =
      (m.0, subst (λ t. value_at t c.root c.formula ≡ No) (known_alike p) m.1)
  unmet_alike p (c ∷ cs) (suc n) m = unmet_alike p cs n m

  closes_alike : (s : Schema) (q : Formula) (p : Place) (l : Line) → Closes f s q k p l → Closes f s q h p l
  closes_alike s q p (Unmet n) m = unmet_alike p s.constraints n m
  closes_alike s q p Asked m = subst (λ t. value_at t p.decided.root q ≡ No) (known_alike p) m
  closes_alike s q p l m = m

  -- ---- what lines do

  count_alike : (s : Schema) (c : ℕ) → IsDeclared s.graph c → length (k.texts c) ≡ length (h.texts c)
  count_alike s zero d = absurd (d.0 refl)
  count_alike s (suc c) d = a.counts c

  steps_alike : (s : Schema) (q : Formula) {line : List ℕ} {o : Open} {new : List Open} → Steps f s q k line o new
      → Steps f s q h line o new
  steps_alike s q begins = begins
  steps_alike s q roots = roots
  steps_alike s q (edges l u) = edges l u
  steps_alike s q (names {p = p} {c = c} d u) =
      subst (λ n. Steps f s q h (line_text s.graph (NameOf c)) (At p)
      (map (λ i. At (with_name p c i)) (range_with_len 0 (n + 1)))) (sym (count_alike s c d)) (names d u)
  steps_alike s q (ways o x y u) = ways o x y u
  steps_alike s q (closes {p = p} l m) =
      closing l (about_of f s q k p l m) (closes_alike s q p l (closes_of f s q k p l m))

  pub runs_alike : (s : Schema) (q : Formula) {lines : List (List ℕ)} {os end : List Open} → Runs f s q k lines os end
      → Runs f s q h lines os end
  runs_alike s q none = none
  runs_alike s q (more step run) = more (steps_alike s q step) (runs_alike s q run)

-- ---- texts

-- a text has the same first wrong line
pub wrong_alike : (f : Form) (s : Schema) (q : Formula) (k h : Candidates) (text : List ℕ) (at : ℕ) → Alike k h
    → IsFirstWrong f s q k text at → IsFirstWrong f s q h text at
wrong_alike f s q k h text at a w = record {
  lines = w.lines;
  rest = w.rest;
  open_there = w.open_there;
  parts = w.parts;
  counted = w.counted;
  run = runs_alike f k h a s q w.run;
  too_early = w.too_early;
  stuck = λ line more left e r. w.stuck line more left e (runs_alike f h k (alike_back k h a) s q r);
}
