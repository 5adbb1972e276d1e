-- The digits and the texts of a line.
use Rattle.std.proofs.Common.{◌≡◌, ℕ, ◌+◌, ◌-◌, ◌≤◌, List, [], ◌∷◌, ◌++◌, Bool, true, false, cond, sym, ap, ◌∙◌, append_assoc, append-nil, arith}
use Rattle.std.{proofs.lemmas.Grind.flat_map-append, specs.Prelude.flat_map}
use Rattle.olap_ast.specs.Frozen.{is_present}
use Rattle.olap_base.specs.Graph.{Edge}
use Rattle.olap_cex.{proofs.PresentLemmas.{absent_more, present_more}, specs.Present.first_present}

-- the digit of an edge
abbrev pub digit : Bool → ℕ
digit b = cond b 49 48

-- ---- the texts of the present categories

module _ (text : ℕ → List ℕ) (r : ℕ) (es : List Edge) (c : ℕ) (start : List ℕ) (some : 1 ≤ c) where
  abbrev texts : ℕ → List ℕ
  texts n = flat_map text (first_present r es n)

  step : c + 1 - 1 ≡ c
  step = omega arith

  pub texts_more : {old new : List ℕ} → is_present r es c ≡ true → old ≡ start ++ texts (c - 1) → new ≡ old ++ text c
      → new ≡ start ++ texts (c + 1 - 1)
  texts_more p e n =
      n ∙ ap (λ t. t ++ text c) e ∙ append_assoc start (texts (c - 1)) (text c)
      ∙ ap (λ t. start ++ t) (ap (λ t. texts (c - 1) ++ t) (sym (append-nil (text c)))
      ∙ sym (flat_map-append text (first_present r es (c - 1)) (c ∷ []))
      ∙ ap (flat_map text) (sym (present_more r es c some p)) ∙ ap texts (sym step))

  pub texts_less : {old new : List ℕ} → is_present r es c ≡ false → old ≡ start ++ texts (c - 1) → new ≡ old
      → new ≡ start ++ texts (c + 1 - 1)
  texts_less p e n =
      n ∙ e ∙ ap (λ t. start ++ t) (ap (flat_map text) (sym (absent_more r es c some p)) ∙ ap texts (sym step))
