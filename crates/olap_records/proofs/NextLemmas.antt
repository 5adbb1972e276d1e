-- One byte more of a piece, by what it does.
--     skipped, copied, ended-field, ended-record
use Rattle.std.proofs.Common.{◌≡◌, ◌<◌, ◌+◌, ◌∷◌, ◌++◌, ◌∙◌, ℕ, Bool, false, List, [], length, take, get_or, refl, ap}
use Rattle.csv.specs.{Machine.step, Reading.default_config}
use Rattle.olap_records.{proofs.StandingLemmas.one-more, specs.CutterInside.stand_by}
use Rattle.olap_records.specs.{Places.{action_of, state_of}, Standing.{Standing, after_action, standing}}
use Rattle.olap_records.specs.declared.steps.{Action.Action, Place.Place}
use Rattle.olap_records.specs.declared.steps.Action.TheVariants as action

module _ (t : Standing) (piece : List ℕ) (i : ℕ) (l : i < length piece)
    (fields : List (List ℕ)) (field : List ℕ) (p : Place) (whole : Bool) (part : whole ≡ false)
    (h : standing t (take i piece) ≡ stand_by [] whole fields field p) (q : Place) (a : Action)
    (es : state_of q ≡ (step default_config (state_of p) (get_or piece i 0)).0)
    (ea : action_of a ≡ (step default_config (state_of p) (get_or piece i 0)).1) where
  stepped : standing t (take (i + 1) piece)
      ≡ after_action (stand_by [] false fields field p) (state_of q) (action_of a) (get_or piece i 0)
  stepped =
      one-more t (stand_by [] false fields field p) piece i (state_of q) (action_of a) l
      (h ∙ ap (λ w. stand_by [] w fields field p) part) es ea

  -- the same where it is known what the byte does
  done-by : (b : Action) → a ≡ b → standing t (take (i + 1) piece)
      ≡ after_action (stand_by [] false fields field p) (state_of q) (action_of b) (get_or piece i 0)
  done-by b e =
      stepped ∙ ap (λ (x : Action). after_action (stand_by [] false fields field p) (state_of q) (action_of x)
      (get_or piece i 0)) e

  pub skipped : a ≡ action.Skip → standing t (take (i + 1) piece) ≡ stand_by [] false fields field q
  skipped e = done-by action.Skip e

  pub copied : a ≡ action.Copy → (new : List ℕ) → new ≡ field ++ get_or piece i 0 ∷ []
      → standing t (take (i + 1) piece) ≡ stand_by [] false fields new q
  copied e new en = done-by action.Copy e ∙ rw en refl

  pub ended-field : a ≡ action.EndField → (row : List (List ℕ)) (new : List ℕ) → row ≡ fields ++ field ∷ [] → new ≡ []
      → standing t (take (i + 1) piece) ≡ stand_by [] false row new q
  ended-field e row new er en = done-by action.EndField e ∙ rw (er, en) refl

  pub ended-record : a ≡ action.EndRecord → (row : List (List ℕ)) → row ≡ fields ++ field ∷ []
      → standing t (take (i + 1) piece) ≡ record { done = row ∷ []; fields = []; field = []; state = state_of q }
  ended-record e row er = done-by action.EndRecord e ∙ rw er refl
