-- What was read before stays in front.
--     cutter-behind  a splitter's place after some records
use Rattle.std.proofs.Common.{◌≡◌, ◌∷◌, ◌++◌, ◌∙◌, ℕ, List, [], refl, sym, ap, inl, inr, append_assoc}
use Rattle.std.proofs.lemmas.Bool.{cases_Bool}
use Rattle.csv.specs.{Machine.{ends_at_end, step}, Reading.default_config, declared.parser.Action.Action}
use Rattle.csv.specs.declared.parser.State.{State}
use Rattle.olap_records.proofs.StandingLemmas.{pieces-join, records-begin}
use Rattle.olap_records.specs.Standing.{Standing, after_action, after_byte, at_end, at_start, behind, records_fed, standing}
use Rattle.csv.specs.declared.parser.Action.TheVariants as act

-- one action
action-behind : (d : List (List (List ℕ))) (t : Standing) (s : State) (a : Action) (c : ℕ)
    → after_action (behind d t) s a c ≡ behind d (after_action t s a c)
action-behind d t s act.Skip c = refl
action-behind d t s act.Copy c = refl
action-behind d t s act.EndField c = refl
action-behind d t s act.EndRecord c = rw (append_assoc d t.done ((t.fields ++ t.field ∷ []) ∷ [])) refl

-- the earlier records stay before those of a piece
pub behind-joins : (d : List (List (List ℕ))) (t : Standing) (xs : List ℕ)
    → standing (behind d t) xs ≡ behind d (standing t xs)
behind-joins d t [] = refl
behind-joins d t (c ∷ xs) =
    ap (λ (u : Standing). standing u xs)
    (action-behind d t (step default_config t.state c).0 (step default_config t.state c).1 c)
    ∙ behind-joins d (after_byte t c) xs

-- some records after others
twice-behind : (d rs : List (List (List ℕ))) (t : Standing) → behind (d ++ rs) t ≡ behind d (behind rs t)
twice-behind d rs t = rw (append_assoc d rs t.done) refl

-- a piece more
pub fed-more : (fed xs : List ℕ) (done rs : List (List (List ℕ))) (s new : Standing)
    → standing at_start fed ≡ behind done s → standing s xs ≡ behind rs new
    → standing at_start (fed ++ xs) ≡ behind (done ++ rs) new
fed-more fed xs done rs s new a b =
    pieces-join at_start fed xs
    ∙ ap (λ (t : Standing). standing t xs) a
    ∙ behind-joins done s xs
    ∙ ap (behind done) b
    ∙ sym (twice-behind done rs new)

-- all records of a place after others
end-of : (d : List (List (List ℕ))) (t : Standing) → at_end (behind d t) ≡ d ++ at_end t
end-of d t = elim (cases_Bool (ends_at_end t.state)) [
  | inl e ↦ rw e (append_assoc d t.done ((t.fields ++ t.field ∷ []) ∷ []))
  | inr e ↦ rw e refl
]

-- the same at the end of the text
pub end-behind : (fed : List ℕ) (done rs : List (List (List ℕ))) (s : Standing)
    → standing at_start fed ≡ behind done s → at_end s ≡ rs → records_fed fed ≡ done ++ rs
end-behind fed done rs s a b = ap at_end a ∙ end-of done s ∙ ap (λ t. done ++ t) b

-- whatever comes, the records so far stand at the front of all
pub begins : (fed more : List ℕ) (done : List (List (List ℕ))) (s : Standing) → standing at_start fed ≡ behind done s
    → (left : List (List (List ℕ))) × (records_fed (fed ++ more) ≡ done ++ left)
begins fed more done s a =
    let b = records-begin (standing at_start fed) more in (
      s.done ++ b.0,
      ap at_end (pieces-join at_start fed more) ∙ b.1 ∙ ap (λ (t : Standing). t.done ++ b.0) a
          ∙ append_assoc done s.done b.0,
    )
