-- The reader byte by byte against the definition of a text's records.
use Rattle.std.proofs.Common.{◌≡◌, ◌<◌, ◌≤◌, ◌+◌, ◌∷◌, ◌++◌, ◌∙◌, ℕ, zero, suc, List, [], Some, length, take, get_or, refl, sym, ap, inl, inr, arith, add-one, append_assoc}
use Rattle.std.{proofs.lemmas.Bool.cases_Bool, proofs.lemmas.List.{append-nil, take_more}, specs.Prelude.if◌then◌else◌}
use Rattle.csv.specs.Machine.{ends_at_end, field_after, fields_after, is_end, next_record, step}
use Rattle.csv.specs.{Reading.{default_config, records_from, records_next, strip_bom}, declared.parser.Action.Action}
use Rattle.csv.specs.declared.parser.State.{State}
use Rattle.olap_records.{proofs.Fuel.none-at-end, specs.Pieces.{PiecesJoin, RecordsAtEnd, RecordsBegin}}
use Rattle.olap_records.specs.Standing.{Standing, after_action, after_byte, at_end, at_start, standing}
use Rattle.csv.specs.declared.parser.State.TheVariants as st
use Rattle.csv.specs.declared.parser.Action.TheVariants as act

-- the state after two pieces is that after both joined
pub pieces-join : PiecesJoin
pieces-join t [] ys = refl
pieces-join t (c ∷ xs) ys = pieces-join (after_byte t c) xs ys

-- the records from here on, with this many turns at least
abbrev from_here : ℕ → Standing → List ℕ → List (List (List ℕ))
from_here n t xs =
    t.done ++ records_next (records_from default_config n) (next_record default_config t.state t.fields t.field xs)

-- the records at the end of the text are those that reading from this state finds
pub records-end : (t : Standing) (xs : List ℕ) (n : ℕ) → length xs ≤ n → at_end (standing t xs) ≡ from_here n t xs
unfolding next_record records_from
records-end t [] n l = elim (cases_Bool (ends_at_end t.state)) [
  | inl e ↦ rw (e, none-at-end default_config n) refl
  | inr e ↦ rw (e, append-nil t.done) refl
]
records-end t (c ∷ xs) zero l = absurd (omega arith)
records-end t (c ∷ xs) (suc m) l =
    by (step default_config t.state c).0 (step default_config t.state c).1 (λ u. records-end u xs m (omega arith))
    (λ u. records-end u xs (suc m) (omega arith))
  where
    by : (s : State) (a : Action)
        → ((u : Standing) → at_end (standing u xs) ≡ from_here m u xs)
        → ((u : Standing) → at_end (standing u xs) ≡ from_here (suc m) u xs)
        → at_end (standing (after_action t s a c) xs)
        ≡ t.done ++ records_next (records_from default_config (suc m))
        (if is_end a then Some (fields_after a t.fields t.field, s, xs)
        else next_record default_config s (fields_after a t.fields t.field) (field_after a c t.field) xs)
    by s act.Skip less same = same (after_action t s act.Skip c)
    by s act.Copy less same = same (after_action t s act.Copy c)
    by s act.EndField less same = same (after_action t s act.EndField c)
    by s act.EndRecord less same =
        less (after_action t s act.EndRecord c)
        ∙ append_assoc t.done ((t.fields ++ t.field ∷ []) ∷ [])
        (records_next (records_from default_config m) (next_record default_config s [] [] xs))

-- so from the start they are the records of the text
pub records-at-end : RecordsAtEnd
unfolding records_from
records-at-end text =
    let xs = strip_bom text in
    records-end at_start xs (length xs) (omega arith)
    ∙ sym (ap (λ n. records_from default_config n st.StartRecord xs) (add-one (length xs)))

-- the records so far stand at the front of those of the whole text
pub records-begin : RecordsBegin
records-begin t more = (
  records_next (records_from default_config (length more)) (next_record default_config t.state t.fields t.field more),
  records-end t more (length more) (omega arith),
)

-- one byte more of a piece
pub one-more : (t u : Standing) (piece : List ℕ) (i : ℕ) (s : State) (a : Action) → i < length piece
    → standing t (take i piece) ≡ u
    → s ≡ (step default_config u.state (get_or piece i 0)).0 → a ≡ (step default_config u.state (get_or piece i 0)).1
    → standing t (take (i + 1) piece) ≡ after_action u s a (get_or piece i 0)
one-more t u piece i s a l h es ea =
    ap (standing t) (take_more piece i 0 l)
    ∙ pieces-join t (take i piece) (get_or piece i 0 ∷ [])
    ∙ ap (λ (v : Standing). after_byte v (get_or piece i 0)) h
    ∙ rw (es, ea) refl
