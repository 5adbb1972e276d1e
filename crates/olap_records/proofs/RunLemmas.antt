-- Parts of a piece, and bytes that only join the field at hand.
--     copied-run      a byte that is copied, and the bytes after it that only join the field
use Rattle.std.proofs.Common.{◌≡◌, ◌<◌, ◌≤◌, ◌+◌, ◌-◌, ◌∷◌, ◌++◌, ◌∙◌, ℕ, Bool, false, List, [], length, take, drop, get_or, refl, sym, ap, arith, append_assoc, append-nil, length-drop, get_or-drop, take-add}
use Rattle.std.proofs.lemmas.List.{drop-drop, take_more}
use Rattle.csv.specs.{Machine.{Runs, step}, Reading.default_config, declared.parser.State.State}
use Rattle.olap_records.{proofs.NextLemmas.copied, proofs.StandingLemmas.pieces-join, specs.CutterInside.stand_by}
use Rattle.olap_records.specs.{Places.{action_of, state_of}, Standing.{Standing, after_action, standing}}
use Rattle.olap_records.specs.declared.steps.{Action.Action, Place.Place}
use Rattle.csv.specs.declared.parser.Action as csv
use Rattle.csv.specs.declared.parser.Action.TheVariants as act
use Rattle.olap_records.specs.declared.steps.Action.TheVariants as action

-- the part of a text between two places
abbrev pub between : ℕ → ℕ → List ℕ → List ℕ
between a b xs = take (b - a) (drop a xs)

-- between a place and itself there is nothing
pub between-none : (a : ℕ) (xs : List ℕ) → between a a xs ≡ []
between-none a xs = let e : a - a ≡ 0 = omega arith in ap (λ n. take n (drop a xs)) e

-- up to the next place there is one more byte
pub between-more : (a i : ℕ) (xs : List ℕ) → a ≤ i → i < length xs
    → between a (i + 1) xs ≡ between a i xs ++ get_or xs i 0 ∷ []
between-more a i xs low high =
    let one : i + 1 - a ≡ (i - a) + 1 = omega arith in
    let at : a + (i - a) ≡ i = omega arith in
    let lt : i - a < length (drop a xs) = omega (arith, length-drop a xs) in
    ap (λ n. take n (drop a xs)) one ∙ take_more (drop a xs) (i - a) 0 lt
    ∙ ap (λ v. take (i - a) (drop a xs) ++ v ∷ []) (get_or-drop a xs (i - a) 0 ∙ ap (λ k. get_or xs k 0) at)

-- two runs, one after the other, are one run
pub between-join : (a b c : ℕ) (xs : List ℕ) → a ≤ b → b ≤ c → between a b xs ++ between b c xs ≡ between a c xs
between-join a b c xs low high =
    let both : (b - a) + (c - b) ≡ c - a = omega arith in
    let at : a + (b - a) ≡ b = omega arith in
    ap (λ ys. between a b xs ++ take (c - b) ys) (ap (λ k. drop k xs) (sym at) ∙ sym (drop-drop (b - a) a xs))
    ∙ sym (take-add (b - a) (c - b) (drop a xs))
    ∙ ap (λ n. take n (drop a xs)) both

-- one byte more that only joins the field
pub runs-more : (s : State) (xs : List ℕ) (b : ℕ) → Runs default_config s xs → step default_config s b ≡ (s, act.Copy)
    → Runs default_config s (xs ++ b ∷ [])
unfolding Runs
runs-more s [] b h e = (e, tt)
runs-more s (x ∷ xs) b h e = (h.0, runs-more s xs b h.1 e)

-- where a reader stands after bytes that only join the field
run-on : (s : State) (fields : List (List ℕ)) (field xs : List ℕ) → Runs default_config s xs
    → standing (record { done = []; fields = fields; field = field; state = s }) xs
    ≡ record { done = []; fields = fields; field = field ++ xs; state = s }
unfolding Runs
run-on s fields field [] h = rw (append-nil field) refl
run-on s fields field (c ∷ xs) h =
    let u : Standing = record { done = []; fields = fields; field = field; state = s } in
    ap (λ (p : State × csv.Action). standing (after_action u p.0 p.1 c) xs) h.0
    ∙ run-on s fields (field ++ c ∷ []) xs h.1
    ∙ rw (append_assoc field (c ∷ []) xs) refl

-- a byte that is copied, and the bytes after it that only join the field
module _ (t : Standing) (piece : List ℕ) (i : ℕ) (l : i < length piece)
    (fields : List (List ℕ)) (field : List ℕ) (p : Place) (whole : Bool) (part : whole ≡ false)
    (h : standing t (take i piece) ≡ stand_by [] whole fields field p) (q : Place) (a : Action)
    (es : state_of q ≡ (step default_config (state_of p) (get_or piece i 0)).0)
    (ea : action_of a ≡ (step default_config (state_of p) (get_or piece i 0)).1) where
  pub copied-run : a ≡ action.Copy → (end : ℕ) → i + 1 ≤ end
      → Runs default_config (state_of q) (between (i + 1) end piece)
      → standing t (take end piece)
      ≡ stand_by [] false fields ((field ++ get_or piece i 0 ∷ []) ++ between (i + 1) end piece) q
  copied-run e end low runs =
      let size : end ≡ (i + 1) + (end - (i + 1)) = omega arith in
      ap (λ n. standing t (take n piece)) size
      ∙ ap (standing t) (take-add (i + 1) (end - (i + 1)) piece)
      ∙ pieces-join t (take (i + 1) piece) (between (i + 1) end piece)
      ∙ ap (λ (u : Standing). standing u (between (i + 1) end piece))
      (copied t piece i l fields field p whole part h q a es ea e (field ++ get_or piece i 0 ∷ []) refl)
      ∙ run-on (state_of q) fields (field ++ get_or piece i 0 ∷ []) (between (i + 1) end piece) runs

-- ---- the field at hand

-- a byte more and those after it
pub run-at-hand : (partial field : List ℕ) (from i end : ℕ) (piece : List ℕ) → from ≤ i → i < length piece
    → i + 1 ≤ end
    → ((partial ++ (field ++ between from i piece)) ++ get_or piece i 0 ∷ []) ++ between (i + 1) end piece
    ≡ partial ++ (field ++ between from end piece)
run-at-hand partial field from i end piece low high far =
    let b = get_or piece i 0 ∷ [] in
    let more = between (i + 1) end piece in
    let part = between from i piece in
    let joined : (part ++ b) ++ more ≡ between from end piece =
    ap (λ xs. xs ++ more) (sym (between-more from i piece low high))
    ∙ between-join from (i + 1) end piece (omega arith) far in
    append_assoc (partial ++ (field ++ part)) b more
    ∙ append_assoc partial (field ++ part) (b ++ more)
    ∙ ap (λ xs. partial ++ xs) (append_assoc field part (b ++ more)
    ∙ ap (λ xs. field ++ xs) (sym (append_assoc part b more) ∙ joined))

-- bytes that were copied, and none after them
pub copied-at-hand : (partial old rest new : List ℕ) (n : ℕ) (piece : List ℕ) → new ≡ old ++ rest
    → partial ++ (new ++ between n n piece) ≡ partial ++ (old ++ rest)
copied-at-hand partial old rest new n piece e =
    ap (λ xs. partial ++ (new ++ xs)) (between-none n piece)
    ∙ ap (λ xs. partial ++ xs) (append-nil new ∙ e)

-- none after a field
pub none-at-hand : (partial field : List ℕ) (n : ℕ) (piece : List ℕ) → partial ≡ [] → field ≡ []
    → partial ++ (field ++ between n n piece) ≡ []
none-at-hand partial field n piece p f = rw (p, f) (between-none n piece)
