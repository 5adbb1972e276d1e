-- What one read does to the records that are left.
use Rattle.std.proofs.Common.{◌≡◌, ◌∷◌, ◌∙◌, Bor, Bool, true, false, ℕ, List, [], Option, Some, None, refl, sym, ap, inl, inr}
use Rattle.std.{proofs.lemmas.Bool.cases_Bool, specs.Bool.MatchBool, specs.Prelude.{IsSome, not, if◌then◌else◌}}
use Rattle.csv.{proofs.ReadFacts.{rows-end, rows-more}, specs.Machine.{Read, next_record}}
use Rattle.csv.specs.Reading.{ReadRecord, Reached, Ready, default_config, has_failed, reader_state, reader_trim, source_of}
use Rattle.csv.specs.declared.{parser.State.State, reader.Reader.Reader}
use Rattle.olap_records.{proofs.Fuel.{records-more, records-none}, specs.ReaderInside.Intact}
use Rattle.olap_records.specs.Records.{records_after, records_left}
use Rattle.csv.specs.declared.reader.Trim.TheVariants as trim

-- the bytes that a source has left
abbrev rem : Bor (List ℕ) → Option (List ℕ)
rem s = Some s.now

-- the records that a reader has left
abbrev pub left : Reader (Bor (List ℕ)) → List (List (List ℕ))
left r = records_left (reader_state r) (source_of rem r)

-- what is there
some-of : (o : Option (List ℕ)) → IsSome o → (y : List ℕ) × (o ≡ Some y)
some-of None h = cc h
some-of (Some y) h = (y, refl)

-- a record that is read is the first of those left
take-one : (s s2 : State) (y z : List ℕ) (f : List (List ℕ)) (p : Read)
    → next_record default_config s [] [] y ≡ Some p → f ≡ p.0 → p.1 ≡ s2 → p.2 ≡ z
    → records_after s y ≡ f ∷ records_after s2 z
take-one s s2 y z f p e ef es ez = records-more default_config s y p e ∙ cc

-- a read that finds a record takes the first of those left
found-one : (old new : Reader (Bor (List ℕ))) (f : List (List ℕ)) (y : List ℕ) → old.config ≡ default_config
    → source_of rem old ≡ Some y
    → ReadRecord rem old new true f → left old ≡ f ∷ left new
unfolding Reached
found-one old new f y ec ex r =
    let m = rows-more rem old new f default_config old.state y y [] ec ex (refl, refl) r in
    let p = m.2.0 in
    ap (records_left old.state) ex ∙ take-one old.state new.state y m.0 f p m.2.1 m.2.2 m.2.3.0 m.2.3.1
    ∙ sym (ap (λ (o : Option (List ℕ)). f ∷ records_left new.state o) m.1)

-- a read that finds none finds the end
found-none : (old new : Reader (Bor (List ℕ))) (f : List (List ℕ)) (y : List ℕ) → old.config ≡ default_config
    → source_of rem old ≡ Some y
    → ReadRecord rem old new false f → left old ≡ []
found-none old new f y ec ex r = ap (records_left old.state) ex
    ∙ records-none default_config old.state y (rows-end rem old new f default_config y ec ex r)

-- both at once
found-by : (old new : Reader (Bor (List ℕ))) (found : Bool) (f : List (List ℕ)) (y : List ℕ)
    → old.config ≡ default_config → source_of rem old ≡ Some y
    → ReadRecord rem old new found f → MatchBool found (left old ≡ f ∷ left new) (left old ≡ [])
found-by old new true f y ec ex r = found-one old new f y ec ex r
found-by old new false f y ec ex r = found-none old new f y ec ex r

-- a read of an intact reader takes the first of the records that are left, and finds none only where none is left
pub read-takes : (old new : Reader (Bor (List ℕ))) (found : Bool) (f : List (List ℕ)) → Intact old
    → (has_failed old ≡ true → found ≡ false)
    → (reader_trim old ≡ trim.None → Ready old → ReadRecord rem old new found f)
    → MatchBool found (left old ≡ f ∷ left new) (left old ≡ [])
read-takes old new found f intact failed reads = elim (cases_Bool (has_failed old)) [
  | inl t ↦ rw (failed t, t) refl
  | inr g ↦ let i = intact g in let y = some-of (source_of rem old) i.4 in
      found-by old new found f y.0 i.0 y.1 (reads i.1 i.3)
]

-- the same of what is left where a flag says that nothing is
pub with-flag : (found done : Bool) (x y : List (List (List ℕ))) (f : List (List ℕ)) → done ≡ false
    → MatchBool found (x ≡ f ∷ y) (x ≡ [])
    → MatchBool found ((if done then [] else x) ≡ f ∷ (if not found then [] else y))
    (((if done then [] else x) ≡ []) × ((if not found then [] else y) ≡ []))
with-flag true done x y f e h = rw e h
with-flag false done x y f e h = rw e (h, refl)
