-- What the records of a table stand for, from their first fault.
--     check-named, given-named
--                           one check of a record by the name of its fault
--     all_read-passed, all_read-named, at_record-named, table_meant-named
--                           the same by the names of faults
use Rattle.std.proofs.Common.{◌≡◌, ◌++◌, ◌∷◌, ◌∙◌, ◌↔◌, ℕ, zero, suc, Bool, true, false, cond, List, [], codes, drop, length, map, take, slice_get, Option, Some, None, Result, Ok, Err, refl, sym, ap, subst, arith, append_assoc}
use Rattle.std.{proofs.lemmas.List.append-nil, specs.Option.option_map, specs.Prelude.{is_none, unwrap_or}}
use Rattle.std.specs.Result.{result_err}
use Rattle.olap_base.specs.{Following.given, declared.refusals.Fault.Fault}
use Rattle.olap_records.{proofs.FaultLemmas.first-iff, specs.Faults.{first_fault, or_after}}
use Rattle.olap_records.specs.Tables.{AllReadIsFirst, AllReadIsRead, all_read, and_others, at_record, begins_with, fault_of, named, or_read, table_meant, table_read}

-- a fault, or else a value
abbrev pub or_value : {T K : Type 0} → Option K → T → Result T K
or_value (Some k) x = Err k
or_value None x = Ok x

-- one record and the others, by their faults or else by their values
and_others-or_value : {T K : Type 0} (n : ℕ) (o : Option K) (x : T) (p : Option (ℕ × K)) (xs : List T)
    → and_others n (or_value o x) (or_value p xs) ≡ or_value (or_after n o p) (x ∷ xs)
and_others-or_value n (Some k) x p xs = refl
and_others-or_value n None x (Some q) xs = refl
and_others-or_value n None x None xs = refl

-- where each record stands for its value, if it has no fault, so do all
pub all_read-or_value : {R T K : Type 0} (read : List R → R → Result T K) (fault : List R → R → Option K)
    (value : R → T) → ((before : List R) (r : R) → read before r ≡ or_value (fault before r) (value r))
    → (before rows : List R) → all_read read before rows ≡ or_value (first_fault fault before rows) (map value rows)
all_read-or_value read fault value is before [] = refl
all_read-or_value read fault value is before (r ∷ rs) =
    ap (λ o. and_others (length before) o (all_read read (before ++ r ∷ []) rs)) (is before r)
    ∙ ap (and_others (length before) (or_value (fault before r) (value r)))
    (all_read-or_value read fault value is (before ++ r ∷ []) rs)
    ∙ and_others-or_value (length before) (fault before r) (value r) (first_fault fault (before ++ r ∷ []) rs)
    (map value rs)

-- ---- a record by the name of its fault

-- a check that may fail, and what comes after it
pub check-named : {T K : Type 0} (name : K → List ℕ) (b : Bool) (k : K) (next : Result T (List ℕ)) (fault : Option K)
    (value : T) → next ≡ or_value (option_map name fault) value
    → cond b (Err (name k)) next ≡ or_value (option_map name (cond b (Some k) fault)) value
check-named name true k next fault value e = refl
check-named name false k next fault value e = e

-- a look-up that may fail, and what comes after it
pub given-named : {A T K : Type 0} (name : K → List ℕ) (o : Option A) (other : A) (k : K) (next : A → Result T (List ℕ))
    (fault : A → Option K) (value : A → T)
    → ((x : A) → next x ≡ or_value (option_map name (fault x)) (value x))
    → given o (name k) next ≡ or_value (option_map name (cond (is_none o) (Some k) (fault (unwrap_or o other))))
    (value (unwrap_or o other))
given-named name None other k next fault value e = refl
given-named name (Some x) other k next fault value e = e x

-- ---- a table by the names of its faults

-- the fault of one record, or of what comes after it
or_after-named : {K L : Type 0} (name : K → L) (n : ℕ) (o : Option K) (p : Option (ℕ × K))
    → or_after n (option_map name o) (option_map (λ q. (q.0, name q.1)) p)
    ≡ option_map (λ q. (q.0, name q.1)) (or_after n o p)
or_after-named name n (Some k) p = refl
or_after-named name n None p = refl

-- the first fault of all
first_fault-named : {R K L : Type 0} (name : K → L) (fault : List R → R → Option K) (before rows : List R)
    → first_fault (λ earlier r. option_map name (fault earlier r)) before rows
    ≡ option_map (λ q. (q.0, name q.1)) (first_fault fault before rows)
first_fault-named name fault before [] = refl
first_fault-named name fault before (r ∷ rs) =
    ap (or_after (length before) (option_map name (fault before r)))
    (first_fault-named name fault (before ++ r ∷ []) rs)
    ∙ or_after-named name (length before) (fault before r) (first_fault fault (before ++ r ∷ []) rs)

-- where each record means its value, or its first fault by its name, so do all
pub all_read-named : {R T K : Type 0} (meant : List R → R → Result T (List ℕ)) (name : K → List ℕ)
    (fault : List R → R → Option K) (value : R → T)
    → ((before : List R) (r : R) → meant before r ≡ or_value (option_map name (fault before r)) (value r))
    → (rows : List R) → all_read meant [] rows
    ≡ or_value (option_map (λ q. (q.0, name q.1)) (first_fault fault [] rows)) (map value rows)
all_read-named meant name fault value is rows =
    all_read-or_value meant (λ before r. option_map name (fault before r)) value is [] rows
    ∙ ap (λ o. or_value o (map value rows)) (first_fault-named name fault [] rows)

-- so do all where a record does after records that have passed
pub all_read-passed : {R T K : Type 0} (meant : List R → R → Result T (List ℕ)) (name : K → List ℕ)
    (fault : List R → R → Option K) (value : R → T) (HavePassed : List R → Type 0)
    → ((before : List R) (r : R) → HavePassed before → fault before r ≡ None → HavePassed (before ++ r ∷ []))
    → ((before : List R) (r : R) → HavePassed before
    → meant before r ≡ or_value (option_map name (fault before r)) (value r))
    → (before rows : List R) → HavePassed before → all_read meant before rows
    ≡ or_value (option_map (λ q. (q.0, name q.1)) (first_fault fault before rows)) (map value rows)
all_read-passed meant name fault value HavePassed more is before [] h = refl
all_read-passed {R} {T} {K} meant name fault value HavePassed more is before (r ∷ rs) h =
    ap (λ o. and_others (length before) o (all_read meant (before ++ r ∷ []) rs)) (is before r h)
    ∙ go (fault before r) refl (all_read-passed meant name fault value HavePassed more is (before ++ r ∷ []) rs)
  where
    next : Option (ℕ × K)
    next = first_fault fault (before ++ r ∷ []) rs

    step : (p : Option (ℕ × K))
        → and_others (length before) (Ok (value r)) (or_value (option_map (λ q. (q.0, name q.1)) p) (map value rs))
        ≡ or_value (option_map (λ q. (q.0, name q.1)) p) (value r ∷ map value rs)
    step None = refl
    step (Some q) = refl

    go : (o : Option K) → fault before r ≡ o
        → (HavePassed (before ++ r ∷ []) → all_read meant (before ++ r ∷ []) rs
        ≡ or_value (option_map (λ q. (q.0, name q.1)) next) (map value rs))
        → and_others (length before) (or_value (option_map name o) (value r)) (all_read meant (before ++ r ∷ []) rs)
        ≡ or_value (option_map (λ q. (q.0, name q.1)) (or_after (length before) o next)) (value r ∷ map value rs)
    go (Some k) e later = refl
    go None e later = ap (and_others (length before) (Ok (value r))) (later (more before r h e)) ∙ step next

-- a fault at its record
pub at_record-named : {T K : Type 0} (name : K → List ℕ) (o : Option (ℕ × K)) (x : T)
    → at_record (or_value (option_map (λ q. (q.0, name q.1)) o) x) ≡ named name (or_read o (Ok x))
at_record-named name None x = refl
at_record-named name (Some p) x = refl

-- the whole table
pub table_meant-named : {T K : Type 0} (header : List (List ℕ)) (meant : List (List (List ℕ)) → Result T (ℕ × List ℕ))
    (name : K → List ℕ) (no_header : K) (read : List (List (List ℕ)) → Result T (Fault K))
    → name no_header ≡ codes "BadHeader"
    → ((rows : List (List (List ℕ))) → at_record (meant rows) ≡ named name (read rows))
    → (records : List (List (List ℕ)))
    → table_meant header meant records ≡ named name (table_read header no_header read records)
table_meant-named {T} {K} header meant name no_header read e is records = go (begins_with header records)
  where
    go : (b : Bool)
        → cond b (at_record (meant (drop 1 records))) (Err (record { at = 1; kind = codes "BadHeader" }))
        ≡ named name (cond b (read (drop 1 records)) (Err (record { at = 1; kind = no_header })))
    go true = is (drop 1 records)
    go false = ap (λ n. Err (record { at = 1; kind = n })) (sym e)

-- ---- the fault of all that is read

-- the fault of one record and the others
err-and_others : {T K : Type 0} (n : ℕ) (o : Result T K) (p : Result (List T) (ℕ × K))
    → result_err (and_others n o p) ≡ or_after n (result_err o) (result_err p)
err-and_others n (Err k) p = refl
err-and_others n (Ok x) (Err q) = refl
err-and_others n (Ok x) (Ok xs) = refl

-- the fault of all that is read is the first one
pub all_read-fault : {R T K : Type 0} (read : List R → R → Result T K) (before rows : List R)
    → result_err (all_read read before rows) ≡ first_fault (fault_of read) before rows
all_read-fault read before [] = refl
all_read-fault read before (r ∷ rs) =
    err-and_others (length before) (read before r) (all_read read (before ++ r ∷ []) rs)
    ∙ ap (or_after (length before) (fault_of read before r)) (all_read-fault read (before ++ r ∷ []) rs)

-- a result is a fault exactly if that is its fault
err-iff : {T K : Type 0} (o : Result T K) (k : K) → (o ≡ Err k) ↔ (result_err o ≡ Some k)
err-iff (Err l) k = ((λ e. ap result_err e), λ e. let q : l ≡ k = cc in ap (λ j. Err j) q)
err-iff (Ok x) k = ((λ e. cc e), λ e. cc e)

-- a fault is read exactly if it is the first
pub all_read-is_first : {R T K : Type 0} → AllReadIsFirst R T K
all_read-is_first read rows i k =
    let e = all_read-fault read [] rows in
    let one = err-iff (all_read read [] rows) (i, k) in
    let two = first-iff (fault_of read) rows i k in
    ((λ h. two.0 (sym e ∙ one.0 h)), λ h. one.1 (e ∙ two.1 h))

-- ---- where nothing has a fault

module _ {R T K : Type 0} (read : List R → R → Result T K) where
  -- these are what the records stand for, each after those before it
  abbrev AreReadFrom : List R → List R → List T → Type 0
  AreReadFrom before rows xs = (length xs ≡ length rows) × ((j : ℕ) (r : R) (x : T) → slice_get rows j ≡ Some r
      → slice_get xs j ≡ Some x → read (before ++ take j rows) r ≡ Ok x)

  -- one record more in front
  in-front : (before rs : List R) (r : R) (x : T) (xs : List T) → read before r ≡ Ok x
      → AreReadFrom (before ++ r ∷ []) rs xs → AreReadFrom before (r ∷ rs) (x ∷ xs)
  in-front before rs r x xs e h = (ap (λ (n : ℕ). suc n) h.0, each)
    where
      each : (j : ℕ) (q : R) (y : T) → slice_get (r ∷ rs) j ≡ Some q → slice_get (x ∷ xs) j ≡ Some y
          → read (before ++ take j (r ∷ rs)) q ≡ Ok y
      each zero q y a b =
          let er : r ≡ q = cc in
          let ex : x ≡ y = cc in
          rw (append-nil before, ← er, ← ex) e
      each (suc j) q y a b =
          let later : read ((before ++ r ∷ []) ++ take j rs) q ≡ Ok y = h.1 j q y a b in
          rw (append_assoc before (r ∷ []) (take j rs)) at later

  -- what is read from here on
  read-to : (before rows : List R) (xs : List T) → all_read read before rows ≡ Ok xs → AreReadFrom before rows xs
  read-to before [] xs e = let n : [] ≡ xs = cc in subst (λ ys. AreReadFrom before [] ys) n (refl, λ j r x a b. cc a)
  read-to before (r ∷ rs) xs e =
      by (read before r) refl (all_read read (before ++ r ∷ []) rs) refl e (read-to (before ++ r ∷ []) rs)
    where
      by : (o : Result T K) → read before r ≡ o → (p : Result (List T) (ℕ × K))
          → all_read read (before ++ r ∷ []) rs ≡ p → and_others (length before) o p ≡ Ok xs
          → ((ys : List T) → all_read read (before ++ r ∷ []) rs ≡ Ok ys → AreReadFrom (before ++ r ∷ []) rs ys)
          → AreReadFrom before (r ∷ rs) xs
      by (Err k) eo p ep e again = cc e
      by (Ok x) eo (Err q) ep e again = cc e
      by (Ok x) eo (Ok ys) ep e again =
          let n : x ∷ ys ≡ xs = cc in
          subst (λ zs. AreReadFrom before (r ∷ rs) zs) n (in-front before rs r x ys eo (again ys ep))

  -- what the records stand for is read
  read-from : (before rows : List R) (xs : List T) → AreReadFrom before rows xs → all_read read before rows ≡ Ok xs
  read-from before [] [] h = refl
  read-from before [] (x ∷ xs) h = let n = h.0 in absurd (omega arith)
  read-from before (r ∷ rs) [] h = let n = h.0 in absurd (omega arith)
  read-from before (r ∷ rs) (x ∷ xs) h =
      let one : read (before ++ []) r ≡ Ok x = h.1 0 r x refl refl in
      let first : read before r ≡ Ok x = rw (append-nil before) at one in
      rw (first, read-from (before ++ r ∷ []) rs xs (shorter, later)) refl
    where
      shorter : length xs ≡ length rs
      shorter = let n = h.0 in omega arith

      later : (j : ℕ) (q : R) (y : T) → slice_get rs j ≡ Some q → slice_get xs j ≡ Some y
          → read ((before ++ r ∷ []) ++ take j rs) q ≡ Ok y
      later j q y a b = rw (append_assoc before (r ∷ []) (take j rs)) (h.1 (suc j) q y a b)

-- all is read exactly as each record is
pub all_read-is_read : {R T K : Type 0} → AllReadIsRead R T K
all_read-is_read read rows xs = (
  λ e. let h = read-to read [] rows xs e in record { as_many = h.0; each = h.1 },
  λ h. read-from read [] rows xs (h.as_many, h.each),
)
