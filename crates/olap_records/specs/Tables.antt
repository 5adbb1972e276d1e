-- What the records of a table stand for, or the table's first fault.
--     all_read      what each record stands for, or the first fault, by its record's place
--     begins_with   the first record is a header
--     or_read       a fault at its record, or what the records stand for
--     table_read    what the records after a header stand for, or the first fault
--     table_meant   the same by the name of the fault
--     named         what is read, by the name of the fault
--     AllReadIsRead, AllReadIsFirst    what `all_read` is, record by record
use Rattle.std.specs.Prelude.{◌≡◌, ◌+◌, ◌++◌, ◌∷◌, ◌↔◌, Bool, false, ℕ, List, [], codes, length, drop, take, slice_get, Option, Some, None, Result, Ok, Err, if◌then◌else◌}
use Rattle.std.specs.Cmp.Lexicographic.{pointwise}
use Rattle.std.specs.Result.{result_err}
use Rattle.std.specs.Str.{bytes_eq}
use Rattle.olap_base.specs.declared.refusals.Fault.{Fault}
use Rattle.olap_records.specs.FaultLaws.{IsFirstFault}

-- the record at a place, and then the others; but for the first fault, with its record's place
abbrev pub and_others : {T K : Type 0} → ℕ → Result T K → Result (List T) (ℕ × K) → Result (List T) (ℕ × K)
and_others n (Err k) others = Err (n, k)
and_others n (Ok x) (Err p) = Err p
and_others n (Ok x) (Ok xs) = Ok (x ∷ xs)

-- What each record stands for, in order, or the first fault, with its record's place. `read` says what a record stands
-- for after the records before it, or the first check that it fails.
abbrev pub all_read : {R T K : Type 0} → (List R → R → Result T K) → List R → List R → Result (List T) (ℕ × K)
all_read read before [] = Ok []
all_read read before (r ∷ rs) = and_others (length before) (read before r) (all_read read (before ++ r ∷ []) rs)

-- the first record is this one
abbrev pub begins_with : List (List ℕ) → List (List (List ℕ)) → Bool
begins_with header [] = false
begins_with header (top ∷ rows) = pointwise bytes_eq top header

-- the fault, if there is one, at its record's number, where the header is number 1; else what is read
abbrev pub or_read : {T K : Type 0} → Option (ℕ × K) → Result T (Fault K) → Result T (Fault K)
or_read None read = read
or_read (Some p) read = Err (record { at = p.0 + 2; kind = p.1 })

-- what the records after the header stand for, or the first fault, which is `no_header` where the header is missing
abbrev pub table_read : {T K : Type 0} → List (List ℕ) → K → (List (List (List ℕ)) → Result T (Fault K))
    → List (List (List ℕ)) → Result T (Fault K)
table_read header no_header read records =
    if begins_with header records then read (drop 1 records) else Err (record { at = 1; kind = no_header })

-- what is read, or the first fault, at its record's number, where the header is number 1
abbrev pub at_record : {T K : Type 0} → Result T (ℕ × K) → Result T (Fault K)
at_record (Ok x) = Ok x
at_record (Err p) = Err (record { at = p.0 + 2; kind = p.1 })

-- what the records after the header mean, or the first fault by its name
abbrev pub table_meant : {T : Type 0} → List (List ℕ) → (List (List (List ℕ)) → Result T (ℕ × List ℕ))
    → List (List (List ℕ)) → Result T (Fault (List ℕ))
table_meant header meant records =
    if begins_with header records then at_record (meant (drop 1 records))
    else Err (record { at = 1; kind = codes "BadHeader" })

-- the same, with a fault's name in place of its kind
abbrev pub named : {T K : Type 0} → (K → List ℕ) → Result T (Fault K) → Result T (Fault (List ℕ))
named name (Ok x) = Ok x
named name (Err f) = Err (record { at = f.at; kind = name f.kind })

-- ---- laws

-- the record's fault after those before it, if it has one
abbrev pub fault_of : {R T K : Type 0} → (List R → R → Result T K) → List R → R → Option K
fault_of read before r = result_err (read before r)

-- a fault is found exactly if it is the first
abbrev pub AllReadIsFirst : Type 0 → Type 0 → Type 0 → Type 0
AllReadIsFirst R T K = (read : List R → R → Result T K) (rows : List R) (i : ℕ) (k : K)
    → (all_read read [] rows ≡ Err (i, k)) ↔ IsFirstFault (fault_of read) rows i k

-- these are what the records stand for, each after those before it
pub record AreRead {R T K : Type 0} (read : List R → R → Result T K) (rows : List R) (xs : List T) : Type 0 where
  pub as_many : length xs ≡ length rows
  pub each : (j : ℕ) (r : R) (x : T) → slice_get rows j ≡ Some r → slice_get xs j ≡ Some x → read (take j rows) r ≡ Ok x

-- all is read exactly as each record is
abbrev pub AllReadIsRead : Type 0 → Type 0 → Type 0 → Type 0
AllReadIsRead R T K = (read : List R → R → Result T K) (rows : List R) (xs : List T)
    → (all_read read [] rows ≡ Ok xs) ↔ AreRead read rows xs
