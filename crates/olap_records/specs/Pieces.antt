-- What the pieces of a text tell of its records.
--     RecordsAtEnd    the records of a text are those of its reader at its end
--     PiecesJoin      a text that is read piece by piece is read as a whole
--     RecordsBegin    the records of a piece stand at the front of those of the whole
--     MarkIsInFront   a mark is looked for in the first three bytes alone
use Rattle.std.specs.Prelude.{ℕ, ◌≡◌, ◌≤◌, ◌++◌, List, length}
use Rattle.olap_records.specs.Records.{records_of}
use Rattle.olap_records.specs.Standing.{Standing, at_end, records_fed, standing, unmarked}

-- the records of a text are those of its reader at its end
abbrev pub RecordsAtEnd : Type 0
RecordsAtEnd = (text : List ℕ) → records_fed (unmarked text) ≡ records_of text

-- piece after piece
abbrev pub PiecesJoin : Type 0
PiecesJoin = (t : Standing) (xs ys : List ℕ) → standing t (xs ++ ys) ≡ standing (standing t xs) ys

-- the records so far stand at the front of those of the whole, whatever comes
abbrev pub RecordsBegin : Type 0
RecordsBegin = (t : Standing) (more : List ℕ)
    → (left : List (List (List ℕ))) × (at_end (standing t more) ≡ t.done ++ left)

-- what comes after the first three bytes has no part in the mark
abbrev pub MarkIsInFront : Type 0
MarkIsInFront = (text more : List ℕ) → 3 ≤ length text → unmarked (text ++ more) ≡ unmarked text ++ more
