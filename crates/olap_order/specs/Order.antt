-- What a run asks of the library, in order, and the question that is left once all its files are read.
--     Order        files that are read one after another, and then a question or the answer itself
--     refused      a file or a word is refused
--     and_then     an order, and then another, given the value in which the first ends
--     ok_or        the value that is there, or a refusal
--     ComesTo      the order comes to this file: it asks for it
--     ReadsNoFile  no file is read
--     IsStuck      it comes to a name without a content
--     IsHeld       each file that it comes to has a content
use Rattle.std.specs.Prelude.{◌≡◌, ◌⊎◌, ℕ, List, Option, None, Some, MatchOption, IsSome, ⊤}
use Rattle.olap_outside.specs.Files.{Files}
use Rattle.olap_order.specs.Outputs.{refusal}
use Rattle.olap_order.specs.declared.status.Status.{Status}
use Rattle.olap_order.specs.declared.status.Status.TheVariants.{Refused}

-- An order reads files one after another; what a file holds may decide what comes next. In the end a question is left,
-- or the answer itself: a status and bytes.
pub data Order (Q : Type 0) : Type 0 where
  Done : Q → Order Q
  Told : (status : Status) (bytes : List ℕ) → Order Q
  Read : List ℕ → (List ℕ → Order Q) → Order Q

-- a file or a word is refused for this reason
abbrev pub refused : {Q : Type 0} → List ℕ → Order Q
refused why = Told Refused (refusal why)

-- the first order, followed by the order for the value in which it ends
abbrev pub and_then : {T Q : Type 0} → Order T → (T → Order Q) → Order Q
and_then (Done x) next = next x
and_then (Told status bytes) next = Told status bytes
and_then (Read name rest) next = Read name (λ text. and_then (rest text) next)

-- what is there; else the order is refused for that reason
abbrev pub ok_or : {T : Type 0} → Option T → List ℕ → Order T
ok_or None why = refused why
ok_or (Some x) why = Done x

-- the order comes to this file: it asks for it
abbrev pub ComesTo : {Q : Type 0} → Files → Order Q → List ℕ → Type 0
ComesTo files (Done q) file = ⊥
ComesTo files (Told status bytes) file = ⊥
ComesTo files (Read name next) file =
    (file ≡ name) ⊎ MatchOption (files name) ⊥ (λ text. ComesTo files (next text) file)

-- the order reads no file
abbrev pub ReadsNoFile : {Q : Type 0} → Order Q → Type 0
ReadsNoFile (Done q) = ⊤
ReadsNoFile (Told status bytes) = ⊤
ReadsNoFile (Read name next) = ⊥

-- the order comes to a name without a content
abbrev pub IsStuck : {Q : Type 0} → Files → Order Q → Type 0
IsStuck files order = (file : List ℕ) × ComesTo files order file × (files file ≡ None)

-- each file that the order comes to has a content
abbrev pub IsHeld : {Q : Type 0} → Files → Order Q → Type 0
IsHeld files order = (file : List ℕ) → ComesTo files order file → IsSome (files file)
