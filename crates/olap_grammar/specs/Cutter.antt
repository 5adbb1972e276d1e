-- The values of the cutter, as states of the machine.
--     kept_of, cut_of    what is kept, and the state of the cutter, as `Keeping` has them
--     CutsTo             one step of the cutter goes on so, or can go no further
--     FailsWith          a refusal is right where nothing was found
--     CutEnds            the end of the line leaves what was found
use Rattle.std.specs.Prelude.{◌≡◌, ℕ, List, Result, Ok, Err, Option, Some, None}
use Rattle.olap_base.specs.Refusing.{IsFor}
use Rattle.olap_base.specs.declared.refusals.Refusal.{Refusal}
use Rattle.olap_grammar.specs.Keeping as keeping
use Rattle.olap_grammar.specs.Keeping.{Kept}
use Rattle.olap_grammar.specs.declared.cutting.Begun.{Begun}
use Rattle.olap_grammar.specs.declared.cutting.Begun.TheVariants as begun
use Rattle.olap_grammar.specs.declared.cutting.FirstTokens.{FirstTokens}
use Rattle.olap_grammar.specs.declared.refusals.NoTokens.{NoTokens}

-- what the first tokens are, as what is kept
abbrev pub kept_of : FirstTokens → Kept
kept_of t = record { most = t.most; first = t.first.items; more = t.more; tally = t.tally }

-- what was begun, with its bytes, after what is kept
abbrev pub cut_of : Begun → List ℕ → Kept → keeping.Going
cut_of begun.Nothing bs k = keeping.Going.Between k
cut_of begun.Word bs k = keeping.Going.InWord k bs
cut_of begun.Quotes bs k = keeping.Going.InQuotes k bs
cut_of begun.Escape bs k = keeping.Going.Escaped k bs
cut_of begun.Signed bs k = keeping.Going.InSigned k bs
cut_of begun.Dash bs k = keeping.Going.Dash k
cut_of begun.Less bs k = keeping.Going.Less k
cut_of begun.LessDash bs k = keeping.Going.LessDash k

-- the cutter goes on to the state, or is stuck
abbrev pub CutsTo : Result Begun (Refusal NoTokens) → List ℕ → Kept → keeping.Going → Type 0
CutsTo (Ok begun) bs k next = next ≡ cut_of begun bs k
CutsTo (Err e) bs k next = IsFor (λ _. next ≡ keeping.Going.Stuck) e

-- there are no tokens, or the refusal is out of memory
abbrev pub FailsWith : {A : Type 0} → Refusal NoTokens → Option A → Type 0
FailsWith e found = IsFor (λ _. found ≡ None) e

-- what is kept is what was found, or there is none
abbrev pub CutEnds : {A : Type 0} → Result A (Refusal NoTokens) → Kept → Option Kept → Type 0
CutEnds (Ok u) k found = found ≡ Some k
CutEnds (Err e) k found = FailsWith e found
