-- The values of the reader, as states of the machine.
--     Built                 a depth and a formula
--     frame_of, state_of    what the program has, as the machine has it
--     GoesBack, GoesTo      one step goes on as the machine does, or the form is bad
--     ReadsNone             a refusal is right where nothing was read
--     Ends                  the end of the tokens is that of the machine
use Rattle.std.specs.Prelude.{◌≡◌, ℕ, List, Result, Ok, Err, Option, Some, None}
use Rattle.olap_grammar.specs.Forms.{Form}
use Rattle.olap_ast.specs.Trees.{op_of}
use Rattle.olap_grammar.specs.Machine as machine
use Rattle.olap_base.specs.Refusing.{IsFor}
use Rattle.olap_base.specs.declared.refusals.Refusal.{Refusal}
use Rattle.olap_grammar.specs.Clip.{leaves}
use Rattle.olap_grammar.specs.Grammar.{Atoms}
use Rattle.olap_grammar.specs.Parts.{part_of}
use Rattle.olap_grammar.specs.Words.{atoms_of}
use Rattle.olap_grammar.specs.declared.tokens.Version.{Version}
use Rattle.olap_grammar.specs.declared.reading.State.{State}
use Rattle.olap_grammar.specs.declared.reading.State.TheVariants as state
use Rattle.olap_grammar.specs.declared.stacking.Frame.{Frame}
use Rattle.olap_grammar.specs.declared.stacking.Frame.TheVariants as frame
use Rattle.olap_grammar.specs.declared.refusals.NoFormula.{NoFormula}

-- a depth and a formula
abbrev pub Built : Type 0
Built = ℕ × Form

-- the words of formulas of a version
abbrev pub leaves_of : Version → Atoms Built
leaves_of v = leaves (atoms_of v)

-- what is open, as the machine has it
abbrev pub frame_of : Frame → machine.Frame Built
frame_of frame.Negation = machine.Frame.Negation
frame_of (frame.Left j p) = machine.Frame.Left j (part_of p)
frame_of frame.Bracket = machine.Frame.Bracket
frame_of frame.Listing = machine.Frame.Listing
frame_of (frame.Part p) = machine.Frame.Part (part_of p)

-- a formula is on top of what is open, or the form is bad
abbrev pub GoesBack : {A : Type 0} → Result A (Refusal NoFormula) → Built → List (machine.Frame Built)
    → machine.State Built → Type 0
GoesBack (Ok u) f s next = next ≡ machine.State.Has f s
GoesBack (Err e) f s next = IsFor (λ _. next ≡ machine.State.Bad) e

-- where a state of the reader, the formula that was read last, and what is open stand
abbrev pub state_of : State → Built → List (machine.Frame Built) → machine.State Built
state_of state.Wants f s = machine.State.Wants s
state_of state.WantsPart f s = machine.State.WantsPart s
state_of (state.Named w) f s = machine.State.Named w.now s
state_of (state.Compared w op) f s = machine.State.Compared w.now (op_of op) s
state_of state.Has f s = machine.State.Has f s

-- the reader goes on to the state, or the form is bad
abbrev pub GoesTo : Result State (Refusal NoFormula) → Built → List (machine.Frame Built) → machine.State Built
    → Type 0
GoesTo (Ok state) f s next = next ≡ state_of state f s
GoesTo (Err e) f s next = IsFor (λ _. next ≡ machine.State.Bad) e

-- there is no formula, or the refusal is out of memory
abbrev pub ReadsNone : Refusal NoFormula → Option Built → Type 0
ReadsNone e read = IsFor (λ _. read ≡ None) e

-- the formula is what was read, or the form is bad
abbrev pub Ends : {A : Type 0} → Result A (Refusal NoFormula) → Built → Option Built → Type 0
Ends (Ok u) f read = read ≡ Some f
Ends (Err e) f read = ReadsNone e read
