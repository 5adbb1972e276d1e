-- Families of commands as one program.
use Rattle.std.proofs.Common.{◌≡◌, ℕ, List, Option, None, Some, Result, MatchOption, ap, refl, subst, sym}
use Rattle.std.specs.{Option.option_or, Prelude.option_map}
use Rattle.olap_outside.specs.{Files.Files, declared.outside.Library.{Ghosts as Library}}
use Rattle.olap_order.proofs.Stepping.{blamed, comes_first, replied, step_reads_none, stuck_too}
use Rattle.olap_order.specs.{Families.{FamilyJudged, IsNoUsage, asking}, Judged.{Gives, GivesTold, Judged}}
use Rattle.olap_order.specs.{Order.{Order, Done, Told, Read, and_then}, declared.replies.Reply.Reply}
use Rattle.olap_order.specs.declared.{replies.Stop.Stop, status.Status.Status}

-- ---- a family's questions as the program's

module _ {Q R : Type 0} (answers : Q → Status → List ℕ → Type 0) (program : R → Status → List ℕ → Type 0) (of : Q → R)
    (same : (q : Q) (status : Status) (bytes : List ℕ) → answers q status bytes → program (of q) status bytes) where
  given : (files : Files) (order : Order Q) (status : Status) (bytes : List ℕ) → Gives answers files order status bytes
      → Gives program files (and_then order (λ q. Done (of q))) status bytes
  given files (Done q) status bytes g = same q status bytes g
  given files (Told told text) status bytes g = g
  given files (Read name rest) status bytes g = go (files name) (λ text. given files (rest text) status bytes) g
    where
      go : (o : Option (List ℕ)) → ((text : List ℕ) → Gives answers files (rest text) status bytes
          → Gives program files (and_then (rest text) (λ q. Done (of q))) status bytes)
          → MatchOption o ⊥ (λ text. Gives answers files (rest text) status bytes)
          → MatchOption o ⊥ (λ text. Gives program files (and_then (rest text) (λ q. Done (of q))) status bytes)
      go None f g = absurd g
      go (Some text) f g = f text g

  given_told : (files : Option Files) (order : Order Q) (status : Status) (bytes : List ℕ)
      → GivesTold answers files order status bytes
      → GivesTold program files (and_then order (λ q. Done (of q))) status bytes
  given_told None order status bytes g = λ none files. given files order status bytes
      (g (step_reads_none program (λ q. Done (of q)) order none) files)
  given_told (Some files) order status bytes g = given files order status bytes g

  -- if the family's order isn't the usage, the program's isn't
  no_usage : (order : Order Q) → IsNoUsage order → IsNoUsage (and_then order (λ q. Done (of q)))
  no_usage (Done q) n bytes e = absurd (cc)
  no_usage (Told status text) n bytes e = n bytes (cc)
  no_usage (Read name rest) n bytes e = absurd (cc)

  -- what is judged of the family's questions is judged of the program's
  carried : {D : Type 0} {L : Library D} {old new : D} (order : Order Q) (result : Result Reply Stop)
      → Judged answers L old new order result → Judged program L old new (and_then order (λ q. Done (of q))) result
  carried {L = L} {old = old} {new = new} order result j =
      let next : Q → Order R = λ q. Done (of q) in
      record {
        right = replied result (given_told (L.contents old) order) j.right;
        verdict = j.verdict;
        read = λ is. record {
          risen = (j.read is).risen;
          unready = (j.read is).unready;
          place = blamed (L.contents old) order (and_then order next) (λ files e. comes_first next files order)
              (L.asked new) (j.read is).place;
          stuck = λ sure. stuck_too (L.contents old) order (and_then order next)
              (λ files e. comes_first next files order) ((j.read is).stuck sure);
        };
        later = j.later;
      }

  -- what a family answers is what the program answers
  pub joined : {D : Type 0} {L : Library D} {old new : D} {order : Option (Order Q)}
      (result : Option (Result Reply Stop))
      → FamilyJudged answers L old new order result → FamilyJudged program L old new (asking of order) result
  joined None j = record { none = λ is. ap (asking of) (j.none is); unasked = j.unasked; some = tt }
  joined (Some result) j = record {
    none = λ is. absurd (cc);
    unasked = λ is. absurd (cc);
    some = record {
      command = and_then j.some.command (λ q. Done (of q));
      is = ap (asking of) j.some.is;
      no_usage = no_usage j.some.command j.some.no_usage;
      judged = carried j.some.command result j.some.judged;
    };
  }

-- ---- two families, and the code of one

module _ {D Q : Type 0} {answers : Q → Status → List ℕ → Type 0} {L : Library D} {old : D} where
  -- a family that answers has a command, whatever the others have
  pub or_this : {new : D} {order : Option (Order Q)} (others : Option (Order Q)) {result : Result Reply Stop}
      → FamilyJudged answers L old new order (Some result)
      → FamilyJudged answers L old new (option_or order others) (Some result)
  or_this others j = record {
    none = λ is. absurd (cc);
    unasked = λ is. absurd (cc);
    some = record {
      command = j.some.command;
      is = ap (λ o. option_or o others) j.some.is;
      no_usage = j.some.no_usage;
      judged = j.some.judged;
    };
  }

  -- where one answers nothing, the others are asked
  pub or_next : {mid new : D} {order others : Option (Order Q)} {result : Option (Result Reply Stop)}
      → FamilyJudged answers L old mid order None → FamilyJudged answers L mid new others result
      → FamilyJudged answers L old new (option_or order others) result
  or_next {new = new} {others = others} {result = result} j k =
      subst (λ o. FamilyJudged answers L old new (option_or o others) result) (sym (j.none refl))
      (subst (λ d. FamilyJudged answers L d new others result) (j.unasked refl) k)

  -- if no words of the code are a command, nothing is answered
  pub of_none : {C : Type 0} (seen : C → Order Q) {order : Option (Order Q)} → option_map seen None ≡ order
      → FamilyJudged answers L old old order None
  of_none seen e = record { none = λ is. sym e; unasked = λ is. refl; some = tt }

  -- if they are, what is judged along its order
  pub of_some : {C : Type 0} {new : D} (seen : C → Order Q) (command : C) {order : Option (Order Q)}
      {result : Result Reply Stop} → option_map seen (Some command) ≡ order → IsNoUsage (seen command)
      → Judged answers L old new (seen command) result → FamilyJudged answers L old new order (Some result)
  of_some seen command e none j = record {
    none = λ is. absurd (cc);
    unasked = λ is. absurd (cc);
    some = record { command = seen command; is = sym e; no_usage = none; judged = j };
  }
