-- Files that are read in a loop: a step and what comes after it are a step.
use Rattle.std.proofs.Common.{◌≡◌, ◌+◌, ℕ, List, [], ◌∷◌, ◌++◌, Option, None, Some, Result, Ok, Err, MatchOption, ap, subst, sym, refl, ◌∙◌}
use Rattle.std.specs.{Prelude.IfOk, Result.IsErrAnd}
use Rattle.olap_base.specs.declared.ids.Memory.{Memory}
use Rattle.olap_outside.specs.{Files.Files, declared.outside.Library.{Ghosts as Library}}
use Rattle.olap_order.proofs.Stepping.{ended, followed, step_reads_none, same_state, after}
use Rattle.olap_order.specs.{Judged.{IsLater, Judged}, Order.{Order, Done, Told, Read, ReadsNoFile, and_then}}
use Rattle.olap_order.specs.{Refusals.IsOutOfMemory, Taken.{ComesOut, ComesOutTold, FileStep, NoAnswer}}
use Rattle.olap_order.specs.declared.{replies.Reply.Reply, replies.Stop.Stop, status.Status.Status}
use Rattle.olap_order.specs.declared.replies.Stop.TheVariants as stops

module _ {T Q : Type 0} (next : T → Order Q) where
  -- what a step comes to, and then what the step after it comes to
  comes_out_then : (files : Files) (step : Order T) (x : T) (y : Q) → ComesOut files step x → ComesOut files (next x) y
      → ComesOut files (and_then step next) y
  comes_out_then files (Done z) x y e f = subst (λ w. ComesOut files (next w) y) (sym e) f
  comes_out_then files (Told status bytes) x y e f = absurd e
  comes_out_then files (Read name rest) x y e f =
      go (files name) (λ text h. comes_out_then files (rest text) x y h f) e
    where
      go : (o : Option (List ℕ)) → ((text : List ℕ) → ComesOut files (rest text) x
          → ComesOut files (and_then (rest text) next) y)
          → MatchOption o ⊥ (λ text. ComesOut files (rest text) x)
          → MatchOption o ⊥ (λ text. ComesOut files (and_then (rest text) next) y)
      go None f e = absurd e
      go (Some text) f e = f text e

  -- the same where the files may be unknown
  comes_out_told_then : (files : Option Files) (step : Order T) (x : T) (y : Q) → ComesOutTold files step x
      → ComesOutTold files (next x) y → ComesOutTold files (and_then step next) y
  comes_out_told_then None step x y e f = λ none.
      let is : step ≡ Done x = e (step_reads_none NoAnswer next step none) in
      let here : ReadsNoFile (next x) = subst (λ (o : Order T). ReadsNoFile (and_then o next)) is none in
      ap (λ (o : Order T). and_then o next) is ∙ f here
  comes_out_told_then (Some files) step x y e f = comes_out_then files step x y e f

module _ {D T Q X Y : Type 0} {L : Library D} {old mid : D} {step : Order T} {meaning : X → T} {other : Y → Q} where
  -- where a step goes on, the step after it is that of both
  pub file_followed : {x : X} → FileStep L old mid step meaning (Ok x) → (next : T → Order Q) → {new : D}
      → (result : Result Y Stop) → FileStep L mid new (next (meaning x)) other result
      → FileStep L old new (and_then step next) other result
  file_followed {x} s next (Ok y) r = record {
    comes_out = comes_out_told_then next (L.contents old) step (meaning x) (other y) s.comes_out
        (subst (λ files. ComesOutTold files (next (meaning x)) (other y)) s.same r.comes_out);
    ends = tt;
    same = r.same ∙ s.same;
    later = after s.later r.later;
  }
  file_followed {x} s next (Err stop) r = record {
    comes_out = tt;
    ends = followed s next r.ends;
    same = r.same ∙ s.same;
    later = after s.later r.later;
  }

  -- where it ends, both do
  pub file_ended : {stop : Stop} → FileStep L old mid step meaning (Err stop) → (next : T → Order Q)
      → FileStep L old mid (and_then step next) other (Err stop)
  file_ended {stop} s next = record {
    comes_out = tt;
    ends = ended s next refl;
    same = s.same;
    later = s.later;
  }

module _ {D T X : Type 0} {L : Library D} {old new : D} {step : Order T} {meaning : X → T} where
  -- the code hands on why a step ended
  pub as_ended : (result : Result X Stop) (stop : Stop) → IsErrAnd result (λ e. e ≡ stop)
      → FileStep L old new step meaning (Err stop) → FileStep L old new step meaning result
  as_ended (Ok x) stop is s = absurd is
  as_ended (Err e) stop is s = subst (λ e. FileStep L old new step meaning (Err e)) (sym is) s

  -- a step that runs out of memory, whatever it is
  pub no_memory : IsLater L old new → L.contents new ≡ L.contents old
      → (memory : Memory) → FileStep L old new step meaning (Err (stops.Memory memory))
  no_memory later same memory = record {
    comes_out = tt;
    ends = record { right = tt; verdict = tt; read = λ is. absurd (cc); later = later };
    same = same;
    later = later;
  }

-- ---- out of memory, as the code hands it on

-- if there is an error, nothing is said of a value
pub no_value : {X E : Type 0} (P : X → Type 0) (R : E → Type 0) (result : Result X E) → IsErrAnd result R
    → IfOk result P
no_value P R (Ok x) is = absurd is
no_value P R (Err e) is = tt

-- after a step has read what it reads
pub ran_out : {D T X : Type 0} {L : Library D} {old new : D} {step : Order T} {meaning : X → T}
    (result : Result X Stop) → IsErrAnd result IsOutOfMemory → IsLater L old new → L.contents new ≡ L.contents old
    → FileStep L old new step meaning result
ran_out (Ok x) is later same = absurd is
ran_out (Err (stops.Refused bytes)) is later same = absurd is
ran_out (Err stops.Read) is later same = absurd is
ran_out (Err (stops.Memory m)) is later same = no_memory later same m

-- before a step has read anything
pub no_memory_yet : {D T X : Type 0} {L : Library D} {old : D} {step : Order T} {meaning : X → T}
    (result : Result X Stop) → IsErrAnd result IsOutOfMemory → FileStep L old old step meaning result
no_memory_yet result is = ran_out result is same_state refl

-- in a command
pub judged_no_memory : {D Q : Type 0} {answers : Q → Status → List ℕ → Type 0} {L : Library D} {old new : D}
    {order : Order Q} (result : Result Reply Stop) → IsErrAnd result IsOutOfMemory → IsLater L old new
    → Judged answers L old new order result
judged_no_memory (Ok reply) is later = absurd is
judged_no_memory (Err (stops.Refused bytes)) is later = absurd is
judged_no_memory (Err stops.Read) is later = absurd is
judged_no_memory (Err (stops.Memory m)) is later =
    record { right = tt; verdict = tt; read = λ e. absurd (cc); later = later }

module _ {D T X : Type 0} {L : Library D} {old new : D} {step : Order T} {meaning : X → T} where
  -- what was read, as the code has it
  pub as_read : (x : X) → FileStep L old new step (λ y. y) (Ok (meaning x)) → FileStep L old new step meaning (Ok x)
  as_read x s = record { comes_out = s.comes_out; ends = tt; same = s.same; later = s.later }

  -- a step ends as it does whatever it would have come to
  pub ended_so : {Y : Type 0} {other : Y → T} {stop : Stop} → FileStep L old new step other (Err stop)
      → FileStep L old new step meaning (Err stop)
  ended_so s = record { comes_out = tt; ends = s.ends; same = s.same; later = s.later }

-- ---- one file after the other: `behind` is the order that is left once this many are read, given their values

module _ {D T : Type 0} (L : Library D) (start : D) (order : Order (List T))
    (behind : ℕ → List T → Order (List T)) where
  -- what is read of the files that are left is read of all
  pub record AreReadTo (k : ℕ) (now : D) (read : List T) : Type 0 where
    pub rest : (new : D) (result : Result (List T) Stop) → FileStep L now new (behind k read) (λ x. x) result
        → FileStep L start new order (λ x. x) result
    pub same : L.contents now ≡ L.contents start
    pub later : IsLater L start now

  -- no file is read yet
  pub read_none : order ≡ behind 0 [] → AreReadTo 0 start []
  read_none e = record {
    rest = λ new result s. subst (λ o. FileStep L start new o (λ x. x) result) (sym e) s;
    same = refl;
    later = same_state;
  }

-- what follows from what was read so far
module _ {D T X : Type 0} {L : Library D} {start now : D} {order : Order (List T)}
    {behind : ℕ → List T → Order (List T)} {k : ℕ} {read : List T} (r : AreReadTo L start order behind k now read)
    {new : D} {step : Order T} {meaning : X → T} where
  -- one file more
  pub read_more : {x : X} {all : List T} → behind k read ≡ and_then step (λ t. behind (k + 1) (read ++ t ∷ []))
      → FileStep L now new step meaning (Ok x) → all ≡ read ++ meaning x ∷ []
      → AreReadTo L start order behind (k + 1) new all
  read_more e s is = subst (AreReadTo L start order behind (k + 1) new) (sym is) (record {
    rest = λ last result t. r.rest last result (subst (λ o. FileStep L now last o (λ x. x) result) (sym e)
        (file_followed s (λ t. behind (k + 1) (read ++ t ∷ [])) result t));
    same = s.same ∙ r.same;
    later = after r.later s.later;
  })

  -- where a file isn't taken, the order ends as it does there
  pub read_ends : {Y : Type 0} {other : Y → List T} (result : Result Y Stop) (stop : Stop)
      → IsErrAnd result (λ e. e ≡ stop) → behind k read ≡ and_then step (λ t. behind (k + 1) (read ++ t ∷ []))
      → FileStep L now new step meaning (Err stop) → FileStep L start new order other result
  read_ends result stop is e s = as_ended result stop is (ended_so (r.rest new (Err stop)
      (subst (λ o. FileStep {T = List T} {X = List T} L now new o (λ x. x) (Err stop)) (sym e)
      (file_ended s (λ t. behind (k + 1) (read ++ t ∷ []))))))

  -- a file was taken, and then memory ran out
  pub read_wants : {Y : Type 0} {other : Y → List T} {x : X} (result : Result Y Stop)
      → FileStep L now new step meaning (Ok x) → IsErrAnd result IsOutOfMemory
      → FileStep L start new order other result
  read_wants result s is = ran_out result is (after r.later s.later) (s.same ∙ r.same)

-- all are read
module _ {D T : Type 0} {L : Library D} {start now : D} {order : Order (List T)}
    {behind : ℕ → List T → Order (List T)} {k : ℕ} {read : List T} where
  pub read_all : AreReadTo L start order behind k now read → behind k read ≡ Done read
      → FileStep L start now order (λ x. x) (Ok read)
  read_all r e = r.rest now (Ok read) (record {
    comes_out = out (L.contents now);
    ends = tt;
    same = refl;
    later = same_state;
  })
    where
      out : (files : Option Files) → ComesOutTold files (behind k read) read
      out None = λ none. e
      out (Some files) = subst (λ o. ComesOut files o read) (sym e) refl
