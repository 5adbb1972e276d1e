-- Steps of an order, one after another.
use Rattle.std.proofs.Common.{◌≡◌, ◌≤◌, ℕ, List, Option, None, Some, Result, Ok, Err, MatchOption, subst, sym, refl, inl, inr, arith, ◌∙◌}
use Rattle.std.specs.{Prelude.IsTrue, Result.IsErrAnd}
use Rattle.olap_outside.specs.{Faults.Rose, Files.Files, declared.outside.Library.{Ghosts as Library}}
use Rattle.olap_order.specs.Judged.{Gives, GivesTold, IsBlamed, IsLater, Judged, Replied, Replies}
use Rattle.olap_order.specs.Order.{Order, Done, Told, Read, ComesTo, ReadsNoFile, and_then}
use Rattle.olap_order.specs.Taken.{ComesOut, ComesOutTold, IsStuckTold, NoAnswer, FileStep, PlainStep}
use Rattle.olap_order.specs.declared.{replies.Reply.Reply, replies.Stop.Stop, status.Status.Status}
use Rattle.olap_order.specs.declared.status.Status.TheVariants as statuses
use Rattle.olap_order.specs.declared.replies.Stop.TheVariants as stops

-- what follows from what is so of a reply is so of it
pub replied : (result : Result Reply Stop) {P R : Status → List ℕ → Type 0}
    → ((status : Status) (bytes : List ℕ) → P status bytes → R status bytes) → Replied result P → Replied result R
replied (Ok reply) f p = f reply.status reply.bytes.items p
replied (Err (stops.Refused bytes)) f p = f statuses.Refused bytes.items p
replied (Err stops.Read) f p = tt
replied (Err (stops.Memory m)) f p = tt

-- the count rose since an earlier state too
rose : (a b c : ℕ) → a ≤ b → Rose b c → Rose a c
rose a b c ab bc = grind (arith, ab, bc)

-- ---- what comes of a step and of the rest comes of both

module _ {T Q : Type 0} (answers : Q → Status → List ℕ → Type 0) (next : T → Order Q) where
  -- both read no file only where the step reads none
  pub step_reads_none : (step : Order T) → ReadsNoFile (and_then step next) → ReadsNoFile step
  step_reads_none (Done x) h = tt
  step_reads_none (Told told text) h = tt
  step_reads_none (Read name rest) h = h

  gives : (files : Files) (step : Order T) (x : T) → ComesOut files step x → (status : Status) (bytes : List ℕ)
      → Gives answers files (next x) status bytes → Gives answers files (and_then step next) status bytes
  gives files (Done y) x e status bytes g = subst (λ z. Gives answers files (next z) status bytes) (sym e) g
  gives files (Told told text) x e status bytes g = absurd e
  gives files (Read name rest) x e status bytes g =
      go (files name) (λ text f. gives files (rest text) x f status bytes g) e
    where
      go : (o : Option (List ℕ)) → ((text : List ℕ) → ComesOut files (rest text) x
          → Gives answers files (and_then (rest text) next) status bytes)
          → MatchOption o ⊥ (λ text. ComesOut files (rest text) x)
          → MatchOption o ⊥ (λ text. Gives answers files (and_then (rest text) next) status bytes)
      go None f e = absurd e
      go (Some text) f e = f text e

  gives_told : (files : Option Files) (step : Order T) (x : T) → ComesOutTold files step x → (status : Status)
      (bytes : List ℕ) → GivesTold answers files (next x) status bytes
      → GivesTold answers files (and_then step next) status bytes
  gives_told None step x out status bytes g = λ none.
      let is : step ≡ Done x = out (step_reads_none step none) in
      let here : ReadsNoFile (next x) = subst (λ (o : Order T). ReadsNoFile (and_then o next)) is none in
      λ files. subst (λ (o : Order T). Gives answers files (and_then o next) status bytes) (sym is) (g here files)
  gives_told (Some files) step x out status bytes g = gives files step x out status bytes g

  -- where the step ends, both do
  gives_end : (files : Files) (step : Order T) (status : Status) (bytes : List ℕ)
      → Gives NoAnswer files step status bytes → Gives answers files (and_then step next) status bytes
  gives_end files (Done y) status bytes g = absurd g
  gives_end files (Told told text) status bytes g = g
  gives_end files (Read name rest) status bytes g =
      go (files name) (λ text. gives_end files (rest text) status bytes) g
    where
      go : (o : Option (List ℕ)) → ((text : List ℕ) → Gives NoAnswer files (rest text) status bytes
          → Gives answers files (and_then (rest text) next) status bytes)
          → MatchOption o ⊥ (λ text. Gives NoAnswer files (rest text) status bytes)
          → MatchOption o ⊥ (λ text. Gives answers files (and_then (rest text) next) status bytes)
      go None f g = absurd g
      go (Some text) f g = f text g

  gives_end_told : (files : Option Files) (step : Order T) (status : Status) (bytes : List ℕ)
      → GivesTold NoAnswer files step status bytes → GivesTold answers files (and_then step next) status bytes
  gives_end_told None step status bytes g = λ none files. gives_end files step status bytes
      (g (step_reads_none step none) files)
  gives_end_told (Some files) step status bytes g = gives_end files step status bytes g

-- ---- which files are come to

module _ {T Q : Type 0} (next : T → Order Q) where
  pub comes_first : (files : Files) (step : Order T) (file : List ℕ) → ComesTo files step file
      → ComesTo files (and_then step next) file
  comes_first files (Done x) file c = absurd c
  comes_first files (Told told text) file c = absurd c
  comes_first files (Read name rest) file (inl e) = inl e
  comes_first files (Read name rest) file (inr c) = inr (go (files name) (λ text. comes_first files (rest text) file) c)
    where
      go : (o : Option (List ℕ)) → ((text : List ℕ) → ComesTo files (rest text) file
          → ComesTo files (and_then (rest text) next) file)
          → MatchOption o ⊥ (λ text. ComesTo files (rest text) file)
          → MatchOption o ⊥ (λ text. ComesTo files (and_then (rest text) next) file)
      go None f c = absurd c
      go (Some text) f c = f text c

  comes_then : (files : Files) (step : Order T) (x : T) → ComesOut files step x → (file : List ℕ)
      → ComesTo files (next x) file → ComesTo files (and_then step next) file
  comes_then files (Done y) x e file c = subst (λ z. ComesTo files (next z) file) (sym e) c
  comes_then files (Told told text) x e file c = absurd e
  comes_then files (Read name rest) x e file c =
      inr (go (files name) (λ text f. comes_then files (rest text) x f file c) e)
    where
      go : (o : Option (List ℕ)) → ((text : List ℕ) → ComesOut files (rest text) x
          → ComesTo files (and_then (rest text) next) file)
          → MatchOption o ⊥ (λ text. ComesOut files (rest text) x)
          → MatchOption o ⊥ (λ text. ComesTo files (and_then (rest text) next) file)
      go None f e = absurd e
      go (Some text) f e = f text e

-- where one order is stuck, another is that comes to all its files
pub stuck_too : {T Q : Type 0} (files : Option Files) (one : Order T) (other : Order Q)
    → ((known : Files) → files ≡ Some known → (file : List ℕ) → ComesTo known one file → ComesTo known other file)
    → IsStuckTold files one → IsStuckTold files other
stuck_too None one other on h = tt
stuck_too (Some files) one other on h = (h.0, on files refl h.0 h.1, h.2)

-- what one order explains, another does that comes to all its files
pub blamed : {T Q : Type 0} (files : Option Files) (one : Order T) (other : Order Q)
    → ((known : Files) → files ≡ Some known → (file : List ℕ) → ComesTo known one file → ComesTo known other file)
    → (asked : Option (Option (List ℕ))) → IsBlamed files one asked → IsBlamed files other asked
blamed None one other on asked b = tt
blamed (Some files) one other on None b = tt
blamed (Some files) one other on (Some None) b = (b.0, on files refl b.0 b.1, b.2)
blamed (Some files) one other on (Some (Some file)) (inl c) = inl (on files refl file c)
blamed (Some files) one other on (Some (Some file)) (inr h) = inr (h.0, on files refl h.0 h.1, h.2)

-- a file that comes after a step comes after it in both together, where contents are told
comes_then_told : {T Q : Type 0} (next : T → Order Q) (told : Option Files) (step : Order T) (x : T)
    → ComesOutTold told step x → (files : Files) → told ≡ Some files → (file : List ℕ) → ComesTo files (next x) file
    → ComesTo files (and_then step next) file
comes_then_told next told step x out files e file c = comes_then next files step x
    (subst (λ o. ComesOutTold o step x) e out) file c

-- ---- over a library

-- later than later is later
pub after : {D : Type 0} {L : Library D} {old mid new : D} → IsLater L old mid → IsLater L mid new → IsLater L old new
after a b = let m = a.faults in let n = b.faults in record { faults = omega (arith, m, n); sure = b.sure ∙ a.sure }

-- a library that wasn't asked
pub same_state : {D : Type 0} {L : Library D} {old : D} → IsLater L old old
same_state = record { faults = omega arith; sure = refl }

module _ {D T Q X : Type 0} {answers : Q → Status → List ℕ → Type 0} {L : Library D} {old mid : D}
    {step : Order T} {meaning : X → T} where
  -- where the code stops at a step, so does the order
  pub ended : {stop : Stop} → FileStep L old mid step meaning (Err stop) → (next : T → Order Q)
      → {result : Result Reply Stop}
      → IsErrAnd result (λ e. e ≡ stop) → Judged answers L old mid (and_then step next) result
  ended {stop} s next {result = Ok x} is = absurd is
  ended {stop} s next {result = Err e} is =
      subst (λ e. Judged answers L old mid (and_then step next) (Err e)) (sym is) there
    where
      there : Judged answers L old mid (and_then step next) (Err stop)
      there = record {
        right = replied (Err stop) (gives_end_told answers next (L.contents old) step) s.ends.right;
        verdict = s.ends.verdict;
        read = λ is. record {
          risen = (s.ends.read is).risen;
          unready = (s.ends.read is).unready;
          place = blamed (L.contents old) step (and_then step next) (λ files e. comes_first next files step)
              (L.asked mid) (s.ends.read is).place;
          stuck = λ sure. stuck_too (L.contents old) step (and_then step next) (λ files e. comes_first next files step)
              ((s.ends.read is).stuck sure);
        };
        later = s.ends.later;
      }

  -- where the code goes on, the rest is judged in place of the order
  pub followed : {x : X} → FileStep L old mid step meaning (Ok x) → (next : T → Order Q) → {new : D}
      → {result : Result Reply Stop}
      → Judged answers L mid new (next (meaning x)) result → Judged answers L old new (and_then step next) result
  followed {x} s next {new} {result} j =
      let same : L.contents mid ≡ L.contents old = s.same in
      record {
        right = replied result (gives_told answers next (L.contents old) step (meaning x) s.comes_out)
            (subst (λ files. Replied result (GivesTold answers files (next (meaning x)))) same j.right);
        verdict = j.verdict;
        read = λ is. record {
          risen = rose (L.faults old) (L.faults mid) (L.faults new) s.later.faults (j.read is).risen;
          unready = (j.read is).unready;
          place = blamed (L.contents old) (next (meaning x)) (and_then step next)
              (comes_then_told next (L.contents old) step (meaning x) s.comes_out) (L.asked new)
              (subst (λ files. IsBlamed files (next (meaning x)) (L.asked new)) same (j.read is).place);
          stuck = λ sure. stuck_too (L.contents old) (next (meaning x)) (and_then step next)
              (comes_then_told next (L.contents old) step (meaning x) s.comes_out)
              (subst (λ files. IsStuckTold files (next (meaning x))) same
              ((j.read is).stuck (subst IsTrue (sym s.later.sure) sure)));
        };
        later = after s.later j.later;
      }

-- a reply that is right whatever the files are is right over this library, which wasn't asked
pub answered : {D Q : Type 0} {answers : Q → Status → List ℕ → Type 0} {L : Library D} {old : D} {order : Order Q}
    (result : Result Reply Stop) → Replies answers order result → Judged answers L old old order result
answered {answers = answers} {L = L} {old = old} {order = order} result r = record {
  right = replied result (told (L.contents old)) r.right;
  verdict = r.verdict;
  read = λ is. absurd (r.unread is);
  later = same_state;
}
  where
    told : (files : Option Files) (status : Status) (bytes : List ℕ)
        → ((files : Files) → Gives answers files order status bytes) → GivesTold answers files order status bytes
    told None status bytes a = λ none. a
    told (Some files) status bytes a = a files

-- what is there comes out
out : {T : Type 0} (files : Option Files) (step : Order T) (x : T) → step ≡ Done x → ComesOutTold files step x
out None step x e = λ none. e
out (Some files) step x e = subst (λ o. ComesOut files o x) (sym e) refl

-- a step that reads nothing is a step over a library that isn't asked
pub unread : {D T X : Type 0} {L : Library D} {old : D} {step : Order T} {meaning : X → T} (result : Result X Stop)
    → PlainStep step meaning result → FileStep L old old step meaning result
unread {L = L} {old = old} {step = step} {meaning = meaning} (Ok x) s = record {
  comes_out = out (L.contents old) step (meaning x) s.comes_out;
  ends = tt;
  same = refl;
  later = same_state;
}
unread (Err stop) s = record {
  comes_out = tt;
  ends = answered (Err stop) s.ends;
  same = refl;
  later = same_state;
}

-- ---- with no library

module _ {T Q : Type 0} {answers : Q → Status → List ℕ → Type 0} where
  -- where a step that reads nothing ends, so do it and the rest
  pub ends_both : {step : Order T} {stop : Stop} → Replies NoAnswer step (Err stop) → (next : T → Order Q)
      → Replies answers (and_then step next) (Err stop)
  ends_both {step} {stop} r next = record {
    right = replied (Err stop) (λ status bytes g files. gives_end answers next files step status bytes (g files))
        r.right;
    verdict = r.verdict;
    unread = r.unread;
  }

  -- where the code stops at a step that reads nothing, so does the order
  pub ended_unread : {X : Type 0} {step : Order T} {meaning : X → T} {stop : Stop} → PlainStep step meaning (Err stop)
      → (next : T → Order Q)
      → (result : Result Reply Stop) → IsErrAnd result (λ e. e ≡ stop) → Replies answers (and_then step next) result
  ended_unread s next (Ok x) is = absurd is
  ended_unread {step = step} s next (Err e) is =
      subst (λ e. Replies answers (and_then step next) (Err e)) (sym is) (ends_both s.ends next)

  -- where it goes on, what answers the rest answers the order
  pub followed_unread : {X : Type 0} {step : Order T} {meaning : X → T} {x : X} → PlainStep step meaning (Ok x)
      → (next : T → Order Q) → {result : Result Reply Stop}
      → Replies answers (next (meaning x)) result → Replies answers (and_then step next) result
  followed_unread s next {result} r =
      subst (λ order. Replies answers (and_then order next) result) (sym s.comes_out) r
