-- A file whose text has a fault is refused, and so is the run.
use Rattle.std.proofs.Common.{◌≡◌, ◌≤◌, ◌++◌, ◌∙◌, ℕ, List, Option, None, Some, MatchOption, Result, Err, Ok, false, length, codes, refl, subst, sym, arith, nat_lt}
use Rattle.std.{proofs.lemmas.Bool.Decides.nat_tests, specs.Prelude.if◌then◌else◌}
use Rattle.olap_outside.specs.{Files.{Files, IsContent}, declared.outside.Library.{Ghosts as Library}}
use Rattle.olap_order.specs.Judged.{Gives, GivesTold, IsLater, Judged, Replies}
use Rattle.olap_order.specs.{Order.{Order, Done, Read, and_then, refused}, Outputs.refusal, Refusals.IsRefusal}
use Rattle.olap_order.specs.{Steps.text_file, Taken.{ComesOut, ComesOutTold, FileStep, NoAnswer, PlainStep}}
use Rattle.olap_order.specs.declared.replies.Stop.{Stop}
use Rattle.olap_order.specs.declared.replies.Stop.TheVariants as stops
use Rattle.olap_order.specs.declared.status.Status.TheVariants as statuses

module _ {T : Type 0} (file : List ℕ) (next : List ℕ → Order T) (text why : List ℕ) where
  -- over files that have the text
  over : next text ≡ refused why → (told : Option Files) → IsContent told file text
      → (bytes : List ℕ) → bytes ≡ refusal why
      → GivesTold NoAnswer told (Read file next) statuses.Refused bytes
  over e None content bytes is = λ none. absurd none
  over e (Some files) content bytes is =
      subst (λ o. MatchOption o ⊥ (λ t. Gives NoAnswer files (next t) statuses.Refused bytes))
      (sym content) (subst (λ o. Gives NoAnswer files o statuses.Refused bytes) (sym e) (refl, is))

  -- the run ends as the order does
  ends : {D : Type 0} {L : Library D} {old new : D} → next text ≡ refused why
      → IsContent (L.contents old) file text → IsLater L old new → (stop : Stop) → IsRefusal why stop
      → Judged NoAnswer L old new (Read file next) (Err stop)
  ends {L = L} {old = old} e content later (stops.Refused bytes) is = record {
    right = over e (L.contents old) content bytes.items is;
    verdict = tt;
    read = λ h. absurd (cc);
    later = later;
  }
  ends e content later stops.Read is = absurd is
  ends e content later (stops.Memory m) is = record {
    right = tt;
    verdict = tt;
    read = λ h. absurd (cc);
    later = later;
  }

  -- where a text comes to a refusal, the file does
  pub fault_read : {D X : Type 0} {L : Library D} {old new : D} {meaning : X → T} → next text ≡ refused why
      → IsContent (L.contents old) file text
      → IsLater L old new → L.contents new ≡ L.contents old → (stop : Stop) → IsRefusal why stop
      → FileStep L old new (Read file next) meaning (Err stop)
  fault_read e content later same stop is = record {
    comes_out = tt;
    ends = ends e content later stop is;
    same = same;
    later = later;
  }

-- where a text comes to a value, the file does
pub content_read : {T : Type 0} (file : List ℕ) (next : List ℕ → Order T) (text : List ℕ) (x : T) → {D : Type 0}
    {L : Library D} {old new : D} → next text ≡ Done x → IsContent (L.contents old) file text → IsLater L old new
    → L.contents new ≡ L.contents old → FileStep L old new (Read file next) (λ x. x) (Ok x)
content_read {T} file next text x {L = L} {old = old} e content later same = record {
  comes_out = out (L.contents old) content;
  ends = tt;
  same = same;
  later = later;
}
  where
    out : (told : Option Files) → IsContent told file text → ComesOutTold told (Read file next) x
    out None content = λ none. absurd none
    out (Some files) content = subst (λ o. MatchOption o ⊥ (λ t. ComesOut files (next t) x)) (sym content)
        (subst (λ o. ComesOut files o x) (sym e) refl)

-- the same of a file that has no more bytes than a limit
pub fault_told : {T : Type 0} (label file : List ℕ) (most : ℕ) (next : List ℕ → Order T) (text why : List ℕ)
    → {D X : Type 0} {L : Library D} {old new : D} {meaning : X → T} → next text ≡ refused why
    → length text ≤ most → IsContent (L.contents old) file text
    → IsLater L old new → L.contents new ≡ L.contents old → (stop : Stop) → IsRefusal why stop
    → FileStep L old new (and_then (text_file label most file) next) meaning (Err stop)
fault_told label file most next text why e few =
    let short : nat_lt most (length text) ≡ false = grind (arith, nat_tests, few) in
    fault_read file (λ t. and_then
    (if nat_lt most (length t) then refused (label ++ codes " TooLong") else Done t) next)
    text why (rw short e)

-- ---- a step that reads nothing

module _ {T : Type 0} (file : List ℕ) (next : List ℕ → Order T) (text : List ℕ) (step : Order T) where
  -- the value in which it ends
  value_read : (told : Option Files) (x : T) → next text ≡ step → step ≡ Done x → IsContent told file text
      → ComesOutTold told (Read file next) x
  value_read None x e out content = λ none. absurd none
  value_read (Some files) x e out content = subst (λ o. MatchOption o ⊥ (λ t. ComesOut files (next t) x)) (sym content)
      (subst (λ o. ComesOut files o x) (sym (e ∙ out)) refl)

  -- the status and the bytes with which it ends
  reply_read : (told : Option Files) (bytes : List ℕ) → next text ≡ step
      → ((files : Files) → Gives NoAnswer files step statuses.Refused bytes) → IsContent told file text
      → GivesTold NoAnswer told (Read file next) statuses.Refused bytes
  reply_read None bytes e gives content = λ none. absurd none
  reply_read (Some files) bytes e gives content =
      subst (λ o. MatchOption o ⊥ (λ t. Gives NoAnswer files (next t) statuses.Refused bytes))
      (sym content) (subst (λ o. Gives NoAnswer files o statuses.Refused bytes) (sym e) (gives files))

  -- where it ends without a value, so does the run
  end_read : {D : Type 0} {L : Library D} {old new : D} → next text ≡ step → IsContent (L.contents old) file text
      → IsLater L old new → (stop : Stop) → Replies NoAnswer step (Err stop)
      → Judged NoAnswer L old new (Read file next) (Err stop)
  end_read {L = L} {old = old} e content later (stops.Refused bytes) ends = record {
    right = reply_read (L.contents old) bytes.items e ends.right content;
    verdict = ends.verdict;
    read = λ h. absurd (cc);
    later = later;
  }
  end_read e content later stops.Read ends = absurd (ends.unread refl)
  end_read e content later (stops.Memory m) ends = record {
    right = tt;
    verdict = tt;
    read = λ h. absurd (cc);
    later = later;
  }

  -- the file comes to it
  pub step_read : {D X : Type 0} {L : Library D} {old new : D} {meaning : X → T} → next text ≡ step
      → IsContent (L.contents old) file text → IsLater L old new → L.contents new ≡ L.contents old
      → (result : Result X Stop) → PlainStep step meaning result
      → FileStep L old new (Read file next) meaning result
  step_read {L = L} {old = old} {meaning = meaning} e content later same (Ok x) plain = record {
    comes_out = value_read (L.contents old) (meaning x) e plain.comes_out content;
    ends = tt;
    same = same;
    later = later;
  }
  step_read e content later same (Err stop) plain = record {
    comes_out = tt;
    ends = end_read e content later stop plain.ends;
    same = same;
    later = later;
  }

-- the same of a file that has no more bytes than a limit
pub step_told : {T : Type 0} (label file : List ℕ) (most : ℕ) (next : List ℕ → Order T) (text : List ℕ)
    (step : Order T) → {D X : Type 0} {L : Library D} {old new : D} {meaning : X → T} → next text ≡ step
    → length text ≤ most → IsContent (L.contents old) file text
    → IsLater L old new → L.contents new ≡ L.contents old → (result : Result X Stop) → PlainStep step meaning result
    → FileStep L old new (and_then (text_file label most file) next) meaning result
step_told label file most next text step e few =
    let short : nat_lt most (length text) ≡ false = grind (arith, nat_tests, few) in
    step_read file (λ t. and_then
    (if nat_lt most (length t) then refused (label ++ codes " TooLong") else Done t) next)
    text step (rw short e)
