-- A file of facts that is read piece by piece.
use Rattle.std.proofs.Common.{◌≡◌, ◌<◌, ◌≤◌, ◌⊎◌, ◌++◌, ◌∙◌, ℕ, List, Option, None, Some, Result, [], length, false, true, inl, inr, refl, sym, ap, arith, subst, append_assoc, length-append}
use Rattle.std.{proofs.lemmas.List.append-nil, specs.Io.KnownBytes.Consumes}
use Rattle.std.specs.{Prelude.{IfErr, IfSome, Ok, Err, codes}, Result.IsErrAnd}
use Rattle.olap_base.specs.{Graph.Graph, Instance.Instance, Limits.most_facts, Views.View, declared.ids.Memory.Memory}
use Rattle.olap_base.specs.declared.refusals.Fault.{Fault}
use Rattle.olap_ast.specs.Schema.{Schema}
use Rattle.olap_records.{proofs.MarkLemmas.strip-more, specs.Pieces.RecordsAtEnd, specs.Records.records_of}
use Rattle.olap_records.specs.{Standing.{records_fed, unmarked}, Tables.named}
use Rattle.olap_facts.{proofs.MeaningLemmas.{facts-named, meant-facts}, specs.FactMeaning.facts_meant}
use Rattle.olap_facts.specs.{FactText.facts_read_within, Kinds.name_of_kind, declared.kinds.FactKind.FactKind}
use Rattle.olap_outside.specs.{Files.{Files, IsContent, Opens}, Pieces.EndsTold}
use Rattle.olap_outside.specs.declared.outside.Library.{Ghosts as Library}
use Rattle.olap_order.specs.{Judged.IsLater, Refusals.{IsRefusal, part_text}, Steps.meaning_or_fault, Taken.FileStep}
use Rattle.olap_order.specs.declared.replies.Stop.{Stop}
use Rattle.olap_view.specs.RollingUp.{AreRolledUp, HasTaken, Rolling}
use Rattle.olap_reading.{proofs.ReadingLemmas.{content_read, fault_read}, specs.OfFacts.AreOfFacts}
use Rattle.olap_reading.specs.{Rest.{IsOfRest, IsOutOfMemory, IsWhyUnrolled}, Steps.facts_file}
use Rattle.olap_reading.specs.declared.rolling.Unrolled.{Unrolled}
use Rattle.olap_base.specs.declared.refusals.Refusal.TheVariants as refusal
use Rattle.olap_reading.specs.declared.rolling.Unrolled.TheVariants as unrolled

-- ---- pieces

-- these bytes were taken off the front of what was left, the last this many at once, and the roller has taken them
pub record IsSoFar (old new : Option (List ℕ)) (count : ℕ) (g : Graph) (i : Instance) (categories : List ℕ)
    (r : Rolling) : Type 0 where
  pub text : List ℕ
  pub parts : Consumes old new text
  pub long : count ≡ 65536 → 3 ≤ length text
  pub taken : HasTaken g i categories (unmarked text) r

-- a piece more
pub parts-more : (o m n : Option (List ℕ)) (xs ys : List ℕ) → Consumes o m xs → Consumes m n ys
    → Consumes o n (xs ++ ys)
parts-more None m n xs ys h t = tt
parts-more (Some a) None n xs ys h t = absurd h
parts-more (Some a) (Some b) None xs ys h t = absurd t
parts-more (Some a) (Some b) (Some c) xs ys h t = h ∙ ap (λ zs. xs ++ zs) t ∙ sym (append_assoc xs ys c)

-- if some bytes were taken and the rest is at its end, the file is at its end
pub ends-told : (o m n : Option (List ℕ)) (xs : List ℕ) → Consumes o m xs → EndsTold m n → EndsTold o n
ends-told None m n xs h e = tt
ends-told (Some a) None n xs h e = absurd h
ends-told (Some a) (Some b) n xs h e = e

-- what follows three bytes is handed on as it is
pub mark-joined : (text piece : List ℕ) → 3 ≤ length text → unmarked text ++ piece ≡ unmarked (text ++ piece)
mark-joined text piece l = sym (strip-more text piece l)

-- a text of three bytes or more stays one with more bytes
pub longer : (text piece : List ℕ) → 3 ≤ length text → 3 ≤ length (text ++ piece)
longer text piece l = let a = length-append text piece in omega arith

-- a number is below 65,536, or not
split : (n : ℕ) → (n < 65536) ⊎ (65536 ≤ n)
split n = grind arith

-- a piece is long, or the file is at its end
pub long-or-end : (m n : Option (List ℕ)) (piece : List ℕ) (k : ℕ) → length piece ≡ k → (k < 65536 → EndsTold m n)
    → (3 ≤ length piece) ⊎ EndsTold m n
long-or-end m n piece k size e = elim (split k) [
  | inl l ↦ inr (e l)
  | inr l ↦ inl (omega arith)
]

-- a piece that isn't whole
pub below : (n : ℕ) → n ≤ 65536 → (n ≡ 65536 → ⊥) → n < 65536
below n most other = elim (split n) [
  | inl l ↦ l
  | inr l ↦ absurd (other (omega arith))
]

-- ---- what the whole file comes to

-- out of memory tells nothing of the file
memory-at : (g : Graph) (i : Instance) (rest : Option (List ℕ)) (m : Memory)
    → IsWhyUnrolled g i rest (unrolled.Refused (refusal.Memory m))
memory-at g i None m = record { text = []; told = tt; so = tt }
memory-at g i (Some whole) m = record { text = whole; told = refl; so = tt }

-- a refusal that is out of memory says why no facts were rolled up
pub no-memory : {X : Type 0} (g : Graph) (i : Instance) (rest : Option (List ℕ)) (result : Result X Unrolled)
    → IsErrAnd result IsOutOfMemory → IfErr result (IsWhyUnrolled g i rest)
no-memory g i rest (Ok x) is = absurd is
no-memory g i rest (Err unrolled.Failed) is = absurd is
no-memory g i rest (Err (unrolled.Refused (refusal.Kind f))) is = absurd is
no-memory g i rest (Err (unrolled.Refused (refusal.Memory m))) is = memory-at g i rest m

module _ (law : RecordsAtEnd) (P : List (List (List ℕ)) → Type 0) where
  -- a refusal is that of the whole, whether it was read or not
  pub told-fault : (o n : Option (List ℕ)) (text : List ℕ) → Consumes o n text → (3 ≤ length text) ⊎ EndsTold o n
      → ((more : List ℕ) → P (records_fed (unmarked text ++ more))) → IsOfRest o (λ whole. P (records_of whole))
  told-fault None n text h e says = record {
    text = text;
    told = tt;
    so = subst P (ap records_fed (append-nil (unmarked text)) ∙ law text) (says []);
  }
  told-fault (Some a) None text h e says = absurd h
  told-fault (Some a) (Some more) text h e says = record {
    text = a;
    told = refl;
    so = subst P (ap records_fed (cut e) ∙ law (text ++ more) ∙ ap records_of (sym h)) (says more);
  }
    where
      cut : (3 ≤ length text) ⊎ (more ≡ []) → unmarked text ++ more ≡ unmarked (text ++ more)
      cut (inl l) = sym (strip-more text more l)
      cut (inr e) = rw e (append-nil (unmarked text) ∙ ap unmarked (sym (append-nil text)))

  -- at the end of the file
  pub told-end : (o n : Option (List ℕ)) (text : List ℕ) → Consumes o n text → EndsTold o n
      → P (records_fed (unmarked text)) → IsOfRest o (λ whole. P (records_of whole))
  told-end None n text h e says = record { text = text; told = tt; so = subst P (law text) says }
  told-end (Some a) None text h e says = absurd h
  told-end (Some a) (Some more) text h e says =
      let whole : a ≡ text = h ∙ ap (λ zs. text ++ zs) e ∙ append-nil text in
      record { text = text; told = whole; so = subst P (law text) says }

-- the content of a file that was opened
pub content : (told : Option Files) (file : List ℕ) (rest : Option (List ℕ)) (text : List ℕ) → Opens told file rest
    → IfSome rest (λ whole. whole ≡ text) → IsContent told file text
content None file rest text o t = tt
content (Some files) file None text o t = absurd (let q : false ≡ true = o.0 in cc)
content (Some files) file (Some whole) text o t = o.1 ∙ ap Some t

module _ {D : Type 0} {L : Library D} {old new : D} (s : Schema) (i : Instance) (file : List ℕ)
    (rest : Option (List ℕ)) (opens : Opens (L.contents old) file rest) (same : L.contents new ≡ L.contents old)
    (later : IsLater L old new) where
  -- the first fault of the facts in the file
  pub fault-out : (fault : Fault FactKind)
      → IsOfRest rest (λ text. facts_read_within most_facts s.graph i (records_of text) ≡ Err fault) → (stop : Stop)
      → IsRefusal (part_text (codes "facts") (codes "record") fault.at (name_of_kind fault.kind)) stop
      → FileStep L old new (facts_file s i (codes "facts") file) (λ facts. facts) (Err stop)
  fault-out fault h stop is =
      fault_read file (λ t. meaning_or_fault (codes "facts") (codes "record")
      (facts_meant most_facts s.graph i (records_of t))) h.text
      (part_text (codes "facts") (codes "record") fault.at (name_of_kind fault.kind))
      (ap (meaning_or_fault (codes "facts") (codes "record"))
      (facts-named most_facts s.graph i (records_of h.text) ∙ ap (named name_of_kind) h.so))
      (content (L.contents old) file rest h.text opens h.told) later same stop is

  -- the facts in the file, and views of them
  pub facts-out : (categories : List ℕ) (views : List (View ℕ ℕ))
      → IsOfRest rest (λ text. AreRolledUp s.graph i (records_of text) categories views)
      → AreOfFacts L old new s i categories file views
  facts-out categories views h = record {
    facts = h.so.facts;
    direct = h.so.direct;
    step = content_read file (λ t. meaning_or_fault (codes "facts") (codes "record")
        (facts_meant most_facts s.graph i (records_of t))) h.text h.so.facts
        (ap (meaning_or_fault (codes "facts") (codes "record"))
        (meant-facts most_facts s.graph i (records_of h.text) h.so.facts h.so.read))
        (content (L.contents old) file rest h.text opens h.told) later same;
  }
