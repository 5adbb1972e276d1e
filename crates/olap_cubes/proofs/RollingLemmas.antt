-- A file of a cube's facts that is read piece by piece.
use Rattle.std.proofs.Common.{◌≡◌, ◌<◌, ◌≤◌, ◌++◌, ◌∙◌, ℕ, List, Option, None, Some, Result, [], inl, length, refl, ap}
use Rattle.std.specs.{Io.KnownBytes.Consumes, Prelude.{IfErr, Ok, Err, codes}, Result.IsErrAnd}
use Rattle.olap_base.specs.{Graph.Graph, Instance.Instance, Limits.most_facts, Refusing.IsRefusedBy, Views.View}
use Rattle.olap_base.specs.declared.{ids.Memory.Memory, refusals.Fault.Fault, refusals.Refusal.Refusal}
use Rattle.olap_ast.specs.Schema.{Schema}
use Rattle.olap_records.specs.{Pieces.RecordsAtEnd, Records.records_of, Standing.{records_fed, unmarked}, Tables.named}
use Rattle.olap_cube.specs.CubeSummarizable.{graphs_of}
use Rattle.olap_cube_views.proofs.CubeMeaningLemmas.{cube-facts-named, meant-cube-facts}
use Rattle.olap_cube_views.{proofs.CubeReadingLemmas.made_length, specs.CubeFactMeaning.cube_facts_meant}
use Rattle.olap_cube_views.specs.{CubeFactText.cube_facts_read_within, CubeFeeding.{CubeRolling, HasTakenFacts}}
use Rattle.olap_cube_views.specs.{CubeRollingUp.IsCubeRolledUp, Dimensions.AreMadeFor}
use Rattle.olap_facts.specs.{Kinds.name_of_kind, declared.kinds.FactKind.FactKind}
use Rattle.olap_outside.specs.{Files.Opens, Pieces.EndsTold, declared.outside.Library.{Ghosts as Library}}
use Rattle.olap_order.specs.{Judged.IsLater, Refusals.{IsRefusal, part_text}, Steps.meaning_or_fault, Taken.FileStep}
use Rattle.olap_order.specs.declared.replies.Stop.{Stop}
use Rattle.olap_reading.proofs.ReadingLemmas.{content_read, fault_read}
use Rattle.olap_reading.proofs.RollingLemmas.{content, long-or-end, longer, mark-joined, parts-more, told-fault}
use Rattle.olap_reading.specs.Rest.{IsOfRest}
use Rattle.olap_cubes.specs.{OfFacts.IsOfFacts, Rest.{IsOutOfMemory, IsWhyUnrolled}, Steps.cube_facts_file}
use Rattle.olap_cubes.specs.declared.rolling.Unrolled.{Unrolled}
use Rattle.olap_base.specs.declared.refusals.Refusal.TheVariants as refusal
use Rattle.olap_cubes.specs.declared.rolling.Unrolled.TheVariants as unrolled

-- these bytes were taken off the front of what was left, the last this many at once, and the roller has taken them
pub record IsSoFar (old new : Option (List ℕ)) (count : ℕ) (gs : List Graph) (is : List Instance) (target : List ℕ)
    (r : CubeRolling) : Type 0 where
  pub text : List ℕ
  pub parts : Consumes old new text
  pub long : count ≡ 65536 → 3 ≤ length text
  pub taken : HasTakenFacts gs is target (unmarked text) r

-- a fault in the first piece is one of the file
pub fault-first : (law : RecordsAtEnd) (old new : Option (List ℕ)) (gs : List Graph) (is : List Instance) (n : ℕ)
    (piece : List ℕ) (e : Refusal (Fault FactKind)) → length piece ≡ n → Consumes old new piece
    → (n < 65536 → EndsTold old new) → ((more : List ℕ)
    → IsRefusedBy e (cube_facts_read_within most_facts gs is (records_fed (unmarked piece ++ more))))
    → IsWhyUnrolled gs is old (unrolled.Refused e)
fault-first law old new gs is n piece e size parts end says =
    told-fault law (λ rs. IsRefusedBy e (cube_facts_read_within most_facts gs is rs)) old new piece parts
    (long-or-end old new piece n size end) says

-- what follows a piece that was whole
module _ {old mid : Option (List ℕ)} {count : ℕ} {gs : List Graph} {is : List Instance} {target : List ℕ}
    {r : CubeRolling} (s : IsSoFar old mid count gs is target r) (whole : count ≡ 65536) (new : Option (List ℕ))
    (piece : List ℕ) (parts : Consumes mid new piece) where
  -- a piece more is taken
  pub so-far-more : (n : ℕ) (q : CubeRolling) → HasTakenFacts gs is target (unmarked s.text ++ piece) q
      → IsSoFar old new n gs is target q
  so-far-more n q taken = record {
    text = s.text ++ piece;
    parts = parts-more old mid new s.text piece s.parts parts;
    long = λ e. longer s.text piece (s.long whole);
    taken = rw (mark-joined s.text piece (s.long whole)) at taken;
  }

  -- a fault in a piece more is one of the file
  pub fault-more : (law : RecordsAtEnd) (e : Refusal (Fault FactKind)) → ((more : List ℕ) → IsRefusedBy e
      (cube_facts_read_within most_facts gs is (records_fed ((unmarked s.text ++ piece) ++ more))))
      → IsWhyUnrolled gs is old (unrolled.Refused e)
  fault-more law e says =
      told-fault law (λ rs. IsRefusedBy e (cube_facts_read_within most_facts gs is rs)) old new (s.text ++ piece)
      (parts-more old mid new s.text piece s.parts parts) (inl (longer s.text piece (s.long whole)))
      (λ more. rw (mark-joined s.text piece (s.long whole)) at (says more))

-- out of memory tells nothing of the file
memory-at : (gs : List Graph) (is : List Instance) (rest : Option (List ℕ)) (m : Memory)
    → IsWhyUnrolled gs is rest (unrolled.Refused (refusal.Memory m))
memory-at gs is None m = record { text = []; told = tt; so = tt }
memory-at gs is (Some whole) m = record { text = whole; told = refl; so = tt }

-- a refusal that is out of memory says why no facts were rolled up
pub no-memory : {X : Type 0} (gs : List Graph) (is : List Instance) (rest : Option (List ℕ))
    (result : Result X Unrolled) → IsErrAnd result IsOutOfMemory → IfErr result (IsWhyUnrolled gs is rest)
no-memory gs is rest (Ok x) e = absurd e
no-memory gs is rest (Err unrolled.Failed) e = absurd e
no-memory gs is rest (Err (unrolled.Refused (refusal.Kind f))) e = absurd e
no-memory gs is rest (Err (unrolled.Refused (refusal.Memory m))) e = memory-at gs is rest m

module _ {D : Type 0} {L : Library D} {old new : D} (schemas : List Schema) (is : List Instance) (file : List ℕ)
    (rest : Option (List ℕ)) (opens : Opens (L.contents old) file rest) (same : L.contents new ≡ L.contents old)
    (later : IsLater L old new) where
  -- the first fault of the facts in the file
  pub fault-out : AreMadeFor (graphs_of schemas) is → (fault : Fault FactKind)
      → IsOfRest rest (λ text. cube_facts_read_within most_facts (graphs_of schemas) is (records_of text) ≡ Err fault)
      → (stop : Stop) → IsRefusal (part_text (codes "facts") (codes "record") fault.at (name_of_kind fault.kind)) stop
      → FileStep L old new (cube_facts_file schemas is file) (λ facts. facts) (Err stop)
  fault-out made fault h stop e =
      fault_read file (λ t. meaning_or_fault (codes "facts") (codes "record")
      (cube_facts_meant most_facts (graphs_of schemas) is (records_of t))) h.text
      (part_text (codes "facts") (codes "record") fault.at (name_of_kind fault.kind))
      (ap (meaning_or_fault (codes "facts") (codes "record"))
      (cube-facts-named most_facts (graphs_of schemas) is (made_length (graphs_of schemas) is made) (records_of h.text)
      ∙ ap (named name_of_kind) h.so))
      (content (L.contents old) file rest h.text opens h.told) later same stop e

  -- the facts in the file, and a view of them
  pub facts-out : AreMadeFor (graphs_of schemas) is → (target : List ℕ) (view : View (List ℕ) (List ℕ))
      → IsOfRest rest (λ text. IsCubeRolledUp (graphs_of schemas) is (records_of text) target view)
      → IsOfFacts L old new schemas is target file view
  facts-out made target view h = record {
    facts = h.so.facts;
    direct = h.so.direct;
    step = content_read file (λ t. meaning_or_fault (codes "facts") (codes "record")
        (cube_facts_meant most_facts (graphs_of schemas) is (records_of t))) h.text h.so.facts
        (ap (meaning_or_fault (codes "facts") (codes "record"))
        (meant-cube-facts most_facts (graphs_of schemas) is (made_length (graphs_of schemas) is made)
        (records_of h.text) h.so.facts h.so.read))
        (content (L.contents old) file rest h.text opens h.told) later same;
  }
