-- One record more, a fault, and the end.
--     counted-header, counted-fact, header-fault, fact-fault, all-counted, no-header
use Rattle.std.proofs.Common.{◌≡◌, ◌∷◌, ◌++◌, ◌+◌, ◌∙◌, ◌↔◌, ℕ, Bool, true, false, List, [], Option, None, Some, IsTrue, length, map, refl, sym, ap, append_assoc, length-append}
use Rattle.std.{proofs.lemmas.List.{append-nil, map-append}, specs.Prelude.{Ok, Err}}
use Rattle.olap_base.specs.{Graph.Graph, Instance.Instance, Views.Fact}
use Rattle.olap_records.specs.{Faults.{first_fault, or_after}, Tables.{begins_with, or_read}}
use Rattle.olap_facts.proofs.HeaderLemmas.{header-found}
use Rattle.olap_facts.specs.FactText.{fact_fault_within, fact_read, facts_read_within, header}
use Rattle.olap_facts.specs.{Feeding.{Counted, IsFresh, IsGoing}, declared.kinds.FactKind.FactKind}
use Rattle.olap_facts.specs.declared.kinds.FactKind.TheVariants as kind

module _ (most : ℕ) (g : Graph) (i : Instance) (handed : ℕ) (done : List (List (List ℕ))) (facts : List (Fact ℕ))
    (row : List (List ℕ)) where
  abbrev fault : List (List (List ℕ)) → List (List ℕ) → Option FactKind
  fault = fact_fault_within most g i

  -- the header is found
  pub counted-header : IsFresh handed done facts → (b : Bool) → IsTrue b ↔ (row ≡ header) → b ≡ true
      → Counted most g i handed true (done ++ row ∷ []) facts
  counted-header h b d e = record {
    fresh = λ f. cc f;
    going = λ _. record {
      top = row;
      rows = [];
      parts = rw h.none refl;
      header = sym (header-found (row ∷ []) row [] refl b d) ∙ e;
      count = sym h.count;
      facts_are = h.no_facts;
      faults = λ left. refl;
    };
  }

  -- the first record isn't the header
  pub header-fault : IsFresh handed done facts → (b : Bool) → IsTrue b ↔ (row ≡ header) → b ≡ false
      → (left : List (List (List ℕ)))
      → facts_read_within most g i ((done ++ row ∷ []) ++ left) ≡ Err (record { at = 1; kind = kind.BadHeader })
  header-fault h b d e left =
      let no : begins_with header (row ∷ left) ≡ false = sym (header-found (row ∷ left) row left refl b d) ∙ e in
      rw h.none (rw no refl)

  module _ (h : IsGoing most g i handed done facts) where
    parts-more : (left : List (List (List ℕ))) → (done ++ row ∷ []) ++ left ≡ h.top ∷ (h.rows ++ row ∷ left)
    parts-more left =
        append_assoc done (row ∷ []) left ∙ ap (λ d. d ++ row ∷ left) h.parts

    -- the first fault of a record more and of what comes after it
    one-on : (left : List (List (List ℕ))) → first_fault fault [] (h.rows ++ row ∷ left)
        ≡ or_after (length h.rows) (fault h.rows row) (first_fault fault (h.rows ++ row ∷ []) left)
    one-on left = h.faults (row ∷ left)

    -- one fact more
    pub counted-fact : (f : Fact ℕ) → fault h.rows row ≡ None → f ≡ fact_read i row
        → Counted most g i (handed + 1) true (done ++ row ∷ []) (facts ++ f ∷ [])
    counted-fact f none e = record {
      fresh = λ f. cc f;
      going = λ _. record {
        top = h.top;
        rows = h.rows ++ row ∷ [];
        parts = ap (λ d. d ++ row ∷ []) h.parts;
        header = h.header;
        count = length-append h.rows (row ∷ []) ∙ ap (λ n. n + 1) h.count;
        facts_are = ap (λ fs. fs ++ f ∷ []) h.facts_are ∙ ap (λ (x : Fact ℕ). map (fact_read i) h.rows ++ x ∷ []) e
            ∙ sym (map-append (fact_read i) h.rows (row ∷ []));
        faults = λ left.
            ap (first_fault fault []) (append_assoc h.rows (row ∷ []) left)
            ∙ one-on left
            ∙ ap (λ o. or_after (length h.rows) o (first_fault fault (h.rows ++ row ∷ []) left)) none;
      };
    }

    -- a record has a fault
    pub fact-fault : (k : FactKind) → fault h.rows row ≡ Some k → (left : List (List (List ℕ)))
        → facts_read_within most g i ((done ++ row ∷ []) ++ left) ≡ Err (record { at = handed + 2; kind = k })
    fact-fault k some left =
        let first : first_fault fault [] (h.rows ++ row ∷ left) ≡ Some (length h.rows, k) =
        one-on left ∙ ap (λ o. or_after (length h.rows) o (first_fault fault (h.rows ++ row ∷ []) left)) some in
        ap (facts_read_within most g i) (parts-more left)
        ∙ rw h.header (ap (λ o. or_read o (Ok (map (fact_read i) (h.rows ++ row ∷ left)))) first
        ∙ ap (λ n. Err (record { at = n + 2; kind = k })) h.count)

-- at the end of the text, these are its facts
pub all-counted : (most : ℕ) (g : Graph) (i : Instance) (handed : ℕ) (done : List (List (List ℕ)))
    (facts : List (Fact ℕ))
    → IsGoing most g i handed done facts → facts_read_within most g i done ≡ Ok facts
all-counted most g i handed done facts h =
    let fault = fact_fault_within most g i in
    let none : first_fault fault [] h.rows ≡ None =
    ap (first_fault fault []) (sym (append-nil h.rows)) ∙ h.faults [] in
    ap (facts_read_within most g i) h.parts
    ∙ rw h.header (ap (λ o. or_read o (Ok (map (fact_read i) h.rows))) none ∙ ap Ok (sym h.facts_are))

-- a text without a record has no header
pub no-header : (most : ℕ) (g : Graph) (i : Instance) (handed : ℕ) (done : List (List (List ℕ))) (facts : List (Fact ℕ))
    → IsFresh handed done facts
    → facts_read_within most g i done ≡ Err (record { at = 1; kind = kind.BadHeader })
no-header most g i handed done facts h = ap (facts_read_within most g i) h.none
