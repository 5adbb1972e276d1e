-- One record more of a cube's facts, a fault, and the end.
--     counted-header, counted-fact, header-fault, fact-fault, all-counted, no-header
use Rattle.std.proofs.Common.{◌≡◌, ◌∷◌, ◌++◌, ◌+◌, ◌∙◌, ◌↔◌, ℕ, Bool, true, false, List, [], Option, None, Some, IsTrue, length, map, refl, sym, ap, append_assoc}
use Rattle.std.{proofs.lemmas.List.{append-nil, map-append}, specs.Prelude.{Ok, Err}}
use Rattle.olap_base.specs.{Graph.Graph, Instance.Instance, Limits.most_facts, Views.Fact}
use Rattle.olap_records.specs.{Faults.{first_fault, or_after}, Tables.{begins_with, or_read}}
use Rattle.olap_facts.specs.declared.kinds.FactKind.{FactKind}
use Rattle.olap_cube_views.proofs.CubeReadingLemmas.{header_is}
use Rattle.olap_cube_views.specs.CubeFactText.{cube_fact_fault_within, cube_fact_read, cube_facts_read_within, header}
use Rattle.olap_cube_views.specs.CubeFeeding.{Counted, IsFresh, IsGoing}
use Rattle.olap_facts.specs.declared.kinds.FactKind.TheVariants as kind

module _ (gs : List Graph) (is : List Instance) (done : List (List (List ℕ))) (facts : List (Fact (List ℕ)))
    (row : List (List ℕ)) where
  abbrev fault : List (List (List ℕ)) → List (List ℕ) → Option FactKind
  fault = cube_fact_fault_within most_facts gs is

  -- the header is found
  pub counted-header : IsFresh done facts → (b : Bool) → IsTrue b ↔ (row ≡ header (length is)) → b ≡ true
      → Counted gs is true (done ++ row ∷ []) facts
  counted-header h b d e = record {
    fresh = λ f. cc f;
    going = λ _. record {
      top = row;
      rows = [];
      parts = rw h.none refl;
      header_is = sym (header_is row (header (length is)) b d) ∙ e;
      facts_are = h.no_facts;
      faults = λ left. refl;
    };
  }

  -- the first record isn't the header
  pub header-fault : IsFresh done facts → (b : Bool) → IsTrue b ↔ (row ≡ header (length is)) → b ≡ false
      → (left : List (List (List ℕ))) → cube_facts_read_within most_facts gs is ((done ++ row ∷ []) ++ left)
      ≡ Err (record { at = 1; kind = kind.BadHeader })
  header-fault h b d e left =
      let no : begins_with (header (length is)) (row ∷ left) ≡ false = sym (header_is row (header (length is)) b d)
      ∙ e in
      rw h.none (rw no refl)

  module _ (h : IsGoing gs is done facts) where
    parts-more : (left : List (List (List ℕ))) → (done ++ row ∷ []) ++ left ≡ h.top ∷ (h.rows ++ row ∷ left)
    parts-more left = append_assoc done (row ∷ []) left ∙ ap (λ d. d ++ row ∷ left) h.parts

    -- the first fault of a record more and of what comes after it
    one-on : (left : List (List (List ℕ))) → first_fault fault [] (h.rows ++ row ∷ left)
        ≡ or_after (length h.rows) (fault h.rows row) (first_fault fault (h.rows ++ row ∷ []) left)
    one-on left = h.faults (row ∷ left)

    -- one fact more
    pub counted-fact : (f : Fact (List ℕ)) → fault h.rows row ≡ None → f ≡ cube_fact_read is row
        → Counted gs is true (done ++ row ∷ []) (facts ++ f ∷ [])
    counted-fact f none e = record {
      fresh = λ f. cc f;
      going = λ _. record {
        top = h.top;
        rows = h.rows ++ row ∷ [];
        parts = ap (λ d. d ++ row ∷ []) h.parts;
        header_is = h.header_is;
        facts_are = ap (λ fs. fs ++ f ∷ []) h.facts_are
            ∙ ap (λ (x : Fact (List ℕ)). map (cube_fact_read is) h.rows ++ x ∷ []) e
            ∙ sym (map-append (cube_fact_read is) h.rows (row ∷ []));
        faults = λ left.
            ap (first_fault fault []) (append_assoc h.rows (row ∷ []) left)
            ∙ one-on left
            ∙ ap (λ o. or_after (length h.rows) o (first_fault fault (h.rows ++ row ∷ []) left)) none;
      };
    }

    -- a record has a fault
    pub fact-fault : (n : ℕ) → length h.rows ≡ n → (k : FactKind) → fault h.rows row ≡ Some k
        → (left : List (List (List ℕ))) → cube_facts_read_within most_facts gs is ((done ++ row ∷ []) ++ left)
        ≡ Err (record { at = n + 2; kind = k })
    fact-fault n size k some left =
        let first : first_fault fault [] (h.rows ++ row ∷ left) ≡ Some (length h.rows, k) =
        one-on left ∙ ap (λ o. or_after (length h.rows) o (first_fault fault (h.rows ++ row ∷ []) left)) some in
        ap (cube_facts_read_within most_facts gs is) (parts-more left)
        ∙ rw h.header_is (ap (λ o. or_read o (Ok (map (cube_fact_read is) (h.rows ++ row ∷ left)))) first
        ∙ ap (λ m. Err (record { at = m + 2; kind = k })) size)

module _ (gs : List Graph) (is : List Instance) (done : List (List (List ℕ))) (facts : List (Fact (List ℕ))) where
  -- at the end of the text, these are its facts
  pub all-counted : IsGoing gs is done facts → cube_facts_read_within most_facts gs is done ≡ Ok facts
  all-counted h =
      let fault = cube_fact_fault_within most_facts gs is in
      let none : first_fault fault [] h.rows ≡ None =
      ap (first_fault fault []) (sym (append-nil h.rows)) ∙ h.faults [] in
      ap (cube_facts_read_within most_facts gs is) h.parts
      ∙ rw h.header_is (ap (λ o. or_read o (Ok (map (cube_fact_read is) h.rows))) none ∙ ap Ok (sym h.facts_are))

  -- a text without a record has no header
  pub no-header : IsFresh done facts
      → cube_facts_read_within most_facts gs is done ≡ Err (record { at = 1; kind = kind.BadHeader })
  no-header h = ap (cube_facts_read_within most_facts gs is) h.none
