-- Records that were cut, and then looked up one after the other.
use Rattle.std.proofs.Common.{◌≡◌, ◌==◌, ◌<◌, ◌+◌, ◌∷◌, ◌++◌, ◌∙◌, true, ℕ, List, [], None, Some, length, map, take, drop, get_or, refl, sym, ap, subst, append_assoc, take-add, arith}
use Rattle.std.proofs.lemmas.List.{append-nil, get_or-map, length-map, map-append, take_all, take_more, take-append-drop}
use Rattle.std.specs.Prelude.{Err}
use Rattle.csv.specs.Records.{fields_of, partial_of}
use Rattle.olap_base.specs.{Graph.Graph, Instance.Instance, Views.Fact}
use Rattle.olap_numerals.specs.Values.{value_of}
use Rattle.olap_records.specs.{Faults.field, Standing.{Standing, at_start, behind, standing}}
use Rattle.olap_facts.proofs.{CountingLemmas.{counted-fact, fact-fault}, FeedLemmas.stands-on}
use Rattle.olap_facts.specs.{FactText.{fact_fault_within, fact_read, facts_read_within}, Feeding.Counted}
use Rattle.olap_facts.specs.{Pending.{ArePending, HasCut, told_by}, declared.kinds.FactKind.FactKind}
use Rattle.olap_facts.specs.declared.pending.{Pending.Pending, Told.Told}

-- no record yet
pub cut-none-yet : (piece : List ℕ) (s : Standing) (p : Pending) → fields_of p.ids ≡ [] → partial_of p.ids ≡ []
    → p.told.items ≡ [] → HasCut s (take 0 piece) s p
cut-none-yet piece s p ids whole told = record {
  rows = [];
  are = record { ids = ids; told = told };
  whole = whole;
  stands = λ fed done a. ap (standing at_start) (append-nil fed) ∙ a ∙ ap (λ d. behind d s) (sym (append-nil done));
}

module _ (piece : List ℕ) (at n : ℕ) (s t u : Standing) (p : Pending) (h : HasCut s (take at piece) t p) where
  -- one record more
  pub cut-more : (q : Pending) (row : List (List ℕ)) → standing t (take n (drop at piece)) ≡ behind (row ∷ []) u
      → fields_of q.ids ≡ fields_of p.ids ++ (partial_of p.ids ++ field row 0) ∷ [] → partial_of q.ids ≡ []
      → q.told.items ≡ p.told.items ++ told_by row ∷ [] → HasCut s (take (at + n) piece) u q
  cut-more q row one ids whole told = record {
    rows = h.rows ++ row ∷ [];
    are = record {
      ids = ids
          ∙ ap (λ (x : List (List ℕ)). x ++ (partial_of p.ids ++ field row 0) ∷ []) h.are.ids
          ∙ ap (λ (x : List ℕ). map (λ r. field r 0) h.rows ++ (x ++ field row 0) ∷ []) h.whole
          ∙ sym (map-append (λ r. field r 0) h.rows (row ∷ []));
      told = told
          ∙ ap (λ (x : List Told). x ++ told_by row ∷ []) h.are.told
          ∙ sym (map-append told_by h.rows (row ∷ []));
    };
    whole = whole;
    stands = λ fed done a.
        stands-on fed piece at n (done ++ h.rows) (row ∷ []) t u (h.stands fed done a) one
        ∙ ap (λ d. behind d u) (append_assoc done h.rows (row ∷ []));
  }

  -- no record ends in the rest
  pub cut-end : standing t (take n (drop at piece)) ≡ behind [] u → HasCut s (take (at + n) piece) u p
  cut-end none = record {
    rows = h.rows;
    are = h.are;
    whole = h.whole;
    stands = λ fed done a.
        stands-on fed piece at n (done ++ h.rows) [] t u (h.stands fed done a) none
        ∙ ap (λ d. behind d u) (append-nil (done ++ h.rows));
  }

module _ (rows : List (List (List ℕ))) (p : Pending) (h : ArePending rows p) where
  -- as many first fields as values
  pub as-many : length (fields_of p.ids) ≡ length p.told.items
  as-many =
      ap length h.ids ∙ length-map rows (λ r. field r 0) ∙ sym (length-map rows told_by) ∙ sym (ap length h.told)

  -- as many values as records
  as-many-rows : length p.told.items ≡ length rows
  as-many-rows = ap length h.told ∙ length-map rows told_by

  -- the first field of the k-th record
  id-at : (k : ℕ) → k < length p.told.items → get_or (fields_of p.ids) k [] ≡ field (get_or rows k []) 0
  id-at k within = ap (λ (l : List (List ℕ)). get_or l k []) h.ids
      ∙ get_or-map (λ r. field r 0) rows k [] [] (let e = as-many-rows in omega (arith, e, within))

  -- what the k-th record tells of a value
  told-at : (k : ℕ) (d : Told) → k < length p.told.items → get_or p.told.items k d ≡ told_by (get_or rows k [])
  told-at k d within = ap (λ (l : List Told). get_or l k d) h.told
      ∙ get_or-map told_by rows k [] d (let e = as-many-rows in omega (arith, e, within))

-- the record at k
module _ (most : ℕ) (g : Graph) (i : Instance) (handed k : ℕ) (rows done : List (List (List ℕ))) (facts : List (Fact ℕ))
    (h : Counted most g i (handed + k) true (done ++ take k rows) facts) (p : Pending) (are : ArePending rows p)
    (within : k < length p.told.items) {id : List ℕ} (d : Told) {told : Told}
    (id-is : id ≡ get_or (fields_of p.ids) k []) (told-is : told ≡ get_or p.told.items k d) where
  abbrev row : List (List ℕ)
  row = get_or rows k []

  so-far : (done ++ take k rows) ++ row ∷ [] ≡ done ++ take (k + 1) rows
  so-far =
      let inside : k < length rows = let n = as-many-rows rows p are in omega (arith, n, within) in
      append_assoc done (take k rows) (row ∷ []) ∙ ap (λ l. done ++ l) (sym (take_more rows k [] inside))

  -- a judgement of a record with this first field of which this was told
  abbrev Says : (List (List (List ℕ)) → List (List ℕ) → Type 0) → Type 0
  Says Q = (earlier : List (List (List ℕ))) (r : List (List ℕ)) → length earlier ≡ handed + k → id ≡ field r 0
      → told.is_pair ≡ (length r == 2) → told.value ≡ value_of (field r 1) → Q earlier r

  -- is one of the record at k
  judged : (Q : List (List (List ℕ)) → List (List ℕ) → Type 0) → Says Q → (earlier : List (List (List ℕ)))
      → length earlier ≡ handed + k → Q earlier row
  judged Q says earlier n =
      let same = told-is ∙ told-at rows p are k d within in
      says earlier row n (id-is ∙ id-at rows p are k within) (ap (λ (t : Told). t.is_pair) same)
      (ap (λ (t : Told). t.value) same)

  -- what was told of it is a fact
  pub settled-more : (f : Fact ℕ)
      → Says (λ earlier r. (fact_fault_within most g i earlier r ≡ None) × (f ≡ fact_read i r))
      → Counted most g i (handed + (k + 1)) true (done ++ take (k + 1) rows) (facts ++ f ∷ [])
  settled-more f says =
      let going = h.going refl in
      let told = judged (λ earlier r. (fact_fault_within most g i earlier r ≡ None) × (f ≡ fact_read i r)) says
      going.rows going.count in
      let same : handed + k + 1 ≡ handed + (k + 1) = omega arith in
      subst (λ n. Counted most g i n true (done ++ take (k + 1) rows) (facts ++ f ∷ [])) same
      (subst (λ d. Counted most g i (handed + k + 1) true d (facts ++ f ∷ [])) so-far
      (counted-fact most g i (handed + k) (done ++ take k rows) facts row going f told.0 told.1))

  -- what was told of it is a fault
  pub settled-fault : (kind : FactKind) → Says (λ earlier r. fact_fault_within most g i earlier r ≡ Some kind)
      → (left : List (List (List ℕ)))
      → facts_read_within most g i ((done ++ rows) ++ left) ≡ Err (record { at = handed + k + 2; kind = kind })
  settled-fault kind says left =
      let going = h.going refl in
      let whole : ((done ++ take k rows) ++ row ∷ []) ++ (drop (k + 1) rows ++ left) ≡ (done ++ rows) ++ left =
      ap (λ l. l ++ (drop (k + 1) rows ++ left)) so-far
      ∙ sym (append_assoc (done ++ take (k + 1) rows) (drop (k + 1) rows) left)
      ∙ ap (λ l. l ++ left) (append_assoc done (take (k + 1) rows) (drop (k + 1) rows)
      ∙ ap (λ l. done ++ l) (take-append-drop (k + 1) rows)) in
      ap (facts_read_within most g i) (sym whole)
      ∙ fact-fault most g i (handed + k) (done ++ take k rows) facts row going kind
      (judged (λ earlier r. fact_fault_within most g i earlier r ≡ Some kind) says going.rows going.count)
      (drop (k + 1) rows ++ left)

-- no record was looked up yet
pub settled-none : (most : ℕ) (g : Graph) (i : Instance) (handed : ℕ) (rows done : List (List (List ℕ)))
    (facts : List (Fact ℕ)) → Counted most g i handed true done facts
    → Counted most g i (handed + 0) true (done ++ take 0 rows) facts
settled-none most g i handed rows done facts h =
    let same : handed ≡ handed + 0 = omega arith in
    subst (λ d. Counted most g i (handed + 0) true d facts) (sym (append-nil done))
    (subst (λ n. Counted most g i n true done facts) same h)

-- all were
pub settled-all : (most : ℕ) (g : Graph) (i : Instance) (handed k : ℕ) (rows done : List (List (List ℕ)))
    (facts : List (Fact ℕ)) (p : Pending) → ArePending rows p → k ≡ length p.told.items
    → Counted most g i (handed + k) true (done ++ take k rows) facts
    → Counted most g i (handed + length p.told.items) true (done ++ rows) facts
settled-all most g i handed k rows done facts p are e h =
    let n = as-many-rows rows p are in
    subst (λ d. Counted most g i (handed + length p.told.items) true d facts)
    (ap (λ l. done ++ l) (take_all k rows (omega (arith, e, n))))
    (subst (λ m. Counted most g i (handed + m) true (done ++ take k rows) facts) e h)

-- a lot more of a piece, after what was fed before it
pub cut-taken : (fed piece : List ℕ) (at n : ℕ) (done : List (List (List ℕ))) (s u : Standing) (p : Pending)
    → standing at_start (fed ++ take at piece) ≡ behind done s → (h : HasCut s (take n (drop at piece)) u p)
    → standing at_start (fed ++ take (at + n) piece) ≡ behind (done ++ h.rows) u
cut-taken fed piece at n done s u p a h =
    ap (λ xs. standing at_start (fed ++ xs)) (take-add at n piece)
    ∙ ap (standing at_start) (sym (append_assoc fed (take at piece) (take n (drop at piece))))
    ∙ h.stands (fed ++ take at piece) done a
