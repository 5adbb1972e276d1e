-- A printed store is read whole: no record has a fault, and each row is found at its member.
use Rattle.std.proofs.Common.{◌≡◌, ◌≢◌, ◌+◌, ◌<◌, ◌≤◌, ◌==◌, ◌&&◌, ◌||◌, ◌++◌, ◌∷◌, ◌∙◌, [], ℕ, zero, suc, Bool, true, false, not, cond, List, drop, length, get_or, map, filter, find, flat_map, decimal, Option, Some, None, Ok, is_none, nat_le, option_map, option_and_then, unwrap_or, if◌then◌else◌, refl, sym, ap, subst, arith, append_assoc}
use Rattle.std.proofs.lemmas.{Bool.or_from, Bool.Decides.{Decides-eqb, nat_tests}, Fmt.decimal_is_IsNumeral_wide}
use Rattle.std.proofs.lemmas.List.{append-nil, get_or-map, length-append, length-map, map-append}
use Rattle.std.proofs.lemmas.List.Elements.{All-map, filter-append}
use Rattle.std.{proofs.lemmas.List.Folds.{find-append, list_any-append, list_any_none, map_fixed}, specs.List.list_any}
use Rattle.std.specs.{Option.option_or, Prelude.{All, AllPairs}}
use Rattle.olap_base.{proofs.GeneralLemmas.{eqb_same, and_without_second}, specs.Graph.{Graph, IsCategory, IsHierarchy}}
use Rattle.olap_base.specs.Instance.{Instance, IsInstance, IsMember, IsMemberOf, category_of, member_at}
use Rattle.olap_base.specs.Limits.{most_views}
use Rattle.olap_base.specs.Views.{Row, View, direct_view, direct_views, members, row_at, total_of_facts}
use Rattle.olap_graph.specs.Lookups.{category_named, name_of_category}
use Rattle.olap_instance.{proofs.CategoryNames.named-category, specs.Members.{member_named, member_number}}
use Rattle.olap_records.specs.{Faults.{field, first_fault, or_after}, Tables.begins_with}
use Rattle.olap_view.proofs.FileOrderLemmas.{ascend-on, each-in-order, later-rows, rows-back, store-of}
use Rattle.olap_view.proofs.{FittingLemmas.direct_stored, GuessLemmas.member-found, JudgingLemmas.last-check}
use Rattle.olap_view.proofs.StoreLawLemmas.{printed-numbers}
use Rattle.olap_view.proofs.StoreReadingLemmas.{any-more, begun-more, begun-same, find-none, or-nothing}
use Rattle.olap_view.proofs.ViewingLemmas.{fails, rows_same}
use Rattle.olap_view.specs.{StoreLaws.{DirectViewsAreReadBack, PrintedStoresAreRead}, StoreReading.{Record, said_of}}
use Rattle.olap_view.specs.StoreText.{beginning, beginning_fault, begun, category_number, header, is_beginning, is_row_of, records_of_one, records_of_store, row_fault, row_read, store_fault, store_read, summary_read, view_read, views_read}
use Rattle.olap_view.specs.{Stores.{Fits, IsInFileOrder, IsStore, IsStored, row_in, summary_in}, ViewText.fields_in}
use Rattle.olap_view.specs.declared.kinds.StoreKind.{StoreKind}
use Rattle.olap_view.specs.declared.kinds.StoreKind.TheVariants as kind

-- ---- over plain variables

-- a record whose category is found, and which passes what comes after
named-passes : (o : Option ℕ) (c : ℕ) (after : ℕ → Option StoreKind) → o ≡ Some c → after c ≡ None
    → (if is_none o then Some kind.UnknownCategory else after (unwrap_or o 0)) ≡ None
named-passes o c after e h = rw e h

-- a row's record of a category that is there, without a fault of a row, passes
row-branch : (o : Option ℕ) (c : ℕ) (b : Bool) (p q : Option StoreKind) → o ≡ Some c → b ≡ false → q ≡ None
    → (if is_none o then Some kind.UnknownCategory else if b then p else q) ≡ None
row-branch o c b p q e f h = rw (e, f) h

-- no fault at the first record and none after it
none-after : (n : ℕ) (o : Option StoreKind) (after : Option (ℕ × StoreKind)) → o ≡ None → after ≡ None
    → or_after n o after ≡ None
none-after n o after e f = rw e f

-- what is read of the record that is found is the summary of the row that is found
found : (p q : Bool) (x : Record) (r : Row ℕ) (o : Option Record) (s : Option (Row ℕ)) → p ≡ q
    → summary_read x ≡ Some r.summary → option_and_then summary_read o ≡ option_map (λ (t : Row ℕ). t.summary) s
    → option_and_then summary_read (cond p (Some x) o) ≡ option_map (λ (t : Row ℕ). t.summary) (cond q (Some r) s)
found p true x r o s e h k = rw e h
found p false x r o s e h k = rw e k

-- whatever comes before true
or-true : (b : Bool) → b || true ≡ true
or-true true = refl
or-true false = refl

-- views of categories that differ
abbrev Apart : List (View ℕ ℕ) → Type 0
Apart [] = Unit {0}
Apart (v ∷ views) = All (λ w. v.target ≢ w.target) views × Apart views

-- views of different categories are apart
apart : (views : List (View ℕ ℕ)) → AllPairs ◌≢◌ (map (λ v. v.target) views) → Apart views
apart [] p = tt
apart (v ∷ views) p = (
  first,
  apart views (λ j k d l w. p (suc j) (suc k) d (omega arith) (omega arith)),
)
  where
    first : All (λ w. v.target ≢ w.target) views
    first k d l e =
        let n = length-map views (λ (w : View ℕ ℕ). w.target) in
        let other = get_or-map (λ (w : View ℕ ℕ). w.target) views k d 0 l in
        p 0 (suc k) 0 (omega arith) (omega arith) (e ∙ sym other)

module _ (g : Graph) (i : Instance) (hierarchy : IsHierarchy g) (sound : IsInstance i) where
  abbrev fault : List Record → Record → Option StoreKind
  fault = store_fault g i

  -- ---- a record

  -- the record of a row in the view of c
  abbrev record_in : ℕ → Row ℕ → Record
  record_in c r = name_of_category g c ∷ fields_in i r

  -- the record that begins the view of c
  abbrev first_of : ℕ → Record
  first_of c = beginning (name_of_category g c)

  -- a category's name is that category's
  named : (c : ℕ) → IsCategory g c → unwrap_or (category_named g (name_of_category g c)) 0 ≡ c
  named c k = ap (λ o. unwrap_or o 0) (named-category g hierarchy c k)

  -- a row's record begins no view
  is-row : (c : ℕ) (r : Row ℕ) → IsStored r → is_beginning (record_in c r) ≡ false
  is-row c r h =
      let few = h.few in
      let filled = (decimal_is_IsNumeral_wide r.summary.count (omega arith)).0.0 in
      let e : (length (decimal r.summary.count) == 0) ≡ false = grind (arith, nat_tests) in
      and_without_second (length (member_at i r.at).id == 0) (length (decimal r.summary.count) == 0) _ e

  -- a row's record is that of its member
  row-of : (c y : ℕ) (r : Row ℕ) → IsStored r → IsMember i r.at
      → is_row_of i y (record_in c r) ≡ (r.at == y)
  row-of c y r h m =
      ap (λ b. not b && (member_number i (field (record_in c r) 1) == y)) (is-row c r h)
      ∙ ap (λ o. unwrap_or o 0 == y) (member-found i sound r.at m)

  -- the first record of a view passes
  beginning-passes : (before : List Record) (c : ℕ) → IsCategory g c
      → list_any (λ d. d == c) (begun g before) ≡ false → length (begun g before) < most_views
      → fault before (first_of c) ≡ None
  beginning-passes before c k new room =
      named-passes (category_named g (name_of_category g c)) c (beginning_fault g before)
      (named-category g hierarchy c k)
      (let n : nat_le most_views (length (begun g before)) ≡ false = grind (arith, nat_tests) in rw (new, n) refl)

  -- a row's record passes, once its view is begun
  row-passes : (before : List Record) (c : ℕ) (r : Row ℕ) → IsCategory g c → IsStored r → IsMemberOf i c r.at
      → list_any (λ d. d == c) (begun g before) ≡ true → list_any (is_row_of i r.at) before ≡ false
      → fault before (record_in c r) ≡ None
  row-passes before c r k h m above new =
      let x = record_in c r in
      let number : member_number i (field x 1) ≡ r.at =
      ap (λ o. unwrap_or o 0) (member-found i sound r.at m.0) in
      let same : (category_of i (member_number i (field x 1)) == category_number g x) ≡ true =
      ap (λ y. category_of i y == category_number g x) number ∙ ap (λ d. category_of i r.at == d) (named c k)
      ∙ (Decides-eqb (category_of i r.at) c).1 m.1 in
      row-branch (category_named g (name_of_category g c)) c (is_beginning x)
      (beginning_fault g before (category_number g x)) (row_fault g i before x) (named-category g hierarchy c k)
      (is-row c r h)
      (last-check (list_any (λ d. d == category_number g x) (begun g before)) (is_none (member_named i (field x 1)))
      (category_of i (member_number i (field x 1)) == category_number g x) (is_none (summary_read x))
      (list_any (is_row_of i (member_number i (field x 1))) before)
      (ap (λ y. list_any (λ d. d == y) (begun g before)) (named c k) ∙ above)
      (ap is_none (member-found i sound r.at m.0)) same (ap is_none (printed-numbers i (name_of_category g c) r h))
      ∙ ap (λ y. if list_any (is_row_of i y) before then Some kind.DuplicateRow else None) number
      ∙ ap (λ b. if b then Some kind.DuplicateRow else None) new)

  -- ---- the records of views

  -- a view of a category of the graph, with rows that may be stored, in file order
  abbrev IsGood : View ℕ ℕ → Type 0
  IsGood v = IsCategory g v.target × Fits v × IsInFileOrder i v

  abbrev records : List (View ℕ ℕ) → List Record
  records views = flat_map (records_of_one g i) views

  -- the views begun by two lists of records
  begun-append : (xs ys : List Record) → begun g (xs ++ ys) ≡ begun g xs ++ begun g ys
  begun-append xs ys =
      ap (map (category_number g)) (filter-append is_beginning xs ys)
      ∙ map-append (category_number g) (filter is_beginning xs) (filter is_beginning ys)

  -- rows begin no view
  begun-rows : (c : ℕ) (rows : List (Row ℕ)) → All IsStored rows → begun g (map (record_in c) rows) ≡ []
  begun-rows c [] h = refl
  begun-rows c (r ∷ rows) h =
      let later = filter is_beginning (map (record_in c) rows) in
      ap (λ b. map (category_number g) (cond b (record_in c r ∷ later) later)) (is-row c r (h 0 r (omega arith)))
      ∙ begun-rows c rows (λ k d l. h (suc k) d (omega arith))

  -- a view's records begin that view
  begun-one : (v : View ℕ ℕ) → IsGood v → begun g (records_of_one g i v) ≡ v.target ∷ []
  begun-one v w =
      ap (λ l. category_number g (first_of v.target) ∷ l) (begun-rows v.target v.rows w.1)
      ∙ ap (λ c. c ∷ []) (named v.target w.0)

  -- the records of several begin them
  begun-all : (views : List (View ℕ ℕ)) → All IsGood views → begun g (records views) ≡ map (λ v. v.target) views
  begun-all [] w = refl
  begun-all (v ∷ views) w =
      begun-append (records_of_one g i v) (records views)
      ∙ ap (λ l. l ++ begun g (records views)) (begun-one v (w 0 v (omega arith)))
      ∙ ap (λ l. v.target ∷ l) (begun-all views (λ k d l. w (suc k) d (omega arith)))

  -- no record of the view is a row of a member of another category
  elsewhere : (v : View ℕ ℕ) → IsGood v → (y : ℕ) → category_of i y ≢ v.target
      → list_any (is_row_of i y) (records_of_one g i v) ≡ false
  elsewhere v w y n =
      list_any_none (is_row_of i y) (map (record_in v.target) v.rows)
      (All-map (λ x. is_row_of i y x ≡ false) (record_in v.target) v.rows (λ k d l.
      let r = get_or v.rows k d in
      let m = w.2.members k d l in
      row-of v.target y r (w.1 k d l) m.0
      ∙ fails r.at r.at y refl (λ e. n (ap (category_of i) (sym e) ∙ m.1))))

  -- ---- no fault

  -- the rows of a view pass
  rows-pass : (c : ℕ) → IsCategory g c → (rows : List (Row ℕ)) (before rest : List Record) → All IsStored rows
      → All (λ r. IsMemberOf i c r.at) rows → AllPairs ◌<◌ (map (λ r. r.at) rows)
      → list_any (λ d. d == c) (begun g before) ≡ true
      → All (λ r. list_any (is_row_of i r.at) before ≡ false) rows
      → first_fault fault (before ++ map (record_in c) rows) rest ≡ None
      → first_fault fault before (map (record_in c) rows ++ rest) ≡ None
  rows-pass c k [] before rest h m o above new e =
      subst (λ b. first_fault fault b rest ≡ None) (append-nil before) e
  rows-pass c k (r ∷ rows) before rest h m o above new e =
      let x = record_in c r in
      let here = h 0 r (omega arith) in
      let own = m 0 r (omega arith) in
      none-after (length before) (fault before x)
      (first_fault fault (before ++ x ∷ []) (map (record_in c) rows ++ rest))
      (row-passes before c r k here own above (new 0 r (omega arith)))
      (rows-pass c k rows (before ++ x ∷ []) rest (λ j d l. h (suc j) d (omega arith))
      (λ j d l. m (suc j) d (omega arith)) (ascend-on r rows o)
      (ap (list_any (λ d. d == c)) (begun-same g before x (is-row c r here)) ∙ above)
      (λ j d l. let y = (get_or rows j d).at in
      let after = later-rows r rows o j d l in
      any-more (is_row_of i y) before x false
      (row-of c y r here own.0 ∙ fails r.at r.at y refl (λ q. omega arith))
      ∙ ap (λ b. b || false) (new (suc j) d (omega arith)))
      (subst (λ b. first_fault fault b rest ≡ None) (sym (append_assoc before (x ∷ []) (map (record_in c) rows))) e))

  -- the views of a store pass
  views-pass : (views : List (View ℕ ℕ)) (before : List Record) → All IsGood views → Apart views
      → length (begun g before) + length views ≤ most_views
      → All (λ v. list_any (λ d. d == v.target) (begun g before) ≡ false) views
      → All (λ v. (y : ℕ) → category_of i y ≡ v.target → list_any (is_row_of i y) before ≡ false) views
      → first_fault fault before (records views) ≡ None
  views-pass [] before w a room new none = refl
  views-pass (v ∷ views) before w a room new none =
      let c = v.target in
      let good = w 0 v (omega arith) in
      let x = first_of c in
      let begins : begun g (before ++ x ∷ []) ≡ begun g before ++ c ∷ [] =
      begun-more g before x refl ∙ ap (λ d. begun g before ++ d ∷ []) (named c good.0) in
      let after : begun g (before ++ records_of_one g i v) ≡ begun g before ++ c ∷ [] =
      begun-append before (records_of_one g i v) ∙ ap (λ l. begun g before ++ l) (begun-one v good) in
      none-after (length before) (fault before x)
      (first_fault fault (before ++ x ∷ []) (map (record_in c) v.rows ++ records views))
      (beginning-passes before c good.0 (new 0 v (omega arith)) (omega arith))
      (rows-pass c good.0 v.rows (before ++ x ∷ []) (records views) good.1 good.2.members good.2.ascend
      (ap (list_any (λ d. d == c)) begins ∙ any-more (λ d. d == c) (begun g before) c true (eqb_same c)
      ∙ or-true (list_any (λ d. d == c) (begun g before)))
      (λ k d l. let y = (get_or v.rows k d).at in
      any-more (is_row_of i y) before x false refl
      ∙ ap (λ b. b || false) (none 0 v (omega arith) y (good.2.members k d l).1))
      (subst (λ b. first_fault fault b (records views) ≡ None)
      (sym (append_assoc before (x ∷ []) (map (record_in c) v.rows)))
      (views-pass views (before ++ records_of_one g i v) (λ k d l. w (suc k) d (omega arith)) a.1
      (let n = ap length after in let m = length-append (begun g before) (c ∷ []) in omega arith)
      (λ k d l. let other = (get_or views k d).target in
      ap (list_any (λ e. e == other)) after
      ∙ any-more (λ e. e == other) (begun g before) c false (fails c c other refl (a.0 k d l))
      ∙ ap (λ b. b || false) (new (suc k) d (omega arith)))
      (λ k d l y e. list_any-append (is_row_of i y) before (records_of_one g i v)
      ∙ or_from (list_any (is_row_of i y) before) (list_any (is_row_of i y) (records_of_one g i v))
      (none (suc k) d (omega arith) y e) (elsewhere v good y (λ q. a.0 k d l (sym q ∙ e)))))))

  -- ---- each row at its member

  abbrev rows_in : List (View ℕ ℕ) → List (Row ℕ)
  rows_in views = flat_map (λ v. v.rows) views

  -- what a view's records say of a member is its row
  said-rows : (y c : ℕ) (rows others : List (Row ℕ)) (behind : List Record) → All IsStored rows
      → All (λ r. IsMemberOf i c r.at) rows → said_of i behind y ≡ summary_in others y
      → said_of i (map (record_in c) rows ++ behind) y ≡ summary_in (rows ++ others) y
  said-rows y c [] others behind h m e = e
  said-rows y c (r ∷ rows) others behind h m e =
      let x = record_in c r in
      let here = h 0 r (omega arith) in
      found (is_row_of i y x) (r.at == y) x r (find (is_row_of i y) (map (record_in c) rows ++ behind))
      (row_in (rows ++ others) y) (row-of c y r here (m 0 r (omega arith)).0)
      (printed-numbers i (name_of_category g c) r here)
      (said-rows y c rows others behind (λ j d l. h (suc j) d (omega arith)) (λ j d l. m (suc j) d (omega arith)) e)

  -- what the records of all views say of it
  said-views : (y : ℕ) (views : List (View ℕ ℕ)) → All IsGood views
      → said_of i (records views) y ≡ summary_in (rows_in views) y
  said-views y [] w = refl
  said-views y (v ∷ views) w =
      let good = w 0 v (omega arith) in
      said-rows y v.target v.rows (rows_in views) (records views) good.1 good.2.members
      (said-views y views (λ k d l. w (suc k) d (omega arith)))

  -- a view has no row at a member of another category
  none-in : (v : View ℕ ℕ) → IsInFileOrder i v → (y : ℕ) → category_of i y ≢ v.target → row_in v.rows y ≡ None
  none-in v o y n =
      find-none (λ r. r.at == y) v.rows
      (list_any_none (λ r. r.at == y) v.rows (λ k d l.
      let m = o.members k d l in
      fails (get_or v.rows k d).at (get_or v.rows k d).at y refl
      (λ e. n (ap (category_of i) (sym e) ∙ m.1))))

  -- where no view is of its category, nothing is said of it
  none-among : (views : List (View ℕ ℕ)) → All IsGood views → (y : ℕ) → All (λ v. category_of i y ≢ v.target) views
      → row_in (rows_in views) y ≡ None
  none-among [] w y n = refl
  none-among (v ∷ views) w y n =
      find-append (λ r. r.at == y) v.rows (rows_in views)
      ∙ ap (λ o. option_or o (row_in (rows_in views) y)) (none-in v (w 0 v (omega arith)).2 y (n 0 v (omega arith)))
      ∙ none-among views (λ k d l. w (suc k) d (omega arith)) y (λ k d l. n (suc k) d (omega arith))

  -- a member's row among all is its row in the view of its category
  own-view : (views : List (View ℕ ℕ)) → All IsGood views → Apart views → (k : ℕ) (d : View ℕ ℕ) → k < length views
      → (y : ℕ)
      → category_of i y ≡ (get_or views k d).target → row_in (rows_in views) y ≡ row_in (get_or views k d).rows y
  own-view [] w a k d l y e = absurd (omega arith)
  own-view (v ∷ views) w a zero d l y e =
      find-append (λ r. r.at == y) v.rows (rows_in views)
      ∙ ap (option_or (row_in v.rows y)) (none-among views (λ k d l. w (suc k) d (omega arith)) y
      (λ k d l q. a.0 k d l (sym e ∙ q)))
      ∙ or-nothing (row_in v.rows y)
  own-view (v ∷ views) w a (suc k) d l y e =
      find-append (λ r. r.at == y) v.rows (rows_in views)
      ∙ ap (λ o. option_or o (row_in (rows_in views) y))
      (none-in v (w 0 v (omega arith)).2 y (λ q. a.0 k d (omega arith) (sym q ∙ e)))
      ∙ own-view views (λ j c m. w (suc j) c (omega arith)) a.1 k d (omega arith) y e

  -- ---- the views

  -- each view is read back
  view-back : (views : List (View ℕ ℕ)) → All IsGood views → Apart views
      → All (λ v. view_read i (records views) v.target ≡ v) views
  view-back views w a k d l =
      let v = get_or views k d in
      let same : (y : ℕ) → IsMemberOf i v.target y → row_read i (records views) y ≡ row_at y (summary_in v.rows y) =
      λ y m. ap (row_at y) (said-views y views w
      ∙ ap (option_map (λ (r : Row ℕ). r.summary)) (own-view views w a k d l y m.1)) in
      ap (λ rows. record { target = v.target; rows = rows })
      (rows_same i v.target (row_read i (records views)) (λ y. row_at y (summary_in v.rows y)) same
      ∙ rows-back i v (w k d l).2)

  -- all views are read back
  views-back : (views : List (View ℕ ℕ)) → All IsGood views → Apart views → views_read g i (records views) ≡ views
  views-back views w a =
      ap (map (view_read i (records views))) (begun-all views w) ∙ each views
      ∙ map_fixed (λ v. view_read i (records views) v.target) views (view-back views w a)
    where
      each : (vs : List (View ℕ ℕ)) → map (view_read i (records views)) (map (λ (v : View ℕ ℕ). v.target) vs)
          ≡ map (λ (v : View ℕ ℕ). view_read i (records views) v.target) vs
      each [] = refl
      each (v ∷ vs) = ap (λ l. view_read i (records views) v.target ∷ l) (each vs)

  -- the store is read back
  store-back : (views : List (View ℕ ℕ)) → IsStore views → All IsGood views
      → store_read g i (records_of_store g i views) ≡ Ok views
  store-back views s w =
      let few = s.few in
      let a = apart views s.categories in
      read (records_of_store g i views) views refl
      (views-pass views [] w a (omega arith) (λ k d l. refl) (λ k d l y e. refl)) (views-back views w a)
    where
      read : (all : List Record) (views : List (View ℕ ℕ)) → begins_with header all ≡ true
          → first_fault fault [] (drop 1 all) ≡ None → views_read g i (drop 1 all) ≡ views
          → store_read g i all ≡ Ok views
      read all views h f e = rw (h, f) (ap (λ (v : List (View ℕ ℕ)). Ok v) e)

-- views that a store may hold
pub printed-stores : PrintedStoresAreRead
printed-stores g i views hierarchy sound store fit known order =
    store-back g i hierarchy sound views store (λ k d l. (known k d l, fit k d l, order k d l))

-- direct views
pub direct-views : DirectViewsAreReadBack
direct-views g i facts cs hierarchy sound short values few differ known =
    printed-stores g i (direct_views (members i) facts cs) hierarchy sound
    (store-of i (total_of_facts (members i) facts) cs few differ)
    (All-map Fits (direct_view (members i) facts) cs (λ k d l. direct_stored i (get_or cs k d) facts short values))
    (All-map (λ v. IsCategory g v.target) (direct_view (members i) facts) cs known)
    (each-in-order i (total_of_facts (members i) facts) cs)
