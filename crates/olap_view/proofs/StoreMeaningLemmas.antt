-- What is read of a text of stored views is what it means.
use Rattle.std.proofs.Common.{◌≡◌, ◌∙◌, ◌∷◌, ◌++◌, ap, sym, subst, ℕ, pos, Bool, true, false, cond, List, [], length, map, Option, Some, None, Result, Ok, refl}
use Rattle.std.{proofs.lemmas.Bool.eqb-true, specs.List.{cons_option, list_any}}
use Rattle.std.specs.Option.{option_and_then, option_map, option_map_or}
use Rattle.std.specs.Prelude.{◌==◌, ◌&&◌, ◌||◌, ⊤, Err, codes, filter, filter_map, find, is_none, nat_le, not, unwrap_or}
use Rattle.olap_base.{proofs.GeneralLemmas.none_past, specs.Following.{given, goes_on}, specs.Graph.Graph}
use Rattle.olap_base.specs.{Instance.{Instance, category_of}, Limits.most_views, Summaries.Summary}
use Rattle.olap_base.specs.Views.{Row, View, members_of, row_at}
use Rattle.olap_graph.specs.Lookups.{category_named}
use Rattle.olap_records.proofs.TableLemmas.{all_read-passed, check-named, given-named, or_value, table_meant-named}
use Rattle.olap_records.specs.{Faults.{field, first_fault, or_after}, Tables.{all_read, at_record, named, or_read}}
use Rattle.olap_instance.specs.Members.{member_named, member_number}
use Rattle.olap_view.specs.Kinds.{name_of_kind}
use Rattle.olap_view.specs.StoreMeaning.{is_row_at, record_meant, row_meant, store_meant, view_meant, views_begun}
use Rattle.olap_view.specs.StoreReading.{Record}
use Rattle.olap_view.specs.StoreText.{beginning_fault, begun, category_number, header, is_beginning, is_row_of, row_fault, row_read, store_fault, store_read, summary_read, view_read, views_read}
use Rattle.olap_view.specs.{Stores.row_in, declared.kinds.StoreKind.StoreKind}
use Rattle.olap_view.specs.declared.kinds.StoreKind.TheVariants as kind

-- ---- records that have passed

-- numbers that stand where there are none
no_numbers : Summary
no_numbers = record { count = 0; sum = pos 0; least = pos 0; greatest = pos 0 }

-- the record names a category; where it is a row, a member, and it spells numbers
record IsRight (g : Graph) (i : Instance) (r : Record) : Type 0 where
  category : category_named g (field r 0) ≡ Some (category_number g r)
  member : is_beginning r ≡ false → member_named i (field r 1) ≡ Some (member_number i (field r 1))
  numbers : is_beginning r ≡ false → summary_read r ≡ Some (unwrap_or (summary_read r) no_numbers)

-- so is each of these
abbrev AreRight : Graph → Instance → List Record → Type 0
AreRight g i [] = ⊤
AreRight g i (r ∷ rows) = IsRight g i r × AreRight g i rows

-- a row with these numbers
abbrev row_of : Summary → ℕ → Option (Row ℕ)
row_of s y = Some (record { at = y; summary = s })

-- what is there
some-of : {A : Type 0} (o : Option A) (other : A) → is_none o ≡ false → o ≡ Some (unwrap_or o other)
some-of None other e = absurd (cc)
some-of (Some x) other e = refl

module _ (g : Graph) (i : Instance) where
  -- a record without a fault is right
  right-of : (before : List Record) (r : Record) → store_fault g i before r ≡ None → IsRight g i r
  right-of before r e =
      let p = none_past (not (length r == 6)) kind.FieldCount _ e in
      let q = none_past (is_none (category_named g (field r 0))) kind.UnknownCategory _ p.1 in
      record {
        category = some-of (category_named g (field r 0)) 0 q.0;
        member = λ n. (row n q.1).0;
        numbers = λ n. (row n q.1).1;
      }
    where
      row : is_beginning r ≡ false
          → cond (is_beginning r) (beginning_fault g before (category_number g r)) (row_fault g i before r) ≡ None
          → (member_named i (field r 1) ≡ Some (member_number i (field r 1)))
          × (summary_read r ≡ Some (unwrap_or (summary_read r) no_numbers))
      row n e =
          let a : row_fault g i before r ≡ None = subst (λ b.
          cond b (beginning_fault g before (category_number g r)) (row_fault g i before r) ≡ None) n e in
          let b = none_past (not (list_any (λ d. d == category_number g r) (begun g before))) kind.NoView _ a in
          let c = none_past (is_none (member_named i (field r 1))) kind.UnknownMember _ b.1 in
          let d = none_past (not (category_of i (member_number i (field r 1)) == category_number g r))
          kind.WrongCategory _ c.1 in
          let s = none_past (is_none (summary_read r)) kind.BadNumber _ d.1 in
          (some-of (member_named i (field r 1)) 0 c.0, some-of (summary_read r) no_numbers s.0)

  -- one more
  right-more : (before : List Record) (r : Record) → AreRight g i before → IsRight g i r
      → AreRight g i (before ++ r ∷ [])
  right-more [] r h is = (is, tt)
  right-more (b ∷ before) r h is = (h.0, right-more before r h.1 is)

  -- records without a fault are right
  all-right : (rows before : List Record) → first_fault (store_fault g i) before rows ≡ None → AreRight g i rows
  all-right [] before e = tt
  all-right (r ∷ rows) before e = go (store_fault g i before r) refl e (all-right rows (before ++ r ∷ []))
    where
      go : (o : Option StoreKind) → store_fault g i before r ≡ o
          → or_after (length before) o (first_fault (store_fault g i) (before ++ r ∷ []) rows) ≡ None
          → (first_fault (store_fault g i) (before ++ r ∷ []) rows ≡ None → AreRight g i rows)
          → AreRight g i (r ∷ rows)
      go None q h again = (right-of before r q, again h)
      go (Some k) q h again = absurd (cc)

  -- ---- what they say

  -- the views that they begin
  same-begun : (rows : List Record) → AreRight g i rows → views_begun g rows ≡ begun g rows
  same-begun [] h = refl
  same-begun (r ∷ rows) h = go (is_beginning r) (same-begun rows h.1)
    where
      go : (b : Bool) → views_begun g rows ≡ begun g rows
          → filter_map (λ x. category_named g (field x 0))
          (cond b (r ∷ filter is_beginning rows) (filter is_beginning rows))
          ≡ map (category_number g) (cond b (r ∷ filter is_beginning rows) (filter is_beginning rows))
      go true e = ap (λ o. cons_option o (views_begun g rows)) h.0.category ∙ ap (λ cs. category_number g r ∷ cs) e
      go false e = e

  -- whether a record is a row of a member
  same-row : (y : ℕ) (r : Record) → IsRight g i r → is_row_at i y r ≡ is_row_of i y r
  same-row y r h = go (is_beginning r) refl
    where
      go : (b : Bool) → is_beginning r ≡ b
          → (not b && option_map_or (λ x. x == y) (member_named i (field r 1)) false)
          ≡ (not b && (member_number i (field r 1) == y))
      go true e = refl
      go false e = ap (λ o. option_map_or (λ x. x == y) o false) (h.member e)

  -- whether one of them is
  same-any : (y : ℕ) (rows : List Record) → AreRight g i rows
      → list_any (is_row_at i y) rows ≡ list_any (is_row_of i y) rows
  same-any y [] h = refl
  same-any y (r ∷ rows) h =
      ap (λ b. b || list_any (is_row_at i y) rows) (same-row y r h.0)
      ∙ ap (λ b. is_row_of i y r || b) (same-any y rows h.1)

  -- ---- a record

  -- a row's record
  abbrev row_said : Record → Row ℕ
  row_said r = record { at = member_number i (field r 1); summary = unwrap_or (summary_read r) no_numbers }

  -- any record
  abbrev said : Record → Option (Row ℕ)
  said r = cond (is_beginning r) None (Some (row_said r))

  module _ (before : List Record) (r : Record) (h : AreRight g i before) where
    -- a check that may fail, and what comes after it
    abbrev check : (b : Bool) (k : StoreKind) (next : Result (Option (Row ℕ)) (List ℕ)) (fault : Option StoreKind)
        (value : Option (Row ℕ)) → next ≡ or_value (option_map name_of_kind fault) value
        → cond b (Err (name_of_kind k)) next ≡ or_value (option_map name_of_kind (cond b (Some k) fault)) value
    check = check-named name_of_kind

    -- a row of y with these numbers, unless there is one, and its fault
    abbrev numbered_if : Summary → ℕ → Bool → Result (Option (Row ℕ)) (List ℕ)
    numbered_if s y b = cond b (Err (codes "DuplicateRow")) (Ok (row_of s y))

    abbrev numbered : ℕ → Summary → Result (Option (Row ℕ)) (List ℕ)
    numbered y s = numbered_if s y (list_any (is_row_at i y) before)

    abbrev numbered_fault : ℕ → Option StoreKind
    numbered_fault y = cond (list_any (is_row_of i y) before) (Some kind.DuplicateRow) None

    numbered-named : (y : ℕ) (s : Summary) → numbered y s
        ≡ or_value (option_map name_of_kind (numbered_fault y)) (row_of s y)
    numbered-named y s =
        ap (numbered_if s y) (same-any y before h)
        ∙ check (list_any (is_row_of i y) before) kind.DuplicateRow (Ok (row_of s y)) None (row_of s y) refl

    -- a row of y in the view of c, and its fault
    abbrev placed : ℕ → ℕ → Result (Option (Row ℕ)) (List ℕ)
    placed c y = cond (not (category_of i y == c)) (Err (codes "WrongCategory"))
        (given (summary_read r) (codes "BadNumber") (numbered y))

    abbrev placed_fault : ℕ → ℕ → Option StoreKind
    placed_fault c y = cond (not (category_of i y == c)) (Some kind.WrongCategory)
        (cond (is_none (summary_read r)) (Some kind.BadNumber) (numbered_fault y))

    placed-named : (c y : ℕ) → placed c y
        ≡ or_value (option_map name_of_kind (placed_fault c y)) (row_of (unwrap_or (summary_read r) no_numbers) y)
    placed-named c y = check (not (category_of i y == c)) kind.WrongCategory _ _ _
        (given-named name_of_kind (summary_read r) no_numbers kind.BadNumber (numbered y) (λ s. numbered_fault y)
        (λ s. row_of s y) (numbered-named y))

    -- a row in the view of c
    abbrev later_fault : ℕ → Option StoreKind
    later_fault c = cond (is_none (member_named i (field r 1))) (Some kind.UnknownMember)
        (placed_fault c (member_number i (field r 1)))

    row-named : (c : ℕ) → row_meant i before r c
        ≡ or_value (option_map name_of_kind (later_fault c)) (Some (row_said r))
    row-named c = given-named name_of_kind (member_named i (field r 1)) 0 kind.UnknownMember (placed c) (placed_fault c)
        (row_of (unwrap_or (summary_read r) no_numbers)) (placed-named c)

    -- a record of the category c, after views of these
    abbrev of_category : List ℕ → ℕ → Result (Option (Row ℕ)) (List ℕ)
    of_category cs c = cond (is_beginning r)
        (cond (list_any (λ d. d == c) cs) (Err (codes "DuplicateView"))
        (cond (nat_le most_views (length cs)) (Err (codes "TooManyViews")) (Ok None)))
        (cond (list_any (λ d. d == c) cs) (row_meant i before r c) (Err (codes "NoView")))

    abbrev of_category_fault : ℕ → Option StoreKind
    of_category_fault c = cond (is_beginning r) (beginning_fault g before c)
        (cond (not (list_any (λ d. d == c) (begun g before))) (Some kind.NoView) (later_fault c))

    -- a record that is no beginning, where its view is begun or not
    begun-named : (c : ℕ) (b : Bool) → cond b (row_meant i before r c) (Err (codes "NoView"))
        ≡ or_value (option_map name_of_kind (cond (not b) (Some kind.NoView) (later_fault c))) (Some (row_said r))
    begun-named c true = row-named c
    begun-named c false = refl

    category-named : (c : ℕ) → of_category (views_begun g before) c
        ≡ or_value (option_map name_of_kind (of_category_fault c)) (said r)
    category-named c = ap (λ cs. of_category cs c) (same-begun before h) ∙ go (is_beginning r)
      where
        go : (b : Bool)
            → cond b (cond (list_any (λ d. d == c) (begun g before)) (Err (codes "DuplicateView"))
            (cond (nat_le most_views (length (begun g before))) (Err (codes "TooManyViews")) (Ok None)))
            (cond (list_any (λ d. d == c) (begun g before)) (row_meant i before r c) (Err (codes "NoView")))
            ≡ or_value (option_map name_of_kind (cond b (beginning_fault g before c)
            (cond (not (list_any (λ d. d == c) (begun g before))) (Some kind.NoView) (later_fault c))))
            (cond b None (Some (row_said r)))
        go true = check (list_any (λ d. d == c) (begun g before)) kind.DuplicateView _ _ _
            (check (nat_le most_views (length (begun g before))) kind.TooManyViews (Ok None) None None refl)
        go false = begun-named c (list_any (λ d. d == c) (begun g before))

    record-named : record_meant g i before r
        ≡ or_value (option_map name_of_kind (store_fault g i before r)) (said r)
    record-named = check (not (length r == 6)) kind.FieldCount _ _ _
        (given-named name_of_kind (category_named g (field r 0)) 0 kind.UnknownCategory
        (of_category (views_begun g before)) of_category_fault (λ c. said r) category-named)

  -- ---- all of them

  -- the rows of these records
  abbrev rows_said : List Record → List (Row ℕ)
  rows_said rows = filter_map (λ o. o) (map said rows)

  -- the row of a member
  same-at : (y : ℕ) (rows : List Record) → AreRight g i rows → row_in (rows_said rows) y ≡ row_read i rows y
  same-at y [] h = refl
  same-at y (r ∷ rows) h = go (is_beginning r) refl (same-at y rows h.1)
    where
      own : (b : Bool) → (member_number i (field r 1) == y) ≡ b → is_beginning r ≡ false
          → row_in (rows_said rows) y ≡ row_read i rows y
          → cond b (Some (row_said r)) (row_in (rows_said rows) y)
          ≡ row_at y (option_and_then summary_read (cond b (Some r) (find (is_row_of i y) rows)))
      own true q n e =
          ap (row_of (unwrap_or (summary_read r) no_numbers)) (eqb-true (member_number i (field r 1)) y q)
          ∙ sym (ap (row_at y) (h.0.numbers n))
      own false q n e = e

      go : (b : Bool) → is_beginning r ≡ b → row_in (rows_said rows) y ≡ row_read i rows y
          → row_in (cons_option (cond b None (Some (row_said r))) (rows_said rows)) y
          ≡ row_at y (option_and_then summary_read
          (cond (not b && (member_number i (field r 1) == y)) (Some r) (find (is_row_of i y) rows)))
      go true n e = e
      go false n e = own (member_number i (field r 1) == y) refl n e

  module _ (rows : List Record) (h : AreRight g i rows) where
    -- the view of c
    same-view : (c : ℕ) → view_meant i (rows_said rows) c ≡ view_read i rows c
    same-view c = ap (λ rs. record { target = c; rows = rs }) (each (members_of i c))
      where
        each : (ys : List ℕ) → filter_map (row_in (rows_said rows)) ys ≡ filter_map (row_read i rows) ys
        each [] = refl
        each (y ∷ ys) = ap (λ o. cons_option o (filter_map (row_in (rows_said rows)) ys)) (same-at y rows h)
            ∙ ap (cons_option (row_read i rows y)) (each ys)

    -- the views that are begun
    same-views : map (view_meant i (rows_said rows)) (views_begun g rows) ≡ views_read g i rows
    same-views = ap (map (view_meant i (rows_said rows))) (same-begun rows h) ∙ each (begun g rows)
      where
        each : (cs : List ℕ) → map (view_meant i (rows_said rows)) cs ≡ map (view_read i rows) cs
        each [] = refl
        each (c ∷ cs) = ap (λ v. v ∷ map (view_meant i (rows_said rows)) cs) (same-view c)
            ∙ ap (λ vs. view_read i rows c ∷ vs) (each cs)

  -- the views of these records, of which each means this
  abbrev views_of_rows : List Record → List (Option (Row ℕ)) → Result (List (View ℕ ℕ)) (ℕ × List ℕ)
  views_of_rows rows rs = Ok (map (view_meant i (filter_map (λ o. o) rs)) (views_begun g rows))

  -- the records after the header
  body-named : (rows : List Record)
      → at_record (goes_on (all_read (record_meant g i) [] rows) (views_of_rows rows))
      ≡ named name_of_kind (or_read (first_fault (store_fault g i) [] rows) (Ok (views_read g i rows)))
  body-named rows =
      ap (λ r. at_record (goes_on r (views_of_rows rows)))
      (all_read-passed (record_meant g i) name_of_kind (store_fault g i) said (AreRight g i)
      (λ before r h e. right-more before r h (right-of before r e)) record-named [] rows tt)
      ∙ go (first_fault (store_fault g i) [] rows) refl
    where
      go : (o : Option (ℕ × StoreKind)) → first_fault (store_fault g i) [] rows ≡ o
          → at_record (goes_on (or_value (option_map (λ q. (q.0, name_of_kind q.1)) o) (map said rows))
          (views_of_rows rows))
          ≡ named name_of_kind (or_read o (Ok (views_read g i rows)))
      go None e = ap (λ vs. Ok vs) (same-views rows (all-right rows [] e))
      go (Some p) e = refl

  -- a text
  pub store-named : (records : List Record) → store_meant g i records ≡ named name_of_kind (store_read g i records)
  store-named records = table_meant-named header
      (λ rows. goes_on (all_read (record_meant g i) [] rows) (views_of_rows rows)) name_of_kind kind.BadHeader
      (λ rows. or_read (first_fault (store_fault g i) [] rows) (Ok (views_read g i rows))) refl body-named records

  -- the views of a text that has no fault
  pub meant-store : (records : List Record) (views : List (View ℕ ℕ))
      → store_read g i records ≡ Ok views → store_meant g i records ≡ Ok views
  meant-store records views e = store-named records ∙ ap (named name_of_kind) e
