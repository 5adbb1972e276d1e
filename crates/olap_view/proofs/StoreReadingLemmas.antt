-- Rows that tell what the records so far say, record by record.
--     tells-row      one record more, which is a row
use Rattle.std.proofs.Common.{◌≡◌, ◌≢◌, ◌<◌, ◌==◌, ◌&&◌, ◌||◌, ◌∷◌, ◌++◌, ◌∙◌, [], ℕ, zero, suc, Bool, true, false, not, cond, List, length, get_or, find, Option, Some, None, IfSome, is_some, option_and_then, refl, sym, ap, subst, inl, inr, arith, length-append}
use Rattle.std.proofs.lemmas.{Bool.Decides.{eqb_tells, nat_tests}, List.{append-nil, map-append}}
use Rattle.std.proofs.lemmas.List.{Elements.{All-push, filter-append}, Folds.{find-append, list_any-append}}
use Rattle.std.{proofs.lemmas.List.Quantifiers.all_pairs_push, specs.List.list_any, specs.Option.option_or}
use Rattle.std.specs.Prelude.{All, AllPairs}
use Rattle.olap_base.specs.{Graph.{Graph, IsCategory}, Instance.{Instance, IsMember}, Summaries.Summary}
use Rattle.olap_view.specs.{Seen.ids, StoreReading.{IsBeginning, IsRowFor, IsStoredAt, Record, Tells, said_of}}
use Rattle.olap_view.specs.StoreText.{begun, category_number, is_beginning, is_row_of, summary_read}
use Rattle.olap_view.specs.{StoredRows.{HasPut, begun_in, stored_at}, declared.stored_rows.StoredRows.StoredRows}
use Rattle.olap_instance.specs.Members.{member_number}
use Rattle.olap_records.specs.Faults.{field}

-- ---- lists

-- or nothing
pub or-nothing : {A : Type 0} (o : Option A) → option_or o None ≡ o
or-nothing None = refl
or-nothing (Some x) = refl

-- or false
or-false : (b : Bool) → b || false ≡ b
or-false true = refl
or-false false = refl

-- no element passes the test
pub find-none : {A : Type 0} (p : A → Bool) (xs : List A) → list_any p xs ≡ false → find p xs ≡ None
find-none p [] e = refl
find-none {A} p (x ∷ xs) e = grind (arith, find-none p xs)

-- what is found after one more, which passes or doesn't
find-more : {A : Type 0} (p : A → Bool) (xs : List A) (x : A) (b : Bool) → p x ≡ b
    → find p (xs ++ x ∷ []) ≡ option_or (find p xs) (cond b (Some x) None)
find-more p xs x b e = find-append p xs (x ∷ []) ∙ ap (λ t. option_or (find p xs) (cond t (Some x) None)) e

-- whether one of the items passes, with one more
pub any-more : {A : Type 0} (p : A → Bool) (xs : List A) (x : A) (b : Bool) → p x ≡ b
    → list_any p (xs ++ x ∷ []) ≡ (list_any p xs || b)
any-more p xs x b e = list_any-append p xs (x ∷ []) ∙ ap (λ t. list_any p xs || t) (or-false (p x) ∙ e)

-- ---- the views that are begun

-- one view more is begun
pub begun-more : (g : Graph) (rows : List Record) (r : Record) → is_beginning r ≡ true
    → begun g (rows ++ r ∷ []) ≡ begun g rows ++ category_number g r ∷ []
begun-more g rows r e = grind (arith, filter-append, map-append)

-- a row begins none
pub begun-same : (g : Graph) (rows : List Record) (r : Record) → is_beginning r ≡ false
    → begun g (rows ++ r ∷ []) ≡ begun g rows
begun-same g rows r e = grind (arith, filter-append, append-nil)

-- a list in which no element is c
pub none-same : (c : ℕ) (xs : List ℕ) (k d : ℕ) → list_any (λ x. x == c) xs ≡ false → k < length xs → get_or xs k d ≢ c
none-same c [] k d e h q = omega arith
none-same c (x ∷ xs) zero d e h q = grind (arith, nat_tests)
none-same c (x ∷ xs) (suc k) d e h q = none-same c xs k d (go (x == c) e) (omega arith) q
  where
    go : (b : Bool) → b || list_any (λ y. y == c) xs ≡ false → list_any (λ y. y == c) xs ≡ false
    go true f = absurd (cc)
    go false f = f

-- ---- one record more

module _ (g : Graph) (i : Instance) (rows : List Record) (r : Record) (old new : StoredRows)
    (t : Tells g i rows old) where
  -- which begins a view
  pub tells-view : (c : ℕ) → begun_in new ≡ begun_in old ++ c ∷ [] → new.places ≡ old.places
      → new.summaries ≡ old.summaries → IsBeginning g rows r c → Tells g i (rows ++ r ∷ []) new
  tells-view c e places s b =
      let more : begun g (rows ++ r ∷ []) ≡ begun g rows ++ c ∷ [] =
      begun-more g rows r b.begins ∙ ap (λ d. begun g rows ++ d ∷ []) (sym b.named) in
      let same : (y : ℕ) → stored_at new y ≡ stored_at old y = λ y. rw (places, s) refl in
      let no_row : (y : ℕ) → is_row_of i y r
      ≡ false = λ y. ap (λ t. not t && (member_number i (field r 1) == y)) b.begins in
      record {
        categories = e ∙ ap (λ l. l ++ c ∷ []) t.categories ∙ sym more;
        differ = subst (AllPairs ◌≢◌) (sym more)
            (all_pairs_push ◌≢◌ (begun g rows) c t.differ (λ k d l. none-same c (begun g rows) k d b.first l));
        few = let l = ap length more in let h = b.room in omega (arith, length-append (begun g rows) (c ∷ []));
        known = subst (All (IsCategory g)) (sym more) (All-push (IsCategory g) (begun g rows) c t.known b.category);
        members = rw places t.members;
        placed = record {
          few = rw places t.placed.few;
          inside = λ y. rw (places, s) (t.placed.inside y);
          count = rw (places, s) t.placed.count;
        };
        at = λ y m. same y ∙ t.at y m ∙ sym (ap (option_and_then summary_read)
            (find-more (is_row_of i y) rows r false (no_row y) ∙ or-nothing (find (is_row_of i y) rows)));
        there = λ y m. ap is_some (same y) ∙ t.there y m
            ∙ sym (any-more (is_row_of i y) rows r false (no_row y) ∙ or-false (list_any (is_row_of i y) rows));
        stored = λ y m. subst (λ o. IfSome o (IsStoredAt y)) (sym (same y)) (t.stored y m);
        size = let l = ap length more in let z = t.size in
            let q : length new.summaries.items ≡ length old.summaries.items = rw s refl in
            omega (arith, length-append (begun g rows) (c ∷ []), length-append rows (r ∷ []));
      }

  -- which is a row
  module _ (m : ℕ) (s : Summary) (q : HasPut m s old new) (b : IsRowFor i rows r m s) where
    is-own : is_row_of i m r ≡ true
    is-own = let e = b.named in let z : (member_number i (field r 1) == m) ≡ true = grind (arith, nat_tests) in
        ap (λ t. not t && (member_number i (field r 1) == m)) b.row ∙ z

    is-other : (y : ℕ) → y ≢ m → is_row_of i y r ≡ false
    is-other y n = let e = b.named in let z : (member_number i (field r 1) == y) ≡ false = grind (arith, nat_tests) in
        ap (λ t. not t && (member_number i (field r 1) == y)) b.row ∙ z

    -- what is so at y of the table after the record
    abbrev IsTold : ℕ → Type 0
    IsTold y = (stored_at new y ≡ said_of i (rows ++ r ∷ []) y)
        × (is_some (stored_at new y) ≡ list_any (is_row_of i y) (rows ++ r ∷ []))
        × IfSome (stored_at new y) (IsStoredAt y)

    told-own : IsTold m
    told-own =
        let found : find (is_row_of i m) (rows ++ r ∷ []) ≡ Some r = find-more (is_row_of i m) rows r true is-own
        ∙ ap (λ o. option_or o (Some r)) (find-none (is_row_of i m) rows b.first) in
        let any : list_any (is_row_of i m) (rows ++ r ∷ []) ≡ true = any-more (is_row_of i m) rows r true is-own
        ∙ ap (λ t. t || true) b.first in (
          q.here ∙ sym (ap (option_and_then summary_read) found ∙ b.numbers),
          ap is_some q.here ∙ sym any,
          subst (λ o. IfSome o (IsStoredAt m)) (sym q.here) b.stored,
        )

    told-other : (y : ℕ) → IsMember i y → y ≢ m → IsTold y
    told-other y h n =
        let e = is-other y n in
        let same = q.elsewhere y n in (
          same ∙ t.at y h ∙ sym (ap (option_and_then summary_read)
              (find-more (is_row_of i y) rows r false e ∙ or-nothing (find (is_row_of i y) rows))),
          ap is_some same ∙ t.there y h
              ∙ sym (any-more (is_row_of i y) rows r false e ∙ or-false (list_any (is_row_of i y) rows)),
          subst (λ o. IfSome o (IsStoredAt y)) (sym same) (t.stored y h),
        )

    told-at : (y : ℕ) → IsMember i y → IsTold y
    told-at y h = elim (eqb_tells y m) [
      | inl w ↦ subst IsTold (sym w.1) told-own
      | inr w ↦ told-other y h w.1
    ]

    pub tells-row : Tells g i (rows ++ r ∷ []) new
    tells-row =
        let same : begun g (rows ++ r ∷ []) ≡ begun g rows = begun-same g rows r b.row in
        let kept : begun_in new ≡ begun_in old = ap (λ v. ids v.items) q.same_categories in
        record {
          categories = kept ∙ t.categories ∙ sym same;
          differ = subst (AllPairs ◌≢◌) (sym same) t.differ;
          few = let l = ap length same in let h = t.few in omega arith;
          known = subst (All (IsCategory g)) (sym same) t.known;
          members = q.same_members ∙ t.members;
          placed = q.placed;
          at = λ y h. (told-at y h).0;
          there = λ y h. (told-at y h).1;
          stored = λ y h. (told-at y h).2;
          size = let l = ap length same in let z = t.size in let m = q.more in
              omega (arith, length-append rows (r ∷ []));
        }
