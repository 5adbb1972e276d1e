-- Stored views that are read are a sound store.
use Rattle.std.proofs.Common.{rules, ◌≡◌, ◌≢◌, ℕ, ℤ, suc, pos, negsuc, ◌+◌, ◌<◌, ◌≤◌, List, [], ◌∷◌, ◌++◌, Bool, true, false, cond, length, get_or, Option, None, Some, IfSome, option_map, refl, ap, sym, subst, arith, append_assoc}
use Rattle.std.proofs.lemmas.{Bool.{leb-true, ltb-true}, Bool.Decides.nat_tests, Int.ints}
use Rattle.std.proofs.lemmas.List.{append-nil, length-append, Elements.All-map, Quantifiers.all_pairs_push}
use Rattle.std.{proofs.lemmas.Option.cond_some, specs.List.{list_any, position_from}, specs.Option.option_and_then}
use Rattle.std.specs.Prelude.{◌==◌, ◌≤ℤ◌, neg_ℤ, AllPairs, Ok, Err, drop, filter, find, nat_le, not}
use Rattle.olap_base.proofs.{GeneralLemmas.none_past, ListLemmas.{first_true, second_true}}
use Rattle.olap_base.specs.{Graph.{Graph, IsCategory}, Instance.Instance, Limits.{most_count, most_sum, most_views}}
use Rattle.olap_base.specs.{Summaries.Summary, Views.{View, members_of, row_at}, declared.refusals.Fault.Fault}
use Rattle.olap_facts.proofs.FittingLemmas.{value-fits}
use Rattle.olap_numerals.specs.Values.{value_of}
use Rattle.olap_records.specs.{Faults.{field, first_fault, or_after}, Tables.{begins_with, or_read}}
use Rattle.olap_view.proofs.FileOrderLemmas.{all-rows, each-in-order, store-of}
use Rattle.olap_view.{proofs.StoreReadingLemmas.{begun-more, begun-same, none-same}, specs.StoreLaws.ReadStoresAreSound}
use Rattle.olap_view.specs.StoreReading.{IsStoredAt, Record, said_of}
use Rattle.olap_view.specs.StoreText.{beginning_fault, begun, category_number, header, is_beginning, is_row_of, row_fault, store_fault, summary_read, views_read}
use Rattle.olap_view.specs.{StoredNumbers.{count_of, is_sum, sum_of}, Stores.{Fits, IsSoundStore, IsStored}}
use Rattle.olap_view.specs.{Tables.view_by, declared.kinds.StoreKind.StoreKind}

-- ---- numbers

-- a count that is spelled is within the bounds
count-fits : (text : List ℕ) (n : ℕ) → count_of text ≡ Some n → (1 ≤ n) × (n ≤ most_count)
count-fits text n e = grind (arith, cond_some, second_true, ltb-true, first_true, leb-true)

-- so is what passes the test of a sum
pub is-sum-fits : (z : ℤ) → is_sum z ≡ true → (neg_ℤ (pos most_sum) ≤ℤ z) × (z ≤ℤ pos most_sum)
is-sum-fits (pos n) t = let l = leb-true n most_sum t in (omega (arith, ints), omega (arith, ints))
is-sum-fits (negsuc n) t = let l = ltb-true n most_sum t in (omega (arith, ints), omega (arith, ints))

-- and a sum that is spelled
sum-fits : (text : List ℕ) (n : ℤ) → sum_of text ≡ Some n → (neg_ℤ (pos most_sum) ≤ℤ n) × (n ≤ℤ pos most_sum)
sum-fits text n e = grind (arith, cond_some, is-sum-fits, second_true)

-- the four numbers of a summary, if there are four
record AreFour (n : Option ℕ) (s l g : Option ℤ) (m : Summary) : Type 0 where
  count : n ≡ Some m.count
  sum : s ≡ Some m.sum
  least : l ≡ Some m.least
  greatest : g ≡ Some m.greatest

-- a summary that is read has them
four : (n : Option ℕ) (s l g : Option ℤ) (m : Summary)
    → option_and_then (λ n. option_and_then (λ s. option_and_then (λ l. option_map
    (λ g. record { count = n; sum = s; least = l; greatest = g }) g) l) s) n ≡ Some m → AreFour n s l g m
four None s l g m e = absurd (cc)
four (Some n) None l g m e = absurd (cc)
four (Some n) (Some s) None g m e = absurd (cc)
four (Some n) (Some s) (Some l) None m e = absurd (cc)
four (Some n) (Some s) (Some l) (Some g) m e = search rules

-- the numbers that a record spells are within the bounds of stored rows
summary-fits : (y : ℕ) (r : Record) (m : Summary) → summary_read r ≡ Some m → IsStoredAt y m
summary-fits y r m e =
    let t = four (count_of (field r 2)) (sum_of (field r 3)) (value_of (field r 4)) (value_of (field r 5)) m e in
    let c = count-fits (field r 2) m.count t.count in
    let s = sum-fits (field r 3) m.sum t.sum in record {
      some = c.0;
      few = c.1;
      sum_from = s.0;
      sum_to = s.1;
      least = value-fits (field r 4) m.least t.least;
      greatest = value-fits (field r 5) m.greatest t.greatest;
    }

-- so is the row of a member
said-fits : (i : Instance) (rows : List Record) (y : ℕ) → IfSome (row_at y (said_of i rows y)) IsStored
said-fits i rows y = found (find (is_row_of i y) rows)
  where
    here : (r : Record) (o : Option Summary) → summary_read r ≡ o → IfSome (row_at y o) IsStored
    here r None e = tt
    here r (Some m) e = summary-fits y r m e

    found : (o : Option Record) → IfSome (row_at y (option_and_then summary_read o)) IsStored
    found None = tt
    found (Some r) = here r (summary_read r) refl

-- ---- categories

-- what fails the test of at most is more
more-than : (a b : ℕ) → nat_le a b ≡ false → suc b ≤ a
more-than a b e = grind (arith, nat_tests)

module _ (g : Graph) (i : Instance) where
  -- these records begin few views, of different categories
  record AreFew (rows : List Record) : Type 0 where
    few : length (begun g rows) ≤ most_views
    differ : AllPairs ◌≢◌ (begun g rows)

  -- a category that begins a view is a new one
  new-begins : (before : List Record) (r : Record) → AreFew before → is_beginning r ≡ true
      → beginning_fault g before (category_number g r) ≡ None → AreFew (before ++ r ∷ [])
  new-begins before r a b e =
      let c = category_number g r in
      let p = none_past (list_any (λ d. d == c) (begun g before)) _ _ e in
      let q = none_past (nat_le most_views (length (begun g before))) _ _ p.1 in
      let l = more-than most_views (length (begun g before)) q.0 in
      let more = begun-more g before r b in record {
        few = let n = ap length more in omega (arith, l, n, length-append (begun g before) (c ∷ []));
        differ = subst (AllPairs ◌≢◌) (sym more) (all_pairs_push ◌≢◌ (begun g before) c a.differ
            (λ k d h. none-same c (begun g before) k d p.0 h));
      }

  -- one record more without a fault
  one-more : (before : List Record) (r : Record) → AreFew before → store_fault g i before r ≡ None
      → AreFew (before ++ r ∷ [])
  one-more before r a e =
      let p = none_past (not (length r == 6)) _ _ e in
      let q = none_past _ _ _ p.1 in
      go (is_beginning r) refl q.1
    where
      go : (b : Bool) → is_beginning r ≡ b
          → cond b (beginning_fault g before (category_number g r)) (row_fault g i before r) ≡ None
          → AreFew (before ++ r ∷ [])
      go true b e = new-begins before r a b e
      go false b e =
          let same = begun-same g before r b in record {
            few = let n = ap length same in let l = a.few in omega arith;
            differ = subst (AllPairs ◌≢◌) (sym same) a.differ;
          }

  -- all records, without a fault
  all-few : (rows before : List Record) → AreFew before → first_fault (store_fault g i) before rows ≡ None
      → AreFew (before ++ rows)
  all-few [] before a e = subst AreFew (sym (append-nil before)) a
  all-few (r ∷ rows) before a e = go (store_fault g i before r) refl e (all-few rows (before ++ r ∷ []))
    where
      go : (o : Option StoreKind) → store_fault g i before r ≡ o
          → or_after (length before) o (first_fault (store_fault g i) (before ++ r ∷ []) rows) ≡ None
          → (AreFew (before ++ r ∷ []) → first_fault (store_fault g i) (before ++ r ∷ []) rows ≡ None
          → AreFew ((before ++ r ∷ []) ++ rows)) → AreFew (before ++ r ∷ rows)
      go None q h again =
          subst AreFew (append_assoc before (r ∷ []) rows) (again (one-more before r a q) h)
      go (Some k) q h again = absurd (cc)

-- a place that is found is one of the list
place-below : {A : Type 0} (p : A → Bool) (n : ℕ) (xs : List A) (c : ℕ) → position_from p n xs ≡ Some c
    → c < n + length xs
place-below p n [] c e = absurd (cc)
place-below p n (x ∷ xs) c e = grind (arith, place-below p (n + 1) xs c)

-- a record's category is one of the graph
number-is : (g : Graph) (r : Record) → IsCategory g (category_number g r)
number-is g r = grind (arith, place-below)

-- ---- the theorem

module _ (g : Graph) (i : Instance) (rows : List Record) where
  -- the views of records without a fault are a sound store
  sound : AreFew g i rows → IsSoundStore g i (views_read g i rows)
  sound a =
      let cs = begun g rows in
      let order = each-in-order i (said_of i rows) cs in record {
        store = store-of i (said_of i rows) cs a.few a.differ;
        fit = All-map Fits (view_by i (said_of i rows)) cs (λ k d l. all-rows IsStored (said_of i rows)
            (members_of i (get_or cs k d)) (λ y c. said-fits i rows y));
        categories = All-map (λ (v : View ℕ ℕ). IsCategory g v.target) (view_by i (said_of i rows)) cs
            (All-map (IsCategory g) (category_number g) (filter is_beginning rows)
            (λ k d l. number-is g (get_or (filter is_beginning rows) k d)));
        at_members = λ k d l m e w. ((order k d l).members m e w).0;
      }

-- the theorem
pub read-stores : ReadStoresAreSound
read-stores g i records vs e = go (begins_with header records) _ e
  where
    read : (o : Option (ℕ × StoreKind)) → first_fault (store_fault g i) [] (drop 1 records) ≡ o
        → or_read o (Ok (views_read g i (drop 1 records))) ≡ Ok vs → IsSoundStore g i vs
    read None q e = let z : views_read g i (drop 1 records) ≡ vs = cc in
        subst (IsSoundStore g i) z (sound g i (drop 1 records)
        (all-few g i (drop 1 records) [] (record { few = omega arith; differ = λ j k d l w. absurd (omega arith) }) q))
    read (Some p) q e = absurd (cc)

    go : (b : Bool) (fault : Fault StoreKind) → cond b (or_read (first_fault (store_fault g i) [] (drop 1 records))
        (Ok (views_read g i (drop 1 records)))) (Err fault) ≡ Ok vs → IsSoundStore g i vs
    go true fault e = read (first_fault (store_fault g i) [] (drop 1 records)) refl e
    go false fault e = absurd (cc)
