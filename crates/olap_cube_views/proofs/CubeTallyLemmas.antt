-- For which fact tables a tally of a cube stands.
--     tally_*                       what is true of every tally
use Rattle.std.proofs.Common.{◌≡◌, ℕ, ◌+◌, ◌≤◌, List, [], ◌∷◌, ◌++◌, length, map, take, Bool, true, false, cond, refl, ap, sym, subst, ◌∙◌, arith, Option, Some, None, w64, length-append}
use Rattle.std.proofs.lemmas.{Cmp.nat_list_cmp_total, List.{append-nil, length-map, map-append}}
use Rattle.std.proofs.lemmas.{List.Elements.{All-cons, All-nil, All-push, filter-append}, Map.Lookups.exact_bytes}
use Rattle.std.specs.{BTreeMap.is_at, Cmp.tied_itself, List.cons_option, List.Sorted.IsStrictlySortedBy}
use Rattle.std.specs.{Map.{keys_of, lookup}, Ordering.is_eq}
use Rattle.std.specs.Prelude.{All, filter_map, Contains, IsSome, filter, if◌then◌else◌}
use Rattle.std.specs.declared.cmp.Ordering.{Ordering, TheVariants.{Less, Equal, Greater}}
use Rattle.olap_base.proofs.{ListLemmas.{contains_head, filter_map_same}, TotalLemmas.{total_push, ⊕_none}}
use Rattle.olap_base.specs.{Deciding.contains_cons, Instance.Instance, Limits.most_count}
use Rattle.olap_base.specs.Summaries.{Summary, of_value, total, ◌⊕◌}
use Rattle.olap_base.specs.Views.{Fact, Row, direct_rows, row_at, total_of_facts, values_at}
use Rattle.olap_cube.{proofs.TupleLemmas.{is_tuple_of, tuple_reaches_is, tuples_of_is}, specs.CubeViews.tuples}
use Rattle.olap_cube.specs.{Limits.most_dimensions, Tuples.{IsTupleOf, TupleReaches, tuple_reaches, tuples_of}}
use Rattle.olap_view.specs.{Columns.Ascent, Tables.when}
use Rattle.olap_cube_views.proofs.{AncestorLemmas.{tuple_length, tuple_members}, KeyLemmas.{filled_same, take-filled}}
use Rattle.olap_cube_views.proofs.{OrderLemmas.keys-ascend, RowLemmas.rows_are, SumLemmas.{summary_found, summary_push}}
use Rattle.olap_cube_views.specs.CubeTallies.{AreMembers, CubeStandsFor, CubeTallied, Entry, IsCubeTally, IsKeyOf, IsOwn, IsTupleAncestor, IsWithin, ReachesNone, entries_of, is_key, key_cmp, key_of, row_of_entry, summary_at, tallied}
use Rattle.olap_cube_views.specs.{Dimensions.{categories_in, instances_in}, Seen.{cube_row_of, cube_rows_of}}
use mir.Val.{SFits}
use Rattle.olap_cube_views.specs.declared.views.CubeRow as told_row

-- ---- totals

-- the values at a tuple, with one fact more
values_push : (is : List Instance) (fs : List (Fact (List ℕ))) (f : Fact (List ℕ)) (y : List ℕ)
    → values_at (tuples is) (fs ++ f ∷ []) y
    ≡ values_at (tuples is) fs y ++ cond (tuple_reaches is f.at y) (f.value ∷ []) []
values_push is fs f y =
    ap (map (λ (g : Fact (List ℕ)). g.value)) (filter-append (λ g. tuple_reaches is g.at y) fs (f ∷ []))
    ∙ map-append (λ (g : Fact (List ℕ)). g.value) (filter (λ g. tuple_reaches is g.at y) fs)
    (filter (λ g. tuple_reaches is g.at y) (f ∷ []))
    ∙ ap (λ t. map (λ (g : Fact (List ℕ)). g.value) (filter (λ g. tuple_reaches is g.at y) fs) ++ t)
    (last (tuple_reaches is f.at y))
  where
    last : (b : Bool) → map (λ (g : Fact (List ℕ)). g.value) (cond b (f ∷ []) []) ≡ cond b (f.value ∷ []) []
    last true = refl
    last false = refl

-- what they come to, with one fact more
total_more : (is : List Instance) (fs : List (Fact (List ℕ))) (f : Fact (List ℕ)) (y : List ℕ)
    → total_of_facts (tuples is) (fs ++ f ∷ []) y
    ≡ total_of_facts (tuples is) fs y ⊕ when (tuple_reaches is f.at y) (of_value f.value)
total_more is fs f y =
    ap (λ vs. total (map of_value vs)) (values_push is fs f y) ∙ go (tuple_reaches is f.at y)
  where
    go : (b : Bool) → total (map of_value (values_at (tuples is) fs y ++ cond b (f.value ∷ []) []))
        ≡ total_of_facts (tuples is) fs y ⊕ when b (of_value f.value)
    go true = ap total (map-append of_value (values_at (tuples is) fs y) (f.value ∷ []))
        ∙ total_push (map of_value (values_at (tuples is) fs y)) (of_value f.value)
    go false = ap (λ vs. total (map of_value vs)) (append-nil (values_at (tuples is) fs y))
        ∙ sym (⊕_none (total_of_facts (tuples is) fs y))

-- ---- keys

-- an ordering that passes the test is `Equal`
equal : (r : Ordering) → is_eq r ≡ true → r ≡ Equal
equal Less e = absurd (cc)
equal Equal e = refl
equal Greater e = absurd (cc)

-- a key is itself
pub own_key : (p q : List ℕ) → p ≡ q → is_key p q ≡ true
own_key p q e = ap is_eq (subst (λ w. key_cmp p w ≡ Equal) e (tied_itself nat_list_cmp_total p))

-- keys that pass the test are one
pub same_key : (p q : List ℕ) → is_key p q ≡ true → p ≡ q
same_key p q e = exact_bytes p q (equal (key_cmp p q) e)

-- an entry more
pub pushed : (es : List Entry) (p : List ℕ) (v : Summary) (q : List ℕ) → summary_at (es ++ (p, v) ∷ []) q
    ≡ (if is_key p q then summary_at es p ⊕ Some v else summary_at es q)
pushed es p v q = summary_push es (p, v) q ∙ go (is_key p q) refl
  where
    other : (b : Bool) → is_key q p ≡ b → is_key p q ≡ false → b ≡ false
    other true h e = absurd (cc (own_key p q (sym (same_key q p h)), e))
    other false h e = refl

    go : (b : Bool) → is_key p q ≡ b → summary_at es q ⊕ cond (is_key q p) (Some v) None
        ≡ (if is_key p q then summary_at es p ⊕ Some v else summary_at es q)
    go true e =
        let k : p ≡ q = same_key p q e in
        ap (λ b. summary_at es q ⊕ cond b (Some v) None) (own_key q p (sym k))
        ∙ ap (λ r. summary_at es r ⊕ Some v) (sym k)
        ∙ sym (ap (λ b. if b then summary_at es p ⊕ Some v else summary_at es q) e)
    go false e =
        ap (λ b. summary_at es q ⊕ cond b (Some v) None) (other (is_key q p) refl e)
        ∙ ⊕_none (summary_at es q)
        ∙ sym (ap (λ b. if b then summary_at es p ⊕ Some v else summary_at es q) e)

-- ---- one fact more

-- a tally of one fact more, with these entries
abbrev pub with_entries : CubeTallied → List Entry → CubeTallied
with_entries t entries = record { instances = t.instances; target = t.target; added = t.added + 1; entries = entries }

module _ (t : CubeTallied) (facts : List (Fact (List ℕ))) (f : Fact (List ℕ)) (s : CubeStandsFor t facts) where
  -- one fact more is added
  one_more : t.added + 1 ≡ length (facts ++ f ∷ [])
  one_more = let a = s.added in omega (arith, length-append {A = Fact (List ℕ)})

  -- a fact that reaches no tuple of the target
  pub stands_apart : ReachesNone t.instances f.at t.target
      → CubeStandsFor (with_entries t t.entries) (facts ++ f ∷ [])
  stands_apart n = record {
    added = one_more;
    at = λ y m. s.at y m ∙ sym (total_more t.instances facts f y
        ∙ same y (tuple_reaches t.instances f.at y) (apart y m));
    keys = s.keys;
  }
    where
      apart : (y : List ℕ) → IsTupleOf t.instances t.target y → tuple_reaches t.instances f.at y ≡ false
      apart y m = go (tuple_reaches t.instances f.at y) refl
        where
          go : (b : Bool) → tuple_reaches t.instances f.at y ≡ b → b ≡ false
          go true e = absurd (n y m ((tuple_reaches_is t.instances f.at y).0 e))
          go false e = refl

      same : (y : List ℕ) (b : Bool) → b ≡ false
          → total_of_facts (tuples t.instances) facts y ⊕ when b (of_value f.value)
          ≡ total_of_facts (tuples t.instances) facts y
      same y true e = absurd (cc)
      same y false e = ⊕_none (total_of_facts (tuples t.instances) facts y)

  module _ (entries : List Entry) (y : List ℕ) (p : List ℕ) (r : IsTupleAncestor t.instances f.at t.target y)
      (k : p ≡ key_of y) (few : length t.instances ≤ most_dimensions)
      (at : (q : List ℕ) → summary_at entries q
      ≡ (if is_key p q then summary_at t.entries p ⊕ Some (of_value f.value) else summary_at t.entries q)) where
    -- a tuple that has the key is the one that the fact reaches
    here : (z : List ℕ) → IsTupleOf t.instances t.target z → is_key p (key_of z) ≡ true → z ≡ y
    here z m e =
        let a = tuple_length t.instances t.target y r.is_tuple in
        let b = tuple_length t.instances t.target z m in
        filled_same most_dimensions z y (b ∙ sym a) (omega arith) (sym (same_key p (key_of z) e) ∙ k)

    -- what stands at a tuple's key is what the facts and this one come to there
    at_tuple : (z : List ℕ) → IsTupleOf t.instances t.target z
        → summary_at entries (key_of z) ≡ total_of_facts (tuples t.instances) (facts ++ f ∷ []) z
    at_tuple z m = go (tuple_reaches t.instances f.at z) refl
      where
        go : (b : Bool) → tuple_reaches t.instances f.at z ≡ b
            → summary_at entries (key_of z) ≡ total_of_facts (tuples t.instances) (facts ++ f ∷ []) z
        go true e =
            let same : z ≡ y = r.only z m ((tuple_reaches_is t.instances f.at z).0 e) in
            let own : p ≡ key_of z = k ∙ ap key_of (sym same) in
            at (key_of z)
            ∙ ap (λ b. if b then summary_at t.entries p ⊕ Some (of_value f.value) else summary_at t.entries (key_of z))
            (own_key p (key_of z) own)
            ∙ ap (λ q. summary_at t.entries q ⊕ Some (of_value f.value)) own
            ∙ ap (λ o. o ⊕ Some (of_value f.value)) (s.at z m)
            ∙ sym (total_more t.instances facts f z
            ∙ ap (λ b. total_of_facts (tuples t.instances) facts z ⊕ when b (of_value f.value)) e)
        go false e =
            at (key_of z)
            ∙ ap (λ b. if b then summary_at t.entries p ⊕ Some (of_value f.value) else summary_at t.entries (key_of z))
            (not_here (is_key p (key_of z)) refl)
            ∙ s.at z m ∙ sym (total_more t.instances facts f z
            ∙ ap (λ b. total_of_facts (tuples t.instances) facts z ⊕ when b (of_value f.value)) e
            ∙ ⊕_none (total_of_facts (tuples t.instances) facts z))
          where
            not_here : (b : Bool) → is_key p (key_of z) ≡ b → b ≡ false
            not_here true h =
                let reached = (tuple_reaches_is t.instances f.at z).1
                (subst (λ w. TupleReaches t.instances f.at w) (sym (here z m h)) r.reached) in
                absurd (cc (reached, e))
            not_here false h = refl

    -- each key at which something stands is a tuple's
    at_key : (q : List ℕ) → IsSome (summary_at entries q) → IsKeyOf t.instances t.target q
    at_key q w = go (is_key p q) refl
      where
        go : (b : Bool) → is_key p q ≡ b → IsKeyOf t.instances t.target q
        go true e = (y, r.is_tuple, sym (same_key p q e) ∙ k)
        go false e = s.keys q (subst IsSome (at q
            ∙ ap (λ b. if b then summary_at t.entries p ⊕ Some (of_value f.value) else summary_at t.entries q) e) w)

    -- a fact that reaches a tuple, with its value joined at the tuple's key
    pub stands_joined : CubeStandsFor (with_entries t entries) (facts ++ f ∷ [])
    stands_joined = record { added = one_more; at = at_tuple; keys = at_key }

-- the same of rows, where the row of the fact's value is added
pub fact_joined : (columns : List Ascent) (old new : List told_row.CubeRow) (f : Fact (List ℕ)) (y p : List ℕ)
    (e : Entry)
    → length columns ≤ most_dimensions
    → IsTupleAncestor (instances_in columns) f.at (categories_in columns) y → p ≡ key_of y
    → e ≡ (p, of_value f.value)
    → ((q : List ℕ) → summary_at (entries_of new) q ≡ summary_at (entries_of old ++ e ∷ []) q)
    → (n : ℕ) (facts : List (Fact (List ℕ))) → CubeStandsFor (tallied columns old n) facts
    → CubeStandsFor (tallied columns new (n + 1)) (facts ++ f ∷ [])
fact_joined columns old new f y p e few r k is h = λ n facts s.
    let l = length-map columns (λ (a : Ascent). a.instance) in
    stands_joined (tallied columns old n) facts f s (entries_of new) y p r k (omega arith)
    (λ q. h q ∙ ap (λ (d : Entry). summary_at (entries_of old ++ d ∷ []) q) is
    ∙ pushed (entries_of old) p (of_value f.value) q)

-- and where the fact reaches none
pub fact_apart : (columns : List Ascent) (rows : List told_row.CubeRow) (f : Fact (List ℕ))
    → ReachesNone (instances_in columns) f.at (categories_in columns) → (n : ℕ) (facts : List (Fact (List ℕ)))
    → CubeStandsFor (tallied columns rows n) facts → CubeStandsFor (tallied columns rows (n + 1)) (facts ++ f ∷ [])
fact_apart columns rows f none n facts s = stands_apart (tallied columns rows n) facts f s none

-- where the same stands at each key, a tally stands for the same facts
pub stands_same : (t : CubeTallied) (entries : List Entry)
    → ((q : List ℕ) → summary_at entries q ≡ summary_at t.entries q)
    → (facts : List (Fact (List ℕ))) → CubeStandsFor t facts → CubeStandsFor (record t { entries = entries }) facts
stands_same t entries h facts s = record {
  added = s.added;
  at = λ y m. h (key_of y) ∙ s.at y m;
  keys = λ q w. s.keys q (subst IsSome (h q) w);
}

-- so it is a tally
pub tally_same : (t : CubeTallied) → IsCubeTally t → (entries : List Entry)
    → ((q : List ℕ) → summary_at entries q ≡ summary_at t.entries q) → IsWithin t.added entries
    → IsCubeTally (record t { entries = entries })
tally_same t i entries h w = record {
  dimensions = i.dimensions;
  few = i.few;
  within = w;
  facts = i.facts;
  values = i.values;
  stands = stands_same t entries h i.facts i.stands;
}

-- ---- every tally

-- a tally with one fact more is one
pub tally_more : (t : CubeTallied) (q : IsCubeTally t) (f : Fact (List ℕ)) (entries : List Entry)
    → t.added + 1 ≤ most_count
    → SFits w64 f.value → IsWithin (t.added + 1) entries → CubeStandsFor (with_entries t entries) (q.facts ++ f ∷ [])
    → IsCubeTally (with_entries t entries)
tally_more t q f entries h v w s = record {
  dimensions = q.dimensions;
  few = h;
  within = w;
  facts = q.facts ++ f ∷ [];
  values = All-push (λ (f : Fact (List ℕ)). SFits w64 f.value) q.facts f q.values v;
  stands = s;
}

-- no fact
pub stands_start : (is : List Instance) (c : List ℕ)
    → CubeStandsFor (record { instances = is; target = c; added = 0; entries = [] }) []
stands_start is c = record { added = refl; at = λ y m. refl; keys = λ q w. absurd (cc) }

-- a tally of no facts is one
pub tally_start : (is : List Instance) (c : List ℕ) → length is ≤ most_dimensions
    → IsCubeTally (record { instances = is; target = c; added = 0; entries = [] })
tally_start is c few = record {
  dimensions = few;
  few = omega arith;
  within = record { each = All-nil IsOwn; all = omega arith };
  facts = [];
  values = All-nil (λ (f : Fact (List ℕ)). SFits w64 f.value);
  stands = stands_start is c;
}

-- ---- rows

-- the entries, in order, are the rows of the direct view
pub direct_rows_are : (t : CubeTallied) (facts : List (Fact (List ℕ))) → length t.instances ≤ most_dimensions
    → CubeStandsFor t facts → IsStrictlySortedBy key_cmp (keys_of t.entries)
    → map (row_of_entry (length t.instances)) t.entries ≡ direct_rows (tuples t.instances) t.target facts
direct_rows_are t facts few s o =
    rows_are key_cmp nat_list_cmp_total exact_bytes key_of (λ y x. record { at = y; summary = x })
    (row_of_entry (length t.instances)) (tuples_of t.instances t.target) t.entries reads
    (keys-ascend t.instances t.target few) o keys
    ∙ filter_map_same (λ y. row_at y (lookup (is_at (key_cmp (key_of y))) t.entries))
    (λ y. row_at y (total_of_facts (tuples t.instances) facts y)) (tuples_of t.instances t.target)
    (λ y c. ap (row_at y)
    (sym (summary_found t.entries o (key_of y)) ∙ s.at y (tuples_of_is t.instances t.target y c)))
  where
    reads : (y : List ℕ) → Contains (tuples_of t.instances t.target) y → (x : Summary)
        → row_of_entry (length t.instances) (key_of y, x) ≡ record { at = y; summary = x }
    reads y c x =
        let n = tuple_length t.instances t.target y (tuples_of_is t.instances t.target y c) in
        ap (λ ys. record { at = ys; summary = x })
        (ap (λ j. take j (key_of y)) (sym n) ∙ take-filled most_dimensions y (omega arith))

    keys : (q : List ℕ) → IsSome (lookup (is_at (key_cmp q)) t.entries)
        → (y : List ℕ) × Contains (tuples_of t.instances t.target) y × (key_of y ≡ q)
    keys q w = let y = s.keys q (subst IsSome (sym (summary_found t.entries o q)) w) in
        (y.0, is_tuple_of t.instances t.target y.0 y.1, sym y.2)

-- each row of a direct view stands at members
rows_members : (is : List Instance) (h : List ℕ → Option Summary) (ts : List (List ℕ))
    → ((y : List ℕ) → Contains ts y → AreMembers is y)
    → All (λ (r : Row (List ℕ)). AreMembers is r.at) (filter_map (λ y. row_at y (h y)) ts)
rows_members is h [] f = All-nil (λ (r : Row (List ℕ)). AreMembers is r.at)
rows_members is h (y ∷ ys) f =
    cons (h y) (f y (contains_head y ys)) (rows_members is h ys (λ z c. f z (contains_cons z ys y c)))
  where
    cons : (o : Option Summary) → AreMembers is y
        → All (λ (r : Row (List ℕ)). AreMembers is r.at) (filter_map (λ y. row_at y (h y)) ys)
        → All (λ (r : Row (List ℕ)). AreMembers is r.at)
        (cons_option (row_at y o) (filter_map (λ y. row_at y (h y)) ys))
    cons None m a = a
    cons (Some s) m a = All-cons (λ (r : Row (List ℕ)). AreMembers is r.at) (record { at = y; summary = s })
        (filter_map (λ y. row_at y (h y)) ys) m a

-- the rows of a direct view stand at members
pub direct_members : (is : List Instance) (c : List ℕ) (facts : List (Fact (List ℕ))) (rows : List (Row (List ℕ)))
    → rows ≡ direct_rows (tuples is) c facts → All (λ r. AreMembers is r.at) rows
direct_members is c facts rows e =
    subst (All (λ (r : Row (List ℕ)). AreMembers is r.at)) (sym e)
    (rows_members is (total_of_facts (tuples is) facts) (tuples_of is c)
    (λ y m. tuple_members is c y (tuples_of_is is c y m)))

-- the rows that structs stand for are those of their entries
pub rows_of_entries : (k : ℕ) (rows : List told_row.CubeRow)
    → cube_rows_of k rows ≡ map (row_of_entry k) (entries_of rows)
rows_of_entries k [] = refl
rows_of_entries k (r ∷ rows) = ap (λ t. cube_row_of k r ∷ t) (rows_of_entries k rows)

-- joined rows, in order, are those of the direct view
pub told_rows : (t : CubeTallied) (facts : List (Fact (List ℕ))) (rows : List told_row.CubeRow)
    → length t.instances ≤ most_dimensions → CubeStandsFor t facts
    → ((q : List ℕ) → summary_at (entries_of rows) q ≡ summary_at t.entries q)
    → IsStrictlySortedBy key_cmp (keys_of (entries_of rows))
    → cube_rows_of (length t.instances) rows ≡ direct_rows (tuples t.instances) t.target facts
told_rows t facts rows few s h o =
    rows_of_entries (length t.instances) rows
    ∙ direct_rows_are (record t { entries = entries_of rows }) facts few (stands_same t (entries_of rows) h facts s) o
