-- The rows of a direct view are within the bounds of stored rows.
use Rattle.std.proofs.{Common.{ℕ, ◌≤◌, List, [], ◌∷◌, length, arith, Option, Some, None, IfSome, w64}, lemmas.Int.ints}
use Rattle.std.proofs.lemmas.List.{length-map, Elements.{All-cons, All-filter, All-map, All-nil}}
use Rattle.std.specs.{List.cons_option, Prelude.{All, filter, filter_map}}
use Rattle.olap_base.{proofs.ListLemmas.length-filter, specs.Instance.Instance, specs.Limits.most_count}
use Rattle.olap_base.specs.{Reaching.reaches, Summaries.Summary}
use Rattle.olap_base.specs.Views.{Fact, direct_rows, members, members_of, row_at, total_of_facts, values_at}
use Rattle.olap_view.{proofs.SummaryLemmas.{of_values_more, total_of_value_list}, specs.Bounds.IsOfValues}
use Rattle.olap_view.specs.Stores.{IsStored}
use mir.Val.{SFits}

-- what is of some values is of more
of_values : (o : Option Summary) (n k : ℕ) → n ≤ k → IfSome o (IsOfValues n) → IfSome o (IsOfValues k)
of_values None n k h q = q
of_values (Some s) n k h q = of_values_more n k s h q

-- what some facts come to at y
pub total_is_of_values : (i : Instance) (facts : List (Fact ℕ)) (y : ℕ) → All (λ f. SFits w64 f.value) facts
    → IfSome (total_of_facts (members i) facts y) (IsOfValues (length facts))
total_is_of_values i facts y a =
    of_values (total_of_facts (members i) facts y) (length (values_at (members i) facts y)) (length facts) short
    (total_of_value_list (values_at (members i) facts y)
    (All-map (SFits w64) (λ (f : Fact ℕ). f.value) (filter (λ f. reaches i f.at y) facts)
    (All-filter (λ (f : Fact ℕ). reaches i f.at y) (λ (f : Fact ℕ). SFits w64 f.value) facts a)))
  where
    short : length (values_at (members i) facts y) ≤ length facts
    short = let e = length-map (filter (λ (f : Fact ℕ). reaches i f.at y) facts) (λ (f : Fact ℕ). f.value) in
        let l = length-filter (λ (f : Fact ℕ). reaches i f.at y) facts in omega arith

-- what few values come to may be stored
row_stored : (y n : ℕ) (o : Option Summary) → n ≤ most_count → IfSome o (IsOfValues n) → IfSome (row_at y o) IsStored
row_stored y n None h q = tt
row_stored y n (Some s) h q =
    let u = q.up_to in let a = u.count in let b = u.sum_from in let d = u.sum_to in record {
      some = q.some;
      few = omega arith;
      sum_from = omega (arith, ints);
      sum_to = omega (arith, ints);
      least = q.least;
      greatest = q.greatest;
    }

-- one item more, if there is one
cons_all : {B : Type 0} (P : B → Type 0) (o : Option B) (ys : List B) → IfSome o P → All P ys → All P (cons_option o ys)
cons_all P None ys t a = a
cons_all P (Some y) ys t a = All-cons P y ys t a

-- each item of a list of results
filter_map_all : {A B : Type 0} (P : B → Type 0) (h : A → Option B) (xs : List A) → ((x : A) → IfSome (h x) P)
    → All P (filter_map h xs)
filter_map_all P h [] f = All-nil P
filter_map_all P h (x ∷ xs) f = cons_all P (h x) (filter_map h xs) (f x) (filter_map_all P h xs f)

-- the rows of a direct view may be stored
pub direct_stored : (i : Instance) (c : ℕ) (facts : List (Fact ℕ)) → length facts ≤ most_count
    → All (λ f. SFits w64 f.value) facts → All IsStored (direct_rows (members i) c facts)
direct_stored i c facts h a =
    filter_map_all IsStored (λ y. row_at y (total_of_facts (members i) facts y)) (members_of i c)
    (λ y. row_stored y (length facts) (total_of_facts (members i) facts y) h (total_is_of_values i facts y a))
