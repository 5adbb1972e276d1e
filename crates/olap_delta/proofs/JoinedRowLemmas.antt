-- A row after values all at once, and one after another.
use Rattle.std.proofs.Common.{◌≡◌, ℕ, ◌+◌, ◌-◌, ◌<◌, ◌≤◌, Bool, true, false, cond, ◌||◌, refl, sym, ap, ℤ, ◌+ℤ◌, ◌-ℤ◌, ◌<ℤ◌, Option, Some, None, w64, arith}
use Rattle.std.proofs.lemmas.{Bool.or_from, Bool.Decides.{Decides-int_eq, nat_tests}, Int.ints}
use Rattle.std.specs.{Int.{int_min, int_max}, Ordering.int_eq, Prelude.{◌==◌, int_lt, nat_le, not, Result, Ok, Err}}
use Rattle.olap_base.{proofs.TotalLemmas.{joined_assoc, ⊕_none}, specs.Limits.most_count}
use Rattle.olap_base.specs.Summaries.{Summary, joined, of_value, ◌⊕◌}
use Rattle.olap_view.{proofs.StoreLawLemmas.in-bounds, specs.StoredNumbers.is_sum}
use Rattle.olap_delta.specs.{Changes.{appended, retracted}, Changing.step_of}
use Rattle.olap_delta.specs.{Joining.{Admits, AdmitsLess, AdmitsNew, changed_by, less}, declared.changes.Change.Change}
use Rattle.olap_delta.specs.declared.kinds.DeltaKind.{DeltaKind}
use mir.Val.{SFits}
use Rattle.olap_delta.specs.declared.changes.Change.TheVariants as by
use Rattle.olap_delta.specs.declared.kinds.DeltaKind.TheVariants as kind

-- a value at the row may come or go, and the row is then as this says
pub record IsFirst (change : Change) (there : Option Summary) (v : ℤ) (lot : Option Summary) : Type 0 where
  pub after : Summary
  pub step : step_of change there v ≡ Ok after
  pub is : changed_by change there (Some (of_value v)) ≡ Some after
  pub admits : Admits change (Some after) lot
  pub rest : changed_by change (Some after) lot ≡ changed_by change there (Some (of_value v) ⊕ lot)

-- ---- no value

-- without a value the row stays
pub nothing_more : (change : Change) (there : Option Summary) → changed_by change there None ≡ there
nothing_more by.Append there = ⊕_none there
nothing_more by.Retract None = refl
nothing_more by.Retract (Some s) = refl

-- and nothing can be refused
pub admits_nothing : (change : Change) (there : Option Summary) → Admits change there None
admits_nothing by.Append there = tt
admits_nothing by.Retract there = tt

-- ---- one value first

-- a lesser number fails the test
differ : (a b : ℕ) → a < b → (a == b) ≡ false
differ a b l = grind (arith, nat_tests)

-- a value that comes, where the row isn't full and the sum stays in its bound
comes : (s : Summary) (v : ℤ) → s.count < most_count → is_sum (s.sum +ℤ v) ≡ true
    → appended (Some s) v ≡ Ok (joined s (of_value v))
comes s v l e = go (s.count == most_count) (is_sum (s.sum +ℤ v)) (differ s.count most_count l) e
  where
    go : (full fits : Bool) → full ≡ false → fits ≡ true
        → ◌≡◌ {A = Result Summary DeltaKind} (cond full (Err kind.Full)
        (cond (not fits) (Err kind.Bound) (Ok (joined s (of_value v))))) (Ok (joined s (of_value v)))
    go true fits p q = absurd (cc)
    go false true p q = refl
    go false false p q = absurd (cc)

-- different whole numbers fail the test
unlike : (x y : ℤ) → (x ≡ y → ⊥) → int_eq x y ≡ false
unlike x y n = go (int_eq x y) refl
  where
    go : (b : Bool) → int_eq x y ≡ b → b ≡ false
    go true e = absurd (n ((Decides-int_eq x y).0 e))
    go false e = refl

-- a value that goes, which is or_from the least nor the greatest
goes : (s : Summary) (v : ℤ) → s.least <ℤ v → v <ℤ s.greatest → 3 ≤ s.count → is_sum (s.sum -ℤ v) ≡ true
    → retracted (Some s) v ≡ Ok (less s (of_value v))
goes s v l g n e =
    go (int_lt v s.least || int_lt s.greatest v) (int_eq v s.least || int_eq v s.greatest) (nat_le s.count 2)
    (is_sum (s.sum -ℤ v)) (grind (arith, ints))
    (or_from (int_eq v s.least) (int_eq v s.greatest) (unlike v s.least (λ q. apart s.least v l (sym q)))
    (unlike v s.greatest (λ q. apart v s.greatest g q)))
    (many s.count n) e
  where
    apart : (x y : ℤ) → x <ℤ y → x ≡ y → ⊥
    apart x y h q = omega (arith, ints)

    many : (n : ℕ) → 3 ≤ n → nat_le n 2 ≡ false
    many n h = grind (arith, nat_tests)

    go : (out extreme short fits : Bool) → out ≡ false → extreme ≡ false → short ≡ false → fits ≡ true
        → ◌≡◌ {A = Result Summary DeltaKind} (cond out (Err kind.Outside) (cond extreme (Err kind.Extreme)
        (cond short (Err kind.Short) (cond (not fits) (Err kind.Bound) (Ok (less s (of_value v)))))))
        (Ok (less s (of_value v)))
    go true extreme short fits p q r t = absurd (cc)
    go false true short fits p q r t = absurd (cc)
    go false false true fits p q r t = absurd (cc)
    go false false false false p q r t = absurd (cc)
    go false false false true p q r t = refl

-- what is below the lesser of two is below both
above_both : (x a b : ℤ) → x <ℤ int_min a b → (x <ℤ a) × (x <ℤ b)
above_both x a b l = (grind (arith, ints), grind (arith, ints))

-- what is above the greater of two is above both
below_both : (x a b : ℤ) → int_max a b <ℤ x → (a <ℤ x) × (b <ℤ x)
below_both x a b l = (grind (arith, ints), grind (arith, ints))

-- the first of some values that may come
first_new : (there : Option Summary) (v : ℤ) (lot : Option Summary) → SFits w64 v
    → AdmitsNew there (Some (of_value v) ⊕ lot) → IsFirst by.Append there v lot
first_new None v None f a = record { after = of_value v; step = refl; is = refl; admits = tt; rest = refl }
first_new None v (Some t) f a = record {
  after = of_value v;
  step = refl;
  is = refl;
  admits = (a, record { low = omega (arith, ints); high = omega (arith, ints) });
  rest = refl;
}
first_new (Some s) v None f a =
    let n = a.0 in let low = a.1.low in let high = a.1.high in
    record {
      after = joined s (of_value v);
      step = comes s v (omega arith) (in-bounds (s.sum +ℤ v) (omega (arith, ints)) (omega (arith, ints)));
      is = refl;
      admits = tt;
      rest = refl;
    }
first_new (Some s) v (Some t) f a =
    let n = a.0 in let low = a.1.low in let high = a.1.high in
    record {
      after = joined s (of_value v);
      step = comes s v (omega arith) (in-bounds (s.sum +ℤ v) (omega (arith, ints)) (omega (arith, ints)));
      is = refl;
      admits = (omega arith, record { low = omega (arith, ints); high = omega (arith, ints) });
      rest = ap Some (joined_assoc s (of_value v) t);
    }

-- the first of some values that may go
first_less : (there : Option Summary) (v : ℤ) (lot : Option Summary) → SFits w64 v
    → AdmitsLess there (Some (of_value v) ⊕ lot) → IsFirst by.Retract there v lot
first_less None v None f a = absurd a
first_less None v (Some t) f a = absurd a
first_less (Some s) v None f a =
    let n = a.count in let low = a.room.low in let high = a.room.high in
    record {
      after = less s (of_value v);
      step = goes s v a.least a.greatest (omega arith)
          (in-bounds (s.sum -ℤ v) (omega (arith, ints)) (omega (arith, ints)));
      is = refl;
      admits = tt;
      rest = refl;
    }
first_less (Some s) v (Some t) f a =
    let n = a.count in let low = a.room.low in let high = a.room.high in
    let l = above_both s.least v t.least a.least in
    let g = below_both s.greatest v t.greatest a.greatest in
    record {
      after = less s (of_value v);
      step = goes s v l.0 g.0 (omega arith) (in-bounds (s.sum -ℤ v) (omega (arith, ints)) (omega (arith, ints)));
      is = refl;
      admits = record {
        least = l.1;
        greatest = g.1;
        count = omega arith;
        room = record { low = omega (arith, ints); high = omega (arith, ints) };
      };
      rest =
          let count : (s.count - 1) - t.count ≡ s.count - (1 + t.count) = omega arith in
          let sum : (s.sum -ℤ v) -ℤ t.sum ≡ s.sum -ℤ (v +ℤ t.sum) = omega (arith, ints) in
          λ i. Some (record { count = count i; sum = sum i; least = s.least; greatest = s.greatest });
    }

-- the first of some values that may come or go
pub first_of : (change : Change) (there : Option Summary) (v : ℤ) (lot : Option Summary) → SFits w64 v
    → Admits change there (Some (of_value v) ⊕ lot) → IsFirst change there v lot
first_of by.Append there v lot f a = first_new there v lot f a
first_of by.Retract there v lot f a = first_less there v lot f a

-- ---- some values, and then others

-- two lots, one after the other, are as both together
abbrev Together : Change → Option Summary → Option Summary → Option Summary → Type 0
Together change there some more = (Admits change there (some ⊕ more))
    × (changed_by change (changed_by change there some) more ≡ changed_by change there (some ⊕ more))

-- so it is of values that come
new_together : (there some more : Option Summary) → AdmitsNew there some → AdmitsNew (there ⊕ some) more
    → Together by.Append there some more
new_together None None more a b = (b, refl)
new_together None (Some t) None a b = (a, refl)
new_together None (Some t) (Some u) a b = (b.0, refl)
new_together (Some s) None more a b = (b, refl)
new_together (Some s) (Some t) None a b = (a, refl)
new_together (Some s) (Some t) (Some u) a b = let n = b.0 in ((omega arith, a.1), ap Some (joined_assoc s t u))

-- what is below both is below the lesser
least_of : (x a b : ℤ) → x <ℤ a → x <ℤ b → x <ℤ int_min a b
least_of x a b l m = grind (arith, ints)

-- what is above both is above the greater
greatest_of : (x a b : ℤ) → a <ℤ x → b <ℤ x → int_max a b <ℤ x
greatest_of x a b l m = grind (arith, ints)

-- so it is of values that go
less_together : (there some more : Option Summary) → AdmitsLess there some
    → AdmitsLess (changed_by by.Retract there some) more → Together by.Retract there some more
less_together None None None a b = (tt, refl)
less_together None None (Some u) a b = absurd b
less_together None (Some t) more a b = absurd a
less_together (Some s) None more a b = (b, refl)
less_together (Some s) (Some t) None a b = (a, refl)
less_together (Some s) (Some t) (Some u) a b =
    let n = a.count in let m = b.count in (
      record {
        least = least_of s.least t.least u.least a.least b.least;
        greatest = greatest_of s.greatest t.greatest u.greatest a.greatest b.greatest;
        count = omega arith;
        room = a.room;
      },
      (let count : (s.count - t.count) - u.count ≡ s.count - (t.count + u.count) = omega arith in
          let sum : (s.sum -ℤ t.sum) -ℤ u.sum ≡ s.sum -ℤ (t.sum +ℤ u.sum) = omega (arith, ints) in
          λ i. Some (record { count = count i; sum = sum i; least = s.least; greatest = s.greatest })),
    )

-- so it is of values that come or go
pub together : (change : Change) (there some more : Option Summary) → Admits change there some
    → Admits change (changed_by change there some) more → Together change there some more
together by.Append there some more a b = new_together there some more a b
together by.Retract there some more a b = less_together there some more a b
