-- A step at a row that may be stored.
--     lot_small, lot_storable             a lot of values alone
use Rattle.std.proofs.Common.{◌≡◌, ◌≢◌, ◌+◌, ◌-◌, ◌≤◌, true, subst, ℤ, ◌+ℤ◌, ◌-ℤ◌, Option, Some, IfSome, w64, arith}
use Rattle.std.{proofs.lemmas.Int.ints, specs.Option.option_map, specs.Prelude.int_lt}
use Rattle.olap_base.{proofs.GeneralLemmas.either_fits, specs.Limits.most_count}
use Rattle.olap_base.specs.Summaries.{Summary, joined, of_value}
use Rattle.olap_view.{proofs.ReadStoreLemmas.is-sum-fits, specs.Bounds.{IsJoinable, IsOfValues}, specs.Seen.summary_of}
use Rattle.olap_view.specs.StoredNumbers.{is_sum}
use Rattle.olap_delta.specs.{Changes.without, Changing.IsStorable, Joining.{HasRoom, less}}
use mir.Val.{SFits}
use Rattle.olap_view.specs.declared.summaries.Summary as told

-- the row that is there may be stored, as what stands there may
pub kept : (there : Option told.Summary) (row : told.Summary) → there ≡ Some row
    → IfSome (option_map summary_of there) IsStorable → IsStorable (summary_of row)
kept there row e h = subst (λ (o : Option told.Summary). IfSome (option_map summary_of o) IsStorable) e h

-- what may be stored is so small that no sum with it wraps
pub small : (s : Summary) → IsStorable s → IsJoinable s
small s q = let a = (q 0).few in let b = (q 0).sum_from in let c = (q 0).sum_to in record {
  count = omega arith;
  sum_from = omega (arith, ints);
  sum_to = omega (arith, ints);
}

-- a row that isn't full may be stored with one value more, where its sum is within the bounds
pub joined_storable : (s : Summary) (v : ℤ) → s.count ≢ most_count → SFits w64 v → is_sum (s.sum +ℤ v) ≡ true
    → IsStorable s → IsStorable (joined s (of_value v))
joined_storable s v n f e q = λ y. let few = (q y).few in let b = is-sum-fits (s.sum +ℤ v) e in record {
  some = omega arith;
  few = omega arith;
  sum_from = b.0;
  sum_to = b.1;
  least = either_fits (int_lt v s.least) v s.least f (q y).least;
  greatest = either_fits (int_lt v s.greatest) s.greatest v (q y).greatest f;
}

-- so may a row of three values or more, without one of them
pub without_storable : (s : Summary) (v : ℤ) → 3 ≤ s.count → is_sum (s.sum -ℤ v) ≡ true → IsStorable s
    → IsStorable (without s v)
without_storable s v h e q = λ y. let few = (q y).few in let b = is-sum-fits (s.sum -ℤ v) e in record {
  some = omega arith;
  few = omega arith;
  sum_from = b.0;
  sum_to = b.1;
  least = (q y).least;
  greatest = (q y).greatest;
}

-- ---- a lot of values

-- so may a row with a lot for which it has room
pub lot_joined_storable : (s t : Summary) → IsStorable s → IsOfValues t.count t → s.count + t.count ≤ most_count
    → HasRoom (most_count - s.count) s → IsStorable (joined s t)
lot_joined_storable s t p q h r = λ y.
    let a = q.up_to.sum_from in let b = q.up_to.sum_to in let low = r.low in let high = r.high in
    let some = (p y).some in
    record {
      some = omega arith;
      few = h;
      sum_from = omega (arith, ints);
      sum_to = omega (arith, ints);
      least = either_fits (int_lt t.least s.least) t.least s.least q.least (p y).least;
      greatest = either_fits (int_lt t.greatest s.greatest) s.greatest t.greatest (p y).greatest q.greatest;
    }

-- so may a row without a lot, of which two values are left at least
pub lot_less_storable : (s t : Summary) → IsStorable s → IsOfValues t.count t → t.count + 2 ≤ s.count
    → HasRoom s.count s → IsStorable (less s t)
lot_less_storable s t p q h r = λ y.
    let a = q.up_to.sum_from in let b = q.up_to.sum_to in let low = r.low in let high = r.high in
    let few = (p y).few in
    record {
      some = omega arith;
      few = omega arith;
      sum_from = omega (arith, ints);
      sum_to = omega (arith, ints);
      least = (p y).least;
      greatest = (p y).greatest;
    }
