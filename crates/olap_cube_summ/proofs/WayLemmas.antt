-- The pattern of a frozen dimension, source by source.
use Rattle.std.proofs.Common.{◌≡◌, ◌≢◌, ℕ, suc, ◌+◌, ◌*◌, ◌%◌, ◌<◌, ◌≤◌, ◌^◌, ◌↔◌, List, Bool, length, get_or, refl, ap, sym, subst, ◌∙◌, inl, inr, arith}
use Rattle.std.proofs.{Math.Nat.pow-succ', Math.Pow.pow_mono, lemmas.List.get_or-map}
use Rattle.std.proofs.lemmas.Nat.Bits.{bit_at-lt, bit_at_above, bit_at_or, bit_at-pow_other, bit_at-pow_same}
use Rattle.std.specs.{Int.bit_at, Int.Bits.{bit_or, or_add_and}, Prelude.{IsTrue, slice_index}}
use Rattle.olap_ast.{proofs.SameAtoms.{candidates_too, frozen_too}, specs.Formula.{Formula.Reach, Formula.Via}}
use Rattle.olap_ast.specs.{Frozen.{AreCandidates, IsFrozen}, Schema.Schema, Trees.numbers_of}
use Rattle.olap_base.{proofs.GeneralLemmas.below_or_same, specs.Instance.{Instance, IsMemberOf, ReachesVia}}
use Rattle.olap_base.specs.declared.ids.CatId.{CatId}
use Rattle.olap_cube_summ.{proofs.SearchLemmas.at_root, specs.Found.chosen_of, specs.Masks.Has}
use Rattle.olap_cube_summ.specs.{Patterns.{IsFoundFor, shape_of}, Ways.HasWaysTo}
use Rattle.olap_frozen.specs.{LeastFound.frozen_of, declared.founding.Found.Found}
use Rattle.olap_names.specs.Names.{candidates_of}

module _ (s : Schema) (c : ℕ) (found : Found) (serves : IsFoundFor s c found) where
  -- the question by way of a source has the same names
  pub candidates_for : (d : ℕ) → AreCandidates s (Via d c) (candidates_of found.candidates)
  candidates_for d =
      candidates_too s (Reach c) (Via d c) refl refl (candidates_of found.candidates) serves.chosen.candidates

  -- it is a frozen dimension for it exactly if its root reaches the target by way of the source
  pub way_is : (d x : ℕ) → IsMemberOf (shape_of s (chosen_of found)) found.frozen.root.0 x
      → IsFrozen s (Via d c) found.frozen.root.0 (candidates_of found.candidates) (frozen_of found.frozen)
      ↔ ReachesVia (shape_of s (chosen_of found)) x d c
  way_is d x m = (
    λ t. at_root s (Via d c) found.frozen.root.0 (candidates_of found.candidates) (frozen_of found.frozen) t
        (λ y. ReachesVia (shape_of s (chosen_of found)) y d c) t.stands_for.true_at_root x m,
    λ v. frozen_too s (Reach c) (Via d c) refl refl found.frozen.root.0 (candidates_of found.candidates)
        (frozen_of found.frozen) serves.chosen.is_one (back v),
  )
    where
      back : ReachesVia (shape_of s (chosen_of found)) x d c
          → ReachesVia (shape_of s (chosen_of found)) serves.chosen.is_one.stands_for.root d c
      back v = let z = serves.chosen.is_one.stands_for in
          rw (z.one_each x z.root m.0 z.root_is.0 (m.1 ∙ sym z.root_is.1)) at v

-- ---- one source more

-- a bit put into a mask
module _ (m k b : ℕ) (bit : b ≡ 2 ^ k) where
  put_same : Has (bit_or m b) k
  put_same = let e = bit_at_or m b k in let f : bit_at b k ≡ 1 = ap (λ w. bit_at w k) bit ∙ bit_at-pow_same k in
      let l = bit_at-lt m k in omega arith

  put_other : (j : ℕ) → j ≢ k → Has (bit_or m b) j ↔ Has m j
  put_other j n = let e = bit_at_or m b j in
      let f : bit_at b j ≡ 0 = ap (λ w. bit_at w j) bit ∙ bit_at-pow_other k j n in
      (λ h. omega arith, λ h. omega arith)

module _ (i : Instance) (x c : ℕ) (column : List ℕ) (k m : ℕ) (small : m < 2 ^ k)
    (before : HasWaysTo k i x c column m) where
  pub way_put : (b : ℕ) → b ≡ 2 ^ k → ReachesVia i x (slice_index column k) c
      → HasWaysTo (k + 1) i x c column (bit_or m b)
  way_put b bit way j l = elim (below_or_same j k (omega arith)) [
    | inl h ↦ let o = put_other m k b bit j (omega arith) in let t = before j h in
        (λ y. t.0 (o.0 y), λ y. o.1 (t.1 y))
    | inr e ↦ (λ y. rw e way, λ y. rw e (put_same m k b bit))
  ]

  pub way_passed : (ReachesVia i x (slice_index column k) c → ⊥) → HasWaysTo (k + 1) i x c column m
  way_passed none j l = elim (below_or_same j k (omega arith)) [
    | inl h ↦ before j h
    | inr e ↦ (
      λ y. absurd (let z = bit_at_above m k j small (omega arith) in omega arith),
      λ y. absurd (none (rw e at y)),
    )
  ]

-- the bit of a source
pub bit_is : (k : ℕ) → k < 8 → (1 * 2 ^ k) % 65536 ≡ 2 ^ k
bit_is k l = let p : 2 ^ k ≤ 2 ^ 8 = pow_mono (let z : k ≤ 8 = omega arith in z) in omega (arith, p)

-- with it a mask has one bit more at most
pub put_small : (m k b : ℕ) → m < 2 ^ k → b ≡ 2 ^ k → bit_or m b < 2 ^ (k + 1)
put_small m k b l e = let s = or_add_and m b in let p = pow-succ' 2 k in
    let z : suc k ≡ k + 1 = omega arith in
    subst (λ w. bit_or m b < 2 ^ w) z (omega (arith, s, p))

-- the source at a place
pub way_at : (sources items : List CatId) → items ≡ sources → (k : ℕ) (d : CatId) → k < length sources → (b : Bool)
    (i : Instance) (x c : ℕ) → IsTrue b ↔ ReachesVia i x (get_or items k d).0 c
    → IsTrue b ↔ ReachesVia i x (slice_index (numbers_of sources) k) c
way_at sources items e k d l b i x c told = subst (λ w. IsTrue b ↔ ReachesVia i x w c)
    (ap (λ (w : List CatId). (get_or w k d).0) e ∙ sym (get_or-map (λ (y : CatId). y.0) sources k d 0 l)) told

-- what fits k bits fits one bit more
pub more_room : (m k : ℕ) → m < 2 ^ k → m < 2 ^ (k + 1)
more_room m k l = let p : 2 ^ k ≤ 2 ^ (k + 1) = pow_mono (let z : k ≤ k + 1 = omega arith in z) in omega arith
