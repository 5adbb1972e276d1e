-- The sets of one number of edges, copied after themselves and grown by the next edge.
use Rattle.std.proofs.Common.{◌≡◌, ℕ, ◌+◌, ◌*◌, ◌<◌, ◌≤◌, List, length, set, ap, sym, subst, ◌∙◌, inl, inr, arith}
use Rattle.std.{proofs.Math.ListN.length-set, proofs.Math.Nat.mul-le-mul_right, specs.FinSet.FinSet}
use Rattle.std.specs.Ordering.{nat_cmp}
use Rattle.olap_bits.specs.{Sets.members, declared.sets.CatSet.CatSet}
use Rattle.olap_graph.{proofs.RowLemmas.{row_other, row_same, newest}, specs.Rows.row}
use Rattle.olap_trail.specs.Drawing.{IsGrown}

-- the sets of the first categories are copied and grown
pub record AreCopied {W : ℕ} (old new : List (CatSet W)) (place count c : ℕ) (through : FinSet nat_cmp) (k : ℕ)
    : Type 0 where
  pub same_length : length new ≡ length old
  pub kept : (i : ℕ) → i < place + count → row new i ≡ row old i
  pub grown : (x : ℕ) → x < k → IsGrown (row old (place + x)) x c through (row new (place + count + x))

-- one set more is copied and grown
pub copied_more : {W : ℕ} (old new : List (CatSet W)) (place count c k i : ℕ) (through : FinSet nat_cmp) (r : CatSet W)
    → AreCopied old new place count c through k → k < count → place + count + count ≤ length old
    → i ≡ place + count + k → IsGrown (row new (place + k)) k c through (members r)
    → AreCopied old (set new i r) place count c through (k + 1)
copied_more {W} old new place count c k i through r a h room e g = record {
  same_length = length-set new i r ∙ a.same_length;
  kept = λ j l. row_other new i j r (omega (arith, l, e)) ∙ a.kept j l;
  grown = λ x l. elim (newest x k l) [
    | inl t ↦
        subst (λ s. IsGrown (row old (place + x)) x c through s)
        (sym (row_other new i (place + count + x) r (omega (arith, t.1, e)))) (a.grown x t.1)
    | inr q ↦
        let n = a.same_length in
        let inside : i < length new = omega arith in
        let same : row (set new i r) (place + count + x) ≡ members r =
        ap (row (set new i r)) (ap (λ y. place + count + y) q ∙ sym e) ∙ row_same new i r inside in
        let kept = a.kept (place + k) (omega arith) in
        subst (λ s. IsGrown (row old (place + x)) x c through s) (sym same)
        (subst (λ y. IsGrown (row old (place + y)) y c through (members r)) (sym q)
        (subst (λ s. IsGrown s k c through (members r)) kept g))
  ];
}

-- where the sets of one number of edges end
pub stage_end : (k m n : ℕ) → k < m → k * n + n ≤ m * n
stage_end k m n h = let t : (k + 1) * n ≤ m * n = mul-le-mul_right n (omega (arith, h)) in
    let e : (k + 1) * n ≡ k * n + n = grind arith in omega (arith, t, e)
