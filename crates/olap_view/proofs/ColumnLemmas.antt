-- Columns, member by member and category by category.
use Rattle.std.proofs.Common.{◌≡◌, ◌≢◌, ℕ, ◌+◌, ◌<◌, List, [], ◌∷◌, ◌++◌, length, get_or, refl, ap, sym, subst, ◌∙◌, arith, length-append}
use Rattle.std.proofs.Math.{ListN.get_or-append, Seq.get_or-append_seam}
use Rattle.olap_base.specs.Instance.{Instance}
use Rattle.olap_view.specs.Columns.{AreColumns, Ascent, IsTold, Tells, ascent}
use native.Mathlib.Decide.{ℕ_discrete}

-- no cell
pub told_start : (i : Instance) (c : ℕ) → IsTold i c 0 []
told_start i c = record { size = refl; each = λ x h. absurd (omega (arith, h)) }

-- one cell more
pub told_more : (i : Instance) (c n : ℕ) (cells : List ℕ) (cell : ℕ) → IsTold i c n cells → Tells i c n cell
    → IsTold i c (n + 1) (cells ++ cell ∷ [])
told_more i c n cells cell t s = record {
  size = let z = t.size in omega (arith, length-append cells (cell ∷ []));
  each = λ x h. elim (ℕ_discrete x n) [
    | yes e ↦
        let at : get_or (cells ++ cell ∷ []) x 0 ≡ cell =
        ap (λ k. get_or (cells ++ cell ∷ []) k 0) (e ∙ sym t.size) ∙ get_or-append_seam cells cell [] 0 in
        subst (λ k. Tells i c k (get_or (cells ++ cell ∷ []) x 0)) (sym e) (subst (Tells i c n) (sym at) s)
    | no m ↦
        let other : x ≢ n = m in
        let inside : x < length cells = let z = t.size in omega arith in
        subst (Tells i c x) (sym (get_or-append cells (cell ∷ []) 0 x inside)) (t.each x (omega (arith, h)))
  ];
}

-- no column
pub columns_start : (i : Instance) → AreColumns i [] []
columns_start i = record { size = refl; each = λ k d h. absurd (omega (arith, h)) }

-- one column more
pub columns_more : (i : Instance) (cs : List ℕ) (columns : List Ascent) (c : ℕ) → AreColumns i cs columns
    → AreColumns i (cs ++ c ∷ []) (columns ++ ascent i c ∷ [])
columns_more i cs columns c t = record {
  size = let z = t.size in omega (arith, length-append columns (ascent i c ∷ []), length-append cs (c ∷ []));
  each = λ k d h. elim (ℕ_discrete k (length cs)) [
    | yes e ↦
        ap (λ j. get_or (columns ++ ascent i c ∷ []) j d) (e ∙ sym t.size)
        ∙ get_or-append_seam columns (ascent i c) [] d
        ∙ ap (ascent i) (sym (ap (λ j. get_or (cs ++ c ∷ []) j 0) e ∙ get_or-append_seam cs c [] 0))
    | no m ↦
        let other : k ≢ length cs = m in
        let size = length-append cs (c ∷ []) in
        let inside : k < length cs = omega (arith, h) in
        let here : k < length columns = let z = t.size in omega arith in
        get_or-append columns (ascent i c ∷ []) d k here ∙ t.each k d inside
        ∙ ap (ascent i) (sym (get_or-append cs (c ∷ []) 0 k inside))
  ];
}
