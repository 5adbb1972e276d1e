-- What is in a set after a number is taken out, in what two sets share, and in a set that grew.
use Rattle.std.proofs.Common.{◌≡◌, ◌≢◌, ℕ, ◌⊎◌, ◌↔◌, Bool, true, false, not, refl, ap, sym, subst, ◌∙◌, inl, inr, eq-eqb}
use Rattle.std.{proofs.lemmas.Bool.{and_from, ne_eqb}, specs.Cmp.nat_cmp_total}
use Rattle.std.specs.FinSet.{FinSet, empty, intersection, remove, union, contains-empty, contains-intersection}
use Rattle.std.specs.{Ordering.nat_cmp, Prelude.{IfSome, IsNone, IsTrue, None, Option, Some, is_some}}
use Rattle.olap_base.proofs.ListLemmas.{first_true, second_true}
use Rattle.olap_bits.{proofs.CatSetLemmas.in_remove, specs.CatSet.IsLeast}
use Rattle.olap_graph.proofs.RowLemmas.{has_union}
use Rattle.olap_trail.specs.Drawing.{IsGrown, IsIn}

-- nothing is in the empty set
pub not_in_empty : (q : ℕ) → IsIn empty q → ⊥
not_in_empty q e = let u : false ≡ true = sym (contains-empty nat_cmp q) ∙ e in cc

-- in a set without k is what was in it, but k
pub in_without : (s : FinSet nat_cmp) (k q : ℕ) → IsIn (remove s k) q ↔ ((k ≢ q) × IsIn s q)
in_without s k q = (
  λ e. (
    λ h.
        let t = first_true _ _ (sym (in_remove s k q) ∙ e) in
        let u : false ≡ true = sym (ap not (eq-eqb q k (sym h))) ∙ t in
        cc,
    second_true _ _ (sym (in_remove s k q) ∙ e),
  ),
  λ t. let u = ne_eqb q k (λ h. t.0 (sym h)) in in_remove s k q ∙ and_from _ _ (ap not u) t.1,
)

-- in the common part is what is in both
pub in_meet : (s t : FinSet nat_cmp) (q : ℕ) → IsIn (intersection s t) q ↔ (IsIn s q × IsIn t q)
in_meet s t q = (
  λ e. let h = sym (contains-intersection nat_cmp_total s t q) ∙ e in (first_true _ _ h, second_true _ _ h),
  λ o. contains-intersection nat_cmp_total s t q ∙ and_from _ _ o.0 o.1,
)

-- where x leads to the new edge's child, its set grows by what is above the parent
pub grown_union : (old through new : FinSet nat_cmp) (x c : ℕ) → new ≡ union old through → (x ≡ c) ⊎ IsIn old c
    → IsGrown old x c through new
grown_union old through new x c e leads d =
    subst (λ s. IsIn s d ↔ (IsIn old d ⊎ (((x ≡ c) ⊎ IsIn old c) × IsIn through d))) (sym e) (
      λ m. elim ((has_union old through d).0 m) [ inl a ↦ inl a | inr b ↦ inr (leads, b) ],
      λ o. (has_union old through d).1 (elim o [ inl a ↦ inl a | inr t ↦ inr t.1 ]),
    )

-- the least number that is in both sets is there exactly if some number is
pub meets_is : (l r m : FinSet nat_cmp) (o : Option ℕ) (b : Bool) → m ≡ intersection l r → IsNone o ↔ (m ≡ empty)
    → IfSome o (IsLeast m) → b ≡ is_some o → IsTrue b ↔ ((d : ℕ) × IsIn l d × IsIn r d)
meets_is l r m None b e none some q = (
  λ t. absurd (let u : false ≡ true = sym q ∙ t in cc),
  λ t. absurd (not_in_empty t.0 (subst (λ s. IsIn s t.0) (sym e ∙ none.0 refl) ((in_meet l r t.0).1 (t.1, t.2)))),
)
meets_is l r m (Some n) b e none some q = (
  λ t. let h = (in_meet l r n).0 (subst (λ s. IsIn s n) e some.is_one) in (n, h.0, h.1),
  λ t. q,
)
