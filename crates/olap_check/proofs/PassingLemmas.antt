-- What the table says of a member that is far below another.
use Rattle.std.proofs.Common.{◌≡◌, ◌≢◌, ℕ, ◌+◌, ◌<◌, ◌≤◌, length, get_or, false, ap, sym, subst, ◌∙◌, ◌↔◌, inl, inr, arith, eqb-true, eq-eqb, below_more}
use Rattle.std.proofs.lemmas.List.{get_or_default, Elements.Contains-get_or}
use Rattle.std.specs.Prelude.{Contains, IsTrue, nat_eq}
use Rattle.olap_base.specs.Instance.{Instance, IsFarBelow, IsMemberOf, Reaches, category_of, parents_of}
use Rattle.olap_base.specs.declared.ids.MemberId.{MemberId}
use Rattle.olap_legal.{proofs.ParentLemmas.IsParentAt, proofs.TableLemmas.row_is_whole, specs.Rows.IsBounded}
use Rattle.olap_legal.specs.{Tables.IsTable, declared.tables.Table.Table}
use Rattle.olap_check.specs.Passing.{IsStratified, IsPassedBy, IsFirstPassed, HasNoneAt}
use native.Mathlib.Decide.{ℕ_discrete}

-- a member is not far below itself
pub far_same : (i : Instance) (z y : ℕ) → IsStratified i → z ≡ y → IsTrue false ↔ IsFarBelow i z y
far_same i z y s e = (λ t. absurd (cc), λ f. absurd (s z y f (ap (category_of i) e)))

-- a member is far below the one of the category that it reaches
pub far_some : (i : Instance) (n z y a : ℕ) (table : Table) → IsBounded i n → IsTable i n (length i) table
    → z < length i → z ≢ y
    → IsMemberOf i (category_of i y) a × Reaches i z a → IsTrue (nat_eq a y) ↔ IsFarBelow i z y
far_some i n z y a table made t h apart m = (to, from)
  where
    to : IsTrue (nat_eq a y) → IsFarBelow i z y
    to e = let same : a ≡ y = eqb-true a y e in
        elim (subst (λ w. Reaches i z w) same m.1) [ inl q ↦ absurd (apart q) | inr f ↦ f ]

    from : IsFarBelow i z y → IsTrue (nat_eq a y)
    from f = elim (ℕ_discrete a y) [
      | yes e ↦ eq-eqb a y e
      | no d ↦
          absurd (row_is_whole i n (length i) table made t z h h
          (record {
            one = a;
            other = y;
            reaches_one = m.1;
            reaches_other = inr f;
            same_category = m.0.1;
            apart = d;
          }))
    ]

-- ---- the parents in order

-- no parent before place k is far below y
abbrev pub NoneBelowBefore : Instance → ℕ → ℕ → ℕ → Type 0
NoneBelowBefore i x y k = (j : ℕ) → j < k → IsFarBelow i (get_or (parents_of i x) j 0) y → ⊥

-- one more parent is not far below y
pub none_below_more : {i : Instance} {x k : ℕ} {m : MemberId} → IsParentAt i x k m → (y : ℕ) → NoneBelowBefore i x y k
    → (IsFarBelow i m.0 y → ⊥) → NoneBelowBefore i x y (k + 1)
none_below_more {i} {x} {k} at y below n =
    let P : ℕ → Type 0 = λ j. IsFarBelow i (get_or (parents_of i x) j 0) y → ⊥ in
    below_more P k below (λ f. n (subst (λ z. IsFarBelow i z y) (sym at.is) f))

-- a parent far below y passes it
pub passed_by : {i : Instance} {x k : ℕ} {m : MemberId} → IsParentAt i x k m → (y : ℕ) → IsFarBelow i m.0 y
    → IsPassedBy i x y
passed_by {i} {x} {k} at y f =
    (get_or (parents_of i x) k 0, Contains-get_or (parents_of i x) k 0 at.inside, subst (λ z. IsFarBelow i z y) at.is f)

-- no parent passes y
pub none_passed : (i : Instance) (x y n : ℕ) → length (parents_of i x) ≤ n → NoneBelowBefore i x y n
    → IsTrue false ↔ IsPassedBy i x y
none_passed i x y n h none = (λ t. absurd (cc), λ p. absurd (go p.0 p.1 p.2))
  where
    go : (z : ℕ) → Contains (parents_of i x) z → IsFarBelow i z y → ⊥
    go z c f =
        let e = get_or_default (parents_of i x) c.0 0 z c.1 ∙ c.2 in
        none c.0 (omega (arith, c.1, h)) (subst (λ w. IsFarBelow i w y) (sym e) f)

-- no parent before place k is passed
abbrev pub NonePassedBefore : Instance → ℕ → ℕ → Type 0
NonePassedBefore i x k = (j : ℕ) → j < k → IsPassedBy i x (get_or (parents_of i x) j 0) → ⊥

-- the first parent that is passed
pub first_passed : {i : Instance} {x k : ℕ} {m : MemberId} → IsParentAt i x k m → IsPassedBy i x m.0
    → NonePassedBefore i x k → IsFirstPassed i x k
first_passed {i} {x} at p b =
    record { inside = at.inside; passed = subst (λ y. IsPassedBy i x y) at.is p; before = b }

-- one more parent is not passed
pub passed_more : {i : Instance} {x k : ℕ} {m : MemberId} → IsParentAt i x k m → NonePassedBefore i x k
    → (IsPassedBy i x m.0 → ⊥) → NonePassedBefore i x (k + 1)
passed_more {i} {x} {k} at below n =
    let P : ℕ → Type 0 = λ j. IsPassedBy i x (get_or (parents_of i x) j 0) → ⊥ in
    below_more P k below (λ p. n (subst (λ y. IsPassedBy i x y) (sym at.is) p))

-- no parent is passed
pub none_at : (i : Instance) (x n : ℕ) → length (parents_of i x) ≤ n → NonePassedBefore i x n → HasNoneAt i x
none_at i x n h b k l = b k (omega (arith, l))

-- one more member has none passed
pub none_more : (i : Instance) (x : ℕ) → ((w : ℕ) → w < x → HasNoneAt i w) → HasNoneAt i x → (w : ℕ) → w < x + 1
    → HasNoneAt i w
none_more i x below at = let P : ℕ → Type 0 = λ w. HasNoneAt i w in below_more P x below at
