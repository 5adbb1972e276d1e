-- What formulas about ways say.
use Rattle.std.proofs.Common.{◌≡◌, ◌≢◌, ℕ, ◌+◌, ◌<◌, ◌⊎◌, ◌++◌, List, [], Bool, true, false, eqb, length, refl, ap, sym, subst, ◌∙◌, inl, inr, arith}
use Rattle.std.{proofs.lemmas.Bool.{cases_eq, eq-eqb, ne_eqb}, specs.Int.bit_at, specs.Prelude.slice_index}
use Rattle.olap_ast.specs.Atoms.{comparisons, equalities}
use Rattle.olap_ast.specs.Formula.{Formula, Formula.Truth, Formula.Falsity, Formula.Not, Formula.And, Formula.Or, Formula.Reach}
use Rattle.olap_base.{proofs.GeneralLemmas.below_or_same, specs.Instance.Instance}
use Rattle.olap_bits.specs.declared.sets.CatSet.{CatSet}
use Rattle.olap_cube_summ.specs.Masks.{Has, IsIn}
use Rattle.olap_cube_summ.specs.Ways.{HasWays, HasWaysIn, HasWaysTo, IsAboutWays, IsInside, IsOutside, way_of}

-- two empty lists together are empty
nothing_joined : {A : Type 0} (xs ys : List A) → xs ≡ [] → ys ≡ [] → xs ++ ys ≡ []
nothing_joined xs ys e f = (λ i. e i ++ f i)

module _ (c : ℕ) (column : List ℕ) where
  -- no source
  pub no_ways : (p : ℕ) → IsAboutWays c column (λ i x. HasWaysTo 0 i x c column p) Truth
  no_ways p = record {
    free = refl;
    numberless = refl;
    at = λ g b t a. tt;
    means = λ i x. (λ h k l. absurd (omega arith), λ h. tt);
  }

  -- one source more
  next_way : (p k : ℕ) → k < length column → (f : Formula) (b : Bool) → (eqb (bit_at p k) 1) ≡ b
      → IsAboutWays c column (λ i x. HasWaysTo k i x c column p) f
      → IsAboutWays c column (λ i x. HasWaysTo (k + 1) i x c column p) (And f (way_of c (slice_index column k) b))
  next_way p k l f true e a = record {
    free = nothing_joined (equalities f) [] a.free refl;
    numberless = nothing_joined (comparisons f) [] a.numberless refl;
    at = λ g b t all. (a.at g b t all, (all k 0 l, t));
    means = λ i x. (
      λ h j m. elim (below_or_same j k m) [
        | inl n ↦ (a.means i x).0 h.0 j n
        | inr q ↦ rw q (λ y. h.1, λ y. is_one (cases_eq (bit_at p k) 1))
      ],
      λ h. ((a.means i x).1 (λ j m. h j (omega arith)), (h k (omega arith)).0 (is_one (cases_eq (bit_at p k) 1))),
    );
  }
    where
      is_one : (bit_at p k ≡ 1) ⊎ (bit_at p k ≢ 1) → Has p k
      is_one (inl q) = q
      is_one (inr q) = absurd (let z : false ≡ true = sym (ne_eqb (bit_at p k) 1 q) ∙ e in cc)
  next_way p k l f false e a = record {
    free = nothing_joined (equalities f) [] a.free refl;
    numberless = nothing_joined (comparisons f) [] a.numberless refl;
    at = λ g b t all. (a.at g b t all, (all k 0 l, t));
    means = λ i x. (
      λ h j m. elim (below_or_same j k m) [
        | inl n ↦ (a.means i x).0 h.0 j n
        | inr q ↦ rw q (λ y. absurd (not_one y), λ y. absurd (h.1 y))
      ],
      λ h. ((a.means i x).1 (λ j m. h j (omega arith)), λ y. not_one ((h k (omega arith)).1 y)),
    );
  }
    where
      not_one : Has p k → ⊥
      not_one q = let z : true ≡ false = sym (eq-eqb (bit_at p k) 1 q) ∙ e in cc

  pub way_added : (p k n : ℕ) → k + 1 ≡ n → k < length column → (f way : Formula) (s : ℕ) → s ≡ slice_index column k
      → way ≡ way_of c s (eqb (bit_at p k) 1) → IsAboutWays c column (λ i x. HasWaysTo k i x c column p) f
      → IsAboutWays c column (λ i x. HasWaysTo n i x c column p) (And f way)
  way_added p k n next l f way s e w a =
      subst (λ m. IsAboutWays c column (λ i x. HasWaysTo m i x c column p) (And f way)) next
      (rw (ap (λ v. way_of c v (eqb (bit_at p k) 1)) (sym e) ∙ sym w) at (next_way p k l f (eqb (bit_at p k) 1) refl a))

  pub all_sources : (p k : ℕ) → k ≡ length column → (f : Formula)
      → IsAboutWays c column (λ i x. HasWaysTo k i x c column p) f
      → IsAboutWays c column (λ i x. HasWays i x c column p) f
  all_sources p k e f a = subst (λ n. IsAboutWays c column (λ i x. HasWaysTo n i x c column p) f) e a

  module _ (patterns : CatSet 4) where
    -- by one of the patterns below n
    abbrev pub Below : ℕ → Instance → ℕ → Type 0
    Below n i x = (p : ℕ) × (p < n) × IsIn patterns p × HasWays i x c column p

    pub no_pattern : IsAboutWays c column (Below 0) Falsity
    no_pattern = record {
      free = refl;
      numberless = refl;
      at = λ g b t a. tt;
      means = λ i x. (λ h. absurd h, λ h. let l = h.1 in absurd (omega arith));
    }

    pub pattern_added : (n : ℕ) → IsIn patterns n → (f next : Formula) → IsAboutWays c column (Below n) f
        → IsAboutWays c column (λ i x. HasWays i x c column n) next → IsAboutWays c column (Below (n + 1)) (Or f next)
    pattern_added n h f next a b = record {
      free = nothing_joined (equalities f) (equalities next) a.free b.free;
      numberless = nothing_joined (comparisons f) (comparisons next) a.numberless b.numberless;
      at = λ g r t all. (a.at g r t all, b.at g r t all);
      means = λ i x. (
        λ y. elim y [
          | inl z ↦ let t = (a.means i x).0 z in (t.0, (let l = t.1 in omega arith), t.2, t.3)
          | inr z ↦ (n, omega arith, h, (b.means i x).0 z)
        ],
        λ t. elim (below_or_same t.0 n t.1) [
          | inl l ↦ inl ((a.means i x).1 (t.0, l, t.2, t.3))
          | inr q ↦ inr ((b.means i x).1 (subst (λ w. HasWays i x c column w) q t.3))
        ],
      );
    }

    pub pattern_passed : (n : ℕ) → (IsIn patterns n → ⊥) → (f : Formula) → IsAboutWays c column (Below n) f
        → IsAboutWays c column (Below (n + 1)) f
    pattern_passed n out f a = record {
      free = a.free;
      numberless = a.numberless;
      at = a.at;
      means = λ i x. (
        λ y. let t = (a.means i x).0 y in (t.0, (let l = t.1 in omega arith), t.2, t.3),
        λ t. (a.means i x).1 (elim (below_or_same t.0 n t.1) [
          | inl l ↦ (t.0, l, t.2, t.3)
          | inr q ↦ absurd (out (subst (λ w. IsIn patterns w) q t.2))
        ]),
      );
    }

    pub all_below : (n : ℕ) → (n ≡ 256) → (f : Formula) → IsAboutWays c column (Below n) f
        → IsAboutWays c column (λ i x. HasWaysIn i x c column patterns) f
    all_below n e f a = record {
      free = a.free;
      numberless = a.numberless;
      at = a.at;
      means = λ i x. (
        λ y. let t = (a.means i x).0 y in (t.0, t.2, t.3),
        λ t. (a.means i x).1 (t.0, (let l = t.1.0 in omega arith), t.1, t.2),
      );
    }

    pub is_inside : (f : Formula) → IsAboutWays c column (λ i x. HasWaysIn i x c column patterns) f
        → IsAboutWays c column (IsInside c column patterns) (And (Reach c) f)
    is_inside f a = record {
      free = a.free;
      numberless = a.numberless;
      at = λ g b t all. (t, a.at g b t all);
      means = λ i x. (λ h. (h.0, (a.means i x).0 h.1), λ h. (h.0, (a.means i x).1 h.1));
    }

    pub is_outside : (f : Formula) → IsAboutWays c column (λ i x. HasWaysIn i x c column patterns) f
        → IsAboutWays c column (IsOutside c column patterns) (And (Reach c) (Not f))
    is_outside f a = record {
      free = a.free;
      numberless = a.numberless;
      at = λ g b t all. (t, a.at g b t all);
      means = λ i x. (
        λ h. (h.0, λ w. h.1 ((a.means i x).1 w)),
        λ h. (h.0, λ w. h.1 ((a.means i x).0 w)),
      );
    }
