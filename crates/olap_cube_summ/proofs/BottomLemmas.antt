-- The families of bottom categories, pattern by pattern and category by category.
use Rattle.std.proofs.Common.{◌≡◌, ℕ, ◌+◌, ◌<◌, ◌≤◌, ◌++◌, List, [], ◌∷◌, Bool, true, false, ◌||◌, not, eqb, get_or, refl, ap, sym, subst, ◌∙◌, inl, inr, arith}
use Rattle.std.proofs.lemmas.Bool.{eq-eqb, or_left}
use Rattle.std.proofs.lemmas.List.Elements.{All-contains_itself, Contains-append_left, Contains-push, Contains-push_cases}
use Rattle.std.{proofs.lemmas.List.Quantifiers.all_pairs_push, specs.List.range_with_len, specs.Prelude.Contains}
use Rattle.olap_ast.specs.Schema.{Schema}
use Rattle.olap_base.proofs.{GeneralLemmas.below_or_same, ListLemmas.Contains-range}
use Rattle.olap_base.specs.Graph.{IsBottom, category_count}
use Rattle.olap_bits.{proofs.CatSetLemmas.in_insert, specs.Sets.members, specs.declared.sets.CatSet.CatSet}
use Rattle.olap_cube_summ.{proofs.BelowLemmas.{count, fewer}, proofs.MaskLemmas.in_with, specs.Families.IsOrdered}
use Rattle.olap_cube_summ.specs.{Masks.IsIn, Patterns.{AreFamilies, IsFamily}, declared.families.Family.Family}
use Rattle.olap_cube_summ.specs.declared.questions.Question.{Question}
use Rattle.std.specs.FinSet as set

-- ---- patterns

-- how many masks aren't in the set
pub left_out : CatSet 4 → ℕ
left_out patterns = count (λ p. not (set.contains (members patterns) p)) (range_with_len 0 256)

module _ (old new : CatSet 4) (p : ℕ) (small : p < 256) (put : members new ≡ set.insert (members old) p) where
  -- what holds of the patterns, and of the one put in
  pub each_with : (P : ℕ → Type 0) → P p → ((r : ℕ) → IsIn old r → P r) → (r : ℕ) → IsIn new r → P r
  each_with P h f r i = elim ((in_with old new p small put r).0 i) [ inl e ↦ subst P (sym e) h | inr o ↦ f r o ]

  has_new : (r : ℕ) → set.contains (members new) r ≡ (eqb r p || set.contains (members old) r)
  has_new r = ap (λ w. set.contains w r) put ∙ in_insert (members old) p r

  stays_out : (a b : Bool) → not (a || b) ≡ true → not b ≡ true
  stays_out true b e = absurd (let z : false ≡ true = e in cc)
  stays_out false b e = e

  -- fewer are left out, if it wasn't there
  pub fewer_out : (IsIn old p → ⊥) → left_out new < left_out old
  unfolding left_out
  fewer_out none = fewer (λ r. not (set.contains (members new) r)) (λ r. not (set.contains (members old) r))
      (λ r e. stays_out (eqb r p) (set.contains (members old) r) (sym (ap not (has_new r)) ∙ e))
      (range_with_len 0 256) p (Contains-range 256 p small)
      (ap not (has_new p ∙ or_left (eqb p p) (set.contains (members old) p) (eq-eqb p p refl)))
      (out (set.contains (members old) p) refl)
    where
      out : (b : Bool) → set.contains (members old) p ≡ b → not (set.contains (members old) p) ≡ true
      out true e = absurd (none (small, e))
      out false e = ap not e

-- ---- categories

-- a family of each bottom category below n, in declaration order
pub record AreFamiliesBelow (s : Schema) (q : Question) (n : ℕ) (families : List Family) : Type 0 where
  pub each : (f : Family) → Contains families f → IsFamily s q f
  pub ordered : IsOrdered families
  pub below : (f : Family) → Contains families f → f.bottom.0 < n
  pub all : (b : ℕ) → b < n → IsBottom s.graph b → (f : Family) × Contains families f × (f.bottom.0 ≡ b)

module _ (s : Schema) (q : Question) where
  module _ (n : ℕ) (families : List Family) (before : AreFamiliesBelow s q n families) where
    -- one that isn't a bottom category
    pub category_passed : (IsBottom s.graph n → ⊥) → AreFamiliesBelow s q (n + 1) families
    category_passed none = record {
      each = before.each;
      ordered = before.ordered;
      below = λ f c. let l = before.below f c in omega arith;
      all = λ b l bottom. elim (below_or_same b n (omega arith)) [
        | inl m ↦ before.all b m bottom
        | inr e ↦ absurd (none (subst (IsBottom s.graph) e bottom))
      ];
    }

    -- one that is
    pub family_added : (f : Family) → f.bottom.0 ≡ n → IsFamily s q f → (next : List Family) → next ≡ families ++ f ∷ []
        → AreFamiliesBelow s q (n + 1) next
    family_added f e is next made = subst (AreFamiliesBelow s q (n + 1)) (sym made) (record {
      each = λ g c. elim (Contains-push_cases families f g c) [
        | inl o ↦ before.each g o
        | inr r ↦ subst (IsFamily s q) r is
      ];
      ordered = all_pairs_push (λ g h. g.bottom.0 < h.bottom.0) families f before.ordered
          (λ k d l. let m = before.below (get_or families k d) (All-contains_itself families k d l) in omega arith);
      below = λ g c. elim (Contains-push_cases families f g c) [
        | inl o ↦ let l = before.below g o in omega arith
        | inr r ↦ let z = ap (λ (w : Family). w.bottom.0) r in omega arith
      ];
      all = λ b l bottom. elim (below_or_same b n (omega arith)) [
        | inl m ↦ let t = before.all b m bottom in (t.0, Contains-append_left families (f ∷ []) t.0 t.1, t.2)
        | inr r ↦ (f, Contains-push families f, e ∙ sym r)
      ];
    })

  -- all of them
  pub all_there : (n : ℕ) (families : List Family) → category_count s.graph ≤ n → AreFamiliesBelow s q n families
      → AreFamilies s q families
  all_there n families l below = record {
    each = below.each;
    ordered = below.ordered;
    all = λ b bottom. below.all b (let m = bottom.0.1 in omega arith) bottom;
  }
