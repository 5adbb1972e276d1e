-- An instance is legal exactly if nothing is violated.
use Rattle.std.proofs.Common.{◌≡◌, ℕ, zero, suc, ◌<◌, List, [], ◌∷◌, length, refl, ap, sym, subst, ◌∙◌, Some, arith}
use Rattle.std.{proofs.lemmas.List.get_or_default, specs.Prelude.{Contains, slice_get, slice_index, slice_index_or}}
use Rattle.olap_base.proofs.{DecisionLemmas.stable, ListLemmas.{contains_head, Contains-nil}}
use Rattle.olap_base.specs.{Deciding.decide_contains, Graph.Edge}
use Rattle.olap_base.specs.Instance.{IsBelow, IsFarBelow, category_of, parents_of}
use Rattle.olap_ast.{proofs.Decided.decide_holds, specs.Schema.{Constraint, IsLegal}}
use Rattle.olap_ast.specs.Violation.{Violation, Violation.NoEdge, Violation.NoParent, Violation.SameCategory, Violation.TwoAncestors, Violation.Shortcut, Violation.Unmet, IsViolation, LegalExactlyIfNoViolation}
use native.Mathlib.Decide.{ℕ_discrete}

-- whether two edges are the same
pub edge_discrete : Discrete Edge
edge_discrete e f = go (ℕ_discrete e.child f.child) (ℕ_discrete e.parent f.parent)
  where
    go : Dec (e.child ≡ f.child) → Dec (e.parent ≡ f.parent) → Dec (e ≡ f)
    go (yes p) (yes q) = yes (λ z. record { child = p z; parent = q z })
    go (no n) d = no (λ r. n (ap (λ x. x.child) r))
    go (yes p) (no n) = no (λ r. n (ap (λ x. x.parent) r))

-- a list that isn't empty has a member
some_parent : (xs : List ℕ) → (xs ≡ [] → ⊥) → (y : ℕ) × Contains xs y
some_parent [] n = absurd (n refl)
some_parent (x ∷ xs) n = (x, contains_head x xs)

-- a constraint stands at a place
placed : (cs : List Constraint) (k : ℕ) (c : Constraint) → k < length cs → slice_index_or cs k c ≡ c →
    slice_get cs k ≡ Some c
placed [] k c h e = absurd (omega arith)
placed (d ∷ ds) zero c h e = ap Some e
placed (d ∷ ds) (suc k) c h e = placed ds k c (omega arith) e

-- a constraint that stands at a place is in the list
found : (cs : List Constraint) (k : ℕ) (c : Constraint) → slice_get cs k ≡ Some c → Contains cs c
found [] k c e = absurd (cc)
found (d ∷ ds) zero c e = (0, omega arith, cc)
found (d ∷ ds) (suc k) c e = let t = found ds k c e in (suc t.0, omega (arith, t.1), t.2)

-- an instance is legal exactly if nothing is violated
pub legal_exactly : LegalExactlyIfNoViolation
legal_exactly s i v numerals = (to, from)
  where
    at : (x k : ℕ) → k < length (parents_of i x) → IsBelow i x (slice_index (parents_of i x) k)
    at x k h = (k, h, get_or_default (parents_of i x) k (slice_index (parents_of i x) k) 0 h)

    none_below : (x y : ℕ) → parents_of i x ≡ [] → IsBelow i x y → ⊥
    none_below x y e b = Contains-nil y (subst (λ ps. Contains ps y) e b)

    to : IsLegal s i → (w : Violation) → IsViolation s i w → ⊥
    to l (NoEdge x k) h = h.1 (l.lawful.connectivity x (slice_index (parents_of i x) k) (at x k h.0))
    to l (NoParent x) h = let t = l.lawful.up_connectivity x h.0 h.1 in none_below x t.0 h.2 t.1
    to l (SameCategory x) h = l.lawful.stratification x h.0 h.1 h.2
    to l (TwoAncestors x c) h = h.6 (l.lawful.partitioning x h.0 h.1 h.2 h.3 (h.4 ∙ sym h.5))
    to l (Shortcut x k) h = l.lawful.shortcuts x (slice_index (parents_of i x) k) h.0 (at x k h.1) h.2 h.3
    to l (Unmet k x) h = h.3 (l.meets h.0 (found s.constraints k h.0 h.1) x h.2)

    from : ((w : Violation) → IsViolation s i w → ⊥) → IsLegal s i
    from n = record {
      is_instance = v;
      numerals = numerals;
      lawful = record {
        connectivity = λ x y b. stable (decide_contains edge_discrete s.graph.edges
            (record { child = category_of i x; parent = category_of i y }))
            (λ f. n (NoEdge x b.0) (
              b.1,
              λ e. f (rw (get_or_default (parents_of i x) b.0 0 y b.1 ∙ b.2) at e),
            ));
        up_connectivity = λ x h m. some_parent (parents_of i x) (λ e. n (NoParent x) (h, m, e));
        stratification = λ x y f e. n (SameCategory x) (y, f, e);
        partitioning = λ x y z f g e. stable (ℕ_discrete y z)
            (λ d. n (TwoAncestors x (category_of i z)) (y, z, f, g, e, refl, d));
        shortcuts = λ x y z b c f. n (Shortcut x b.0) (
          z,
          b.1,
          c,
          subst (λ u. IsFarBelow i z u) (sym (get_or_default (parents_of i x) b.0 0 y b.1 ∙ b.2)) f,
        );
      };
      meets = λ c d x m. stable (decide_holds i x c.formula)
          (λ f. n (Unmet d.0 x) (c, placed s.constraints d.0 c d.1 d.2, m, f));
    }
