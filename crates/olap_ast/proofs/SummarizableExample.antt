-- What summarizable and counterexamples are of one store below `All`.
use Rattle.std.proofs.Common.{◌≡◌, ℕ, ◌<◌, ◌≤◌, List, [], ◌∷◌, length, Bool, true, false, refl, ap, subst, ◌⊎◌, inl, inr, arith}
use Rattle.std.specs.Prelude.{◌≢◌, Contains, slice_index}
use Rattle.olap_base.proofs.{ListLemmas.{contains_head, Contains-nil, Contains-only}, ViewLemmas.agree_exactly}
use Rattle.olap_base.specs.{Graph.{Edge, IsBottom}, Instance.{ReachesCategory, ReachesVia, category_of}}
use Rattle.olap_ast.{proofs.Examples.one_store_is_legal, proofs.SmallModel.frozen_exactly, specs.Constants.IsConstant}
use Rattle.olap_ast.specs.Example.{OneStoreIsCounterexample, StoresAreSummarizable, stores, one_store, store_below_all}
use Rattle.olap_ast.specs.Formula.{Constant.AText, Formula}
use Rattle.olap_ast.specs.{Frozen.{AreCandidates, Candidates, Frozen, IsFrozen, thawed}, Schema.IsLegal}
use Rattle.olap_ast.specs.Summarizable.{IsSummarizable, not_by_one}

-- the stores' category is a bottom one
bottom : IsBottom stores.graph 1
bottom = (
  ((λ e. absurd (omega arith)), omega arith),
  λ d h.
      let e = Contains-only (record { child = 1; parent = 0 }) (record { child = d; parent = 1 }) h in
      absurd (let q : ◌≡◌ {A = ℕ} 0 1 = ap (λ (k : Edge). k.parent) e in omega arith),
)

-- the store reaches `All`
up : ReachesCategory one_store 0 0
up = (1, (omega arith, refl), inr (record { between = []; chain = (contains_head 1 [], tt) }))

-- no source: not summarizable
not_from_none : IsSummarizable stores 0 [] → ⊥
not_from_none h = let l = one_store_is_legal.1 in
    (agree_exactly stores.graph one_store 0 [] l.is_instance l.lawful).0 (h one_store l) 0 (omega arith) bottom up

-- the store's own view: summarizable
from_store : IsSummarizable stores 0 (1 ∷ [])
from_store i l = (agree_exactly stores.graph i 0 (1 ∷ []) l.is_instance l.lawful).1
    (λ x m b r. inl ((x, (m, one (category_of i x) b.0.0 b.0.1), inl refl, r), tt))
  where
    one : (c : ℕ) → c ≢ 0 → c < 2 → c ≡ 1
    one c n h = grind arith

-- both the stores' and the view of `All`: counted twice
not_from_both : IsSummarizable stores 0 (1 ∷ 0 ∷ []) → ⊥
unfolding up
not_from_both h = let l = one_store_is_legal.1 in
    go ((agree_exactly stores.graph one_store 0 (1 ∷ 0 ∷ []) l.is_instance l.lawful).0 (h one_store l) 0
    (omega arith) bottom up)
  where
    by_store : ReachesVia one_store 0 1 0
    by_store = (0, (omega arith, refl), inl refl, up)

    by_all : ReachesVia one_store 0 0 0
    by_all = (1, (omega arith, refl), up.2, (1, (omega arith, refl), inl refl))

    go : (ReachesVia one_store 0 1 0 × ((ReachesVia one_store 0 0 0 → ⊥) × Unit {0}))
        ⊎ ((ReachesVia one_store 0 1 0 → ⊥)
        × ((ReachesVia one_store 0 0 0 × Unit {0}) ⊎ ((ReachesVia one_store 0 0 0 → ⊥) × ⊥))) → ⊥
    go (inl t) = t.1.0 by_all
    go (inr t) = t.0 by_store

-- summarizable from the stores' view, and neither from no view nor from both
pub stores_are_summarizable : StoresAreSummarizable
stores_are_summarizable = (from_store, not_from_none, not_from_both)

-- ---- the counterexample to no source

-- the question: not by exactly one of no sources
abbrev asked : Formula
asked = not_by_one 0 []

-- without the edge the store lacks a parent
edge_present : (k : Candidates) (b : Bool) (n : ℕ)
    → IsLegal stores (thawed stores k 1 (record { edges = b ∷ []; names = n ∷ [] })) → b ≡ true
edge_present k true n l = refl
edge_present k false n l = let t = l.lawful.up_connectivity 0 (omega arith) (λ e. absurd (omega arith)) in
    absurd (Contains-nil t.0 t.1)

-- there are no constants
no_texts : (k : Candidates) → AreCandidates stores asked k → length (k.texts 1) ≡ 0
no_texts k ok = go (k.texts 1) (ok.names 0).1.sound
  where
    go : (ts : List (List ℕ)) → ((text : List ℕ) → Contains ts text → IsConstant stores asked 1 (AText text))
        → length ts ≡ 0
    go [] sound = refl
    go (t ∷ ts) sound = absurd (Contains-nil (record { category = 1; constant = AText t })
        (sound t (contains_head t ts)))

-- it is the only frozen dimension
only : (k : Candidates) → AreCandidates stores asked k → (f : Frozen) → IsFrozen stores asked 1 k f
    → f ≡ store_below_all
only k ok f z = go f.edges f.names z.edge_count z.name_count z.stands_for.legal (z.in_range 0)
  where
    go : (es : List Bool) (ns : List ℕ) → length es ≡ 1 → length ns ≡ 1
        → IsLegal stores (thawed stores k 1 (record { edges = es; names = ns }))
        → (0 < length ns → slice_index ns 0 ≤ length (k.texts 1))
        → record { edges = es; names = ns } ≡ store_below_all
    go (b ∷ []) (n ∷ []) p q l r =
        let m : n ≤ length (k.texts 1) = r (omega arith) in
        let u : n ≡ 0 = let t = no_texts k ok in omega arith in
        λ i. record { edges = (edge_present k b n l) i ∷ []; names = u i ∷ [] }
    go es ns p q l r = absurd (omega arith)

-- the store below `all` is the least counterexample
pub one_store_is_counterexample : OneStoreIsCounterexample
one_store_is_counterexample k ok = record {
  bottom = bottom;
  least = record {
    candidates = ok;
    is_one = subst (λ f. IsFrozen stores asked 1 k f) (only k ok some.0 some.1) some.1;
    least = λ h z. rw (only k ok h z) (inr (refl, inr (refl, tt)));
  };
  first = λ d l b h z. absurd (b.0.0 (omega arith));
}
  where
    some : (f : Frozen) × IsFrozen stores asked 1 k f
    some = (frozen_exactly stores asked 1 k one_store_is_legal.0 ok).1
        (one_store, one_store_is_legal.1, 0, (omega arith, refl), (up, λ t. t))
