-- Instances in which no member has two parents, over a graph whose edges all lead to a lower rank.
use Rattle.std.proofs.Common.{◌≡◌, ◌<◌, ◌≤◌, ◌⊎◌, inl, inr, ℕ, List, [], ◌∷◌, map, ap, sym, subst, ◌∙◌, arith}
use Rattle.std.specs.Prelude.{◌≢◌, Contains}
use Rattle.olap_base.proofs.{AboveLemmas.reached_once, ListLemmas.{Contains-nil, contains_head, Contains-only}}
use Rattle.olap_base.specs.{Chains.IsChain, Deciding.below_is_member, Graph.{Graph, HasEdge}}
use Rattle.olap_base.specs.Instance.{Instance, IsBelow, IsLawful, IsMember, Reaches, category_of, name_of, parents_of}
use Rattle.olap_base.specs.Steps.{Climb, Climb.climb, Climb-from_leads, Climb-steps, Steps, Steps.here, Steps.step, Steps-cases, Steps-from_reaches}
use Rattle.olap_ast.specs.Formula.{HasPath, ReachesNamed}

-- each edge leads to a category of a lower rank
abbrev pub Falls : Graph → (ℕ → ℕ) → Type 0
Falls g rank = (c d : ℕ) → HasEdge g c d → rank d < rank c

-- each parent stands one edge above
abbrev pub FollowsEdges : Graph → Instance → Type 0
FollowsEdges g i = (x y : ℕ) → IsBelow i x y → HasEdge g (category_of i x) (category_of i y)

-- no member has two parents
abbrev pub HasOneParentEach : Instance → Type 0
HasOneParentEach i = (x y z : ℕ) → IsBelow i x y → IsBelow i x z → y ≡ z

-- ---- the laws, by ranks

module _ (g : Graph) (i : Instance) (rank : ℕ → ℕ) (falls : Falls g rank) (edges : FollowsEdges g i) where
  steps_fall : {x y : ℕ} → Steps (IsBelow i) x y → rank (category_of i y) ≤ rank (category_of i x)
  steps_fall here = omega arith
  steps_fall {x} {y} (step {y = z} b s) =
      let first = falls (category_of i x) (category_of i z) (edges x z b) in
      let rest = steps_fall s in
      omega arith

  climb_falls : {x y : ℕ} → Climb (IsBelow i) x y → rank (category_of i y) < rank (category_of i x)
  climb_falls {x} {y} (climb {z = z} b s) =
      let first = falls (category_of i x) (category_of i z) (edges x z b) in
      let rest = steps_fall s in
      omega arith

  same_or_not : {y z : ℕ} → category_of i y ≡ category_of i z → Steps (IsBelow i) y z → y ≡ z
  same_or_not {y} {z} q s = elim (Steps-cases s) [
    | inl e ↦ e
    | inr c ↦ let lower = climb_falls c in let level = ap rank q in absurd (omega arith)
  ]

  module _ (one : HasOneParentEach i) where
    -- of two members that one reaches, one reaches the other
    in_line : {x y z : ℕ} → Steps (IsBelow i) x y → Steps (IsBelow i) x z
        → Steps (IsBelow i) y z ⊎ Steps (IsBelow i) z y
    in_line here t = inl t
    in_line (step b s) here = inr (step b s)
    in_line {x} {y} {z} (step {y = u} b s) (step {y = v} c t) =
        in_line s (subst (λ w. Steps (IsBelow i) w z) (one x v u c b) t)

    once : (x y z : ℕ) → Steps (IsBelow i) x y → Steps (IsBelow i) x z → category_of i y ≡ category_of i z → y ≡ z
    once x y z s t q = elim (in_line s t) [
      | inl u ↦ same_or_not q u
      | inr u ↦ sym (same_or_not (sym q) u)
    ]

    lawful_by_rank : ((x : ℕ) → IsMember i x → category_of i x ≢ 0 → (y : ℕ) × IsBelow i x y) → IsLawful g i
    lawful_by_rank up = record {
      connectivity = edges;
      up_connectivity = up;
      stratification = λ x y f q.
          let lower = climb_falls (Climb-from_leads f) in let level = ap rank q in omega arith;
      partitioning = λ x y z f h q.
          once x y z (Climb-steps (Climb-from_leads f)) (Climb-steps (Climb-from_leads h)) q;
      shortcuts = λ x y z b c f.
          let lower = climb_falls (Climb-from_leads f) in
          let level = ap (λ w. rank (category_of i w)) (one x y z b c) in
          omega arith;
    }

-- ---- one parent

-- x has one parent, p, and they are of the categories c and d
pub record IsUnder (i : Instance) (x p c d : ℕ) : Type 0 where
  pub category : category_of i x ≡ c
  pub parents : parents_of i x ≡ p ∷ []
  pub above : category_of i p ≡ d

module _ (i : Instance) (x p c d : ℕ) (u : IsUnder i x p c d) where
  pub under_below : IsBelow i x p
  under_below = subst (λ ps. Contains ps p) (sym u.parents) (contains_head p [])

  pub under_one : (y : ℕ) → IsBelow i x y → y ≡ p
  under_one y b = sym (Contains-only p y (subst (λ ps. Contains ps y) u.parents b))

  -- a path to the parent's category, and to no other
  pub path_up : HasPath i x (d ∷ [])
  path_up = (p ∷ [], (under_below, tt), ap (λ e. e ∷ []) u.above)

  pub path_is_up : (e : ℕ) → HasPath i x (e ∷ []) → d ≡ e
  path_is_up e h = go h.0 h.1 h.2
    where
      go : (chain : List ℕ) → IsChain (IsBelow i) (x ∷ chain) → map (category_of i) chain ≡ e ∷ [] → d ≡ e
      go [] k q = absurd (cc)
      go (y ∷ ys) k q =
          let first : category_of i y ≡ e = cc in
          sym u.above ∙ ap (category_of i) (sym (under_one y k.0)) ∙ first

  -- an edge between the categories is the one that the parent needs
  pub under_edge : (g : Graph) → HasEdge g c d → (y : ℕ) → IsBelow i x y → HasEdge g (category_of i x) (category_of i y)
  under_edge g h y b =
      let at_parent : category_of i y ≡ d = ap (category_of i) (under_one y b) ∙ u.above in
      subst (λ e. HasEdge g e (category_of i y)) (sym u.category) (subst (λ e. HasEdge g c e) (sym at_parent) h)

-- x stands one edge below its one parent, or at the top
pub data IsPlaced (g : Graph) (i : Instance) (x : ℕ) : Type 0 where
  below_one : (p c d : ℕ) → IsUnder i x p c d → HasEdge g c d → IsPlaced g i x
  at_top : category_of i x ≡ 0 → parents_of i x ≡ [] → IsPlaced g i x

module _ (g : Graph) (i : Instance) where
  edges_of : (x y : ℕ) → IsPlaced g i x → IsBelow i x y → HasEdge g (category_of i x) (category_of i y)
  edges_of x y (below_one p c d u h) b = under_edge i x p c d u g h y b
  edges_of x y (at_top e q) b = absurd (Contains-nil y (subst (λ ps. Contains ps y) q b))

  one_of : (x y z : ℕ) → IsPlaced g i x → IsBelow i x y → IsBelow i x z → y ≡ z
  one_of x y z (below_one p c d u h) b k = under_one i x p c d u y b ∙ sym (under_one i x p c d u z k)
  one_of x y z (at_top e q) b k = absurd (Contains-nil y (subst (λ ps. Contains ps y) q b))

  up_of : (x : ℕ) → IsPlaced g i x → category_of i x ≢ 0 → (y : ℕ) × IsBelow i x y
  up_of x (below_one p c d u h) n = (p, under_below i x p c d u)
  up_of x (at_top e q) n = absurd (n e)

  -- where each member is placed so, and edges fall, the laws hold
  pub lawful_if_placed : (rank : ℕ → ℕ) → Falls g rank → ((x : ℕ) → IsMember i x → IsPlaced g i x) → IsLawful g i
  lawful_if_placed rank falls placed =
      lawful_by_rank g i rank falls (λ x y b. edges_of x y (placed x (below_is_member i x y b)) b)
      (λ x y z b c. one_of x y z (placed x (below_is_member i x y b)) b c)
      (λ x m n. up_of x (placed x m) n)

-- ---- names

-- what a member of a lawful instance reaches in a category has one name
pub named_once : (g : Graph) (i : Instance) → IsLawful g i → (x y d : ℕ) (text : List ℕ) → Reaches i x y
    → category_of i y ≡ d → ReachesNamed i x d text → name_of i y ≡ text
named_once g i w x y d text r e n =
    ap (name_of i) (reached_once g i w x y n.0 (Steps-from_reaches r) (Steps-from_reaches n.2) (e ∙ sym n.1.1)) ∙ n.3
