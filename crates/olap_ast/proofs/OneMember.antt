-- One member below `all`, of a category below `All`.
use Rattle.std.proofs.Common.{◌≡◌, ℕ, zero, suc, ◌<◌, List, [], ◌∷◌, Bool, true, false, refl, ap, sym, subst, ◌∙◌, ◌↔◌, ◌⊎◌, inl, inr, arith}
use Rattle.std.specs.Prelude.{◌≢◌, codes, IsSome, IsTrue}
use Rattle.olap_base.proofs.ListLemmas.{contains_head, Contains-nil, Distinct, AllPairs-from_Distinct, Contains-only}
use Rattle.olap_base.specs.Graph.{CategoryReaches, Edge, Graph, HasEdge, IsCategoryName, IsHierarchy}
use Rattle.olap_base.specs.Instance.{Instance, IsBelow, IsFarBelow, IsInstance, IsLawful, category_of, member_at, parents_of}
use Rattle.olap_base.specs.Steps.{Steps.here, Steps.step, Climb, Climb.climb, Climb-from_leads}
use Rattle.olap_numerals.specs.{Named.HasNumerals, Numerals.number_of}

-- a category of a kind, below `All`
abbrev pub one_category : List ℕ → Bool → Graph
one_category category kind =
    record { names = category ∷ []; numbers = kind ∷ []; edges = record { child = 1; parent = 0 } ∷ [] }

-- its member, below `all`
abbrev pub one_member : List ℕ → List ℕ → Instance
one_member id name = record { id = id; category = 1; name = name; parents = 1 ∷ [] } ∷ record
    { id = codes "all"; category = 0; name = codes "all"; parents = [] } ∷ []

-- there are two members
pub place : (x : ℕ) → x < 2 → (x ≡ 0) ⊎ (x ≡ 1)
place x h = grind arith

module _ (category : List ℕ) (kind : Bool) (id name : List ℕ) where
  -- the graph has one edge
  edge : (c d : ℕ) → HasEdge (one_category category kind) c d → (c ≡ 1) × (d ≡ 0)
  edge c d h = let e = Contains-only (record { child = 1; parent = 0 }) (record { child = c; parent = d }) h in
      (ap (λ (k : Edge). k.child) (sym e), ap (λ (k : Edge). k.parent) (sym e))

  -- the member is below `all`, and nothing else is below anything
  below : (x y : ℕ) → IsBelow (one_member id name) x y → (x ≡ 0) × (y ≡ 1)
  below zero y b = (refl, sym (Contains-only 1 y b))
  below (suc zero) y b = absurd (Contains-nil y b)
  below (suc (suc x)) y b = absurd (Contains-nil y b)

  -- that is one step, and no more
  far : (x y : ℕ) → Climb (IsBelow (one_member id name)) x y → (x ≡ 0) × (y ≡ 1)
  far x y (climb {z = z} r here) = below x z r
  far x y (climb {z = z} r (step {y = u} q s)) = let a = below x z r in let b = below z u q in
      absurd (omega (arith, a.1, b.0))

  -- only the member is far below anything, and only below `all`
  far_is : (x y : ℕ) → IsFarBelow (one_member id name) x y → (x ≡ 0) × (y ≡ 1)
  far_is x y f = far x y (Climb-from_leads f)

  -- no parent stands twice
  parents_differ : (x : ℕ) → Distinct (parents_of (one_member id name) x)
  parents_differ zero = (Contains-nil 1, tt)
  parents_differ (suc zero) = tt
  parents_differ (suc (suc x)) = tt

  -- of the two, the last is of the category `All`
  category_at : (x : ℕ) → x < 2 → (category_of (one_member id name) x ≡ 0) ↔ (suc x ≡ 2)
  category_at zero h = (λ e. absurd (omega arith), λ e. absurd (omega arith))
  category_at (suc zero) h = (λ e. refl, λ e. refl)
  category_at (suc (suc x)) h = absurd (omega arith)

  -- the member has a parent
  up : (x : ℕ) → x < 2 → category_of (one_member id name) x ≢ 0 → (y : ℕ) × IsBelow (one_member id name) x y
  up zero h n = (1, contains_head 1 [])
  up (suc zero) h n = absurd (n refl)
  up (suc (suc x)) h n = absurd (omega arith)

  -- the ids differ
  ids : id ≢ codes "all" → (x y : ℕ) → x < 2 → y < 2
      → (member_at (one_member id name) x).id ≡ (member_at (one_member id name) y).id → x ≡ y
  ids n zero zero h l e = refl
  ids n zero (suc zero) h l e = absurd (n e)
  ids n (suc zero) zero h l e = absurd (n (sym e))
  ids n (suc zero) (suc zero) h l e = refl
  ids n x y h l e = absurd (omega arith)

  -- each category reaches `All`
  reach : (c : ℕ) → c < 2 → CategoryReaches (one_category category kind) c 0
  reach zero h = inl refl
  reach (suc zero) h =
      inr (record { between = []; chain = (contains_head (record { child = 1; parent = 0 }) [], tt) })
  reach (suc (suc c)) h = absurd (omega arith)

  -- category places, moved along an equation
  edge_there : (x y : ℕ) → (x ≡ 0) × (y ≡ 1) → HasEdge (one_category category kind)
      (category_of (one_member id name) x) (category_of (one_member id name) y)
  edge_there x y e = rw e.0 (rw e.1 (contains_head (record { child = 1; parent = 0 }) []))

  -- the last of two has the number 1
  last_is : (x : ℕ) → suc x ≡ 2 → x ≡ 1
  last_is x e = omega arith

  -- the graph is a hierarchy
  pub hierarchy : IsCategoryName category × (category ≢ codes "All") → IsHierarchy (one_category category kind)
  hierarchy is_name = record {
    kinds_known = refl;
    names_differ = AllPairs-from_Distinct (category ∷ []) (Contains-nil category, tt);
    names = λ n c. subst (λ m. IsCategoryName m × (m ≢ codes "All")) (Contains-only category n c) is_name;
    categories = λ c d h. let e = edge c d h in (omega (arith, e.0), omega (arith, e.1));
    edges_differ = AllPairs-from_Distinct (record { child = 1; parent = 0 } ∷ [])
        (Contains-nil (record { child = 1; parent = 0 }), tt);
    no_loop = λ c d h q. let e = edge c d h in omega (arith, e.0, e.1);
    none_from_all = λ d h. let e = edge 0 d h in omega (arith, e.0);
    reaches_all = reach;
  }

  -- the two members are an instance
  pub is_instance : id ≢ codes "all" → IsInstance (one_member id name)
  is_instance n = record {
    ids_differ = ids n;
    parents_are_members = λ x y b. let e = below x y b in omega (arith, e.1);
    parents_differ = λ x. AllPairs-from_Distinct (parents_of (one_member id name) x) (parents_differ x);
    some_member = omega arith;
    all_is_last = category_at;
    all_id = λ x e. ap (λ a. (member_at (one_member id name) a).id) (last_is x e);
    all_name = λ x e. ap (λ a. (member_at (one_member id name) a).name) (last_is x e);
  }

  -- and keep the laws
  pub lawful : IsLawful (one_category category kind) (one_member id name)
  lawful = record {
    connectivity = λ x y b. edge_there x y (below x y b);
    up_connectivity = up;
    stratification = λ x y f q. let e = far_is x y f in let r : 1 ≡ 0 =
        ap (category_of (one_member id name)) (sym e.0) ∙ q ∙ ap (category_of (one_member id name)) e.1 in omega arith;
    partitioning = λ x y z f h q. (far_is x y f).1 ∙ sym (far_is x z h).1;
    shortcuts = λ x y z b c f. let e = below x z c in let r = far_is z y f in omega (arith, e.1, r.0);
  }

  -- and numbers are numerals
  pub numerals : (IsTrue kind → IsSome (number_of name)) → HasNumerals (one_category category kind) (one_member id name)
  numerals spelled zero h b = spelled b
  numerals spelled (suc zero) h b = absurd (let z : false ≡ true = b in cc)
  numerals spelled (suc (suc x)) h b = absurd (omega arith)
