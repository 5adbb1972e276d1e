-- The first category that doesn't reach `All`.
use Rattle.std.proofs.Common.{◌≡◌, ◌+◌, ◌≤◌, ◌<◌, ℕ, suc, zero, Bool, true, false, not, cond, List, Some, None, refl, arith, length, ap, sym, ◌∙◌}
use Rattle.std.specs.{List.range_with_len, Prelude.{◌-◌, find, slice_index, Ok, Err, codes}}
use Rattle.olap_base.specs.Graph.{CategoryReaches, Graph, IsCategory}
use Rattle.olap_base.specs.Reaching.{category_reaches, category_reaches_is}
use Rattle.olap_graph.specs.Building.{IsFirstWithoutWay}
use Rattle.olap_schema_text.specs.Judging.{Above, first_stuck, whole}
use Rattle.olap_ast.specs.Schema.{Constraint}

-- the first number of a range that passes is found
find_first : (p : ℕ → Bool) (a n c : ℕ) → a ≤ c → c < a + n → p c ≡ true → ((d : ℕ) → a ≤ d → d < c → p d ≡ false)
    → find p (range_with_len a n) ≡ Some c
find_first p a zero c l h e f = absurd (omega arith)
find_first p a (suc n) c l h e f =
    go (p a) refl (λ m. find_first p (a + 1) n c m (omega arith) e (λ d k q. f d (omega arith) q))
  where
    go : (b : Bool) → p a ≡ b → (a + 1 ≤ c → find p (range_with_len (a + 1) n) ≡ Some c)
        → cond b (Some a) (find p (range_with_len (a + 1) n)) ≡ Some c
    go true q rest =
        let no : (a < c) → ⊥ = λ k. (let r : false ≡ true = sym (f a (omega arith) k) ∙ q in cc) in
        let same : a ≡ c = omega (arith, no) in
        ap Some same
    go false q rest =
        let no : (a ≡ c) → ⊥ = λ s. (let r : p a ≡ true = rw s e in cc) in
        rest (omega (arith, no))

-- where none is so none is found
find_none : (p : ℕ → Bool) (a n : ℕ) → ((d : ℕ) → a ≤ d → d < a + n → p d ≡ false) → find p (range_with_len a n) ≡ None
find_none p a zero f = refl
find_none p a (suc n) f = rw (f a (omega arith) (omega arith))
    (find_none p (a + 1) n (λ d k q. f d (omega arith) (omega arith)))

-- a category that reaches `All` isn't stuck
reached_test : (g : Graph) (c : ℕ) → CategoryReaches g c 0 → not (category_reaches g c 0) ≡ false
reached_test g c h = let e = (category_reaches_is g c 0).1 h in rw e refl

-- one that doesn't is
stuck_test : (g : Graph) (c : ℕ) → (CategoryReaches g c 0 → ⊥) → not (category_reaches g c 0) ≡ true
stuck_test g c h = go (category_reaches g c 0) refl
  where
    go : (b : Bool) → category_reaches g c 0 ≡ b → not b ≡ true
    go true e = absurd (h ((category_reaches_is g c 0).0 e))
    go false e = refl

-- the first without a way is the first that is stuck
pub stuck_is : (g : Graph) (c : ℕ) → IsFirstWithoutWay g c → first_stuck g ≡ Some c
stuck_is g c w =
    let some = (w.declared).0 in let below = (w.declared).1 in
    find_first (λ c. not (category_reaches g c 0)) 1 (length g.names) c (omega arith) (omega arith)
    (stuck_test g c w.none)
    (λ d l h. reached_test g d (w.before d (omega arith, omega arith) h))

-- where each category has a way, none is stuck
pub none_stuck : (g : Graph) → ((c : ℕ) → IsCategory g c → CategoryReaches g c 0) → first_stuck g ≡ None
none_stuck g w = find_none (λ c. not (category_reaches g c 0)) 1 (length g.names)
    (λ d l h. reached_test g d (w d (omega arith)))

-- a graph in which each category has a way is the schema's
pub whole_is : (a : Above) (g : Graph) (cs : List Constraint) → g ≡ a.graph
    → ((c : ℕ) → IsCategory g c → CategoryReaches g c 0) → cs ≡ a.constraints →
    whole a (first_stuck a.graph) ≡ Ok (record { graph = g; constraints = cs })
whole_is a g cs e w k =
    let none : first_stuck a.graph ≡ None = rw e at (none_stuck g w) in
    rw (none, e, k) refl

-- and else the first without a way is named
pub whole_not : (a : Above) (c n : ℕ) → IsFirstWithoutWay a.graph c → n ≡ slice_index a.category_lines (c - 1) →
    whole a (first_stuck a.graph) ≡ Err (record { at = n; kind = codes "NoWayToAll" })
whole_not a c n w e = let some : first_stuck a.graph ≡ Some c = stuck_is a.graph c w in rw (some, e) refl
