-- The first place in a list at which a test passes, and what it says of names and edges.
use Rattle.std.proofs.Common.{◌≡◌, ℕ, zero, suc, ◌+◌, ◌<◌, List, [], ◌∷◌, length, get_or, Bool, true, false, cond, Option, Some, None, refl, sym, ap, ◌∙◌, inl, inr, subst, arith}
use Rattle.std.proofs.lemmas.{Bool.Decides.{Decides-and, Decides-eqb, Decides-like}, List.Elements.Contains-get_or}
use Rattle.std.{proofs.lemmas.Slice.Eq.bytes_eq-Decides, specs.Bool.Decides, specs.List.position_from}
use Rattle.std.specs.{Option.option_map, Prelude.{Contains, ◌==◌, IsSome, IfSome, is_some, ◌↔◌}, Str.bytes_eq}
use Rattle.olap_base.{proofs.ListLemmas.Contains-nil, specs.Deciding.contains_cases, specs.Graph.Edge}
use Rattle.olap_base.specs.{Naming.place_of, declared.ids.CatId.CatId, declared.ids.EdgeId.EdgeId}
use Rattle.olap_graph.specs.Lookups.{joins}

module _ {X : Type 0} (t : X → Bool) (P : X → Type 0) (tells : (x : X) → Decides (t x) (P x)) where
  -- what is found lies in the list and passes
  pub found : (xs : List X) (n i : ℕ) → position_from t n xs ≡ Some i
      → (k : ℕ) × (i ≡ n + k) × (k < length xs) × ((d : X) → P (get_or xs k d))
  found [] n i e = absurd (cc)
  found (x ∷ xs) n i e = go (t x) (tells x).0 e (found xs (n + 1) i)
    where
      go : (b : Bool) → (b ≡ true → P x) → cond b (Some n) (position_from t (n + 1) xs) ≡ Some i
          → (position_from t (n + 1) xs ≡ Some i → (k : ℕ) × (i ≡ (n + 1) + k) × (k < length xs) ×
          ((d : X) → P (get_or xs k d)))
          → (k : ℕ) × (i ≡ n + k) × (k < length (x ∷ xs)) × ((d : X) → P (get_or (x ∷ xs) k d))
      go true p q rest = let s : n ≡ i = cc in (0, omega arith, omega arith, λ d. p refl)
      go false p q rest = let r = rest q in (suc r.0, omega (arith, r.1), omega (arith, r.2), r.3)

  -- where nothing is found, nothing passes
  pub missing : (xs : List X) (n : ℕ) → position_from t n xs ≡ None → (x : X) → Contains xs x → P x → ⊥
  missing [] n e x c p = Contains-nil x c
  missing (y ∷ ys) n e x c p = go (t y) (tells y).1 e (missing ys (n + 1))
    where
      go : (b : Bool) → (P y → b ≡ true) → cond b (Some n) (position_from t (n + 1) ys) ≡ None
          → (position_from t (n + 1) ys ≡ None → (x : X) → Contains ys x → P x → ⊥) → ⊥
      go true q h rest = cc
      go false q h rest = elim (contains_cases x y ys c) [
        | inl same ↦ let z : false ≡ true = q (subst P (sym same) p) in cc
        | inr d ↦ rest h x d p
      ]

  -- the first that passes is found
  pub first_at : (xs : List X) (n k : ℕ) (d : X) → k < length xs → P (get_or xs k d)
      → ((j : ℕ) → j < k → P (get_or xs j d) → ⊥)
      → position_from t n xs ≡ Some (n + k)
  first_at [] n k d l p none = absurd (omega arith)
  first_at (x ∷ xs) n zero d l p none = go (t x) ((tells x).1 p)
    where
      go : (b : Bool) → b ≡ true → cond b (Some n) (position_from t (n + 1) xs) ≡ Some (n + 0)
      go true e = let z : n ≡ n + 0 = omega arith in ap (λ (i : ℕ). Some i) z
      go false e = absurd (cc)
  first_at (x ∷ xs) n (suc k) d l p none =
      go (t x) (λ e. none 0 (omega arith) ((tells x).0 e))
      (first_at xs (n + 1) k d (omega arith) p (λ j h. none (suc j) (omega arith)))
    where
      go : (b : Bool) → (b ≡ true → ⊥) → position_from t (n + 1) xs ≡ Some ((n + 1) + k)
          → cond b (Some n) (position_from t (n + 1) xs) ≡ Some (n + suc k)
      go true e rest = absurd (e refl)
      go false e rest = let z : (n + 1) + k ≡ n + suc k = omega arith in rest ∙ ap (λ (i : ℕ). Some i) z

  -- where a place is found, something in the list has the property
  some_is_found : (xs : List X) (n : ℕ) → is_some (position_from t n xs) ≡ true → (x : X) × Contains xs x × P x
  some_is_found [] n e = absurd (cc)
  some_is_found (x ∷ xs) n e = go (position_from t n (x ∷ xs)) refl e
    where
      go : (o : Option ℕ) → position_from t n (x ∷ xs) ≡ o → is_some o ≡ true → (y : X) × Contains (x ∷ xs) y × P y
      go None q h = absurd (cc)
      go (Some i) q h =
          let r = found (x ∷ xs) n i q in (get_or (x ∷ xs) r.0 x, Contains-get_or (x ∷ xs) r.0 x r.2, r.3 x)

  -- and where something has it, a place is found
  found_is_some : (xs : List X) (n : ℕ) (x : X) → Contains xs x → P x → is_some (position_from t n xs) ≡ true
  found_is_some xs n x c p = go (position_from t n xs) refl
    where
      go : (o : Option ℕ) → position_from t n xs ≡ o → is_some o ≡ true
      go None q = absurd (missing xs n q x c p)
      go (Some i) q = refl

-- ---- names

-- no name in the list is this one
pub place_of-none : (name : List ℕ) (names : List (List ℕ)) → place_of name names ≡ None → Contains names name → ⊥
place_of-none name names e c = missing (bytes_eq name) (λ x. name ≡ x) (bytes_eq-Decides name) names 0 e name c refl

-- the place of a name lies in the list
pub place_of-within : (names : List (List ℕ)) (name : List ℕ) (r : Option CatId)
    → option_map (λ c. c.0) r ≡ place_of name names → IfSome r (λ c. c.0 < length names)
place_of-within names name None e = tt
place_of-within names name (Some c) e =
    let r = found (bytes_eq name) (λ x. name ≡ x) (bytes_eq-Decides name) names 0 c.0 (sym e) in
    omega (arith, r.1, r.2)

-- ---- edges

-- the test for an edge from c to d
pub joins-Decides : (c d : ℕ) (e : Edge) → Decides (joins c d e) (e ≡ record { child = c; parent = d })
joins-Decides c d e =
    Decides-like (joins c d e) (λ p. λ i. record { child = p.0 i; parent = p.1 i })
    (λ q. (ap (λ (x : Edge). x.child) q, ap (λ (x : Edge). x.parent) q))
    (Decides-and (e.child == c) (e.parent == d) (Decides-eqb e.child c) (Decides-eqb e.parent d))

-- an edge is found exactly if the list has it
pub joins-found : (edges : List Edge) (c d : ℕ) (r : Option EdgeId)
    → option_map (λ e. e.0) r ≡ position_from (joins c d) 0 edges
    → IsSome r ↔ Contains edges (record { child = c; parent = d })
joins-found edges c d r e = (
  λ h.
      let s = some_is_found (joins c d) (λ x. x ≡ record { child = c; parent = d }) (joins-Decides c d) edges 0
      (ap is_some (sym e) ∙ mapped r ∙ h) in
      subst (λ x. Contains edges x) s.2 s.1,
  λ h. sym (mapped r) ∙ ap is_some e
      ∙ found_is_some (joins c d) (λ x. x ≡ record { child = c; parent = d }) (joins-Decides c d) edges 0
      (record { child = c; parent = d }) h refl,
)
  where
    mapped : (r : Option EdgeId) → is_some (option_map (λ e. e.0) r) ≡ is_some r
    mapped None = refl
    mapped (Some x) = refl
