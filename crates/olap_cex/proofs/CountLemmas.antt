-- By how many sources the root's member reaches a category.
use Rattle.std.proofs.Common.{◌≡◌, ℕ, ◌+◌, List, [], ◌∷◌, ◌++◌, ◌↔◌, ◌∙◌, ap, map, true, sym, subst, inl, inr, arith}
use Rattle.std.specs.Prelude.{All, Contains}
use Rattle.olap_base.{proofs.ListLemmas.{Contains-from_map, contains_head}, specs.Deciding.contains_cons}
use Rattle.olap_base.specs.{Graph.{Edge, Graph, IsCategory, IsHierarchy}, Instance.{Instance, Reaches, ReachesVia}}
use Rattle.olap_base.specs.{OneFact.HoldsTimes, Steps.{Steps, Steps.here, Steps.step}, declared.ids.CatId.CatId}
use Rattle.olap_ast.specs.Frozen.{is_present}
use Rattle.olap_bits.specs.declared.sets.CatSet.{CatSet}
use Rattle.olap_frozen.{proofs.ChosenLemmas.choice_of, proofs.RowLemmas.has_steps, specs.Chosen.{IsChoice, Joins}}
use Rattle.olap_frozen.specs.{Rows.AreRows, declared.founding.Found.Found}
use Rattle.olap_cex.specs.{CexFor.IsWay, FoundFor.{found_edges, found_instance, found_name, found_place}}
use Rattle.olap_frozen.proofs.ChosenInstance as made

-- ---- counting from the front

-- one item more of which it holds
pub holds_more : {A : Type 0} (P : A → Type 0) (xs : List A) (n : ℕ) (y : A) → HoldsTimes P xs n → P y
    → HoldsTimes P (xs ++ y ∷ []) (n + 1)
holds_more P [] n y e h = inl (h, n, omega arith, e)
holds_more P (x ∷ xs) n y (inl t) h = inl (t.0, t.1 + 1, omega (arith, t.2), holds_more P xs t.1 y t.3 h)
holds_more P (x ∷ xs) n y (inr t) h = inr (t.0, holds_more P xs n y t.1 h)

-- one item more of which it doesn't hold
pub holds_same : {A : Type 0} (P : A → Type 0) (xs : List A) (n : ℕ) (y : A) → HoldsTimes P xs n → (P y → ⊥)
    → HoldsTimes P (xs ++ y ∷ []) n
holds_same P [] n y e h = inr (h, e)
holds_same P (x ∷ xs) n y (inl t) h = inl (t.0, t.1, t.2, holds_same P xs t.1 y t.3 h)
holds_same P (x ∷ xs) n y (inr t) h = inr (t.0, holds_same P xs n y t.1 h)

-- as often as of what is so of the same items
pub holds_swap : (P Q : ℕ → Type 0) (xs : List ℕ) (n : ℕ) → ((x : ℕ) → Contains xs x → P x ↔ Q x)
    → HoldsTimes P xs n → HoldsTimes Q xs n
holds_swap P Q [] n s e = e
holds_swap P Q (x ∷ xs) n s (inl t) =
    inl ((s x (contains_head x xs)).0 t.0, t.1, t.2, holds_swap P Q xs t.1 (λ y c. s y (contains_cons y xs x c)) t.3)
holds_swap P Q (x ∷ xs) n s (inr t) =
    inr (λ q. t.0 ((s x (contains_head x xs)).1 q), holds_swap P Q xs n (λ y c. s y (contains_cons y xs x c)) t.1)

-- what holds of each of the categories holds of each of their numbers
pub among : (P : ℕ → Type 0) (xs : List CatId) → All (λ x. P x.0) xs → (n : ℕ) → Contains (map (λ x. x.0) xs) n → P n
among P xs all n c =
    let t = Contains-from_map (λ (x : CatId). x.0) xs n c in
    let k = t.1 in
    subst P (ap (λ (x : CatId). x.0) k.2 ∙ t.2) (all k.0 t.0 k.1)

-- ---- a way in the rows is one in the instance

module _ (g : Graph) (found : Found) (is_root : IsCategory g found.frozen.root.0) (hier : IsHierarchy g) where
  abbrev r : ℕ
  r = found.frozen.root.0

  abbrev es : List Edge
  es = found_edges g found

  abbrev i : Instance
  i = found_instance g found

  abbrev name : ℕ → List ℕ
  name c = found_name found c

  ch : IsChoice g r es
  ch = choice_of g r found.frozen.edges hier is_root

  -- what a present category reaches is present
  down : {c d : ℕ} → Steps (Joins es) c d → is_present r es c ≡ true → is_present r es d ≡ true
  down here p = p
  down (step {x = c} {y = m} j s) p = down s (made.parent_present g r es ch c m j)

  root : is_present r es r ≡ true
  root = made.root_present g r es ch

  module _ {W : ℕ} (rows : List (CatSet W)) (drawn : AreRows g es rows) (c s : ℕ) (source : IsCategory g s) where
    to : IsWay rows r c s → ReachesVia i (found_place g found) s c
    to t =
        let a = (has_steps g es rows drawn r s is_root).0 t.0 in
        let p = down a root in
        let b = (has_steps g es rows drawn s c source).0 t.1 in
        let q = down b p in (
          made.place g r es ch s,
          made.member_is g r es ch name s p,
          (made.reaches_walk g r es ch name r s root p).1 a,
          (
            made.place g r es ch c,
            made.member_is g r es ch name c q,
            (made.reaches_walk g r es ch name s c p q).1 b,
          ),
        )

    from : ReachesVia i (found_place g found) s c → IsWay rows r c s
    from t =
        let o = made.only_member g r es ch name s t.0 t.1 in
        let q = made.only_member g r es ch name c t.3.0 t.3.1 in
        let a = (made.reaches_walk g r es ch name r s root o.0).0
        (subst (λ w. Reaches i (found_place g found) w) (sym o.1) t.2) in
        let b = (made.reaches_walk g r es ch name s c o.0 q.0).0
        (subst (λ w. Reaches i w (made.place g r es ch c)) (sym o.1)
        (subst (λ w. Reaches i t.0 w) (sym q.1) t.3.2)) in
        ((has_steps g es rows drawn r s is_root).1 a, (has_steps g es rows drawn s c source).1 b)

    pub way_is : IsWay rows r c s ↔ ReachesVia i (found_place g found) s c
    way_is = (to, from)
