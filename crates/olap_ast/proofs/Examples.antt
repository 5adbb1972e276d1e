-- The smallest example of a legal instance: one store below `All`.
use Rattle.std.proofs.Common.{◌≡◌, ℕ, ◌≤◌, List, [], ◌∷◌, true, false, refl, ap, inl, inr, arith, lit≤}
use Rattle.std.{proofs.lemmas.List.Elements.All-from_recursion, specs.Prelude.{Contains, ◌≢◌, All, codes}}
use Rattle.olap_base.proofs.ListLemmas.{Contains-map, Contains-nil}
use Rattle.olap_base.specs.Graph.{IsCategoryName, IsLetterOrDigit, reserved}
use Rattle.olap_ast.{proofs.OneMember.{hierarchy, is_instance, lawful, numerals}, specs.Example.OneStoreIsLegal}

-- the first byte of a text
unfoldable pub head : List ℕ → ℕ
head [] = 0
head (x ∷ xs) = x

-- what differs from all in a list isn't in it
not_head : (xs : List ℕ) (n : ℕ) → All (λ x. x ≢ n) xs → Contains xs n → ⊥
not_head xs n a c = a c.0 n c.1 c.2

-- lower-case letters are letters
pub small : (b : ℕ) → 97 ≤ b → b ≤ 122 → IsLetterOrDigit b
small b h l = inl (inr (h, l))

-- no reserved name begins with S
heads_differ : (h : ℕ) → (h ≡ 83) → All (λ x. x ≢ h) (116 ∷ 102 ∷ 111 ∷ 97 ∷ [])
heads_differ h e = All-from_recursion (λ x. x ≢ h) (116 ∷ 102 ∷ 111 ∷ 97 ∷ []) (
  (λ q. omega arith),
  ((λ q. omega arith), ((λ q. omega arith), ((λ q. omega arith), tt))),
)

-- an S and letters are a category's name, and not `All`
pub name_is : (bs : List ℕ) → All IsLetterOrDigit bs → IsCategoryName (83 ∷ bs) × (83 ∷ bs ≢ codes "All")
unfolding head
name_is bs letters = (
  (
    inl (lit≤ tt, lit≤ tt),
    letters,
    λ c. not_head (116 ∷ 102 ∷ 111 ∷ 97 ∷ []) 83 (heads_differ 83 refl)
        (Contains-map head reserved (83 ∷ bs) c),
  ),
  λ q. let h : ◌≡◌ {A = ℕ} 83 65 = ap head q in omega arith,
)

-- the letters of Store
store : All IsLetterOrDigit (116 ∷ 111 ∷ 114 ∷ 101 ∷ [])
store = All-from_recursion IsLetterOrDigit (116 ∷ 111 ∷ 114 ∷ 101 ∷ []) (
  small 116 (lit≤ tt) (lit≤ tt),
  (small 111 (lit≤ tt) (lit≤ tt), (small 114 (lit≤ tt) (lit≤ tt), (small 101 (lit≤ tt) (lit≤ tt), tt))),
)

-- the store's id isn't `all`
id_is : codes "s" ≢ codes "all"
unfolding head
id_is e = let q : ◌≡◌ {A = ℕ} 115 97 = ap head e in omega arith

-- the graph is a hierarchy, and one store below `all` is legal
pub one_store_is_legal : OneStoreIsLegal
one_store_is_legal = (
  hierarchy (codes "Store") false (codes "s") (codes "first") (name_is (116 ∷ 111 ∷ 114 ∷ 101 ∷ []) store),
  record {
    is_instance = is_instance (codes "Store") false (codes "s") (codes "first") id_is;
    numerals = numerals (codes "Store") false (codes "s") (codes "first")
        (λ b. absurd (let z : false ≡ true = b in cc));
    lawful = lawful (codes "Store") false (codes "s") (codes "first");
    meets = λ c h. absurd (Contains-nil c h);
  },
)
