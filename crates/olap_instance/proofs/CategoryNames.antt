-- Names of categories: each is ASCII, and leads to its category.
use Rattle.std.proofs.Common.{◌≡◌, ◌≢◌, ◌<◌, ◌∷◌, inl, inr, ℕ, zero, suc, List, [], get_or, Some, refl, sym, ap, arith}
use Rattle.std.proofs.lemmas.{List.Elements.Contains-get_or, Str.IsUtf8-from_ascii, Str.Ascii.IsAscii-from_all}
use Rattle.std.specs.{Prelude.All, Str.IsUtf8}
use Rattle.olap_base.proofs.ListLemmas.{Distinct-from_AllPairs, Distinct-places}
use Rattle.olap_base.specs.Graph.{Graph, IsCategory, IsCategoryName, IsHierarchy, IsLetter, IsLetterOrDigit}
use Rattle.olap_graph.specs.Lookups.{category_named, name_of_category, names_of}
use Rattle.olap_instance.proofs.PlaceFacts.{AreDistinct, place-of-id}

-- letters are ASCII
letter : (b : ℕ) → IsLetter b → b < 128
letter b (inl h) = omega (arith, h.1)
letter b (inr h) = omega (arith, h.1)

-- and digits
letter-or-digit : (b : ℕ) → IsLetterOrDigit b → b < 128
letter-or-digit b (inl h) = letter b h
letter-or-digit b (inr h) = omega (arith, h.1)

-- so a category name is UTF-8
name-utf8 : (name : List ℕ) → IsCategoryName name → IsUtf8 name
name-utf8 [] h = absurd h
name-utf8 (b ∷ rest) h = IsUtf8-from_ascii (b ∷ rest) (IsAscii-from_all (b ∷ rest) all)
  where
    all : All (λ b. b < 128) (b ∷ rest)
    all zero d l = letter b h.0
    all (suc i) d l = letter-or-digit (get_or rest i d) (h.1 i d (omega arith))

module _ (g : Graph) (h : IsHierarchy g) where
  distinct : AreDistinct (names_of g)
  distinct zero zero li lj e = refl
  distinct zero (suc j) li lj e =
      absurd ((h.names (get_or g.names j []) (Contains-get_or g.names j [] (omega arith))).1 (sym e))
  distinct (suc i) zero li lj e =
      absurd ((h.names (get_or g.names i []) (Contains-get_or g.names i [] (omega arith))).1 e)
  distinct (suc i) (suc j) li lj e =
      ap suc (Distinct-places g.names (Distinct-from_AllPairs g.names h.names_differ) i j [] (omega arith)
      (omega arith) e)

  -- a category is found by its name
  pub named-category : (c : ℕ) → IsCategory g c → category_named g (name_of_category g c) ≡ Some c
  named-category c l = place-of-id (names_of g) c distinct (omega arith)

  pub category-utf8 : (c : ℕ) → IsCategory g c → c ≢ 0 → IsUtf8 (name_of_category g c)
  category-utf8 zero l n = absurd (n refl)
  category-utf8 (suc c) l n =
      name-utf8 (get_or g.names c []) (h.names (get_or g.names c []) (Contains-get_or g.names c [] (omega arith))).0
