-- What the names of a hierarchy's categories are.
use Rattle.std.proofs.Common.{◌≡◌, ◌==◌, ◌≤◌, inl, inr, ℕ, zero, suc, true, false, List, [], ◌∷◌, Some, get_or, arith, ap, sym, ◌∙◌, refl, codes, lit≤, zero-add}
use Rattle.std.proofs.lemmas.{List.Elements.{All-from_recursion, All-cons, Contains-get_or}, Slice.Eq.bytes_eq-Decides}
use Rattle.std.specs.{Prelude.{All, Contains}, Str.bytes_eq}
use Rattle.olap_base.specs.Graph.{Graph, IsCategory, IsCategoryName, IsHierarchy, IsLetterOrDigit, reserved}
use Rattle.olap_base.specs.Reaching.{is_category_name, is_category_name_is}
use Rattle.olap_graph.proofs.{NamesApart.names_apart, PlaceLemmas.first_at}
use Rattle.olap_graph.specs.Lookups.{category_named, name_of_category, names_of}

-- the first byte of a name, or 0
first_byte : List ℕ → ℕ
first_byte [] = 0
first_byte (b ∷ bs) = b

-- what begins with A is no reserved name
not_reserved : (name : List ℕ) → first_byte name ≡ 65 → Contains reserved name → ⊥
unfolding first_byte
not_reserved name h (zero, l, e) = let q : 116 ≡ first_byte name = ap first_byte e in omega arith
not_reserved name h (suc zero, l, e) = let q : 102 ≡ first_byte name = ap first_byte e in omega arith
not_reserved name h (suc (suc zero), l, e) = let q : 111 ≡ first_byte name = ap first_byte e in omega arith
not_reserved name h (suc (suc (suc zero)), l, e) = let q : 97 ≡ first_byte name = ap first_byte e in omega arith
not_reserved name h (suc (suc (suc (suc k))), l, e) = absurd (omega arith)

-- so `All` is a category name
all_is_name : IsCategoryName (codes "All")
unfolding first_byte
all_is_name = (
  inl (lit≤ tt, lit≤ tt),
  All-from_recursion IsLetterOrDigit (108 ∷ 108 ∷ [])
      (inl (inr (lit≤ tt, lit≤ tt)), (inl (inr (lit≤ tt, lit≤ tt)), tt)),
  not_reserved (codes "All") refl,
)

-- a category's name is a category name
pub name_is : (g : Graph) → IsHierarchy g → (c : ℕ) → IsCategory g c → IsCategoryName (name_of_category g c)
name_is g h zero l = all_is_name
name_is g h (suc c) l = (h.names (get_or g.names c []) (Contains-get_or g.names c [] (omega arith))).0

-- each category's name is one
pub is_name : (g : Graph) → IsHierarchy g → (c : ℕ) → IsCategory g c → is_category_name (name_of_category g c) ≡ true
is_name g h c l = (is_category_name_is (name_of_category g c)).1 (name_is g h c l)

-- its bytes are letters and digits
pub letters : (w : List ℕ) → IsCategoryName w → All IsLetterOrDigit w
letters [] n = absurd n
letters (b ∷ bs) n = All-cons IsLetterOrDigit b bs (inl n.0) n.1

-- letters and digits aren't marks
pub no_mark : (mark : ℕ) → mark ≤ 47 → (b : ℕ) → IsLetterOrDigit b → (b == mark) ≡ false
no_mark mark l b h = grind arith

-- nor `_`
pub no_underscore : (b : ℕ) → IsLetterOrDigit b → (b == 95) ≡ false
no_underscore b h = grind arith

-- the category of its name is the category
pub named : (g : Graph) → IsHierarchy g → (c : ℕ) → IsCategory g c → category_named g (name_of_category g c) ≡ Some c
named g h c l =
    let name = name_of_category g c in
    first_at (bytes_eq name) (λ x. name ≡ x) (bytes_eq-Decides name) (names_of g) 0 c [] (omega arith) refl
    (λ j b e. names_apart g h j c b l (sym e)) ∙ ap (λ (i : ℕ). Some i) (zero-add c)
