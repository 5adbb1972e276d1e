-- Who is found by a name or an id that is another's.
use Rattle.std.proofs.Common.{◌≡◌, ◌<◌, ◌∙◌, ℕ, List, [], length, get_or, map, Some, sym, ap, arith, zero-add}
use Rattle.std.proofs.lemmas.List.{get_or-map, length-map}
use Rattle.olap_base.specs.Graph.{Graph, IsCategory, IsHierarchy}
use Rattle.olap_base.specs.{Instance.{Instance, IsInstance, IsMember, member_at, nobody}, Naming.place_of}
use Rattle.olap_graph.specs.Lookups.{category_named, name_of_category}
use Rattle.olap_instance.proofs.{CategoryNames.named-category, PlaceFacts.first-at}

-- a member is found by its id
pub member-found : (i : Instance) → IsInstance i → (m : ℕ) → IsMember i m
    → place_of (member_at i m).id (map (λ x. x.id) i) ≡ Some m
member-found i sound m l =
    let n = length-map i (λ x. x.id) in
    let at : (j : ℕ) → j < length i → get_or (map (λ x. x.id) i) j [] ≡ (member_at i j).id =
    λ j k. get_or-map (λ x. x.id) i j nobody [] k in
    first-at (member_at i m).id (map (λ x. x.id) i) 0 m (omega arith) (at m l) (λ j b e.
    let same : j ≡ m = sound.ids_differ j m (omega arith) l (sym (at j (omega arith)) ∙ e) in
    omega arith) ∙ ap (λ (x : ℕ). Some x) (zero-add m)

-- so is one that has the id
pub member-is : (i : Instance) → IsInstance i → (m : ℕ) → IsMember i m → (id : List ℕ) → (member_at i m).id ≡ id
    → Some m ≡ place_of id (map (λ x. x.id) i)
member-is i sound m l id e =
    sym (member-found i sound m l) ∙ ap (λ (x : List ℕ). place_of x (map (λ y. y.id) i)) e

-- a category that has the name is found by it
pub category-is : (g : Graph) → IsHierarchy g → (c : ℕ) → IsCategory g c → (name : List ℕ)
    → name_of_category g c ≡ name → Some c ≡ category_named g name
category-is g h c l name e = sym (named-category g h c l) ∙ ap (λ (x : List ℕ). category_named g x) e
