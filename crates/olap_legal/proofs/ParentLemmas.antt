-- The parents of a member, read from the instance's list of ids, and the edges that lead along with them.
use Rattle.std.proofs.Common.{◌≡◌, ℕ, ◌<◌, ◌≤◌, List, length, map, get_or, take, [], ◌∷◌, ◌++◌, ◌+◌, length-append, ap, sym, subst, ◌∙◌, arith}
use Rattle.std.proofs.lemmas.List.{get_or-map, length-map, take_all, Elements.{Contains-get_or, Contains-push}}
use Rattle.std.specs.Prelude.{Contains}
use Rattle.olap_base.specs.{Graph.{Graph, HasEdge}, Instance.{Instance, IsBelow, category_of, parents_of}}
use Rattle.olap_base.specs.{Steps.{Steps, Steps.here, Steps.step}, declared.ids.MemberId.MemberId}
use Rattle.olap_legal.specs.Rows.{AreLinked}

-- what stands past the end of a list of ids
abbrev pub nobody : MemberId
nobody = record { 0 = 0 }

-- the places of these members
abbrev pub places : List MemberId → List ℕ
places ms = map (λ (m : MemberId). m.0) ms

-- m is the k-th parent of z, and a member
pub record IsParentAt (i : Instance) (z k : ℕ) (m : MemberId) : Type 0 where
  pub inside : k < length (parents_of i z)
  pub is : m.0 ≡ get_or (parents_of i z) k 0
  pub member : get_or (parents_of i z) k 0 < length i

-- m itself is a member
pub parent_member : {i : Instance} {z k : ℕ} {m : MemberId} → IsParentAt i z k m → m.0 < length i
parent_member {i} at = subst (λ y. y < length i) (sym at.is) at.member

-- what is read from the list
pub parent_at : (i : Instance) (z : ℕ) (ms : List MemberId) (k : ℕ) → places ms ≡ parents_of i z
    → ((y : ℕ) → IsBelow i z y → y < length i) → k < length ms → IsParentAt i z k (get_or ms k nobody)
parent_at i z ms k e inside h = record {
  inside = room;
  is = sym (get_or-map (λ (m : MemberId). m.0) ms k nobody 0 h) ∙ ap (λ l. get_or l k 0) e;
  member = inside _ (Contains-get_or (parents_of i z) k 0 room);
}
  where
    room : k < length (parents_of i z)
    room = let s : length ms ≡ length (parents_of i z) = sym (length-map ms (λ (m : MemberId). m.0)) ∙ ap length e in
        omega (arith, s)

-- at the end of the list all parents have been read
pub all_read : (i : Instance) (z k : ℕ) (ms : List MemberId) → places ms ≡ parents_of i z → length ms ≤ k
    → length (parents_of i z) ≤ k
all_read i z k ms e h =
    let s : length ms ≡ length (parents_of i z) = sym (length-map ms (λ (m : MemberId). m.0)) ∙ ap length e in
    omega (arith, s)

-- the last of a list is in it
pub taken : {list : List ℕ} (rest : List ℕ) (z : ℕ) → list ≡ rest ++ z ∷ [] → Contains list z
taken rest z e = subst (λ l. Contains l z) (sym e) (Contains-push rest z)

-- and without it there is one fewer
pub taken_fewer : {list : List ℕ} (rest : List ℕ) (z : ℕ) → list ≡ rest ++ z ∷ [] → length list ≡ length rest + 1
taken_fewer rest z e = ap length e ∙ length-append rest (z ∷ [])

-- the parents so far are then all parents
pub take_read : (i : Instance) (z k : ℕ) (ms : List MemberId) → places ms ≡ parents_of i z → length ms ≤ k
    → take k (parents_of i z) ≡ parents_of i z
take_read i z k ms e h = take_all k (parents_of i z) (all_read i z k ms e h)

-- edges lead along with the parents
pub edges_along : (g : Graph) (i : Instance) → AreLinked g i → {x y : ℕ} → Steps (IsBelow i) x y
    → Steps (HasEdge g) (category_of i x) (category_of i y)
edges_along g i l here = here
edges_along g i l (step {x = x} {y = z} r s) = step (l x z r) (edges_along g i l s)
