-- Parents in order, and the table of edges.
use Rattle.std.proofs.Common.{◌≡◌, ℕ, ◌+◌, ◌*◌, ◌<◌, ◌≤◌, List, [], ◌∷◌, ◌++◌, ◌/◌, ◌%◌, length, length-append, get_or, refl, Bool, true, false, ap, sym, subst, ◌∙◌, ◌↔◌, arith, below_more}
use Rattle.std.proofs.Math.{ListN.get_or-append, Nat.mul-le-mul_right, Seq.get_or-append_seam}
use Rattle.std.proofs.lemmas.{List.length-map, Nat.{div-mul-add, mod-mul-add}}
use Rattle.std.specs.Prelude.{IsTrue, ◌==◌}
use Rattle.olap_base.specs.{Graph.{Graph, HasEdge}, Instance.{Instance, category_of, parents_of}}
use Rattle.olap_base.specs.declared.ids.MemberId.{MemberId}
use Rattle.olap_legal.proofs.ParentLemmas.{IsParentAt, places}
use Rattle.olap_check.specs.Linking.{IsLinked, IsUnlinked, IsFirstUnlinkedOf, IsLinkedAt, IsOrphan, IsTableOf}

-- the parents before place k are linked
abbrev pub AreLinkedBefore : Instance → ℕ → List Bool → ℕ → ℕ → Type 0
AreLinkedBefore i n edges x k =
    (j : ℕ) → j < k → IsLinked edges n (category_of i x) (category_of i (get_or (parents_of i x) j 0))

-- what the test says of the k-th parent
module _ {i : Instance} {x k : ℕ} {m : MemberId} (at : IsParentAt i x k m) (n : ℕ) (edges : List Bool)
    (before : AreLinkedBefore i n edges x k) (c d : ℕ) (c_is : c ≡ category_of i x) (d_is : d ≡ category_of i m.0)
    (r : Bool) (t : IsTrue r ↔ IsLinked edges n c d) where
  -- the category of the parent that is read
  d_at : d ≡ category_of i (get_or (parents_of i x) k 0)
  d_at = d_is ∙ ap (category_of i) at.is

  -- one more parent is linked
  pub linked_more : r ≡ true → AreLinkedBefore i n edges x (k + 1)
  linked_more e =
      let P : ℕ → Type 0 = λ j. IsLinked edges n (category_of i x) (category_of i (get_or (parents_of i x) j 0)) in
      let now = subst (λ u. IsLinked edges n c u) d_at (t.0 e) in
      below_more P k before (subst (λ u. IsLinked edges n u (category_of i (get_or (parents_of i x) k 0))) c_is now)

  -- the first that is not
  pub first_unlinked_of : r ≡ false → IsFirstUnlinkedOf i n edges x k
  first_unlinked_of e = record { inside = at.inside; unlinked = unlinked; before = before }
    where
      unlinked : IsUnlinked i n edges x (get_or (parents_of i x) k 0)
      unlinked u =
          let there = subst (λ v. IsLinked edges n (category_of i x) v) (sym d_at) u in
          let z : false ≡ true = sym e ∙ t.1 (subst (λ v. IsLinked edges n v d) (sym c_is) there) in cc

-- all parents are linked
pub linked_at : (i : Instance) (n : ℕ) (edges : List Bool) (x k : ℕ) → length (parents_of i x) ≤ k
    → AreLinkedBefore i n edges x k → IsLinkedAt i n edges x
linked_at i n edges x k h below j l = below j (omega (arith, l))

-- one more member
pub linked_at_more : (i : Instance) (n : ℕ) (edges : List Bool) (x : ℕ) → ((w : ℕ) → w < x → IsLinkedAt i n edges w)
    → IsLinkedAt i n edges x → (w : ℕ) → w < x + 1 → IsLinkedAt i n edges w
linked_at_more i n edges x below at = let P : ℕ → Type 0 = λ w. IsLinkedAt i n edges w in below_more P x below at

-- one more member that is no orphan
pub orphan_more : (i : Instance) (x : ℕ) → ((w : ℕ) → w < x → IsOrphan i w → ⊥) → (IsOrphan i x → ⊥) → (w : ℕ)
    → w < x + 1 → IsOrphan i w → ⊥
orphan_more i x below at = let P : ℕ → Type 0 = λ w. IsOrphan i w → ⊥ in below_more P x below at

-- a member with ids of parents has parents
pub not_empty : (ms : List MemberId) (qs : List ℕ) (r : Bool) → r ≡ (length ms == 0) → r ≡ false → places ms ≡ qs
    → qs ≡ [] → ⊥
not_empty ms qs r e f g h =
    let n : length ms ≡ 0 = sym (length-map ms (λ (m : MemberId). m.0)) ∙ ap length (g ∙ h) in
    let y : false ≡ true = sym f ∙ e ∙ ap (λ k. k == 0) n in cc

-- ---- the table of edges, pair after pair

-- the first k pairs have been asked
pub record AreEdgesBefore (g : Graph) (n k : ℕ) (edges : List Bool) : Type 0 where
  pub count : length edges ≡ k
  pub exact : (j : ℕ) → j < k → (get_or edges j false ≡ true) ↔ HasEdge g (j / n) (j % n)

-- no pair has been asked
pub edges_start : (g : Graph) (n : ℕ) → AreEdgesBefore g n 0 []
edges_start g n = record { count = refl; exact = λ j h. absurd (omega (arith, h)) }

-- one more pair
pub edges_more : {g : Graph} {n k : ℕ} {edges : List Bool} → AreEdgesBefore g n k edges → (r o : Bool) → r ≡ o
    → (o ≡ true) ↔ HasEdge g (k / n) (k % n) → AreEdgesBefore g n (k + 1) (edges ++ r ∷ [])
edges_more {g} {n} {k} {edges} e r o same t = record {
  count = let c = e.count in omega (arith, length-append edges (r ∷ []));
  exact = below_more P k
      (λ j h. let v = get_or-append edges (r ∷ []) false j (let c = e.count in omega (arith, h)) in
      (λ q. (e.exact j h).0 (sym v ∙ q), λ q. v ∙ (e.exact j h).1 q))
      (let v = ap (λ j. get_or (edges ++ r ∷ []) j false) (sym e.count) ∙ get_or-append_seam edges r [] false in
      (λ q. t.0 (sym same ∙ sym v ∙ q), λ q. v ∙ same ∙ t.1 q));
}
  where
    P : ℕ → Type 0
    P j = (get_or (edges ++ r ∷ []) j false ≡ true) ↔ HasEdge g (j / n) (j % n)

-- all pairs
pub table_of : (g : Graph) (n : ℕ) (edges : List Bool) → AreEdgesBefore g n (n * n) edges → IsTableOf g n edges
table_of g n edges e = record {
  size = e.count;
  exact = λ c d h l.
      let next : c + 1 ≤ n = omega arith in
      let inside : c * n + d < n * n = omega (arith, mul-le-mul_right n next) in
      let c_is = div-mul-add c n d l in
      let d_is = mod-mul-add c n d l in
      let t = e.exact (c * n + d) inside in (
        λ q. subst (λ a. HasEdge g a d) c_is (subst (λ b. HasEdge g ((c * n + d) / n) b) d_is (t.0 q)),
        λ q. t.1 (subst (λ a. HasEdge g a ((c * n + d) % n)) (sym c_is) (subst (λ b. HasEdge g c b) (sym d_is) q)),
      );
}
