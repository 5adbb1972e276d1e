-- The next chosen edge: its ends have their places, its parent is new, and the draft gets it.
use Rattle.std.proofs.Common.{◌≡◌, ℕ, suc, ◌+◌, ◌<◌, List, length, get_or, take, true, false, Option, Some, None, refl, sym, ◌∙◌, ap, subst, arith}
use Rattle.std.specs.Prelude.{IfSome}
use Rattle.olap_ast.specs.Frozen.{chosen}
use Rattle.olap_base.specs.{Above.place_in, Graph.{Graph, IsCategory, IsHierarchy, category_count}}
use Rattle.olap_base.specs.declared.ids.MemberId.{MemberId}
use Rattle.olap_frozen.specs.declared.founding.Found.{Found}
use Rattle.olap_graph.specs.Lookups.{edge_at}
use Rattle.olap_instance.specs.{DraftInside.number_of, Drafts.{Draft, HasParent, with_parent}}
use Rattle.olap_cex.{proofs.ListLemmas.chosen_same, specs.FoundFor.{IsFoundFor, found_draft, found_edges}}
use Rattle.olap_cex.specs.Present.{first_present, place_or_all}
use Rattle.olap_cex.proofs.DraftLemmas as draft

-- what has a number is there
no_number : (o : Option MemberId) (n : ℕ) → number_of o ≡ Some n → ((m : MemberId) → o ≡ Some m → ⊥) → ⊥
no_number None n e h = cc
no_number (Some m) n e h = h m refl

-- what is so of the number is so of the place
if_number : (o : Option MemberId) (n : ℕ) → ((m : ℕ) → number_of o ≡ Some m → m < n) → IfSome o (λ p. p.0 < n)
if_number None n h = tt
if_number (Some m) n h = h m.0 refl

module _ {g : Graph} {found : Found} (ok : IsFoundFor g found) (hier : IsHierarchy g)
    (places : List (Option MemberId))
    (told : (c : ℕ) → c < category_count g
    → number_of (get_or places c None) ≡ place_or_all found.frozen.root.0 (found_edges g found) c)
    (k : ℕ) (inside : k < length g.edges) (bit : get_or found.frozen.edges k false ≡ true)
    {c d : ℕ} (at : edge_at g k ≡ record { child = c; parent = d }) (category : IsCategory g c) (above : IsCategory g d)
    {i j : ℕ} (ic : i ≡ c) (jd : j ≡ d) {builder : Draft}
    (before : builder ≡ found_draft g found (length g.names) (chosen (take k g.edges) found.frozen.edges)) where
  abbrev place : ℕ
  place = place_in (first_present found.frozen.root.0 (found_edges g found) (length g.names)) c

  child_told : number_of (get_or places i None) ≡ Some place
  child_told = ap (λ x. number_of (get_or places x None)) ic ∙ told c category
      ∙ draft.child_place g found ok hier k inside bit c d at

  parent_told : number_of (get_or places j None) ≡ place_or_all found.frozen.root.0 (found_edges g found) d
  parent_told = ap (λ x. number_of (get_or places x None)) jd ∙ told d above

  count : length builder.members
      ≡ length (found_draft g found (length g.names) (chosen (take k g.edges) found.frozen.edges)).members
  count = ap (λ (b : Draft). length b.members) before

  pub some_child : ((m : MemberId) → get_or places i None ≡ Some m → ⊥) → ⊥
  some_child h = no_number (get_or places i None) place child_told h

  module _ (m : MemberId) (is : get_or places i None ≡ Some m) where
    member_is : m.0 ≡ place
    member_is = let t : Some m.0 ≡ Some place = sym (ap number_of is) ∙ child_told in cc

    pub child_inside : m.0 < length builder.members
    child_inside = let l = draft.child_inside g found ok hier k inside bit c d at in
        let e = member_is in let n = count in omega arith

    pub parent_new : HasParent builder m.0 (number_of (get_or places j None)) → ⊥
    parent_new h = draft.parent_new g found ok hier k inside bit c d at
        (subst (λ b. HasParent b place (place_or_all found.frozen.root.0 (found_edges g found) d)) before
        (subst (λ x. HasParent builder x (place_or_all found.frozen.root.0 (found_edges g found) d)) member_is
        (subst (λ p. HasParent builder m.0 p) parent_told h)))

    pub parent_added : {new : Draft} → new ≡ with_parent builder m.0 (number_of (get_or places j None))
        → new ≡ found_draft g found (length g.names) (chosen (take (k + 1) g.edges) found.frozen.edges)
    parent_added e =
        let next : suc k ≡ k + 1 = omega arith in
        e ∙ ap (λ b. with_parent b m.0 (number_of (get_or places j None))) before
        ∙ ap (λ x. with_parent (found_draft g found (length g.names) (chosen (take k g.edges) found.frozen.edges)) x
        (number_of (get_or places j None))) member_is
        ∙ ap (λ p. with_parent (found_draft g found (length g.names) (chosen (take k g.edges) found.frozen.edges))
        place p)
        parent_told
        ∙ draft.parent_added g found ok hier k inside bit c d at
        ∙ ap (λ n. found_draft g found (length g.names) (chosen (take n g.edges) found.frozen.edges)) next

  pub parent_inside : IfSome (get_or places j None) (λ p. p.0 < length builder.members)
  parent_inside = if_number (get_or places j None) (length builder.members) (λ m e.
      let l = draft.parent_inside g found ok hier k inside bit c d at m (sym parent_told ∙ e) in
      let n = count in omega arith)

-- an edge that isn't chosen changes nothing
pub edge_skipped : (g : Graph) (found : Found) (k : ℕ) → k < length g.edges
    → get_or found.frozen.edges k false ≡ false → {old new : Draft}
    → old ≡ found_draft g found (length g.names) (chosen (take k g.edges) found.frozen.edges) → new ≡ old
    → new ≡ found_draft g found (length g.names) (chosen (take (k + 1) g.edges) found.frozen.edges)
edge_skipped g found k inside bit before e =
    let next : suc k ≡ k + 1 = omega arith in
    e ∙ before
    ∙ ap (λ l. found_draft g found (length g.names) l) (sym (chosen_same g.edges found.frozen.edges k inside bit))
    ∙ ap (λ n. found_draft g found (length g.names) (chosen (take n g.edges) found.frozen.edges)) next
