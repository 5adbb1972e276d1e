-- What a target needs answers its question, and has one answer.
use Rattle.std.proofs.Common.{◌≡◌, ◌≢◌, ◌∙◌, ℕ, List, [], ◌∷◌, ◌++◌, Ok, true, false, codes, length, map, ap, refl, sym, subst, arith}
use Rattle.std.proofs.lemmas.{Bool.eqb-true, List.length-map, List.Elements.Contains-get_or}
use Rattle.std.specs.Prelude.{◌==◌, All, flat_map}
use Rattle.olap_ast.specs.{Findings.Finding.Unsatisfiable, Schema.Schema, Trees.{constraint_of, numbers_of}}
use Rattle.olap_ast.specs.declared.formulas.Constraint.{Constraint}
use Rattle.olap_base.{proofs.ListLemmas.Contains-map, specs.Graph.{Graph, IsCategory}, specs.declared.ids.CatId.CatId}
use Rattle.olap_needs.{proofs.NeedLemmas.{emptied_are_one, needs_are_one}, specs.Listing.ListsNeeded}
use Rattle.olap_needs.specs.Needs.{AreEmptied, AreNeeded, HasRoom, need, needs_text, with_needs}
use Rattle.olap_needs.specs.declared.needing.Needs.{Needs}
use Rattle.olap_order.specs.{Judged.Replies, Order.Done, Outputs.line, declared.replies.Reply.Reply}
use Rattle.olap_order.specs.declared.status.Status.{Status, TheVariants.{No, Refused, Yes}}
use Rattle.olap_schema_text.specs.Printing.{constraint_text, text_of_lines}
use Rattle.olap_reasoning.{proofs.ReplyLemmas.answers_by, specs.Listings.finding_text}
use Rattle.olap_reasoning.specs.{Needing.{HasNoRoom, ListsEmptied, ListsNeeds}, Questions.{ByNeeds, IsAnswer}}

module _ (s : Schema) (c : ℕ) (sources : List ℕ) where
  -- room for one list is room for the other
  no_room : (bottoms : List ℕ) → AreNeeded s c sources bottoms → HasRoom (with_needs s c sources bottoms)
      → HasNoRoom s c sources → ⊥
  no_room bottoms needed room (bs, are, none) =
      none (subst (λ ds. HasRoom (with_needs s c sources ds)) (needs_are_one s c sources bottoms bs needed are) room)

  -- what is emptied is emptied
  not_both : (xs ys : List ℕ) → ListsNeeds s c sources xs → ListsEmptied s c sources ys → ⊥
  not_both xs ys a b = b.some (emptied_are_one s c sources b.bottoms b.emptied [] b.are_emptied
      (subst (λ bs. AreEmptied s c sources bs [])
      (needs_are_one s c sources a.bottoms b.bottoms a.are_needed b.are_needed) a.none_emptied))

  -- the lines are one text
  one_list : (xs ys : List ℕ) → ListsNeeds s c sources xs → ListsNeeds s c sources ys → xs ≡ ys
  one_list xs ys a b = a.text
      ∙ ap (needs_text s.graph c sources) (needs_are_one s c sources a.bottoms b.bottoms a.are_needed b.are_needed)
      ∙ sym b.text

  -- and so are those of what is emptied
  one_emptied : (xs ys : List ℕ) → ListsEmptied s c sources xs → ListsEmptied s c sources ys → xs ≡ ys
  one_emptied xs ys a b = a.text
      ∙ ap (λ es. line (codes "no") ++ flat_map (λ d. finding_text s.graph (Unsatisfiable d)) es)
      (emptied_are_one s c sources b.bottoms a.emptied b.emptied
      (subst (λ bs. AreEmptied s c sources bs a.emptied)
      (needs_are_one s c sources a.bottoms b.bottoms a.are_needed b.are_needed) a.are_emptied) b.are_emptied)
      ∙ sym b.text

  -- one status and one text
  pub one_needs : (st t : Status) (xs ys : List ℕ) → IsAnswer (ByNeeds s c sources) st xs
      → IsAnswer (ByNeeds s c sources) t ys → (st ≡ t) × (xs ≡ ys)
  one_needs Yes Yes xs ys a b = (refl, one_list xs ys a b)
  one_needs Yes No xs ys a b = absurd (not_both xs ys a b)
  one_needs Yes Refused xs ys a b = absurd (no_room a.bottoms a.are_needed a.room b.0)
  one_needs Yes t xs ys a b = absurd b
  one_needs No Yes xs ys a b = absurd (not_both ys xs b a)
  one_needs No No xs ys a b = (refl, one_emptied xs ys a b)
  one_needs No Refused xs ys a b = absurd (no_room a.bottoms a.are_needed a.room b.0)
  one_needs No t xs ys a b = absurd b
  one_needs Refused Yes xs ys a b = absurd (no_room b.bottoms b.are_needed b.room a.0)
  one_needs Refused No xs ys a b = absurd (no_room b.bottoms b.are_needed b.room a.0)
  one_needs Refused Refused xs ys a b = (refl, a.1 ∙ sym b.1)
  one_needs Refused t xs ys a b = absurd b
  one_needs st t xs ys a b = absurd a

-- ---- what is told

-- the lines of stored constraints
abbrev pub lines_of : Graph → List Constraint → List ℕ
lines_of g ds = text_of_lines (map (constraint_text g) (map constraint_of ds))

-- the line `no`, and a line for each category
abbrev pub emptied_text : Graph → List CatId → List ℕ
emptied_text g ds = line (codes "no") ++ flat_map (λ b. finding_text g (Unsatisfiable b)) (numbers_of ds)

-- a list of length 0 is empty
no_categories : (ds : List CatId) → (length ds == 0) ≡ true → ds ≡ []
no_categories [] n = refl
no_categories (d ∷ ds) n = let z : length (d ∷ ds) ≡ 0 = eqb-true (length (d ∷ ds)) 0 n in absurd (omega arith)

-- any other is not
some_categories : (ds : List CatId) → (length ds == 0) ≡ false → numbers_of ds ≢ []
some_categories [] n = absurd (cc)
some_categories (d ∷ ds) n = λ e. let z : length (numbers_of (d ∷ ds)) ≡ 0 = ap length e in absurd (omega arith)

module _ (s : Schema) (c : ℕ) (sources : List ℕ) (needs : Needs) (l : ListsNeeded s c sources needs) where
  -- as many constraints as categories that need one
  pub as_many : length l.bottoms ≡ length needs.constraints.items
  as_many = sym (length-map l.bottoms (need c sources)) ∙ sym (ap length l.same)
      ∙ length-map needs.constraints.items constraint_of

  -- what is left without members are categories
  pub emptied_are_categories : All (λ (d : CatId). IsCategory s.graph d.0) needs.emptied.items
  emptied_are_categories k d h =
      let there = Contains-map (λ (x : CatId). x.0) needs.emptied.items _ (Contains-get_or needs.emptied.items k d h) in
      (l.are.sound _ (l.emptied.sound _ there).0).0.0.1

  -- the lines are an answer if no category is emptied
  pub needs_listed : HasRoom (with_needs s c sources l.bottoms) → (length needs.emptied.items == 0) ≡ true
      → (reply : Reply) → reply.status ≡ Yes → reply.bytes.items ≡ lines_of s.graph needs.constraints.items
      → Replies IsAnswer (Done (ByNeeds s c sources)) (Ok reply)
  needs_listed room none reply status text = answers_by (ByNeeds s c sources) Yes tt reply status (record {
    bottoms = l.bottoms;
    are_needed = l.are;
    room = room;
    none_emptied = subst (AreEmptied s c sources l.bottoms) (ap numbers_of (no_categories needs.emptied.items none))
        l.emptied;
    text = text ∙ ap (λ ds. text_of_lines (map (constraint_text s.graph) ds)) l.same;
  })

  -- and no is the answer if some are
  pub needs_emptied : HasRoom (with_needs s c sources l.bottoms) → (length needs.emptied.items == 0) ≡ false
      → (reply : Reply) → reply.status ≡ No → reply.bytes.items ≡ emptied_text s.graph needs.emptied.items
      → Replies IsAnswer (Done (ByNeeds s c sources)) (Ok reply)
  needs_emptied room some reply status text = answers_by (ByNeeds s c sources) No tt reply status (record {
    bottoms = l.bottoms;
    emptied = numbers_of needs.emptied.items;
    are_needed = l.are;
    room = room;
    are_emptied = l.emptied;
    some = some_categories needs.emptied.items some;
    text = text;
  })
