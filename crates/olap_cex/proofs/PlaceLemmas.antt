-- The places of the members so far.
use Rattle.std.proofs.Common.{◌≡◌, ℕ, zero, suc, ◌+◌, ◌-◌, ◌<◌, ◌≤◌, List, [], ◌∷◌, ◌++◌, ◌==◌, ◌≢◌, ◌⊎◌, length, get_or, map, true, false, cond, Option, Some, None, sym, ◌∙◌, ap, inl, inr, arith}
use Rattle.std.proofs.{Math.Seq.get_or-append_seam, lemmas.Bool.Decides.eqb_tells, lemmas.List.get_or_append_left}
use Rattle.olap_ast.specs.Frozen.{id_of, is_present}
use Rattle.olap_base.specs.{Graph.{Edge, Graph}, declared.ids.MemberId.MemberId}
use Rattle.olap_frozen.specs.declared.founding.Found.{Found}
use Rattle.olap_instance.specs.{DraftInside.number_of, Members.childless}
use Rattle.olap_cex.{proofs.PresentLemmas.absent_more, specs.FoundFor.{found_draft, found_edges, found_name}}
use Rattle.olap_cex.specs.Present.{first_present, place_or_all}

-- one more place
pub places_more : (old new : List (Option MemberId)) (o : Option MemberId) (n : ℕ) (place : ℕ → Option ℕ)
    → new ≡ old ++ o ∷ [] → length old ≡ n → ((c : ℕ) → c < n → number_of (get_or old c None) ≡ place c)
    → number_of o ≡ place n → (c : ℕ) → c < n + 1 → number_of (get_or new c None) ≡ place c
places_more old new o n place e count before here c l =
    ap (λ ps. number_of (get_or ps c None)) e ∙ go (eqb_tells c n)
  where
    go : ((c == n ≡ true) × (c ≡ n)) ⊎ ((c == n ≡ false) × (c ≢ n))
        → number_of (get_or (old ++ o ∷ []) c None) ≡ place c
    go (inl q) =
        ap (λ i. number_of (get_or (old ++ o ∷ []) i None)) (q.1 ∙ sym count)
        ∙ ap number_of (get_or-append_seam old o [] None) ∙ here ∙ ap place (sym q.1)
    go (inr q) =
        let n' = q.1 in
        let h : c < n = omega arith in
        ap number_of (get_or_append_left old (o ∷ []) None c (omega arith)) ∙ before c h

-- an absent category has none
absent_place : (r : ℕ) (es : List Edge) (c : ℕ) → 1 ≤ c → is_present r es c ≡ false → None ≡ place_or_all r es c
absent_place r es zero l p = absurd (omega arith)
absent_place r es (suc c) l p =
    sym (ap (λ b. cond b (Some (length (first_present r es c))) None) p)

-- no parents so far
abbrev none_told : ℕ → List (Option ℕ)
none_told d = []

-- and the draft stays
absent_draft : (g : Graph) (found : Found) (c : ℕ) → 1 ≤ c
    → is_present found.frozen.root.0 (found_edges g found) c ≡ false
    → found_draft g found (c - 1) [] ≡ found_draft g found (c + 1 - 1) []
absent_draft g found c l p =
    let e : c ≡ c + 1 - 1 = omega arith in
    let q : first_present found.frozen.root.0 (found_edges g found) (c - 1)
    ≡ first_present found.frozen.root.0 (found_edges g found) c =
    sym (absent_more found.frozen.root.0 (found_edges g found) c l p) in
    same q ∙ ap (λ n. found_draft g found n []) e
  where
    same : first_present found.frozen.root.0 (found_edges g found) (c - 1)
        ≡ first_present found.frozen.root.0 (found_edges g found) c
        → found_draft g found (c - 1) [] ≡ found_draft g found c []
    same q = λ z. record {
      categories = (found_draft g found c []).categories;
      numbers = (found_draft g found c []).numbers;
      members = ap (map (λ d. childless (id_of g d) d (found_name found d))) q z;
      parents = ap (map none_told) q z;
    }

-- both of an absent category
pub absent : (g : Graph) (found : Found) (c : ℕ) → 1 ≤ c
    → is_present found.frozen.root.0 (found_edges g found) c ≡ false
    → (found_draft g found (c - 1) [] ≡ found_draft g found (c + 1 - 1) [])
    × (None ≡ place_or_all found.frozen.root.0 (found_edges g found) c)
absent g found c l p = (absent_draft g found c l p, absent_place found.frozen.root.0 (found_edges g found) c l p)
