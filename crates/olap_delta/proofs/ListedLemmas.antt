-- Facts of a list, taken one after another.
use Rattle.std.proofs.Common.{◌≡◌, ◌+◌, ◌<◌, ◌≤◌, ◌∷◌, ◌++◌, [], ℕ, List, All, length, length-take, get_or, map, take, ap, sym, subst, ◌∙◌, arith}
use Rattle.std.proofs.lemmas.List.{length-map, length-take-le, map-append, take_all, take_more}
use Rattle.olap_base.specs.Views.{Fact}
use Rattle.olap_facts.specs.Seen.{fact_of}
use Rattle.olap_facts.specs.declared.tables.Fact as told

-- the facts before the k-th
abbrev pub so_far : List told.Fact → ℕ → List (Fact ℕ)
so_far read k = map fact_of (take k read)

-- the k-th comes after them
pub one_more : (read : List told.Fact) (k : ℕ) (d : told.Fact) → k < length read
    → so_far read (k + 1) ≡ so_far read k ++ fact_of (get_or read k d) ∷ []
one_more read k d h =
    ap (map fact_of) (take_more read k d h) ∙ map-append fact_of (take k read) (get_or read k d ∷ [])

module _ (rows read : List told.Fact) (k : ℕ) (is : read ≡ rows) where
  -- after the last they are all
  pub all_far : length read ≤ k → so_far read k ≡ map fact_of rows
  all_far h = ap (map fact_of) (take_all k read h ∙ is)

  -- the k-th is at one of the members
  pub is_at_member : (d : told.Fact) (members n : ℕ) → All (λ f. f.member.0 < members) rows → n ≡ members
      → k < length read → (get_or read k d).member.0 < n
  is_at_member d members n at e h =
      let m : (get_or read k d).member.0 < members =
      subst (λ (l : List told.Fact). All (λ f. f.member.0 < members) l) (sym is) at k d h in omega arith

  module _ (most taken : ℕ) (few : length rows ≤ most) (so : taken ≡ length (so_far read k)) where
    -- no more were taken than there are
    pub are_few : taken ≤ most
    are_few = let e = ap length is in let a = length-map (take k read) fact_of in let b = length-take k read in
        omega arith

    -- before the last fewer were
    pub has_room : k < length read → taken < most
    has_room h =
        let e = ap length is in
        let a = length-map (take k read) fact_of in
        let b : length (take k read) ≡ k = length-take-le k read (omega arith) in omega arith
