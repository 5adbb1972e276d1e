-- Choices of frozen dimensions, dimension by dimension: which are bad, and which of them is the least.
use Rattle.std.proofs.Common.{◌≡◌, ℕ, ◌<◌, ◌↔◌, List, [], ◌∷◌, length, map, refl, ap, sym, subst, ◌∙◌}
use Rattle.std.{proofs.lemmas.List.Elements.{All-head, All-tail}, specs.Int.Bits.bit_and, specs.List.range_with_len}
use Rattle.std.specs.Prelude.{All, slice_index}
use Rattle.olap_ast.specs.Schema.{Schema}
use Rattle.olap_base.specs.{Instance.{Instance, IsMemberOf}, Views.ExactlyOne}
use Rattle.olap_cube.specs.Codes.{AreNotAfter, codes_of}
use Rattle.olap_cube.specs.CubeSummarizable.{Chosen, IsChosen, bottoms_of, instances_of}
use Rattle.olap_cube.specs.Tuples.{AllZip3, IsTupleOf, TupleReachesVia}
use Rattle.olap_cube_summ.proofs.BelowLemmas.{one_below}
use Rattle.olap_cube_summ.proofs.PatternLemmas.{AreSame, bad_too, has_both, pattern_too, same_back, same_itself, same_met, same_patterns, width}
use Rattle.olap_cube_summ.specs.{Choices.{AreLeast, Dimension, IsDimension, sets_of}, Found.{AreSized, chosen_of}}
use Rattle.olap_cube_summ.specs.{Masks.{CanBeBad, Has, IsBad, IsIn}, Patterns.{HasPattern, shape_of}}
use Rattle.olap_cube_summ.specs.Questions.{sources_in, target_in}
use Rattle.olap_frozen.specs.declared.founding.Found.{Found}

-- the schema of each dimension
abbrev pub schemas_in : List Dimension → List Schema
schemas_in ds = map (λ d. d.schema) ds

-- the target in each dimension
abbrev pub targets_in : List Dimension → List ℕ
targets_in ds = map (λ d. target_in d.question) ds

-- the categories of the k-th source
abbrev pub row_in : ℕ → List Dimension → List ℕ
row_in k ds = map (λ d. slice_index (sources_in d.question) k) ds

-- the bottom category of each dimension's family
abbrev pub bottoms_in : List Dimension → List ℕ
bottoms_in ds = map (λ d. d.family.bottom.0) ds

-- the first of a list, or another
first_of : {A : Type 0} → A → List A → A
first_of d [] = d
first_of d (x ∷ xs) = x

-- what follows the first
rest_of : {A : Type 0} → List A → List A
rest_of [] = []
rest_of (x ∷ xs) = xs

-- a frozen dimension of the family with a pattern of it
pub record IsEnd (d : Dimension) (y : Chosen) (p : ℕ) : Type 0 where
  pub chosen : IsChosen d.schema (target_in d.question) y
  pub bottom : y.bottom ≡ d.family.bottom.0
  pub known : IsIn d.family.patterns p
  pub has : HasPattern d.schema d.question y p

module _ (n : ℕ) where
  -- one of each family, by whose patterns the mask ends badly
  abbrev pub Ends : List Dimension → ℕ → List Chosen → Type 0
  Ends [] m [] = IsBad n m
  Ends (d ∷ ds) m (y ∷ ys) = (p : ℕ) × IsEnd d y p × Ends ds (bit_and m p) ys
  Ends _ _ _ = ⊥

  -- then the sets can be bad
  pub can_end : (ds : List Dimension) (m : ℕ) (ys : List Chosen) → Ends ds m ys → CanBeBad n (sets_of ds) m
  can_end [] m [] e = e
  can_end (d ∷ ds) m (y ∷ ys) e = (e.0, e.1.known, can_end ds (bit_and m e.0) ys e.2)
  can_end ds m ys e = absurd e

  -- what is least dimension by dimension comes after none that ends badly
  pub least_of_all : (ds : List Dimension) → All (IsDimension n) ds → (m w : ℕ) → AreSame n m w → (xs : List Found)
      → AreLeast n ds m xs → (ys : List Chosen) → Ends ds w ys → AreNotAfter (codes_of (map chosen_of xs)) (codes_of ys)
  least_of_all [] all m w s [] a ys e = tt
  least_of_all (d ∷ ds) all m w s (x ∷ xs) a [] e = absurd e
  least_of_all (d ∷ ds) all m w s (x ∷ xs) (left, l, a) (y ∷ ys) (p, h, e) = (
    l.least y h.chosen h.bottom p h.known h.has
        (bad_too n (sets_of ds) (bit_and w p) (bit_and m p)
        (same_met n w m p p (same_back n m w s) (same_itself n p)) (can_end ds (bit_and w p) ys e)),
    λ q. least_of_all ds (All-tail (IsDimension n) d ds all) left (bit_and w p)
        (rw l.left_is (same_met n m w l.pattern p s
        (same_patterns d.schema d.question n (All-head (IsDimension n) d ds all).count y h.chosen l.pattern p
        (pattern_too d.schema d.question (chosen_of x) y l.is_found.chosen h.chosen (l.root ∙ sym h.bottom) q l.pattern
        l.has) h.has))) xs a ys e,
  )
  least_of_all ds all m w s xs a ys e = absurd a

  -- ---- what the masks say of reaching

  -- the k-th source is in the mask, and the rest reaches by it
  abbrev pub IsLeftBy : ℕ → List Instance → List ℕ → List Dimension → ℕ → Type 0
  IsLeftBy m is roots ds k = Has m k × TupleReachesVia is roots (row_in k ds) (targets_in ds)

  -- one dimension more
  one_more : (d : Dimension) (ds : List Dimension) → length d.question.sources ≡ n → (y : Chosen) (x : ℕ)
      → IsMemberOf (shape_of d.schema y) y.bottom x → (p : ℕ) → HasPattern d.schema d.question y p → (m : ℕ)
      → (is : List Instance) (xs : List ℕ) (k : ℕ) → k < n
      → IsLeftBy m (shape_of d.schema y ∷ is) (x ∷ xs) (d ∷ ds) k ↔ IsLeftBy (bit_and m p) is xs ds k
  one_more d ds e y x i p h m is xs k l =
      let t = h x i k (subst (λ w. k < w) (sym (width d.question n e)) l) in (
        λ v. ((has_both m p k).1 (v.0, t.1 v.1.0), v.1.1),
        λ v. let u = (has_both m p k).0 v.0 in (u.0, (t.0 u.1, v.1)),
      )

  none_left : (m : ℕ) → ((k : ℕ) → k < n → Has m k ↔ IsLeftBy m [] [] [] k)
  none_left m k l = (λ h. (h, tt), λ h. h.0)

  -- frozen dimensions of the families that don't reach by exactly one source end badly
  pub ends_of : (ds : List Dimension) → All (IsDimension n) ds → (ys : List Chosen)
      → AllZip3 IsChosen (schemas_in ds) (targets_in ds) ys → bottoms_of ys ≡ bottoms_in ds → (roots : List ℕ)
      → IsTupleOf (instances_of (schemas_in ds) ys) (bottoms_of ys) roots → (m : ℕ)
      → (ExactlyOne (IsLeftBy m (instances_of (schemas_in ds) ys) roots ds) (range_with_len 0 n) → ⊥) → Ends ds m ys
  unfolding first_of rest_of
  ends_of [] all [] a b [] r m bad =
      λ o. bad (one_below (Has m) (IsLeftBy m [] [] []) n (none_left m) o)
  ends_of [] all (y ∷ ys) a b xs r m bad = absurd a
  ends_of (d ∷ ds) all [] a b xs r m bad = absurd a
  ends_of (d ∷ ds) all (y ∷ ys) a b (x ∷ xs) r m bad =
      let is = instances_of (schemas_in ds) ys in
      let one = All-head (IsDimension n) d ds all in
      let bottom : y.bottom ≡ d.family.bottom.0 = ap (first_of 0) b in
      let t = one.family.complete y a.0 bottom in (
        t.0,
        record { chosen = a.0; bottom = bottom; known = t.1; has = t.2 },
        ends_of ds (All-tail (IsDimension n) d ds all) ys a.1 (ap rest_of b) xs r.1 (bit_and m t.0)
            (λ o. bad (one_below (IsLeftBy (bit_and m t.0) is xs ds)
            (IsLeftBy m (shape_of d.schema y ∷ is) (x ∷ xs) (d ∷ ds)) n
            (λ k l. let u = one_more d ds one.count y x r.0 t.0 t.2 m is xs k l in (u.1, u.0)) o)),
      )
  ends_of ds all ys a b xs r m bad = absurd r

  -- and what is least dimension by dimension doesn't
  pub least_is_bad : (ds : List Dimension) → All (IsDimension n) ds → (m : ℕ) (founds : List Found)
      → AreLeast n ds m founds → (roots : List ℕ)
      → IsTupleOf (instances_of (schemas_in ds) (map chosen_of founds)) (bottoms_of (map chosen_of founds)) roots
      → ExactlyOne (IsLeftBy m (instances_of (schemas_in ds) (map chosen_of founds)) roots ds) (range_with_len 0 n) → ⊥
  least_is_bad [] all m [] a [] r o =
      a (one_below (IsLeftBy m [] [] []) (Has m) n (λ k l. let u = none_left m k l in (u.1, u.0)) o)
  least_is_bad [] all m (f ∷ fs) a xs r o = absurd a
  least_is_bad (d ∷ ds) all m [] a xs r o = absurd a
  least_is_bad (d ∷ ds) all m (f ∷ fs) (left, l, a) (x ∷ xs) r o =
      let is = instances_of (schemas_in ds) (map chosen_of fs) in
      least_is_bad ds (All-tail (IsDimension n) d ds all) left fs a xs r.1
      (rw l.left_is
      (one_below (IsLeftBy m (shape_of d.schema (chosen_of f) ∷ is) (x ∷ xs) (d ∷ ds))
      (IsLeftBy (bit_and m l.pattern) is xs ds) n
      (one_more d ds (All-head (IsDimension n) d ds all).count (chosen_of f) x r.0 l.pattern l.has m is xs) o))
  least_is_bad ds all m fs a xs r o = absurd r

  -- ---- what was found

  pub least_chosen : (ds : List Dimension) (m : ℕ) (founds : List Found) → AreLeast n ds m founds
      → AllZip3 IsChosen (schemas_in ds) (targets_in ds) (map chosen_of founds)
  least_chosen [] m [] a = tt
  least_chosen (d ∷ ds) m (f ∷ fs) a = (a.1.is_found.chosen, least_chosen ds a.0 fs a.2)
  least_chosen ds m fs a = absurd a

  pub least_bottoms : (ds : List Dimension) (m : ℕ) (founds : List Found) → AreLeast n ds m founds
      → bottoms_of (map chosen_of founds) ≡ bottoms_in ds
  least_bottoms [] m [] a = refl
  least_bottoms (d ∷ ds) m (f ∷ fs) a = let r = a.1.root in let e = least_bottoms ds a.0 fs a.2 in λ i. r i ∷ e i
  least_bottoms ds m fs a = absurd a

  pub least_sized : (ds : List Dimension) (m : ℕ) (founds : List Found) → AreLeast n ds m founds
      → AreSized (schemas_in ds) founds
  least_sized [] m [] a = tt
  least_sized (d ∷ ds) m (f ∷ fs) a = (a.1.is_found.sized, a.1.is_found.zero, least_sized ds a.0 fs a.2)
  least_sized ds m fs a = absurd a

  -- their roots
  pub roots_of : (ss : List Schema) (cs : List ℕ) (ys : List Chosen) → AllZip3 IsChosen ss cs ys
      → (roots : List ℕ) × IsTupleOf (instances_of ss ys) (bottoms_of ys) roots
  roots_of [] [] [] a = ([], tt)
  roots_of (s ∷ ss) (c ∷ cs) (y ∷ ys) a = let t = roots_of ss cs ys a.1 in
      (a.0.is_one.stands_for.root ∷ t.0, (a.0.is_one.stands_for.root_is, t.1))
  roots_of ss cs ys a = absurd a
