-- The least choice, dimension by dimension.
use Rattle.std.proofs.Common.{◌≡◌, ℕ, ◌+◌, ◌-◌, ◌<◌, ◌≤◌, ◌↔◌, ◌++◌, List, [], ◌∷◌, length, drop, take, get_or, refl, ap, sym, subst, ◌∙◌, append_assoc, arith}
use Rattle.std.proofs.lemmas.List.{append-nil, drop-map, drop_all, take_rest, Elements.{All-drop, All-head}}
use Rattle.std.specs.{Int.Bits.bit_and, Prelude.{All, slice_index_or}}
use Rattle.olap_ast.specs.Schema.{Schema}
use Rattle.olap_bits.specs.declared.sets.CatSet.{CatSet}
use Rattle.olap_cube_summ.proofs.DimensionLemmas.{dimension_taken, families_are}
use Rattle.olap_cube_summ.proofs.PatternLemmas.{bad_too, same_itself, same_met, same_patterns}
use Rattle.olap_cube_summ.specs.Choices.{AreLeast, Dimension, IsDimension, IsLeastBefore, dimensions_of, sets_of}
use Rattle.olap_cube_summ.specs.{Dimensions.no_schema, Families.patterns_of, Found.chosen_of}
use Rattle.olap_cube_summ.specs.{Masks.{CanBeBad, IsIn, all_of}, Patterns.{HasPattern, IsLeastKnown}}
use Rattle.olap_cube_summ.specs.declared.{families.Family.Family, questions.Question.Question}
use Rattle.olap_frozen.specs.declared.founding.Found.{Found}

module _ (n : ℕ) (d : Dimension) (is : IsDimension n d) (rest : List (CatSet 4)) (mask : ℕ) (possible : CatSet 4)
    (means : (p : ℕ) → IsIn possible p ↔ (IsIn d.family.patterns p × CanBeBad n rest (bit_and mask p))) where
  -- and the least is found
  pub is_least_before : (found : Found) → IsLeastKnown d.schema d.question d.family.bottom.0 possible found
      → (pattern : ℕ) → HasPattern d.schema d.question (chosen_of found) pattern
      → IsLeastBefore n d rest mask found (bit_and mask pattern)
  is_least_before found l pattern has = record {
    root = l.root;
    is_found = l.is_found;
    pattern = pattern;
    has = has;
    left_is = refl;
    bad = let k = l.known in bad_too n rest (bit_and mask k.0) (bit_and mask pattern)
        (same_met n mask mask k.0 pattern (same_itself n mask)
        (same_patterns d.schema d.question n is.count (chosen_of found) l.is_found.chosen k.0 pattern k.2 has))
        ((means k.0).0 k.1).1;
    least = λ h a e p i t b. l.least h a e (p, (means p).1 (i, b), t);
  }

module _ (n : ℕ) (ss : List Schema) (qs : List Question) (fs : List Family) (many : length qs ≡ length ss)
    (each : length fs ≡ length ss) where
  -- at first the mask can be bad
  pub first_bad : (mask : ℕ) → mask ≡ all_of n → CanBeBad n (patterns_of fs) (all_of n)
      → CanBeBad n (sets_of (dimensions_of ss qs fs)) mask
  first_bad mask e bad = rw (e, families_are (λ (f : Family). f.patterns) ss qs fs many each) bad

  -- where no dimension is left
  pub all_least : (i mask : ℕ) (founds : List Found) → length ss ≤ i
      → CanBeBad n (sets_of (drop i (dimensions_of ss qs fs))) mask
      → ((xs : List Found) → AreLeast n (drop i (dimensions_of ss qs fs)) mask xs
      → AreLeast n (dimensions_of ss qs fs) (all_of n) (founds ++ xs))
      → AreLeast n (dimensions_of ss qs fs) (all_of n) founds
  all_least i mask founds l bad h =
      let none = drop_all i (dimensions_of ss qs fs) (let few = are_few ss qs fs in omega arith) in
      rw append-nil at (h [] (rw none (rw none at bad)))
    where
      are_few : (ss : List Schema) (qs : List Question) (fs : List Family)
          → length (dimensions_of ss qs fs) ≤ length ss
      are_few (s ∷ ss) (q ∷ qs) (f ∷ fs) = let l = are_few ss qs fs in omega arith
      are_few ss qs fs = omega arith

  module _ (are : All (IsDimension n) (dimensions_of ss qs fs)) (i : ℕ) (s : Schema) (q : Question) (f : Family)
      (inside : i < length ss) (schema_is : s ≡ slice_index_or ss i no_schema) (question_is : q ≡ get_or qs i q)
      (family_is : f ≡ get_or fs i f) where
    -- the dimension at a place comes before the rest
    taken : drop i (dimensions_of ss qs fs)
        ≡ record { schema = s; question = q; family = f } ∷ drop (i + 1) (dimensions_of ss qs fs)
    taken = dimension_taken ss qs fs i s q f many each inside schema_is question_is family_is

    -- it is one
    is_one : IsDimension n (record { schema = s; question = q; family = f })
    is_one = All-head (IsDimension n) _ (drop (i + 1) (dimensions_of ss qs fs))
        (rw taken at (All-drop (IsDimension n) i (dimensions_of ss qs fs) are))

    -- with as many sources as its own question
    pub is_dimension : IsDimension (length q.sources) (record { schema = s; question = q; family = f })
    is_dimension = record { question = is_one.question; count = refl; family = is_one.family }

    module _ (sets : List (CatSet 4)) (sets_are : sets ≡ patterns_of fs) (mask : ℕ) where
      -- the sets that are left are those of the dimensions
      left_are : take (length sets - (i + 1)) (drop (i + 1) sets) ≡ sets_of (drop (i + 1) (dimensions_of ss qs fs))
      left_are = take_rest sets (i + 1)
          ∙ ap (drop (i + 1)) (sets_are ∙ sym (families_are (λ (f : Family). f.patterns) ss qs fs many each))
          ∙ drop-map (λ (d : Dimension). d.family.patterns) (i + 1) (dimensions_of ss qs fs)

      -- it can be bad before them
      pub bad_here : CanBeBad n (sets_of (drop i (dimensions_of ss qs fs))) mask
          → CanBeBad (length q.sources) (f.patterns ∷ take (length sets - (i + 1)) (drop (i + 1) sets)) mask
      bad_here bad =
          let rest = take (length sets - (i + 1)) (drop (i + 1) sets) in
          subst (λ m. CanBeBad m (f.patterns ∷ rest) mask) (sym is_one.count)
          (subst (λ w. CanBeBad n (f.patterns ∷ w) mask) (sym left_are) (rw taken at bad))

      -- its least one is followed by the least of the rest, and the rest can be bad
      pub one_more : (left : ℕ) (founds next : List Found) (found : Found) → next ≡ founds ++ found ∷ []
          → IsLeastBefore (length q.sources) (record { schema = s; question = q; family = f })
          (take (length sets - (i + 1)) (drop (i + 1) sets)) mask found left
          → ((xs : List Found) → AreLeast n (drop i (dimensions_of ss qs fs)) mask xs
          → AreLeast n (dimensions_of ss qs fs) (all_of n) (founds ++ xs))
          → ((xs : List Found) → AreLeast n (drop (i + 1) (dimensions_of ss qs fs)) left xs
          → AreLeast n (dimensions_of ss qs fs) (all_of n) (next ++ xs))
          × CanBeBad n (sets_of (drop (i + 1) (dimensions_of ss qs fs))) left
      one_more left founds next found made least h =
          let its = rw (is_one.count, left_are) at least in (
            λ xs a. rw (made, append_assoc founds (found ∷ []) xs) (h (found ∷ xs) (rw taken (left, its, a))),
            its.bad,
          )
