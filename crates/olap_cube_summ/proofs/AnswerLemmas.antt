-- What the search answers of a cube.
use Rattle.std.proofs.Common.{◌≡◌, ℕ, ◌+◌, ◌<◌, ◌↔◌, List, [], ◌∷◌, length, map, sym, subst, ◌∙◌, arith}
use Rattle.std.specs.{Int.Bits.bit_and, List.range_with_len, Prelude.{All, slice_index, slice_index_or}}
use Rattle.olap_ast.specs.Schema.{Schema}
use Rattle.olap_base.specs.{Instance.Instance, Views.ExactlyOne}
use Rattle.olap_bits.specs.declared.sets.CatSet.{CatSet}
use Rattle.olap_cube.proofs.RankLemmas.{from_least}
use Rattle.olap_cube.specs.CubeSummarizable.{Chosen, IsBadChoice, IsChosen, bottoms_of, instances_of}
use Rattle.olap_cube.specs.Tuples.{AllZip3, IsTupleOf, TupleReachesVia}
use Rattle.olap_cube_summ.proofs.BelowLemmas.{one_at_places}
use Rattle.olap_cube_summ.proofs.ChoiceLemmas.{Ends, IsLeftBy, bottoms_in, can_end, ends_of, least_bottoms, least_chosen, least_is_bad, least_of_all, least_sized, roots_of, row_in, schemas_in, targets_in}
use Rattle.olap_cube_summ.proofs.DimensionLemmas.{are_dimensions, families_are, families_of, of_length, questions_are, schemas_are}
use Rattle.olap_cube_summ.proofs.PatternLemmas.{has_all, same_itself}
use Rattle.olap_cube_summ.specs.Choices.{AreFamiliesOf, AreLeast, Dimension, IsDimension, dimensions_of, sets_of}
use Rattle.olap_cube_summ.specs.Families.{AreFirst, AreOf, AreUnions, patterns_of}
use Rattle.olap_cube_summ.specs.{Found.{IsCubeCounterexampleFound, chosen_of}, Masks.{CanBeBad, all_of}}
use Rattle.olap_cube_summ.specs.Questions.{AreQuestions, AreQuestionsOf, sources_in, target_in}
use Rattle.olap_cube_summ.specs.declared.{families.Family.Family, questions.Question.Question}
use Rattle.olap_frozen.specs.declared.founding.Found.{Found}
use Rattle.olap_cube_summ.specs.Families as grouped

-- families of some dimensions can be bad, then so can their unions
pub by_unions : (n : ℕ) (ds : List (List Family)) (us : List (CatSet 4)) → AreUnions ds us → (xs : List Family)
    → AreOf ds xs → (m : ℕ) → CanBeBad n (patterns_of xs) m → CanBeBad n us m
by_unions n [] [] u [] a m b = b
by_unions n [] (s ∷ us) u xs a m b = absurd u
by_unions n (d ∷ ds) [] u xs a m b = absurd u
by_unions n (d ∷ ds) (s ∷ us) u (x ∷ xs) a m b =
    (b.0, (u.0 b.0).1 (x, a.0, b.1), by_unions n ds us u.1 xs a.1 (bit_and m b.0) b.2)
by_unions n ds us u xs a m b = absurd a

-- ---- sources by their places

-- exactly one source is a way exactly if one of the places is, where all are in the mask
module _ (ds : List Dimension) (sources : List (List ℕ))
    (rows : (k : ℕ) → k < length sources → row_in k ds ≡ slice_index_or sources k []) (is : List Instance)
    (roots : List ℕ) where
  pub one_way : ExactlyOne (λ t. TupleReachesVia is roots t (targets_in ds)) sources
      ↔ ExactlyOne (IsLeftBy (length sources) (all_of (length sources)) is roots ds) (range_with_len 0 (length sources))
  one_way = one_at_places (λ t. TupleReachesVia is roots t (targets_in ds))
      (IsLeftBy (length sources) (all_of (length sources)) is roots ds) [] sources 0
      (λ k l. subst (λ w. TupleReachesVia is roots (slice_index_or sources k []) (targets_in ds)
      ↔ IsLeftBy (length sources) (all_of (length sources)) is roots ds w)
      (let z : k ≡ 0 + k = omega arith in z) (at k l))
    where
      at : (k : ℕ) → k < length sources → TupleReachesVia is roots (slice_index_or sources k []) (targets_in ds)
          ↔ IsLeftBy (length sources) (all_of (length sources)) is roots ds k
      at k l = (
        λ v. (has_all (length sources) k l, subst (λ t. TupleReachesVia is roots t (targets_in ds)) (sym (rows k l)) v),
        λ v. subst (λ t. TupleReachesVia is roots t (targets_in ds)) (rows k l) v.1,
      )

-- ---- the answers

module _ (ss : List Schema) (c : List ℕ) (sources : List (List ℕ)) (qs : List Question) (fss : List (List Family))
    (asked : AreQuestions c sources qs) (of : AreQuestionsOf ss qs) (families : AreFamiliesOf ss qs fss) where
  abbrev n : ℕ
  n = length sources

  -- facts of dimensions with some families
  module _ (fs : List Family) (one : AreOf fss fs) where
    abbrev ds : List Dimension
    ds = dimensions_of ss qs fs

    count : length fs ≡ length ss
    count = of_length ss qs fss fs families one

    pub dimensions : All (IsDimension n) ds
    dimensions = are_dimensions n ss qs fss fs of asked.counts families one

    same_schemas : schemas_in ds ≡ ss
    same_schemas = schemas_are ss qs fs of.count count

    same_targets : targets_in ds ≡ c
    same_targets = questions_are target_in ss qs fs of.count count ∙ asked.targets

    same_rows : (k : ℕ) → k < length sources → row_in k ds ≡ slice_index_or sources k []
    same_rows k l = questions_are (λ q. slice_index (sources_in q) k) ss qs fs of.count count ∙ asked.rows k l

    same_sets : sets_of ds ≡ patterns_of fs
    same_sets = families_are (λ (f : Family). f.patterns) ss qs fs of.count count

    same_bottoms : bottoms_in ds ≡ grouped.bottoms_of fs
    same_bottoms = families_are (λ (f : Family). f.bottom.0) ss qs fs of.count count

    -- a bad choice with the families' bottom categories ends badly
    ends_by : (schemas : List Schema) (targets : List ℕ) → schemas ≡ schemas_in ds → targets ≡ targets_in ds
        → (ys : List Chosen) → IsBadChoice schemas targets sources ys → bottoms_of ys ≡ bottoms_in ds
        → Ends n ds (all_of n) ys
    ends_by schemas targets e f ys b q =
        let bad =
        subst (λ w. ExactlyOne (λ t. TupleReachesVia (instances_of w ys) b.roots t (targets_in ds)) sources → ⊥) e
        (subst (λ w. ExactlyOne (λ t. TupleReachesVia (instances_of schemas ys) b.roots t w) sources → ⊥) f b.bad) in
        ends_of n ds dimensions ys (rw (e, f) at b.chosen) q b.roots (rw e at b.roots_are) (all_of n)
        (λ o. bad ((one_way ds sources same_rows (instances_of (schemas_in ds) ys) b.roots).1 o))

  -- a bad choice ends badly by the families of its bottom categories
  bad_families : (ys : List Chosen) → IsBadChoice ss c sources ys
      → (fs : List Family) × AreOf fss fs × (bottoms_of ys ≡ grouped.bottoms_of fs)
      × CanBeBad n (patterns_of fs) (all_of n)
  bad_families ys b =
      let t = families_of ss qs fss c ys families b.chosen in
      let e = ends_by t.0 t.1 ss c (sym (same_schemas t.0 t.1)) (sym (same_targets t.0 t.1)) ys b
      (t.2 ∙ sym (same_bottoms t.0 t.1)) in (
        t.0,
        t.1,
        t.2,
        rw (same_sets t.0 t.1) at (can_end n (dimensions_of ss qs t.0) (all_of n) ys e),
      )

  -- where the sets of patterns can't be bad, no choice is
  pub none_bad : (sets : List (CatSet 4)) → AreUnions fss sets → (CanBeBad n sets (all_of n) → ⊥) → (ys : List Chosen)
      → IsBadChoice ss c sources ys → ⊥
  none_bad sets u none ys b = let t = bad_families ys b in none (by_unions n fss sets u t.0 t.1 (all_of n) t.3)

  -- else what was chosen with the first families is the counterexample
  module _ (first : List Family) (is_first : AreFirst n fss first) (founds : List Found)
      (least : AreLeast n (dimensions_of ss qs first) (all_of n) founds) where
    abbrev one : AreOf fss first
    one = is_first.are_of

    abbrev dims : List Dimension
    dims = dimensions_of ss qs first

    abbrev choice : List Chosen
    choice = map chosen_of founds

    bottoms_are : bottoms_of choice ≡ bottoms_in dims
    bottoms_are = least_bottoms n dims (all_of n) founds least

    there : IsBadChoice (schemas_in dims) (targets_in dims) sources choice
    there = record {
      chosen = chosen;
      roots = roots.0;
      roots_are = roots.1;
      bad = λ o. least_is_bad n dims (dimensions first one) (all_of n) founds least roots.0 roots.1
          ((one_way dims sources (same_rows first one) (instances_of (schemas_in dims) choice) roots.0).0 o);
    }
      where
        chosen : AllZip3 IsChosen (schemas_in dims) (targets_in dims) choice
        chosen = least_chosen n dims (all_of n) founds least

        roots : (roots : List ℕ) × IsTupleOf (instances_of (schemas_in dims) choice) (bottoms_of choice) roots
        roots = roots_of n (schemas_in dims) (targets_in dims) choice chosen

    pub is_bad : IsBadChoice ss c sources choice
    is_bad = rw (same_schemas first one, same_targets first one) at there

    pub is_counterexample : IsCubeCounterexampleFound ss c sources founds
    is_counterexample = record {
      is_one = from_least ss c sources choice (record {
        is_bad = is_bad;
        first = λ other b. let t = bad_families other b in
            rw (bottoms_are ∙ same_bottoms first one, t.2) (is_first.least t.0 t.1 t.3);
        least = λ other b e. least_of_all n dims (dimensions first one) (all_of n) (all_of n) (same_itself n (all_of n))
            founds least other
            (ends_by first one ss c (sym (same_schemas first one)) (sym (same_targets first one)) other b
            (e ∙ bottoms_are));
      });
      sized = rw (same_schemas first one) at (least_sized n dims (all_of n) founds least);
    }
