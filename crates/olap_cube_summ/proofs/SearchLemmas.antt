-- What searches for frozen dimensions by their patterns say.
use Rattle.std.{proofs.Common.{◌≡◌, ℕ, ◌↔◌, List, length, sym, subst, ◌∙◌}, specs.Int.bit_at, specs.List.range_with_len}
use Rattle.std.specs.Prelude.{slice_index}
use Rattle.olap_base.proofs.{DecisionLemmas.{dec_below, dec_both}, ListLemmas.Contains-range}
use Rattle.olap_base.specs.{Deciding.{dec_and, dec_iff}, Graph.IsBottom}
use Rattle.olap_base.specs.{Instance.{Instance, IsMemberOf, ReachesCategory, ReachesVia}, declared.ids.CatId.CatId}
use Rattle.olap_ast.proofs.{Decided.{dec_some, dec_via}, Determined.still_frozen}
use Rattle.olap_ast.{proofs.SameAtoms.{candidates_too, frozen_too}, specs.Formula.{Formula, Formula.Reach}}
use Rattle.olap_ast.specs.{Frozen.{AreCandidates, Candidates, Frozen, IsFrozen, thawed}, Questions.NoneFrozen}
use Rattle.olap_ast.specs.{Schema.Schema, Trees.numbers_of}
use Rattle.olap_bits.specs.{Sets.members, declared.sets.CatSet.CatSet}
use Rattle.olap_cube.specs.CubeSummarizable.{Chosen, IsChosen}
use Rattle.olap_cube_summ.{proofs.BelowLemmas.{dec_less, dec_true}, specs.Found.chosen_of, specs.Masks.{Has, IsIn}}
use Rattle.olap_cube_summ.specs.Patterns.{AreAllKnown, IsKnown, IsLeastKnown, IsOther, SomeIsKnown, shape_of}
use Rattle.olap_cube_summ.specs.Questions.{sources_in, target_in}
use Rattle.olap_cube_summ.specs.Ways.{HasWays, HasWaysIn, IsAboutWays, IsInside, IsOutside}
use Rattle.olap_cube_summ.specs.declared.questions.Question.{Question}
use Rattle.olap_dimsat.specs.OneFound.{IsOneFound}
use Rattle.olap_frozen.specs.{LeastFound.{IsLeastFound, frozen_of}, declared.founding.Found.Found}
use Rattle.olap_names.specs.Names.{candidates_of}
use Rattle.std.specs.FinSet as set
use native.Mathlib.Decide.{ℕ_discrete}

-- what holds at the root holds at each member of its category
pub at_root : (s : Schema) (f : Formula) (r : ℕ) (k : Candidates) (h : Frozen) → (t : IsFrozen s f r k h)
    → (P : ℕ → Type 0) → P t.stands_for.root → (x : ℕ) → IsMemberOf (thawed s k r h) r x → P x
at_root s f r k h t P p x m = let z = t.stands_for in
    subst P (z.one_each z.root x z.root_is.0 m.0 (z.root_is.1 ∙ sym m.1)) p

-- what a formula says of equal columns
pub about_same : (c : ℕ) (P : List ℕ → Instance → ℕ → Type 0) (f : Formula) (xs ys : List CatId) → xs ≡ ys
    → IsAboutWays c (numbers_of xs) (P (numbers_of xs)) f → IsAboutWays c (numbers_of ys) (P (numbers_of ys)) f
about_same c P f xs ys e a = subst (λ (w : List CatId). IsAboutWays c (numbers_of w) (P (numbers_of w)) f) e a

-- whether a member reaches a target by one of the patterns
dec_ways_in : (i : Instance) (x c : ℕ) (column : List ℕ) (patterns : CatSet 4) → Dec (HasWaysIn i x c column patterns)
dec_ways_in i x c column patterns =
    dec_iff (λ t. (t.0, t.2.0, t.2.1)) (λ t. (t.0, Contains-range 256 t.0 t.1.0, (t.1, t.2)))
    (dec_some (λ p. IsIn patterns p × HasWays i x c column p)
    (λ p. dec_and (dec_and (dec_less p 256) (dec_true (set.contains (members patterns) p)))
    (dec_below (λ k. Has p k ↔ ReachesVia i x (slice_index column k) c)
    (λ k. dec_both (ℕ_discrete (bit_at p k) 1) (dec_via i x (slice_index column k) c)) (length column)))
    (range_with_len 0 256))

module _ (s : Schema) (q : Question) where
  abbrev c : ℕ
  c = target_in q

  abbrev column : List ℕ
  column = sources_in q

  -- a formula about ways, and what its indexes of names stand for
  module _ (P : Instance → ℕ → Type 0) (f : Formula) (about : IsAboutWays c column P f) (k : Candidates)
      (candidates : AreCandidates s f k) where
    -- a choice of which it says the truth is one that its search knows
    pub asked : (h : Chosen) → (a : IsChosen s c h) → P (shape_of s h) a.is_one.stands_for.root
        → IsFrozen s f h.bottom k h.frozen
    asked h a p = still_frozen s f h.bottom h.candidates k
        (candidates_too s (Reach c) f (sym about.free) (sym about.numberless) h.candidates a.candidates) candidates
        h.frozen
        (frozen_too s (Reach c) f (sym about.free) (sym about.numberless) h.bottom h.candidates h.frozen a.is_one
        ((about.means (shape_of s h) a.is_one.stands_for.root).1 p))

    -- and what it finds is a choice
    pub chosen : (r : ℕ) → IsBottom s.graph r → ((i : Instance) (x : ℕ) → P i x → ReachesCategory i x c) → (h : Frozen)
        → IsFrozen s f r k h → IsChosen s c (record { bottom = r; candidates = k; frozen = h })
    chosen r b reach h t = record {
      bottom = b;
      candidates = candidates_too s f (Reach c) about.free about.numberless k candidates;
      is_one = frozen_too s f (Reach c) about.free about.numberless r k h t
          (reach (thawed s k r h) t.stands_for.root
          ((about.means (thawed s k r h) t.stands_for.root).0 t.stands_for.true_at_root));
    }

    -- of which it says the truth
    pub truth : (r : ℕ) (h : Frozen) → IsFrozen s f r k h → (x : ℕ) → IsMemberOf (thawed s k r h) r x
        → P (thawed s k r h) x
    truth r h t = at_root s f r k h t (P (thawed s k r h))
        ((about.means (thawed s k r h) t.stands_for.root).0 t.stands_for.true_at_root)

  -- what is known of a choice holds at its root
  pub known_at : (patterns : CatSet 4) (h : Chosen) → IsKnown s q patterns h → (x : ℕ)
      → IsMemberOf (shape_of s h) h.bottom x → HasWaysIn (shape_of s h) x c column patterns
  known_at patterns h w x m = (w.0, w.1, w.2 x m)

  -- and back
  pub known_by : (patterns : CatSet 4) (h : Chosen) (a : IsChosen s c h)
      → HasWaysIn (shape_of s h) a.is_one.stands_for.root c column patterns → IsKnown s q patterns h
  known_by patterns h a w = (
    w.0,
    w.1,
    at_root s (Reach c) h.bottom h.candidates h.frozen a.is_one
        (λ x. HasWays (shape_of s h) x c column w.0) w.2,
  )

  -- ---- any other

  module _ (patterns : CatSet 4) (f : Formula) (about : IsAboutWays c column (IsOutside c column patterns) f) where
    -- if there is no other, all are known
    pub all_known : (b : ℕ) (k : Candidates) → AreCandidates s f k → NoneFrozen s f b k → AreAllKnown s q b patterns
    all_known b k candidates none h a e =
        go (dec_ways_in (shape_of s h) a.is_one.stands_for.root c column patterns)
      where
        go : Dec (HasWaysIn (shape_of s h) a.is_one.stands_for.root c column patterns) → IsKnown s q patterns h
        go (yes w) = known_by patterns h a w
        go (no n) = absurd (none h.frozen (subst (λ r. IsFrozen s f r k h.frozen) e
            (asked (IsOutside c column patterns) f about k candidates h a (a.is_one.stands_for.true_at_root, n))))

    -- what is found is another
    pub is_other : (b : ℕ) (found : Found) → IsBottom s.graph b → IsOneFound s f b found → IsOther s q b patterns found
    is_other b found bottom one = record {
      root = one.root;
      is_found = record { chosen = a; sized = one.sized; zero = one.zero };
      new = λ w. (truth (IsOutside c column patterns) f about (candidates_of found.candidates) one.candidates
          found.frozen.root.0 (frozen_of found.frozen) t t.stands_for.root t.stands_for.root_is).1
          (known_at patterns (chosen_of found) w t.stands_for.root t.stands_for.root_is);
    }
      where
        t : IsFrozen s f found.frozen.root.0 (candidates_of found.candidates) (frozen_of found.frozen)
        t = rw one.root one.is_one

        a : IsChosen s c (chosen_of found)
        a = chosen (IsOutside c column patterns) f about (candidates_of found.candidates) one.candidates
            found.frozen.root.0 (subst (IsBottom s.graph) (sym one.root) bottom) (λ i x p. p.0)
            (frozen_of found.frozen) t

  -- ---- the least of some

  module _ (patterns : CatSet 4) (f : Formula) (about : IsAboutWays c column (IsInside c column patterns) f) where
    -- one that is known is found
    pub some_found : (b : ℕ) (k : Candidates) → AreCandidates s f k → SomeIsKnown s q b patterns
        → NoneFrozen s f b k → ⊥
    some_found b k candidates some none = let h = some.0 in let a = some.1 in let z = a.is_one.stands_for in
        none h.frozen (rw some.2 at (asked (IsInside c column patterns) f about k candidates h a
        (z.true_at_root, known_at patterns h some.3 z.root z.root_is)))

    -- what is found is the least
    pub is_least : (b : ℕ) (found : Found) → IsBottom s.graph b → IsLeastFound s f b found
        → IsLeastKnown s q b patterns found
    is_least b found bottom one = record {
      root = one.root;
      is_found = record { chosen = a; sized = one.sized; zero = one.zero };
      known = known_by patterns (chosen_of found) a
          (truth (IsInside c column patterns) f about (candidates_of found.candidates) one.least.candidates
          found.frozen.root.0 (frozen_of found.frozen) t a.is_one.stands_for.root a.is_one.stands_for.root_is).1;
      least = λ h u e w. one.least.least h.frozen
          (subst (λ r. IsFrozen s f r (candidates_of found.candidates) h.frozen) e
          (asked (IsInside c column patterns) f about (candidates_of found.candidates) one.least.candidates h u (
            u.is_one.stands_for.true_at_root,
            known_at patterns h w u.is_one.stands_for.root u.is_one.stands_for.root_is,
          )));
    }
      where
        t : IsFrozen s f found.frozen.root.0 (candidates_of found.candidates) (frozen_of found.frozen)
        t = rw one.root one.least.is_one

        a : IsChosen s c (chosen_of found)
        a = chosen (IsInside c column patterns) f about (candidates_of found.candidates) one.least.candidates
            found.frozen.root.0 (subst (IsBottom s.graph) (sym one.root) bottom) (λ i x p. p.0)
            (frozen_of found.frozen) t
