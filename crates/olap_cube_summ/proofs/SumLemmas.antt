-- What one fact at the roots of a choice comes to.
use Rattle.std.proofs.Common.{◌≡◌, ℕ, List, [], ◌∷◌, ◌++◌, map, ℤ, pos, Option, Some, refl, sym, ap, ◌∙◌, subst}
use Rattle.std.{proofs.lemmas.List.Elements.{All-head, All-tail}, specs.List.cons_option, specs.Prelude.All}
use Rattle.olap_base.specs.{Graph.IsHierarchy, Instance.Instance, OneFact.{HoldsTimes, ones}}
use Rattle.olap_base.specs.Views.{ExactlyOne, only_sum, row_at}
use Rattle.olap_ast.specs.{Frozen.{chosen, name_in}, Schema.Schema}
use Rattle.olap_cube.proofs.{ChoiceLemmas.{chosen_legal, chosen_up, lawful_from_legal}, CubeLemmas.one_cube_facts_views}
use Rattle.olap_cube.specs.CubeSummarizable.{BadChoicesHaveTwoSums, Chosen, IsChosen, bottoms_of, graphs_of, instances_of}
use Rattle.olap_cube.specs.Tuples.{AllZip3, IsTupleOf, TupleReachesVia}
use Rattle.olap_frozen.{proofs.ChosenLemmas.choice_of, specs.declared.founding.Found.Found}
use Rattle.olap_frozen.specs.declared.frozen.Room.{Room}
use Rattle.olap_cube_summ.proofs.PlaceLemmas.{hierarchies}
use Rattle.olap_cube_summ.specs.{CubeCexText.{cube_counterexample_text, dimensions_text, roots_of}, Drawn.AreDrawn}
use Rattle.olap_cube_summ.specs.{Found.{IsCubeCounterexampleFound, chosen_of}, Laws.CubeCounterexampleSumsDiffer}
use Rattle.olap_cube_summ.specs.{Reaching.ReachBy, Telling.{cube_direct_sum, cube_sums_text, cube_views_sum}}
use Rattle.olap_frozen.proofs.ChosenInstance as made

-- ---- the roots' members

-- they are the only members of the roots' categories
pub only_roots : (ss : List Schema) (cs : List ℕ) (ps : List Chosen) → All IsHierarchy (graphs_of ss)
    → AllZip3 IsChosen ss cs ps → (xs : List ℕ) → IsTupleOf (instances_of ss ps) (bottoms_of ps) xs
    → xs ≡ roots_of ss ps
only_roots [] [] [] h a [] m = refl
only_roots [] [] [] h a (x ∷ xs) m = absurd m
only_roots (s ∷ ss) (c ∷ cs) (p ∷ ps) h a [] m = absurd m
only_roots (s ∷ ss) (c ∷ cs) (p ∷ ps) h a (x ∷ xs) m =
    let ch = choice_of s.graph p.bottom p.frozen.edges (All-head IsHierarchy s.graph (graphs_of ss) h) a.0.bottom.0.1 in
    let e = (made.only_member s.graph p.bottom (chosen s.graph.edges p.frozen.edges) ch
    (name_in p.candidates p.frozen) p.bottom x m.0).1 in
    λ k. sym e k ∷ (only_roots ss cs ps (All-tail IsHierarchy s.graph (graphs_of ss) h) a.1 xs m.1) k
only_roots ss cs ps h a xs m = absurd a

-- ---- sums of ones

-- the sums of the fact at the roots, where the roots reach the target by n of the sources
pub record HasSums (is : List Instance) (x c : List ℕ) (sources : List (List ℕ)) (n : ℕ) : Type 0 where
  pub row : List ℕ
  pub direct : cube_direct_sum is x c ≡ Some (pos 1)
  pub views : cube_views_sum is x c sources ≡ only_sum (cons_option (row_at row (ones n)) [])

-- both sums of one fact, by the number of sources that are ways
pub sums_are : (ss : List Schema) (c : List ℕ) (ps : List Chosen) → AllZip3 IsChosen ss c ps → (x : List ℕ)
    → IsTupleOf (instances_of ss ps) (bottoms_of ps) x → (sources : List (List ℕ)) (n : ℕ)
    → HoldsTimes (λ t. TupleReachesVia (instances_of ss ps) x t c) sources n
    → HasSums (instances_of ss ps) x c sources n
sums_are ss c ps a x m sources n ways =
    let up = chosen_up ss c ps a x m in
    let views = one_cube_facts_views (graphs_of ss) (instances_of ss ps)
    (lawful_from_legal ss (instances_of ss ps) (chosen_legal ss c ps a)) c x up.0 up.1 up.2 sources n ways in
    record { row = up.0; direct = ap only_sum views.0; views = ap only_sum views.1 }

-- ---- the text

-- the lines of a counterexample's choice, with the sum of this many ones, are its text
pub text_is : (ss : List Schema) (cs : List ℕ) (sources : List (List ℕ)) (fs : List Found) (rooms : List Room)
    → IsCubeCounterexampleFound ss cs sources fs → AreDrawn ss fs rooms → (n : ℕ)
    → HoldsTimes (λ t. ReachBy ss fs t cs) sources n → (views : Option ℤ)
    → ((row : List ℕ) → views ≡ only_sum (cons_option (row_at row (ones n)) []))
    → dimensions_text 1 ss (map chosen_of fs)
    ++ cube_sums_text (graphs_of ss) (bottoms_of (map chosen_of fs)) cs (Some (pos 1)) views
    ≡ cube_counterexample_text ss (map chosen_of fs) cs sources
text_is ss cs sources fs rooms found drawn n ways views views_are =
    let ps = map chosen_of fs in
    let bad = found.is_one.is_one in
    let there = only_roots ss cs ps (hierarchies ss fs rooms drawn) bad.chosen bad.roots bad.roots_are in
    let roots = subst (λ xs. IsTupleOf (instances_of ss ps) (bottoms_of ps) xs) there bad.roots_are in
    let sums = sums_are ss cs ps bad.chosen (roots_of ss ps) roots sources n ways in
    let direct : Some (pos 1) ≡ cube_direct_sum (instances_of ss ps) (roots_of ss ps) cs = sym sums.direct in
    let merged : views ≡ cube_views_sum (instances_of ss ps) (roots_of ss ps) cs sources =
    views_are sums.row ∙ sym sums.views in
    λ i. dimensions_text 1 ss ps ++ cube_sums_text (graphs_of ss) (bottoms_of ps) cs (direct i) (merged i)

-- ---- the law

-- those of a bad choice differ
pub sums_differ : BadChoicesHaveTwoSums → CubeCounterexampleSumsDiffer
sums_differ law ss c sources ps h b =
    law ss c sources ps (record {
      chosen = b.chosen;
      roots = roots_of ss ps;
      roots_are = subst (λ xs. IsTupleOf (instances_of ss ps) (bottoms_of ps) xs) there b.roots_are;
      bad = subst (λ xs. IsNot xs) there b.bad;
    })
  where
    there : b.roots ≡ roots_of ss ps
    there = only_roots ss c ps h b.chosen b.roots b.roots_are

    IsNot : List ℕ → Type 0
    IsNot xs = ExactlyOne (λ t. TupleReachesVia (instances_of ss ps) xs t c) sources → ⊥
