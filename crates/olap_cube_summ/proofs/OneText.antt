-- Choices that can't be told apart have one text.
use Rattle.std.proofs.Common.{◌≡◌, ℕ, ◌+◌, List, [], ◌∷◌, ◌++◌, refl}
use Rattle.olap_ast.specs.Schema.{Schema}
use Rattle.olap_cube.specs.CubeSummarizable.{AreOneChoice, Chosen, bottoms_of, graphs_of, instances_of}
use Rattle.olap_instance.specs.Printing.{text_of_instance}
use Rattle.olap_cube_summ.specs.{CubeCexText.{dimensions_text, roots_of}, Laws.OneChoiceHasOneText}
use Rattle.olap_cube_summ.specs.Telling.{cube_direct_sum, cube_sums_text, cube_views_sum, number_line}
use Rattle.olap_cex.proofs.OneLine.{same_line}

-- all that the text is made of is the same
record IsTheSame (ss : List Schema) (ps qs : List Chosen) : Type 0 where
  bottoms : bottoms_of ps ≡ bottoms_of qs
  instances : instances_of ss ps ≡ instances_of ss qs
  roots : roots_of ss ps ≡ roots_of ss qs
  texts : (n : ℕ) → dimensions_text n ss ps ≡ dimensions_text n ss qs

-- choices that can't be told apart have the same roots, instances and lines
the_same : (ss : List Schema) (ps qs : List Chosen) → AreOneChoice ss ps qs → IsTheSame ss ps qs
the_same [] [] [] a = record { bottoms = refl; instances = refl; roots = refl; texts = λ n. refl }
the_same (s ∷ ss) (p ∷ ps) (q ∷ qs) a =
    let one = a.0 in
    let root = one.root in
    let instance = one.instance in
    let line = same_line s.graph p.candidates q.candidates p.bottom q.bottom p.frozen q.frozen root one.value
    one.names in
    let rest = the_same ss ps qs a.1 in
    record {
      bottoms = λ i. root i ∷ rest.bottoms i;
      instances = λ i. instance i ∷ rest.instances i;
      roots = λ i. one.place i ∷ rest.roots i;
      texts = λ n i. (number_line n ++ (line i ++ text_of_instance s.graph (instance i))) ++ rest.texts (n + 1) i;
    }
the_same ss ps qs a = absurd a

-- so they have one text
pub one_text : OneChoiceHasOneText
one_text ss ps qs c sources a =
    let t = the_same ss ps qs a in
    let is = t.instances in
    let xs = t.roots in
    λ i. (t.texts 1) i ++ cube_sums_text (graphs_of ss) (t.bottoms i) c (cube_direct_sum (is i) (xs i) c)
    (cube_views_sum (is i) (xs i) c sources)
