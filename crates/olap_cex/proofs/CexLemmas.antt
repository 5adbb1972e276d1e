-- The two sums of a counterexample, and its text.
use Rattle.std.proofs.Common.{◌≡◌, ◌≢◌, ℕ, zero, suc, List, [], ◌++◌, ℤ, pos, Option, Some, None, refl, sym, ◌∙◌, ap}
use Rattle.std.specs.{List.cons_option, Option.option_map}
use Rattle.olap_ast.specs.Schema.{Constraint}
use Rattle.olap_base.{proofs.OneFactLemmas.one_facts_views, specs.Graph.{Graph, IsHierarchy}}
use Rattle.olap_base.specs.{Instance.{Instance, ReachesCategory, ReachesVia, category_of}, OneFact.{HoldsTimes, ones}}
use Rattle.olap_base.specs.Views.{only_sum, row_at}
use Rattle.olap_frozen.specs.{LeastFound.frozen_of, declared.founding.Found.Found}
use Rattle.olap_instance.specs.Printing.{text_of_instance}
use Rattle.olap_names.specs.Names.{candidates_of, with_graph}
use Rattle.olap_cex.specs.{CexFor.{IsCexFor, cex_text}, CexText.{counterexample_text, direct_sum, sums_text, views_sum}}
use Rattle.olap_cex.specs.FoundFor.{IsFoundFor, found_edges, found_instance, found_name, found_place}
use Rattle.olap_cex.specs.declared.counterexamples.Cex.{Cex}
use Rattle.olap_frozen.proofs.ChosenInstance as made
use Rattle.olap_cex.proofs.DraftLemmas as draft

-- ---- sums of ones

-- no ones give no row, so there is no sum
pub no_ones : (y n : ℕ) → n ≡ 0 → only_sum (cons_option (row_at y (ones n)) []) ≡ None
no_ones y n e = ap (λ m. only_sum (cons_option (row_at y (ones m)) [])) e

-- the sum of some ones is their number
pub some_ones : (y n : ℕ) → n ≢ 0 → only_sum (cons_option (row_at y (ones n)) []) ≡ Some (pos n)
some_ones y zero n = absurd (n refl)
some_ones y (suc m) n = refl

module _ (g : Graph) (found : Found) (ok : IsFoundFor g found) (hier : IsHierarchy g) (c : ℕ) (sources : List ℕ)
    (reaches : ReachesCategory (found_instance g found) (found_place g found) c) (n : ℕ)
    (ways : HoldsTimes (λ s. ReachesVia (found_instance g found) (found_place g found) s c) sources n) where
  pub direct_is : direct_sum (found_instance g found) (found_place g found) c ≡ Some (pos 1)
  direct_is = ap only_sum (one_facts_views g (found_instance g found) (draft.stands g found ok hier).legal.lawful c
      (found_place g found) reaches.0 reaches.1 reaches.2 sources n ways).0

  pub views_are : views_sum (found_instance g found) (found_place g found) c sources
      ≡ only_sum (cons_option (row_at reaches.0 (ones n)) [])
  views_are = ap only_sum (one_facts_views g (found_instance g found) (draft.stands g found ok hier).legal.lawful c
      (found_place g found) reaches.0 reaches.1 reaches.2 sources n ways).1

-- ---- the text

-- equal instances, facts, targets and sums have equal texts
same_text : (text : Instance → List ℕ) (sums : ℕ → ℕ → Option ℤ → Option ℤ → List ℕ) (i j : Instance)
    (x y b c d : ℕ) (p q v w : Option ℤ) → i ≡ j → x ≡ y → category_of j y ≡ b → c ≡ d → p ≡ q → v ≡ w
    → text i ++ sums (category_of i x) c p v ≡ text j ++ sums b d q w
same_text text sums i j x y b c d p q v w a e k l m n =
    ap (λ z. text z ++ sums (category_of z x) c p v) a
    ∙ ap (λ z. text j ++ sums z c p v) (ap (category_of j) e ∙ k)
    ∙ ap (λ z. text j ++ sums b z p v) l ∙ ap (λ z. text j ++ sums b d z v) m ∙ ap (λ z. text j ++ sums b d q z) n

-- the text of a counterexample that was found is that of the definitions
pub cex_text_is : (g : Graph) (found : Found) (ok : IsFoundFor g found) (hier : IsHierarchy g) (c : ℕ)
    (sources : List ℕ) (cex : Cex) → IsCexFor g found c sources cex → (constraints : List Constraint)
    → cex_text g cex ≡ counterexample_text (with_graph g constraints) (candidates_of found.candidates)
    found.frozen.root.0 (frozen_of found.frozen) c sources
cex_text_is g found ok hier c sources cex t constraints =
    let r = found.frozen.root.0 in
    let ch = draft.choice g found ok hier in
    let m = made.member_is g r (found_edges g found) ch (λ d. found_name found d) r
    (made.root_present g r (found_edges g found) ch) in
    same_text (text_of_instance g) (sums_text g) cex.instance (found_instance g found) cex.fact.0 (found_place g found)
    r cex.target.0 c (Some (pos cex.direct)) (direct_sum (found_instance g found) (found_place g found) c)
    (option_map pos cex.views) (views_sum (found_instance g found) (found_place g found) c sources)
    t.instance t.fact m.1 t.target (sym t.direct) (sym t.views)
