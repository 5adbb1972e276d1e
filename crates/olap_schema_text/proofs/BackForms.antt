-- A printed formula over words is resolved to the formula.
use Rattle.std.proofs.Common.{◌≡◌, ◌≢◌, ◌==◌, ℕ, suc, true, false, List, [], ◌∷◌, Option, Some, None, All, map, refl, arith, sym}
use Rattle.std.proofs.lemmas.{Bool.{eqb-true, false_from_ne_true}, List.Elements.{All-head, All-tail}}
use Rattle.std.specs.{List.list_any, Prelude.{AllPairs, Ok, is_some}}
use Rattle.olap_base.{proofs.GeneralLemmas.eqb_same, specs.Chains.IsChain}
use Rattle.olap_base.specs.Graph.{Graph, HasEdge, IsCategory, IsHierarchy}
use Rattle.olap_graph.proofs.PlaceLemmas.{joins-Decides, missing}
use Rattle.olap_graph.specs.Lookups.{edge_between, joins, name_of_category}
use Rattle.olap_ast.specs.{Formula.{Formula, Terms}, Valid.{AreFormulasAt, IsFormulaAt}}
use Rattle.olap_numerals.proofs.NumeralLemmas.{numbers_read_back}
use Rattle.olap_schema_text.proofs.{PrintCut.{AreCategories, steps_are}, PrintNames.named}
use Rattle.olap_schema_text.proofs.Written.{all_written, written}
use Rattle.olap_schema_text.specs.Resolving.{all_resolved, categories_of, is_repeated, lacks_edge, resolved}
use Rattle.olap_ast.specs.Formula as Meaning

-- ---- categories

-- one that differs from each of these isn't among them
not_among : (c : ℕ) (cs : List ℕ) → All (λ d. c ≢ d) cs → list_any (λ d. d == c) cs ≡ false
not_among c [] a = refl
not_among c (d ∷ cs) a =
    let n = false_from_ne_true (d == c) (λ e. All-head (λ d. c ≢ d) d cs a (sym (eqb-true d c e))) in
    rw n (not_among c cs (All-tail (λ d. c ≢ d) d cs a))

-- the first of categories that differ, against the others
pairs_head : (c : ℕ) (cs : List ℕ) → AllPairs ◌≢◌ (c ∷ cs) → All (λ d. c ≢ d) cs
pairs_head c cs a k d b = a 0 (suc k) d (omega arith) (omega arith)

-- and the others
pairs_tail : (c : ℕ) (cs : List ℕ) → AllPairs ◌≢◌ (c ∷ cs) → AllPairs ◌≢◌ cs
pairs_tail c cs a i j d b e = a (suc i) (suc j) d (omega arith) (omega arith)

-- of categories that differ none is repeated
none_repeated : (cs : List ℕ) → AllPairs ◌≢◌ cs → is_repeated cs ≡ false
unfolding is_repeated
none_repeated [] a = refl
none_repeated (c ∷ cs) a = rw (not_among c cs (pairs_head c cs a)) (none_repeated cs (pairs_tail c cs a))

module _ (g : Graph) (h : IsHierarchy g) where
  -- names are those of their categories
  categories_are : (cs : List ℕ) → AreCategories g cs → categories_of g (map (name_of_category g) cs) ≡ Some cs
  unfolding categories_of
  categories_are [] v = refl
  categories_are (c ∷ cs) v = rw (named g h c v.0, categories_are cs v.1) refl

  edge_is_there : (c d : ℕ) → HasEdge g c d → is_some (edge_between g c d) ≡ true
  edge_is_there c d e = go (edge_between g c d) refl
    where
      go : (o : Option ℕ) → edge_between g c d ≡ o → is_some o ≡ true
      go None q =
          absurd (missing (joins c d) (λ x. x ≡ record { child = c; parent = d }) (joins-Decides c d) g.edges 0 q
          (record { child = c; parent = d }) e refl)
      go (Some i) q = refl

  -- a chain of edges lacks none
  no_edge_lacks : (c : ℕ) (cs : List ℕ) → IsChain (HasEdge g) (c ∷ cs) → lacks_edge g c cs ≡ false
  unfolding lacks_edge
  no_edge_lacks c [] k = refl
  no_edge_lacks c (d ∷ cs) k = rw (edge_is_there c d k.0) (no_edge_lacks d cs k.1)

  module _ (r : ℕ) (l : IsCategory g r) where
    mutual
      -- so it is
      pub written_is_resolved : (f : Formula) → IsFormulaAt g r f → resolved g r (written g r f) ≡ Ok f
      written_is_resolved (Meaning.Formula.Path cs) v =
          rw (
            named g h r l,
            categories_are cs (steps_are g h r cs v.1),
            eqb_same r,
            none_repeated (r ∷ cs) v.2,
            no_edge_lacks r cs v.1,
          ) refl
      written_is_resolved (Meaning.Formula.Reach d) v = rw (named g h r l, named g h d v, eqb_same r) refl
      written_is_resolved (Meaning.Formula.Via d e) v =
          rw (named g h r l, named g h d v.0, named g h e v.1, eqb_same r) refl
      written_is_resolved (Meaning.Formula.Equals d k) v =
          rw (named g h r l, named g h d v.0, eqb_same r, v.1) refl
      written_is_resolved (Meaning.Formula.Compare d op n) v =
          rw (named g h r l, named g h d v.0, eqb_same r, v.1, numbers_read_back n v.2) refl
      written_is_resolved (Meaning.Formula.Not f) v = rw (written_is_resolved f v) refl
      written_is_resolved (Meaning.Formula.And f k) v =
          rw (written_is_resolved f v.0, written_is_resolved k v.1) refl
      written_is_resolved (Meaning.Formula.Or f k) v = rw (written_is_resolved f v.0, written_is_resolved k v.1) refl
      written_is_resolved (Meaning.Formula.Implies f k) v =
          rw (written_is_resolved f v.0, written_is_resolved k v.1) refl
      written_is_resolved (Meaning.Formula.Iff f k) v =
          rw (written_is_resolved f v.0, written_is_resolved k v.1) refl
      written_is_resolved (Meaning.Formula.Xor f k) v =
          rw (written_is_resolved f v.0, written_is_resolved k v.1) refl
      written_is_resolved (Meaning.Formula.One fs) v = rw (all_are_resolved fs v) refl
      written_is_resolved f v = refl

      all_are_resolved : (fs : Terms) → AreFormulasAt g r fs → all_resolved g r (all_written g r fs) ≡ Ok fs
      all_are_resolved Meaning.Terms.End v = refl
      all_are_resolved (Meaning.Terms.More f fs) v =
          rw (written_is_resolved f v.0, all_are_resolved fs v.1) refl
