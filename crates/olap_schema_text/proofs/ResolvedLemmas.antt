-- What a formula over words is resolved to.
use Rattle.std.proofs.Common.{◌≡◌, ◌≢◌, ◌+◌, ◌∙◌, ℕ, Bool, true, false, cond, List, [], ◌∷◌, Option, Some, length, refl, sym, ap, subst, arith}
use Rattle.std.specs.{Option.option_map, Prelude.{◌==◌, Result, Ok, Err, option_and_then, codes}}
use Rattle.olap_ast.specs.{Atoms.{equalities, equalities_of_terms}, Formula.{Formula, Terms}}
use Rattle.olap_ast.specs.Valid.{AreFormulasAt, IsFormulaAt, depth_of, depth_of_terms, node_count, node_count_of_terms}
use Rattle.olap_base.specs.{Following.given, Graph.{Graph, IsCategory, is_number}}
use Rattle.olap_graph.specs.Lookups.{category_named}
use Rattle.olap_numerals.{proofs.NumeralLemmas.spelled_small, specs.Comparing.Op, specs.Numerals.number_of}
use Rattle.olap_grammar.specs.Forms.{Atom, Form, Forms, depth_of as levels_of, depth_of_all as levels_of_all}
use Rattle.olap_grammar.specs.declared.tokens.Joint.{Joint}
use Rattle.olap_schema.specs.Readable.{AreTexts}
use Rattle.olap_schema_text.proofs.FoundWords.{AllAreSpelt, AreSpelt, IsSpelt}
use Rattle.olap_schema_text.proofs.StepLemmas.{given_ok, goes_on_ok, ok_is, passed_on}
use Rattle.olap_schema_text.proofs.{ValidNames.{differ, follows, name_at}, ValidTexts.{both_texts, no_texts, one_text}}
use Rattle.olap_schema_text.specs.Resolving.{all_resolved, atom_read, categories_of, ends_read, is_repeated, join, lacks_edge, path_read, resolved}
use Rattle.olap_ast.specs.Formula as Meaning
use Rattle.olap_grammar.specs.Forms as words
use Rattle.olap_grammar.specs.declared.tokens.Joint.TheVariants as joint

-- ---- nodes of words

abbrev mutual
  -- the formulas over words in the formula, itself included
  pub nodes_in : Form → ℕ
  nodes_in (words.Form.Of a) = 1
  nodes_in (words.Form.Not f) = 1 + nodes_in f
  nodes_in (words.Form.Joined j f g) = 1 + nodes_in f + nodes_in g
  nodes_in (words.Form.One fs) = 1 + nodes_in_all fs

  -- those in the parts of `one(..)`
  pub nodes_in_all : Forms → ℕ
  nodes_in_all words.Forms.End = 0
  nodes_in_all (words.Forms.More f fs) = nodes_in f + nodes_in_all fs

-- ---- tests

-- a test without which there is a fault was passed
passed : {A K : Type 0} (c : Bool) (k : K) (r : Result A K) (b : A) → cond c r (Err k) ≡ Ok b
    → (c ≡ true) × (r ≡ Ok b)
passed true k r b h = (refl, h)
passed false k r b h = absurd (cc)

-- names of which there are some are those of some categories
some_categories : (g : Graph) (names : List (List ℕ)) (cs : List ℕ) → names ≢ [] → categories_of g names ≡ Some cs
    → cs ≢ []
unfolding categories_of
some_categories g [] cs n h = absurd (n refl)
some_categories g (m ∷ ms) cs n h = go (category_named g m) (categories_of g ms) h
  where
    go : (o : Option ℕ) (p : Option (List ℕ)) → option_and_then (λ c. option_map (λ ds. c ∷ ds) p) o ≡ Some cs
        → cs ≢ []
    go (Some c) (Some ds) k e =
        let s : c ∷ ds ≡ cs = cc in
        let l : ◌≡◌ {A = ℕ} (length (c ∷ ds)) 0 = ap length (s ∙ e) in
        absurd (omega (arith, l))
    go o p k e = absurd (cc)

-- ---- atoms

module _ (g : Graph) (root : ℕ) where
  -- what an atom is resolved to
  record IsLeaf (f : Formula) : Type 0 where
    valid : IsFormulaAt g root f
    texts : AreTexts (equalities f)
    nodes : node_count f ≡ 1
    levels : depth_of f ≡ 1

  -- the category of an atom's last name
  last_ok : (first last : List ℕ) (next : ℕ → Result Formula (List ℕ)) (f : Formula)
      → ends_read g root first last next ≡ Ok f → (d : ℕ) × IsCategory g d × (next d ≡ Ok f)
  last_ok first last next f h =
      let t = given_ok (category_named g first) _ _ f h in
      let u = given_ok (category_named g last) _ _ f t.2 in
      (u.0, (name_at g last u.0 u.1).0, (passed (t.0 == root) _ _ f u.2).1)

  -- a path through these categories
  path_is : (cs : List ℕ) (f : Formula) → cs ≢ [] → path_read g root cs ≡ Ok f → IsLeaf f
  path_is cs f some h =
      let t = passed_on (is_repeated (root ∷ cs)) _ _ f h in
      let u = passed_on (lacks_edge g root cs) _ _ f t.1 in
      subst IsLeaf (sym (ok_is _ _ u.1)) (record {
        valid = (some, follows g root cs u.0, differ (root ∷ cs) t.0);
        texts = no_texts;
        nodes = refl;
        levels = refl;
      })

  -- a comparison with a number
  compare_is : (d : ℕ) (op : Op) (digits : List ℕ) (f : Formula) → IsCategory g d → is_number g d ≡ true
      → given (number_of digits) (codes "BadNumber") (λ n. Ok (Meaning.Formula.Compare d op n)) ≡ Ok f → IsLeaf f
  compare_is d op digits f l n h =
      let t = given_ok (number_of digits) _ _ f h in
      subst IsLeaf (sym (ok_is _ _ t.2)) (record {
        valid = (l, n, spelled_small digits t.0 t.1);
        texts = no_texts;
        nodes = refl;
        levels = refl;
      })

  -- any atom
  atom_is : (a : Atom) (f : Formula) → atom_read g root a ≡ Ok f → IsSpelt a → IsLeaf f
  atom_is words.Atom.Truth f h s =
      subst IsLeaf (sym (ok_is _ _ h)) (record { valid = tt; texts = no_texts; nodes = refl; levels = refl })
  atom_is words.Atom.Falsity f h s =
      subst IsLeaf (sym (ok_is _ _ h)) (record { valid = tt; texts = no_texts; nodes = refl; levels = refl })
  atom_is (words.Atom.Path first names) f h s =
      let t = given_ok (category_named g first) _ _ f h in
      let u = given_ok (categories_of g names) _ _ f t.2 in
      path_is u.0 f (some_categories g names u.0 s u.1) (passed (t.0 == root) _ _ f u.2).1
  atom_is (words.Atom.Reach first last) f h s =
      let t = last_ok first last _ f h in
      subst IsLeaf (sym (ok_is _ _ t.2)) (record { valid = t.1; texts = no_texts; nodes = refl; levels = refl })
  atom_is (words.Atom.Via first middle last) f h s =
      let t = given_ok (category_named g first) _ _ f h in
      let u = given_ok (category_named g middle) _ _ f t.2 in
      let w = given_ok (category_named g last) _ _ f u.2 in
      subst IsLeaf (sym (ok_is _ _ (passed (t.0 == root) _ _ f w.2).1)) (record {
        valid = ((name_at g middle u.0 u.1).0, (name_at g last w.0 w.1).0);
        texts = no_texts;
        nodes = refl;
        levels = refl;
      })
  atom_is (words.Atom.Equals first last text) f h s =
      let t = last_ok first last _ f h in
      let u = passed_on (is_number g t.0) _ _ f t.2 in
      subst IsLeaf (sym (ok_is _ _ u.1)) (record {
        valid = (t.1, u.0, s.1);
        texts = one_text t.0 text s.0;
        nodes = refl;
        levels = refl;
      })
  atom_is (words.Atom.Compare first last op digits) f h s =
      let t = last_ok first last _ f h in
      let u = passed (is_number g t.0) _ _ f t.2 in
      compare_is t.0 op digits f t.1 u.0 u.1

  -- ---- formulas

  -- what a formula over words is resolved to
  pub record IsSound (x : Form) (f : Formula) : Type 0 where
    pub valid : IsFormulaAt g root f
    pub texts : AreTexts (equalities f)
    pub nodes : node_count f ≡ nodes_in x
    pub levels : depth_of f ≡ levels_of x

  -- and the parts of a list
  record AreSound (xs : Forms) (fs : Terms) : Type 0 where
    valid : AreFormulasAt g root fs
    texts : AreTexts (equalities_of_terms fs)
    nodes : node_count_of_terms fs ≡ nodes_in_all xs
    levels : depth_of_terms fs ≡ levels_of_all xs

  -- two with a connective
  joined_is : (j : Joint) (x y : Form) (f h : Formula) → IsSound x f → IsSound y h
      → IsSound (words.Form.Joined j x y) (join j f h)
  joined_is joint.Iff x y f h p q = record {
    valid = (p.valid, q.valid);
    texts = both_texts (equalities f) (equalities h) p.texts q.texts;
    nodes = rw (p.nodes, q.nodes) refl;
    levels = rw (p.levels, q.levels) refl;
  }
  joined_is j x y f h p q = record {
    valid = (p.valid, q.valid);
    texts = both_texts (equalities f) (equalities h) p.texts q.texts;
    nodes = rw (p.nodes, q.nodes) refl;
    levels = rw (p.levels, q.levels) refl;
  }

  mutual
    -- so it is
    pub resolved_is_sound : (x : Form) (f : Formula) → resolved g root x ≡ Ok f → AreSpelt x → IsSound x f
    resolved_is_sound (words.Form.Of a) f h s =
        let t = atom_is a f h s in
        record { valid = t.valid; texts = t.texts; nodes = t.nodes; levels = t.levels }
    resolved_is_sound (words.Form.Not x) f h s =
        let t = goes_on_ok (resolved g root x) _ f h in
        let r = resolved_is_sound x t.0 t.1 s in
        subst (IsSound (words.Form.Not x)) (sym (ok_is _ _ t.2)) (record {
          valid = r.valid;
          texts = r.texts;
          nodes = rw r.nodes refl;
          levels = rw r.levels refl;
        })
    resolved_is_sound (words.Form.Joined j x y) f h s =
        let t = goes_on_ok (resolved g root x) _ f h in
        let u = goes_on_ok (resolved g root y) _ f t.2 in
        rw (ok_is _ _ u.2) (joined_is j x y t.0 u.0 (resolved_is_sound x t.0 t.1 s.0) (resolved_is_sound y u.0 u.1 s.1))
    resolved_is_sound (words.Form.One xs) f h s =
        let t = goes_on_ok (all_resolved g root xs) _ f h in
        let r = all_are_sound xs t.0 t.1 s in
        subst (IsSound (words.Form.One xs)) (sym (ok_is _ _ t.2)) (record {
          valid = r.valid;
          texts = r.texts;
          nodes = rw r.nodes refl;
          levels = rw r.levels refl;
        })

    all_are_sound : (xs : Forms) (fs : Terms) → all_resolved g root xs ≡ Ok fs → AllAreSpelt xs → AreSound xs fs
    all_are_sound words.Forms.End fs h s =
        rw (ok_is _ _ h) (record { valid = tt; texts = no_texts; nodes = refl; levels = refl })
    all_are_sound (words.Forms.More x xs) fs h s =
        let t = goes_on_ok (resolved g root x) _ fs h in
        let u = goes_on_ok (all_resolved g root xs) _ fs t.2 in
        let p = resolved_is_sound x t.0 t.1 s.0 in
        let q = all_are_sound xs u.0 u.1 s.1 in
        subst (AreSound (words.Forms.More x xs)) (sym (ok_is _ _ u.2)) (record {
          valid = (p.valid, q.valid);
          texts = both_texts (equalities t.0) (equalities_of_terms u.0) p.texts q.texts;
          nodes = rw (p.nodes, q.nodes) refl;
          levels = rw (p.levels, q.levels) refl;
        })
