-- What a leaf answers.
use Rattle.std.proofs.Common.{◌≡◌, ℕ, ℤ, zero, suc, ◌+◌, ◌≤◌, List, [], ◌∷◌, length, get_or, Bool, true, false, Some, None, refl, ap, sym, subst, ◌∙◌, ◌↔◌, inl, inr, arith}
use Rattle.std.proofs.lemmas.{Bool.false_from_ne_true, Bool.Decides.nat_tests, List.Elements.Contains-get_or}
use Rattle.std.{proofs.lemmas.Slice.Eq.bytes_eq-Decides, specs.Prelude.{Contains, IsTrue, nat_lt, slice_index, ◌≢◌}}
use Rattle.std.specs.Str.{bytes_eq}
use Rattle.olap_base.{proofs.ListLemmas.contains_head, specs.Deciding.contains_cons}
use Rattle.olap_base.specs.{Graph.{Graph, Edge, IsCategory, IsHierarchy, category_count, is_number}, Steps.Steps-append}
use Rattle.olap_ast.specs.{Constants.{IsNameOf, numbers}, Formula.{Formula, IsNumbered}}
use Rattle.olap_ast.specs.Frozen.{AreCandidates, AreNamesOf, Candidates, IsFrozen, chosen, is_present, name_in, text_of_index}
use Rattle.olap_ast.specs.Schema.{Constraint, Schema}
use Rattle.olap_numerals.{proofs.NameLemmas.name_is_one, specs.Comparing.Op}
use Rattle.olap_bits.specs.declared.sets.CatSet.{CatSet}
use Rattle.olap_eval.specs.Shapes.{HasEdgeThere, HasNameThere, HasNumberThere, IsShape, ReachesThere}
use Rattle.olap_graph.specs.{Lookups.edge_between, Rows.row}
use Rattle.olap_names.specs.Names.{Named, candidates_of, name_at, with_graph}
use Rattle.olap_frozen.proofs.{ChosenLemmas.{bit_joins, choice_of, no_edge_joins}, RowLemmas.has_steps}
use Rattle.olap_frozen.proofs.SoundLemmas.{present_is, present_of_steps}
use Rattle.olap_frozen.specs.Chosen.{AreNames, IsChoice, IsMet, IsSound}
use Rattle.olap_frozen.specs.Leaves.{AreAbsentZero, IsLeaf, IsSized, chosen_of, leaf_instance, leaf_place, leaf_present, of_declared}
use Rattle.olap_frozen.specs.Rows.{AreRows}
use Rattle.std.specs.FinSet as set
use Rattle.olap_frozen.proofs.ChosenInstance as made

-- what isn't below isn't by the test
pub lt_false : (c n : ℕ) → n ≤ c → nat_lt c n ≡ false
lt_false c n h = grind (arith, nat_tests)

-- the test of two texts, whatever they are called
pub same_texts : (b : Bool) (x y u v : List ℕ) → b ≡ bytes_eq x y → x ≡ u → y ≡ v → (b ≡ true) ↔ (u ≡ v)
same_texts b x y u v e p q = grind (arith, bytes_eq-Decides)

-- ---- names

-- a declared category's index stands one place earlier without that of `All`
pub declared_at : (xs : List ℕ) (c : ℕ) → slice_index (of_declared xs) c ≡ slice_index xs (suc c)
declared_at [] c = refl
declared_at (x ∷ xs) c = refl

-- without `All` there is one entry less
pub declared_length : (xs : List ℕ) (n : ℕ) → length xs ≡ n + 1 → length (of_declared xs) ≡ n
declared_length [] n e = absurd (omega arith)
declared_length (x ∷ xs) n e = omega arith

-- the name of an index is the name in the choice
pub name_of_index : (k : Candidates) (bits : List Bool) (names : List ℕ) (c : ℕ)
    → name_at k c (slice_index names c) ≡ name_in k (chosen_of bits names) c
name_of_index k bits names zero = refl
name_of_index k bits names (suc c) = ap (text_of_index (k.first (suc c)) (k.texts (suc c))) (sym (declared_at names c))

-- ---- a leaf's answers

module _ {W : ℕ} (g : Graph) (k : Named) (r : ℕ) (bits : List Bool) (names : List ℕ) (rows : List (CatSet W))
    (hier : IsHierarchy g) (leaf : IsLeaf g k r bits names rows) where
  abbrev es : List Edge
  es = chosen g.edges bits

  ch : IsChoice g r es
  ch = choice_of g r bits hier leaf.root

  abbrev name : ℕ → List ℕ
  name = name_in (candidates_of k) (chosen_of bits names)

  -- past the categories nothing is present
  pub present_past : (c : ℕ) → category_count g ≤ c → leaf_present g r bits c ≡ false
  present_past c h = false_from_ne_true (leaf_present g r bits c)
      (λ p. let i = made.present_category g r es ch c p in omega arith)

  pub edge_there : (c d n i : ℕ) → n ≡ i → edge_between g c d ≡ Some i
      → IsTrue (get_or bits n false) ↔ HasEdgeThere (leaf_instance g k r bits names) (leaf_present g r bits)
      (leaf_place g r bits) c d
  edge_there c d n i q e =
      let b = bit_joins g bits c d i hier e in (
        λ t. let j = b.0 (ap (λ m. get_or bits m false) (sym q) ∙ t) in (
          made.child_present g r es ch c d j,
          made.parent_present g r es ch c d j,
          made.edge_below g r es ch name c d j,
        ),
        λ t. ap (λ m. get_or bits m false) q ∙ b.1 ((made.below_joins g r es ch name c d t.0 t.1).0 t.2),
      )

  pub no_edge_there : (c d : ℕ) → edge_between g c d ≡ None
      → IsTrue false ↔ HasEdgeThere (leaf_instance g k r bits names) (leaf_present g r bits) (leaf_place g r bits) c d
  no_edge_there c d e = (
    λ t. absurd (cc),
    λ t. absurd (no_edge_joins g bits c d e ((made.below_joins g r es ch name c d t.0 t.1).0 t.2)),
  )

  pub reach_there : (c d : ℕ) (b : Bool) → leaf_present g r bits c ≡ true → b ≡ set.contains (row rows c) d
      → IsTrue b ↔ ReachesThere (leaf_instance g k r bits names) (leaf_present g r bits) (leaf_place g r bits) c d
  reach_there c d b p e =
      let h = made.present_category g r es ch c p in
      let s = has_steps g es rows leaf.rows in (
        λ t.
            let w = (s c d h).0 (sym e ∙ t) in
            let q = present_of_steps g r es ch d
            (Steps-append ((s r c leaf.root).0 (leaf.reached c ∙ p)) w) in
            (p, q, (made.reaches_walk g r es ch name c d p q).1 w),
        λ t. e ∙ (s c d h).1 ((made.reaches_walk g r es ch name c d p t.1).0 t.2),
      )

  pub name_there : (c : ℕ) (text : List ℕ) (b : Bool) → leaf_present g r bits c ≡ true
      → (b ≡ true) ↔ (name_at (candidates_of k) c (slice_index names c) ≡ text)
      → IsTrue b ↔ HasNameThere (leaf_instance g k r bits names) (leaf_present g r bits) (leaf_place g r bits) c text
  name_there c text b p i =
      let n = made.name_there g r es ch name c p ∙ sym (name_of_index (candidates_of k) bits names c) in (
        λ t. (p, n ∙ i.0 t),
        λ t. i.1 (sym n ∙ t.1),
      )

  pub number_there : (c : ℕ) (op : Op) (n : ℤ) (b : Bool) → leaf_present g r bits c ≡ true
      → IsTrue b ↔ IsNumbered (name_at (candidates_of k) c (slice_index names c)) op n
      → IsTrue b ↔ HasNumberThere (leaf_instance g k r bits names) (leaf_present g r bits) (leaf_place g r bits) c op n
  number_there c op n b p i =
      let e = made.name_there g r es ch name c p ∙ sym (name_of_index (candidates_of k) bits names c) in (
        λ t. (p, subst (λ w. IsNumbered w op n) (sym e) (i.0 t)),
        λ t. i.1 (subst (λ w. IsNumbered w op n) e t.1),
      )

-- ---- the name of an index

-- the text of an index is one of the names
pub at_index : (first : List ℕ) (others : List (List ℕ)) (i : ℕ) → i ≤ length others
    → Contains (first ∷ others) (text_of_index first others i)
at_index first others zero h = contains_head first others
at_index first others (suc i) h = contains_cons (get_or others i first) others first
    (Contains-get_or others i first (omega arith))

-- it is one of the names of the category
pub name_of_kind : (b : Bool) (s : Schema) (q : Formula) (d : ℕ) (first : List ℕ) (others : List (List ℕ)) (i : ℕ)
    → i ≤ length others → AreNamesOf b s q d first others → IsNameOf b s q d (text_of_index first others i)
name_of_kind false s q d first others zero h a = inr a.0
name_of_kind false s q d first others (suc i) h a = inl (a.1.sound (get_or others i first)
    (Contains-get_or others i first (omega arith)))
name_of_kind true s q d first others i h a = name_is_one (numbers s q d) first others a (text_of_index first others i)
    (at_index first others i h)

-- ---- the whole test

module _ (g : Graph) (cs : List Constraint) (q : Formula) (k : Named) (r : ℕ) (bits : List Bool) (names : List ℕ)
    (hier : IsHierarchy g) (root : IsCategory g r) (sized : IsSized g k bits names)
    (ok : AreCandidates (with_graph g cs) q (candidates_of k)) where
  abbrev edges : List Edge
  edges = chosen g.edges bits

  abbrev named : ℕ → List ℕ
  named = name_in (candidates_of k) (chosen_of bits names)

  choice : IsChoice g r edges
  choice = choice_of g r bits hier root

  known : (c : ℕ) → is_present r edges c ≡ true → c ≢ 0 → IsNameOf (is_number g c) (with_graph g cs) q c (named c)
  known zero p n = absurd (n refl)
  known (suc c) p n = name_of_kind (is_number g (suc c)) (with_graph g cs) q (suc c) (get_or k.first (suc c) k.fresh)
      (get_or k.texts (suc c) []) (slice_index (of_declared names) c)
      (subst (λ i. i ≤ length (get_or k.texts (suc c) [])) (sym (declared_at names c))
      (sized.in_range (suc c) (made.present_category g r edges choice (suc c) p))) (ok.names c)

  are_names : AreNames (with_graph g cs) q r edges named
  are_names = record { all = refl; known = known }

  pub frozen_whole : IsSound r edges → AreAbsentZero g r bits names → IsMet (with_graph g cs) q r edges named
      → IsFrozen (with_graph g cs) q r (candidates_of k) (chosen_of bits names)
  frozen_whole sound zero' met =
      let n = declared_length names (length g.names) sized.name_count in
      record {
        edge_count = sized.edge_count;
        name_count = n;
        in_range = λ c h. subst (λ i. i ≤ length (get_or k.texts (suc c) [])) (sym (declared_at names c))
            (sized.in_range (suc c) (omega arith));
        absent = λ c h p. declared_at names c ∙ zero' (suc c) (let m = sized.name_count in omega arith) p;
        stands_for = made.frozen_from (with_graph g cs) q r edges choice named are_names sound met;
      }

  pub sound_part : IsFrozen (with_graph g cs) q r (candidates_of k) (chosen_of bits names) → IsSound r edges
  sound_part f = made.sound_of_frozen (with_graph g cs) q r edges choice named f.stands_for

  pub met_part : IsFrozen (with_graph g cs) q r (candidates_of k) (chosen_of bits names)
      → IsMet (with_graph g cs) q r edges named
  met_part f = made.met_of_frozen (with_graph g cs) q r edges choice named f.stands_for

  pub absent_part : IsFrozen (with_graph g cs) q r (candidates_of k) (chosen_of bits names)
      → AreAbsentZero g r bits names
  absent_part f zero h p = let t = (sound_part f).top in absurd (let z : false ≡ true = sym p ∙ t in cc)
  absent_part f (suc c) h p = sym (declared_at names c)
      ∙ f.absent c (let n = f.name_count in let m = sized.name_count in omega arith) p

  pub chosen_is_shape : IsShape (leaf_instance g k r bits names) (leaf_present g r bits) (leaf_place g r bits)
  chosen_is_shape = made.chosen_shape g r edges choice named

  pub chosen_is_leaf : {W : ℕ} (rows : List (CatSet W)) → length rows ≡ category_count g
      → AreRows g edges rows → IsSound r edges → IsLeaf g k r bits names rows
  chosen_is_leaf rows e a s = record {
    root = root;
    sized = sized;
    row_count = e;
    rows = a;
    reached = present_is g r bits rows hier root a s;
  }
