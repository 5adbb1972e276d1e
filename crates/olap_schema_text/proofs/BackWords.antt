-- Printed words mean their atoms.
--     pieces         the pieces of an atom's word are its names
--     path_means     and so on: what a word says is the atom
use Rattle.std.proofs.Common.{◌≡◌, ◌≢◌, ◌==◌, ℕ, ℤ, Bool, true, false, cond, List, [], ◌∷◌, ◌++◌, Some, All, length, map, refl, append-nil, arith, ap, sym, ◌∙◌, codes, nat_lt, lit≤}
use Rattle.std.proofs.lemmas.{Bool.eqb-true, List.Elements.{All-append, All-cons, All-weaker}}
use Rattle.std.proofs.lemmas.{List.Splits.{slice_split_at, slice_split_none}, Slice.Eq.bytes_eq-Decides}
use Rattle.std.specs.{List.list_all, Prelude.option_and_then, Str.bytes_eq}
use Rattle.olap_base.{proofs.GeneralLemmas.eqb_same, specs.Graph.{Graph, IsCategory, IsHierarchy, IsLetterOrDigit}}
use Rattle.olap_base.specs.Reaching.{is_category_name}
use Rattle.olap_graph.specs.Lookups.{name_of_category}
use Rattle.olap_numerals.specs.{Comparing.Op, Numerals.{IsSmall, canonical}}
use Rattle.olap_grammar.specs.Words.{compare_of, compared_in, ends_of, equal_of, names_at, pieces_of, plain_of}
use Rattle.olap_schema_text.proofs.PrintCut.{AreCategories}
use Rattle.olap_schema_text.proofs.PrintNames.{is_name, letters, name_is, no_mark, no_underscore}
use Rattle.olap_schema_text.proofs.PrintNumerals.{numeral_is_number}
use Rattle.olap_schema_text.specs.Printing.{atom_word, compared_word, names_after}
use Rattle.olap_grammar.specs.Forms as words
use Rattle.olap_grammar.specs.declared.tokens.Version.TheVariants as version

-- a word in two pieces isn't a word in one
pub other_word : (m : ℕ) (w v x y : List ℕ) (rest : List (List ℕ)) → pieces_of m w ≡ x ∷ y ∷ rest
    → pieces_of m v ≡ v ∷ [] → bytes_eq w v ≡ false
other_word m w v x y rest p q = go (bytes_eq w v) refl
  where
    go : (b : Bool) → bytes_eq w v ≡ b → b ≡ false
    go true e =
        let s : w ≡ v = (bytes_eq-Decides w v).0 e in
        let two : x ∷ y ∷ rest ≡ v ∷ [] = sym p ∙ ap (pieces_of m) s ∙ q in
        let n : ◌≡◌ {A = ℕ} (length (x ∷ y ∷ rest)) 1 = ap length two in
        absurd (omega (arith, n))
    go false e = refl

-- `true` has no `_`
pub true_at_95 : pieces_of 95 (codes "true") ≡ codes "true" ∷ []
unfolding pieces_of
true_at_95 = refl

-- nor has `false`
pub false_at_95 : pieces_of 95 (codes "false") ≡ codes "false" ∷ []
unfolding pieces_of
false_at_95 = refl

-- `true` has no `.`
pub true_at_46 : pieces_of 46 (codes "true") ≡ codes "true" ∷ []
unfolding pieces_of
true_at_46 = refl

-- nor has `false`
pub false_at_46 : pieces_of 46 (codes "false") ≡ codes "false" ∷ []
unfolding pieces_of
false_at_46 = refl

module _ (g : Graph) (h : IsHierarchy g) where
  -- a name has no `_` and no `.`
  pub no_95 : (c : ℕ) → IsCategory g c → All (λ b. (b == 95) ≡ false) (name_of_category g c)
  no_95 c l =
      All-weaker IsLetterOrDigit (λ b. (b == 95) ≡ false) no_underscore (name_of_category g c)
      (letters (name_of_category g c) (name_is g h c l))

  pub no_46 : (c : ℕ) → IsCategory g c → All (λ b. (b == 46) ≡ false) (name_of_category g c)
  no_46 c l =
      All-weaker IsLetterOrDigit (λ b. (b == 46) ≡ false) (no_mark 46 (lit≤ tt)) (name_of_category g c)
      (letters (name_of_category g c) (name_is g h c l))

  pieces_after : (m : ℕ) → ((c : ℕ) → IsCategory g c → All (λ b. (b == m) ≡ false) (name_of_category g c))
      → (x : List ℕ) (cs : List ℕ)
      → All (λ b. (b == m) ≡ false) x → AreCategories g cs
      → pieces_of m (x ++ names_after g m cs) ≡ x ∷ map (name_of_category g) cs
  unfolding pieces_of
  pieces_after m k x [] a v = rw (append-nil x) (slice_split_none (λ b. b == m) x a)
  pieces_after m k x (c ∷ cs) a v =
      slice_split_at (λ b. b == m) x m (name_of_category g c ++ names_after g m cs) a (eqb_same m)
      ∙ ap (λ ps. x ∷ ps) (pieces_after m k (name_of_category g c) cs (k c v.0) v.1)

  -- the pieces at `_` and at `.` of the words of atoms
  pub path_pieces : (r : ℕ) (cs : List ℕ) → IsCategory g r → AreCategories g cs
      → pieces_of 95 (atom_word g r 95 cs) ≡ name_of_category g r ∷ map (name_of_category g) cs
  path_pieces r cs l v = pieces_after 95 no_95 (name_of_category g r) cs (no_95 r l) v

  pub reach_pieces : (r : ℕ) (cs : List ℕ) → IsCategory g r → AreCategories g cs
      → pieces_of 46 (atom_word g r 46 cs) ≡ name_of_category g r ∷ map (name_of_category g) cs
  reach_pieces r cs l v = pieces_after 46 no_46 (name_of_category g r) cs (no_46 r l) v

  after_no_95 : (cs : List ℕ) → AreCategories g cs → All (λ b. (b == 95) ≡ false) (names_after g 46 cs)
  after_no_95 [] v = λ k d b. absurd (omega (arith, b))
  after_no_95 (c ∷ cs) v = All-cons (λ b. (b == 95) ≡ false) 46 (name_of_category g c ++ names_after g 46 cs) refl
      (All-append (λ b. (b == 95) ≡ false) (name_of_category g c) (names_after g 46 cs) (no_95 c v.0)
      (after_no_95 cs v.1))

  -- a word with `.` is one piece at `_`
  pub reach_whole : (r : ℕ) (cs : List ℕ) → IsCategory g r → AreCategories g cs
      → pieces_of 95 (atom_word g r 46 cs) ≡ atom_word g r 46 cs ∷ []
  unfolding pieces_of
  reach_whole r cs l v = slice_split_none (λ b. b == 95) (atom_word g r 46 cs)
      (All-append (λ b. (b == 95) ≡ false) (name_of_category g r) (names_after g 46 cs) (no_95 r l) (after_no_95 cs v))

  pub name_whole : (m : ℕ) (r : ℕ) → All (λ b. (b == m) ≡ false) (name_of_category g r)
      → pieces_of m (name_of_category g r) ≡ name_of_category g r ∷ []
  unfolding pieces_of
  name_whole m r a = slice_split_none (λ b. b == m) (name_of_category g r) a

  -- names are known, and each is that of its category
  pub all_names : (cs : List ℕ) → AreCategories g cs → list_all is_category_name (map (name_of_category g) cs) ≡ true
  all_names [] v = refl
  all_names (c ∷ cs) v = rw (is_name g h c v.0) (all_names cs v.1)

  -- ---- atoms

  pub path_means : (r : ℕ) (cs : List ℕ) → IsCategory g r → AreCategories g cs → cs ≢ []
      → plain_of (atom_word g r 95 cs)
      ≡ Some (words.Atom.Path (name_of_category g r) (map (name_of_category g) cs))
  unfolding plain_of
  path_means r [] l v n = absurd (n refl)
  path_means r (c ∷ cs) l v n = go (atom_word g r 95 (c ∷ cs)) (path_pieces r (c ∷ cs) l v)
    where
      go : (w : List ℕ) → pieces_of 95 w ≡ name_of_category g r ∷ map (name_of_category g) (c ∷ cs)
          → plain_of w ≡ Some (words.Atom.Path (name_of_category g r) (map (name_of_category g) (c ∷ cs)))
      go w p =
          let f = other_word 95 w (codes "false") _ _ _ p false_at_95 in
          let two : nat_lt 1 (length (name_of_category g r ∷ map (name_of_category g) (c ∷ cs))) ≡ true =
          grind (arith) in
          let all : list_all is_category_name (name_of_category g r ∷ map (name_of_category g) (c ∷ cs)) ≡ true =
          all_names (r ∷ c ∷ cs) (l, v) in
          rw (other_word 95 w (codes "true") _ _ _ p true_at_95, f, p, two, all) refl

  pub reach_means : (r d : ℕ) → IsCategory g r → IsCategory g d
      → plain_of (atom_word g r 46 (d ∷ [])) ≡ Some (words.Atom.Reach (name_of_category g r) (name_of_category g d))
  unfolding plain_of
  reach_means r d l k =
      go (atom_word g r 46 (d ∷ [])) (reach_pieces r (d ∷ []) l (k, tt)) (reach_whole r (d ∷ []) l (k, tt))
    where
      go : (w : List ℕ) → pieces_of 46 w ≡ name_of_category g r ∷ name_of_category g d ∷ []
          → pieces_of 95 w ≡ w ∷ []
          → plain_of w ≡ Some (words.Atom.Reach (name_of_category g r) (name_of_category g d))
      go w p q =
          let f = other_word 46 w (codes "false") _ _ _ p false_at_46 in
          let all : list_all is_category_name (name_of_category g r ∷ name_of_category g d ∷ []) ≡ true =
          all_names (r ∷ d ∷ []) (l, (k, tt)) in
          rw (other_word 46 w (codes "true") _ _ _ p true_at_46, f, q, p, all) refl

  pub via_means : (r d e : ℕ) → IsCategory g r → IsCategory g d → IsCategory g e
      → plain_of (atom_word g r 46 (d ∷ e ∷ []))
      ≡ Some (words.Atom.Via (name_of_category g r) (name_of_category g d) (name_of_category g e))
  unfolding plain_of
  via_means r d e l k m =
      go (atom_word g r 46 (d ∷ e ∷ [])) (reach_pieces r (d ∷ e ∷ []) l (k, (m, tt)))
      (reach_whole r (d ∷ e ∷ []) l (k, (m, tt)))
    where
      go : (w : List ℕ) → pieces_of 46 w ≡ name_of_category g r ∷ name_of_category g d ∷ name_of_category g e ∷ []
          → pieces_of 95 w ≡ w ∷ []
          → plain_of w ≡ Some (words.Atom.Via (name_of_category g r) (name_of_category g d) (name_of_category g e))
      go w p q =
          let f = other_word 46 w (codes "false") _ _ _ p false_at_46 in
          let all : list_all is_category_name
          (name_of_category g r ∷ name_of_category g d ∷ name_of_category g e ∷ []) ≡ true =
          all_names (r ∷ d ∷ e ∷ []) (l, (k, (m, tt))) in
          rw (other_word 46 w (codes "true") _ _ _ p true_at_46, f, q, p, all) refl

  -- what a word compares
  compared_means : (r d : ℕ) → IsCategory g r → IsCategory g d
      → compared_in (compared_word g r d) ≡ Some (name_of_category g r, name_of_category g d)
  unfolding compared_in
  compared_means r d l m = go (d == r) refl
    where
      go : (b : Bool) → d == r ≡ b
          → option_and_then ends_of (names_at 46 (cond b (name_of_category g r) (atom_word g r 46 (d ∷ []))))
          ≡ Some (name_of_category g r, name_of_category g d)
      go true e = let s : d ≡ r = eqb-true d r e in rw (name_whole 46 r (no_46 r l), is_name g h r l, s) refl
      go false e = rw (reach_pieces r (d ∷ []) l (m, tt), is_name g h r l, is_name g h d m) refl

  pub equals_means : (r d : ℕ) (k : List ℕ) → IsCategory g r → IsCategory g d
      → equal_of (compared_word g r d) k
      ≡ Some (words.Atom.Equals (name_of_category g r) (name_of_category g d) k)
  equals_means r d k l m = rw (compared_means r d l m) refl

  pub compares_means : (r d : ℕ) (op : Op) (n : ℤ) → IsCategory g r → IsCategory g d → IsSmall n
      → compare_of version.Two (compared_word g r d) op (canonical n)
      ≡ Some (words.Atom.Compare (name_of_category g r) (name_of_category g d) op (canonical n))
  compares_means r d op n l m small = rw (numeral_is_number n small, compared_means r d l m) refl
