-- What is known of a cube's dimensions is known of each.
use Rattle.std.proofs.Common.{◌≡◌, ℕ, zero, suc, ◌+◌, ◌<◌, ◌≤◌, List, [], ◌∷◌, ◌++◌, length, get_or, map, take, refl, sym, ap, ◌∙◌, arith}
use Rattle.std.{proofs.lemmas.List.{append-nil, length-map, take_all, take_more}, specs.List.list_any}
use Rattle.std.specs.{Prelude.{All, IsTrue, flat_map}, Str.is_utf8}
use Rattle.olap_base.{proofs.GeneralLemmas.first_of_not_or, specs.Graph.{IsCategory, IsHierarchy}}
use Rattle.olap_base.specs.declared.ids.CatId.{CatId}
use Rattle.olap_ast.{proofs.ComparedLemmas.atom_of_text, specs.Atoms.{Equality, equalities}, specs.Constants.IsConstant}
use Rattle.olap_ast.specs.{Formula.{Formula.Reach, Constant.AText}, Schema.Schema}
use Rattle.olap_cex.specs.FoundFor.{IsFoundFor}
use Rattle.olap_cube.specs.{CubeSummarizable.{IsChosen, bottoms_of, graphs_of}, Tuples.AllZip3}
use Rattle.olap_cube_summ.specs.Dimensions.{AreCategoriesOf, no_schema}
use Rattle.olap_cube_summ.specs.{Drawn.{AreDrawn, AreFound, IsDrawn, IsFoundOf}, Found.{AreSized, chosen_of}}
use Rattle.olap_frozen.specs.declared.{founding.Found.Found, frozen.Room.Room}
use Rattle.olap_schema.specs.Readable.{is_control, AreTexts}

-- ---- categories

-- a tuple of categories has one of each dimension
pub category_count : (ss : List Schema) (cs : List ℕ) → AreCategoriesOf ss cs → length cs ≡ length ss
category_count [] [] a = refl
category_count (s ∷ ss) (c ∷ cs) a = ap suc (category_count ss cs a.1)
category_count ss cs a = absurd a

-- the category of one dimension is one of its schema
pub category_at : (ss : List Schema) (cs : List ℕ) (i : ℕ) → AreCategoriesOf ss cs → i < length ss
    → IsCategory (get_or ss i no_schema).graph (get_or cs i 0)
category_at [] cs i a l = absurd (omega arith)
category_at (s ∷ ss) [] i a l = absurd a
category_at (s ∷ ss) (c ∷ cs) zero a l = a.0
category_at (s ∷ ss) (c ∷ cs) (suc i) a l = category_at ss cs i a.1 (omega arith)

-- as many numbers are of as many categories
pub counted : (ss : List Schema) (cs : List CatId) → AreCategoriesOf ss (map (λ c. c.0) cs) → length cs ≡ length ss
counted ss cs a = sym (length-map cs (λ (c : CatId). c.0)) ∙ category_count ss (map (λ c. c.0) cs) a

-- ---- frozen dimensions

-- a counterexample has one of each dimension
pub founds_are : (ss : List Schema) (cs : List ℕ) (fs : List Found) → AllZip3 IsChosen ss cs (map chosen_of fs)
    → AreSized ss fs → AreFound ss fs
founds_are [] [] [] a z = tt
founds_are (s ∷ ss) (c ∷ cs) (f ∷ fs) a z =
    (record { target = c; chosen = a.0; sized = z.0 }, founds_are ss cs fs a.1 z.2)
founds_are ss cs fs a z = absurd a

-- there is a frozen dimension of each dimension
pub found_count : (ss : List Schema) (fs : List Found) → AreFound ss fs → length fs ≡ length ss
found_count [] [] a = refl
found_count (s ∷ ss) (f ∷ fs) a = ap suc (found_count ss fs a.1)
found_count ss fs a = absurd a

-- that of one dimension is one of its schema
found_at : (ss : List Schema) (fs : List Found) (i : ℕ) (d : Found) → AreFound ss fs → i < length ss
    → IsFoundOf (get_or ss i no_schema) (get_or fs i d)
found_at [] fs i d a l = absurd (omega arith)
found_at (s ∷ ss) [] i d a l = absurd a
found_at (s ∷ ss) (f ∷ fs) zero d a l = a.0
found_at (s ∷ ss) (f ∷ fs) (suc i) d a l = found_at ss fs i d a.1 (omega arith)

-- the program's schema and frozen dimension of a place
pub found_here : (ss : List Schema) (fs : List Found) (i : ℕ) (s : Schema) (f : Found) → AreFound ss fs → i < length ss
    → s ≡ get_or ss i no_schema → f ≡ get_or fs i f → IsFoundOf s f
found_here ss fs i s f a l schema_is found_is =
    rw (schema_is, found_is) (found_at ss fs i f a l)

-- the numbers of the roots' categories
pub roots_are : (fs : List Found)
    → map (λ (c : CatId). c.0) (map (λ (f : Found). f.frozen.root) fs) ≡ bottoms_of (map chosen_of fs)
roots_are [] = refl
roots_are (f ∷ fs) = λ i. f.frozen.root.0 ∷ roots_are fs i

-- the roots' categories
pub roots_there : (ss : List Schema) (fs : List Found) → AreFound ss fs
    → AreCategoriesOf ss (bottoms_of (map chosen_of fs))
roots_there [] [] a = tt
roots_there (s ∷ ss) (f ∷ fs) a = (a.0.chosen.bottom.0.1, roots_there ss fs a.1)
roots_there ss fs a = absurd a

-- ---- what their categories reach

-- there are rows of each dimension
pub drawn_count : (ss : List Schema) (fs : List Found) (rooms : List Room) → AreDrawn ss fs rooms
    → (length fs ≡ length ss) × (length rooms ≡ length ss)
drawn_count [] [] [] a = (refl, refl)
drawn_count (s ∷ ss) (f ∷ fs) (r ∷ rs) a = let t = drawn_count ss fs rs a.1 in (ap suc t.0, ap suc t.1)
drawn_count ss fs rs a = absurd a

-- those of one dimension are of its frozen dimension
pub drawn_at : (ss : List Schema) (fs : List Found) (rooms : List Room) (i : ℕ) (d : Found) (e : Room)
    → AreDrawn ss fs rooms → i < length ss → IsDrawn (get_or ss i no_schema) (get_or fs i d) (get_or rooms i e)
drawn_at [] fs rs i d e a l = absurd (omega arith)
drawn_at (s ∷ ss) (f ∷ fs) (r ∷ rs) zero d e a l = a.0
drawn_at (s ∷ ss) (f ∷ fs) (r ∷ rs) (suc i) d e a l = drawn_at ss fs rs i d e a.1 (omega arith)
drawn_at ss fs rs i d e a l = absurd a

-- one dimension more at the end
drawn_push : (ss : List Schema) (fs : List Found) (rooms : List Room) (s : Schema) (f : Found) (r : Room)
    → AreDrawn ss fs rooms → IsDrawn s f r → AreDrawn (ss ++ s ∷ []) (fs ++ f ∷ []) (rooms ++ r ∷ [])
drawn_push [] [] [] s f r a d = (d, tt)
drawn_push (t ∷ ss) (h ∷ fs) (q ∷ rs) s f r a d = (a.0, drawn_push ss fs rs s f r a.1 d)
drawn_push ss fs rs s f r a d = absurd a

-- one dimension more
pub drawn_more : (ss : List Schema) (fs : List Found) (rooms : List Room) (i : ℕ) (f : Found) (r : Room)
    → i < length ss → i < length fs → AreDrawn (take i ss) (take i fs) rooms
    → IsDrawn (get_or ss i no_schema) (get_or fs i f) r
    → AreDrawn (take (i + 1) ss) (take (i + 1) fs) (rooms ++ r ∷ [])
drawn_more ss fs rooms i f r l m a d =
    rw (take_more ss i no_schema l, take_more fs i f m) (drawn_push (take i ss) (take i fs) rooms _ _ r a d)

-- after the last, all are drawn
pub drawn_all : (ss : List Schema) (fs : List Found) (rooms : List Room) (i : ℕ) → length ss ≤ i → length fs ≤ i
    → AreDrawn (take i ss) (take i fs) rooms → AreDrawn ss fs rooms
drawn_all ss fs rooms i l m a = rw (take_all i ss l, take_all i fs m) at a

-- all graphs are hierarchies
pub hierarchies : (ss : List Schema) (fs : List Found) (rooms : List Room) → AreDrawn ss fs rooms
    → All IsHierarchy (graphs_of ss)
hierarchies [] fs rs a k d l = absurd (omega arith)
hierarchies (s ∷ ss) (f ∷ fs) (r ∷ rs) a zero d l = a.0.hierarchy
hierarchies (s ∷ ss) (f ∷ fs) (r ∷ rs) a (suc k) d l = hierarchies ss fs rs a.1 k d (omega arith)
hierarchies ss fs rs a k d l = absurd a

-- ---- the instance of a frozen dimension may be printed

-- the question whether a category is reached has no text of its own
constant_is_utf8 : (s : Schema) (target : ℕ) → AreTexts (flat_map (λ c. equalities c.formula) s.constraints)
    → (c : ℕ) (text : List ℕ) → IsConstant s (Reach target) c (AText text) → IsTrue (is_utf8 text)
constant_is_utf8 s target texts c text h =
    let atom : Equality = record { category = c; text = text } in
    let own = rw append-nil at (atom_of_text s (Reach target) c text h) in
    first_of_not_or (is_utf8 text) (list_any is_control text) (texts atom own)

-- a frozen dimension of one dimension is one of its graph
pub found_for : (s : Schema) (f : Found) → IsFoundOf s f
    → AreTexts (flat_map (λ c. equalities c.formula) s.constraints) → IsFoundFor s.graph f
found_for s f t texts = record {
  sized = t.sized;
  root = t.chosen.bottom.0.1;
  constraints = s.constraints;
  question = Reach t.target;
  candidates = t.chosen.candidates;
  is_one = t.chosen.is_one;
  utf8 = constant_is_utf8 s t.target texts;
}
