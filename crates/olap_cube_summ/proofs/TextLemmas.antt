-- What is told of one dimension more, and one name more.
use Rattle.std.proofs.Common.{◌≡◌, ℕ, zero, suc, ◌+◌, ◌<◌, ◌≤◌, ◌==◌, List, [], ◌∷◌, ◌++◌, length, get_or, map, take, if◌then◌else◌, refl, sym, ap, ◌∙◌, inl, inr, append_assoc, arith}
use Rattle.std.proofs.lemmas.{Bool.Decides.eqb_tells, List.{append-nil, length-take-le, take_all, take_more}}
use Rattle.std.specs.List.{join_with_byte}
use Rattle.olap_ast.specs.Schema.{Schema}
use Rattle.olap_cube.specs.CubeSummarizable.{graphs_of}
use Rattle.olap_cube_summ.specs.{CubeCexText.{dimension_text, dimensions_text}, Dimensions.{AreCategoriesOf, no_schema}}
use Rattle.olap_cube_summ.specs.{Found.chosen_of, Telling.names_of}
use Rattle.olap_frozen.specs.declared.founding.Found.{Found}
use Rattle.olap_graph.specs.Lookups.{name_of_category}

-- ---- dimensions

-- the text of the first dimensions, and of one more
dimensions_at : (n : ℕ) (ss : List Schema) (fs : List Found) (i : ℕ) (d : Found) → i < length ss → i < length fs
    → dimensions_text n (take (i + 1) ss) (map chosen_of (take (i + 1) fs))
    ≡ dimensions_text n (take i ss) (map chosen_of (take i fs))
    ++ dimension_text (i + n) (get_or ss i no_schema) (chosen_of (get_or fs i d))
dimensions_at n (s ∷ ss) (f ∷ fs) zero d l m =
    let e : n ≡ 0 + n = omega arith in
    append-nil (dimension_text n s (chosen_of f)) ∙ ap (λ k. dimension_text k s (chosen_of f)) e
dimensions_at n (s ∷ ss) (f ∷ fs) (suc i) d l m =
    let e : i + (n + 1) ≡ suc i + n = omega arith in
    let q : suc i + 1 ≡ suc (i + 1) = omega arith in
    ap (λ k. dimensions_text n (take k (s ∷ ss)) (map chosen_of (take k (f ∷ fs)))) q
    ∙ ap (λ t. dimension_text n s (chosen_of f) ++ t) (dimensions_at (n + 1) ss fs i d (omega arith) (omega arith)
    ∙ ap (λ k. dimensions_text (n + 1) (take i ss) (map chosen_of (take i fs))
    ++ dimension_text k (get_or ss i no_schema) (chosen_of (get_or fs i d))) e)
    ∙ sym (append_assoc (dimension_text n s (chosen_of f))
    (dimensions_text (n + 1) (take i ss) (map chosen_of (take i fs)))
    (dimension_text (suc i + n) (get_or ss i no_schema) (chosen_of (get_or fs i d))))
dimensions_at n ss fs i d l m = absurd (omega arith)

-- one dimension more in what was printed
pub dimensions_more : (ss : List Schema) (fs : List Found) (i : ℕ) (d : Found) (before old new : List ℕ)
    → i < length ss → i < length fs → old ≡ before ++ dimensions_text 1 (take i ss) (map chosen_of (take i fs))
    → new ≡ old ++ dimension_text (i + 1) (get_or ss i no_schema) (chosen_of (get_or fs i d))
    → new ≡ before ++ dimensions_text 1 (take (i + 1) ss) (map chosen_of (take (i + 1) fs))
dimensions_more ss fs i d before old new l m e p =
    let here = dimension_text (i + 1) (get_or ss i no_schema) (chosen_of (get_or fs i d)) in
    p ∙ ap (λ t. t ++ here) e
    ∙ append_assoc before (dimensions_text 1 (take i ss) (map chosen_of (take i fs))) here
    ∙ ap (λ t. before ++ t) (sym (dimensions_at 1 ss fs i d l m))

-- after the last, it is the text of all
pub dimensions_all : (ss : List Schema) (fs : List Found) (i : ℕ) → length ss ≤ i → length fs ≤ i
    → dimensions_text 1 (take i ss) (map chosen_of (take i fs)) ≡ dimensions_text 1 ss (map chosen_of fs)
dimensions_all ss fs i l m = rw (take_all i ss l, take_all i fs m) refl

-- ---- names

-- there is a name for each dimension
pub names_count : (ss : List Schema) (cs : List ℕ) → AreCategoriesOf ss cs
    → length (names_of (graphs_of ss) cs) ≡ length ss
names_count [] [] a = refl
names_count (s ∷ ss) (c ∷ cs) a = ap suc (names_count ss cs a.1)
names_count ss cs a = absurd a

-- the name of one dimension's category
pub name_at : (ss : List Schema) (cs : List ℕ) (i : ℕ) → AreCategoriesOf ss cs → i < length ss
    → get_or (names_of (graphs_of ss) cs) i [] ≡ name_of_category (get_or ss i no_schema).graph (get_or cs i 0)
name_at [] cs i a l = absurd (omega arith)
name_at (s ∷ ss) [] i a l = absurd a
name_at (s ∷ ss) (c ∷ cs) zero a l = refl
name_at (s ∷ ss) (c ∷ cs) (suc i) a l = name_at ss cs i a.1 (omega arith)

-- one name more, after others
join_next : (y : List ℕ) (ys : List (List ℕ)) (x : List ℕ)
    → join_with_byte 44 (y ∷ (ys ++ x ∷ [])) ≡ join_with_byte 44 (y ∷ ys) ++ 44 ∷ x
join_next y [] x = refl
join_next y (z ∷ zs) x =
    ap (λ (t : List ℕ). y ++ 44 ∷ t) (join_next z zs x)
    ∙ sym (append_assoc y (44 ∷ join_with_byte 44 (z ∷ zs)) (44 ∷ x))

-- one name more, after those before it
pub join_more : (names : List (List ℕ)) (i : ℕ) (name old new : List ℕ) → i < length names
    → get_or names i [] ≡ name → old ≡ join_with_byte 44 (take i names)
    → new ≡ old ++ (if i == 0 then name else 44 ∷ name) → new ≡ join_with_byte 44 (take (i + 1) names)
join_more names i name old new l at e p =
    p ∙ ap (λ (t : List ℕ). t ++ (if i == 0 then name else 44 ∷ name)) e
    ∙ by (take i names) (length-take-le i names (omega arith))
    ∙ ap (λ n. join_with_byte 44 (take i names ++ n ∷ [])) (sym at)
    ∙ ap (join_with_byte 44) (sym (take_more names i [] l))
  where
    by : (before : List (List ℕ)) → length before ≡ i
        → join_with_byte 44 before ++ (if i == 0 then name else 44 ∷ name) ≡ join_with_byte 44 (before ++ name ∷ [])
    by [] z = rw (← z) refl
    by (y ∷ ys) z = elim (eqb_tells i 0) [
      | inl t ↦ let w = t.1 in absurd (omega arith)
      | inr f ↦ rw f.0 (sym (join_next y ys name))
    ]
