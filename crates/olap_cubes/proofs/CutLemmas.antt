-- The words of a command over several dimensions, cut as the code takes them, are the words by their numbers.
use Rattle.std.proofs.Common.{◌≡◌, ◌<◌, ◌≤◌, ◌+◌, ◌-◌, ◌*◌, ◌&&◌, ◌==◌, ℕ, suc, List, [], ◌∷◌, Bool, true, false, cond, Option, None, Some, drop, get_or, length, nat_le, take, ap, refl, sym, arith, ◌∙◌}
use Rattle.std.proofs.lemmas.{Bool.Decides.nat_tests, List.{drop-drop, get_or-drop, length-drop, length-take-le}}
use Rattle.std.specs.{Prelude.{codes, option_and_then}, Str.bytes_eq}
use Rattle.olap_base.specs.{Limits.most_views, Views.direct_view}
use Rattle.olap_cube.specs.CubeViews.{tuples}
use Rattle.olap_cube_views.specs.CubeViewText.{cube_view_text}
use Rattle.olap_order.specs.{Arguments.{between, exactly}, Behind.by_two, Order.{Done, Order, Told, and_then}}
use Rattle.olap_order.specs.declared.status.Status.TheVariants.{Yes}
use Rattle.olap_cubes.specs.Commands.{by_dimensions, cube_order, cubeview_order, dimensions_said, order_named}
use Rattle.olap_cubes.specs.Cut.{by_count, by_target, cube_by, cube_of, cubeview_by, cubeview_of, cut_named, different_tuples_from, legal_files_from, schema_files_from}
use Rattle.olap_cubes.specs.{Questions.{ByCube, Question}, Steps.{cube_facts_file, tuple_word}}

-- an order that there is by a test, or none
abbrev by_test : Bool → Order Question → Option (Order Question)
by_test b order = cond b (Some order) None

-- ---- words by their numbers: those after the first one, and k others

-- the word of a number, of the words that are left
word_there : (k j n : ℕ) (w : List ℕ) (rest left : List (List ℕ)) → drop k rest ≡ left → n ≡ k + j + 3
    → get_or (w ∷ rest) (n - 2) [] ≡ get_or left j []
word_there k j n w rest left d is =
    let e : n - 2 ≡ suc (k + j) = omega arith in
    ap (λ m. get_or (w ∷ rest) m []) e ∙ sym (get_or-drop k rest j []) ∙ ap (λ ws. get_or ws j []) d

-- and those from that number on
words_there : (k j n : ℕ) (w : List ℕ) (rest left : List (List ℕ)) → drop k rest ≡ left → n ≡ k + j + 3
    → drop (n - 2) (w ∷ rest) ≡ drop j left
words_there k j n w rest left d is =
    let e : n - 2 ≡ suc (k + j) = omega arith in
    ap (λ m. drop m (w ∷ rest)) e ∙ sym (drop-drop j k rest) ∙ ap (drop j) d

-- how many are left
left_count : (k : ℕ) (rest left : List (List ℕ)) → drop k rest ≡ left → length rest - k ≡ length left
left_count k rest left d = sym (length-drop k rest) ∙ ap length d

-- ---- `cube`

-- this many schemas, and the words of these numbers
abbrev cube_with : List (List ℕ) → ℕ → ℕ → List ℕ → List (List ℕ) → Order Question
cube_with schemas n m target sources =
    and_then (schema_files_from 1 [] schemas) (λ ss.
    and_then (tuple_word ss n target) (λ c.
    and_then (different_tuples_from ss m [] sources) (λ cs.
    Done (ByCube ss c cs))))

-- no target is left
too_few : (k n : ℕ) → n - k ≡ 0 → (nat_le (k + 2) (suc n) && nat_le (suc n) (k + most_views + 2)) ≡ false
too_few k n e = grind (arith, nat_tests)

-- a target is left, and these sources
just_few : (k n m : ℕ) → n - k ≡ suc m
    → nat_le m most_views ≡ (nat_le (k + 2) (suc n) && nat_le (suc n) (k + most_views + 2))
just_few k n m e = grind (arith, nat_tests)

-- the words of `cube`, cut from the left, give the order by their numbers
cube_is : (k : ℕ) (w : List ℕ) (rest : List (List ℕ))
    → cube_by k rest ≡ between (k + 2) (k + most_views + 2) (cube_order k) (w ∷ rest)
cube_is k w rest = go (drop k rest) refl
  where
    go : (left : List (List ℕ)) → drop k rest ≡ left → by_target (cube_of (take k rest)) left
        ≡ between (k + 2) (k + most_views + 2) (cube_order k) (w ∷ rest)
    go [] d = ap (λ b. by_test b (cube_order k (w ∷ rest))) (sym (too_few k (length rest) (left_count k rest [] d)))
    go (target ∷ sources) d =
        let count = left_count k rest (target ∷ sources) d in
        let few : k ≤ length rest = omega (arith, count) in
        let first : k + 3 ≡ k + 0 + 3 = omega arith in
        let second : k + 4 ≡ k + 1 + 3 = omega arith in
        let schemas = take k rest in
        ap (λ b. by_test b (cube_of schemas target sources)) (just_few k (length rest) (length sources) count)
        ∙ ap (by_test (nat_le (k + 2) (suc (length rest)) && nat_le (suc (length rest)) (k + most_views + 2)))
        (ap (λ n. cube_with schemas (n + 3) (n + 4) target sources) (length-take-le k rest few)
        ∙ ap (λ t. cube_with schemas (k + 3) (k + 4) t sources)
        (sym (word_there k 0 (k + 3) w rest (target ∷ sources) d first))
        ∙ ap (cube_with schemas (k + 3) (k + 4) (get_or (w ∷ rest) (k + 3 - 2) []))
        (sym (words_there k 1 (k + 4) w rest (target ∷ sources) d second)))

-- ---- `cubeview`

-- this many schemas and instances, and the words of these numbers
abbrev view_with : List (List ℕ) → List (List ℕ) → ℕ → List ℕ → List ℕ → Order Question
view_with schemas instances n facts target =
    and_then (schema_files_from 1 [] schemas) (λ ss.
    and_then (tuple_word ss n target) (λ c.
    and_then (legal_files_from 1 [] ss instances) (λ is.
    and_then (cube_facts_file ss is facts) (λ table.
    Told Yes (cube_view_text is (direct_view (tuples is) table c))))))

-- fewer than two words are left
fewer : (k n m : ℕ) → n - (k + k) ≡ m → m < 2 → (suc n == 2 * k + 3) ≡ false
fewer k n m e l = grind (arith, nat_tests)

-- more than two are
more : (k n m : ℕ) → n - (k + k) ≡ m → 2 < m → (suc n == 2 * k + 3) ≡ false
more k n m e l = grind (arith, nat_tests)

-- two are
just_two : (k n : ℕ) → n - (k + k) ≡ 2 → true ≡ (suc n == 2 * k + 3)
just_two k n e = grind (arith, nat_tests)

-- the words of `cubeview`, cut from the left, give the order by their numbers
view_is : (k : ℕ) (w : List ℕ) (rest : List (List ℕ))
    → cubeview_by k rest ≡ exactly (2 * k + 3) (cubeview_order k) (w ∷ rest)
view_is k w rest = go (drop k (drop k rest)) refl
  where
    -- of the words that are left
    both : (left : List (List ℕ)) → drop k (drop k rest) ≡ left → drop (k + k) rest ≡ left
    both left d = sym (drop-drop k k rest) ∙ d

    none : (b : Bool) → b ≡ false → None ≡ by_test b (cubeview_order k (w ∷ rest))
    none b e = ap (λ b. by_test b (cubeview_order k (w ∷ rest))) (sym e)

    go : (left : List (List ℕ)) → drop k (drop k rest) ≡ left
        → by_two (cubeview_of (take k rest) (take k (drop k rest))) left
        ≡ exactly (2 * k + 3) (cubeview_order k) (w ∷ rest)
    go [] d = none _ (fewer k (length rest) 0 (left_count (k + k) rest [] (both [] d)) (omega arith))
    go (a ∷ []) d =
        none _ (fewer k (length rest) 1 (left_count (k + k) rest (a ∷ []) (both (a ∷ []) d)) (omega arith))
    go (a ∷ b ∷ c ∷ others) d =
        let all = a ∷ b ∷ c ∷ others in
        none _ (more k (length rest) (length all) (left_count (k + k) rest all (both all d)) (omega arith))
    go (facts ∷ target ∷ []) d =
        let left = facts ∷ target ∷ [] in
        let count = left_count (k + k) rest left (both left d) in
        let few : k ≤ length rest = omega (arith, count) in
        let first : 2 * k + 3 ≡ k + k + 0 + 3 = omega arith in
        let second : 2 * k + 4 ≡ k + k + 1 + 3 = omega arith in
        let next : suc k ≡ k + 1 = omega arith in
        let schemas = take k rest in
        let instances = take k (drop k rest) in
        ap (λ b. by_test b (cubeview_of schemas instances facts target)) (just_two k (length rest) count)
        ∙ ap (by_test (suc (length rest) == 2 * k + 3))
        (ap (λ n. view_with schemas instances (2 * n + 4) facts target) (length-take-le k rest few)
        ∙ ap (λ n. view_with schemas (take k (drop n (w ∷ rest))) (2 * k + 4) facts target) next
        ∙ ap (λ f. view_with schemas (take k (drop (k + 1) (w ∷ rest))) (2 * k + 4) f target)
        (sym (word_there (k + k) 0 (2 * k + 3) w rest left (both left d) first))
        ∙ ap (view_with schemas (take k (drop (k + 1) (w ∷ rest))) (2 * k + 4)
        (get_or (w ∷ rest) (2 * k + 3 - 2) []))
        (sym (word_there (k + k) 1 (2 * k + 4) w rest left (both left d) second)))

-- ---- both

-- by the number of dimensions
dimensions_are : (cut order : ℕ → List (List ℕ) → Option (Order Question))
    → ((k : ℕ) (w : List ℕ) (rest : List (List ℕ)) → cut k rest ≡ order k (w ∷ rest)) → (words : List (List ℕ))
    → by_count cut words ≡ by_dimensions order words
dimensions_are cut order e [] = refl
dimensions_are cut order e (w ∷ rest) = λ i. option_and_then (λ k. e k w rest i) (dimensions_said w)

-- the order of whatever words
pub cut_is : (name : List ℕ) (words : List (List ℕ)) → cut_named name words ≡ order_named name words
cut_is name words =
    let cubes = dimensions_are cube_by (λ k. between (k + 2) (k + most_views + 2) (cube_order k)) cube_is words in
    let views = dimensions_are cubeview_by (λ k. exactly (2 * k + 3) (cubeview_order k)) view_is words in
    λ i. cond (bytes_eq name (codes "cube")) (cubes i) (cond (bytes_eq name (codes "cubeview")) (views i) None)
