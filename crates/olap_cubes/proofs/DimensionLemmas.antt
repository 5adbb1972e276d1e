-- One dimension after the other.
use Rattle.std.proofs.Common.{◌≡◌, ◌+◌, ◌<◌, ◌≤◌, ℕ, zero, suc, List, [], ◌∷◌, ◌++◌, length, get_or, drop, take, ap, refl, subst, sym, arith, ◌∙◌}
use Rattle.std.proofs.lemmas.List.{drop_all, drop_more, get_or-map, length-map, map-append, take_all, take_more}
use Rattle.std.specs.{Prelude.codes, String.string_bytes, declared.alloc.Global.Global, declared.string.String.String}
use Rattle.olap_base.specs.{Graph.Graph, Instance.Instance, declared.ids.CatId.CatId}
use Rattle.olap_ast.specs.{Schema.Schema, Trees.numbers_of}
use Rattle.olap_cube.specs.CubeSummarizable.{graphs_of}
use Rattle.olap_cube_views.specs.Dimensions.{AreMadeFor, categories_in}
use Rattle.olap_cube_summ.specs.Dimensions.{AreCategoriesOf, no_schema}
use Rattle.olap_instance.specs.Made.{IsMadeFor}
use Rattle.olap_order.specs.{Order.{Done, and_then}, Steps.schema_file, Words.texts}
use Rattle.olap_reading.specs.Steps.{legal_file}
use Rattle.olap_view.specs.{Columns.Ascent, Seen.ids}
use Rattle.olap_cubes.specs.{Cut.{legal_files_from, schema_files_from}, Steps.numbered}

-- the schemas from a file on: this one, and those of the files after it
pub schemas_from : (words : List (String Global)) (k : ℕ) (read : List Schema) → k < length words
    → let files = texts words in schema_files_from (k + 1) read (drop k files)
    ≡ and_then (schema_file (numbered (codes "schema") (k + 1)) (get_or files k []))
    (λ s. schema_files_from (k + 1 + 1) (read ++ s ∷ []) (drop (k + 1) files))
schemas_from words k read l =
    let files = texts words in
    let h : k < length files = omega (arith, length-map words string_bytes) in
    let next : suc (k + 1) ≡ k + 1 + 1 = omega arith in
    ap (schema_files_from (k + 1) read) (drop_more files k [] h)
    ∙ ap (λ n. and_then (schema_file (numbered (codes "schema") (k + 1)) (get_or files k []))
    (λ s. schema_files_from n (read ++ s ∷ []) (drop (k + 1) files))) next

-- no schema is left
pub schemas_end : (words : List (String Global)) (k : ℕ) (read : List Schema) → length words ≤ k
    → schema_files_from (k + 1) read (drop k (texts words)) ≡ Done read
schemas_end words k read h = ap (schema_files_from (k + 1) read)
    (drop_all k (texts words) (omega (arith, length-map words string_bytes)))

-- the instances from a file on: this one, and those of the files after it
pub legals_from : (schemas : List Schema) (words : List (String Global)) (k : ℕ) (read : List Instance)
    → k < length schemas → k < length words
    → let files = texts words in legal_files_from (k + 1) read (drop k schemas) (drop k files)
    ≡ and_then (legal_file (get_or schemas k no_schema) (numbered (codes "instance") (k + 1)) (get_or files k []))
    (λ i. legal_files_from (k + 1 + 1) (read ++ i ∷ []) (drop (k + 1) schemas) (drop (k + 1) files))
legals_from schemas words k read l w =
    let files = texts words in
    let h : k < length files = omega (arith, length-map words string_bytes) in
    let next : suc (k + 1) ≡ k + 1 + 1 = omega arith in
    ap (λ ss. legal_files_from (k + 1) read ss (drop k files)) (drop_more schemas k no_schema l)
    ∙ ap (legal_files_from (k + 1) read (get_or schemas k no_schema ∷ drop (k + 1) schemas)) (drop_more files k [] h)
    ∙ ap (λ n. and_then
    (legal_file (get_or schemas k no_schema) (numbered (codes "instance") (k + 1)) (get_or files k []))
    (λ i. legal_files_from n (read ++ i ∷ []) (drop (k + 1) schemas) (drop (k + 1) files))) next

-- no instance is left
pub legals_end : (schemas : List Schema) (files : List (List ℕ)) (k : ℕ) (read : List Instance) → length schemas ≤ k
    → legal_files_from (k + 1) read (drop k schemas) (drop k files) ≡ Done read
legals_end schemas files k read l =
    ap (λ ss. legal_files_from (k + 1) read ss (drop k files)) (drop_all k schemas l)

-- ---- instances that were made for graphs

-- one instance more that was made for its graph
made_next : (schemas : List Schema) (k : ℕ) (is : List Instance) (i : Instance) → k < length schemas
    → AreMadeFor (take k (graphs_of schemas)) is → IsMadeFor (get_or schemas k no_schema).graph i
    → AreMadeFor (take (suc k) (graphs_of schemas)) (is ++ i ∷ [])
made_next [] k is i h a m = absurd (omega arith)
made_next (s ∷ schemas) zero [] i h a m = (m, tt)
made_next (s ∷ schemas) zero (j ∷ is) i h a m = absurd a
made_next (s ∷ schemas) (suc k) [] i h a m = absurd a
made_next (s ∷ schemas) (suc k) (j ∷ is) i h a m = (a.0, made_next schemas k is i (omega arith) a.1 m)

-- one instance more
pub made_more : (schemas : List Schema) (k : ℕ) (is all : List Instance) (i : Instance) → k < length schemas
    → AreMadeFor (take k (graphs_of schemas)) is → IsMadeFor (get_or schemas k no_schema).graph i → all ≡ is ++ i ∷ []
    → AreMadeFor (take (k + 1) (graphs_of schemas)) all
made_more schemas k is all i h a m e =
    let next : suc k ≡ k + 1 = omega arith in
    subst (λ n. AreMadeFor (take n (graphs_of schemas)) all) next
    (subst (AreMadeFor (take (suc k) (graphs_of schemas))) (sym e) (made_next schemas k is i h a m))

-- all of them
pub made_all : (schemas : List Schema) (k : ℕ) (is : List Instance) → length schemas ≤ k
    → AreMadeFor (take k (graphs_of schemas)) is → AreMadeFor (graphs_of schemas) is
made_all schemas k is h a =
    let few : length (graphs_of schemas) ≤ k = omega (arith, length-map schemas (λ (s : Schema). s.graph)) in
    subst (λ (gs : List Graph). AreMadeFor gs is) (take_all k (graphs_of schemas) few) a

-- one graph more
pub graphs_more : (schemas : List Schema) (k : ℕ) (all : List Graph) (g : Graph) → k < length schemas
    → g ≡ (get_or schemas k no_schema).graph → all ≡ take k (graphs_of schemas) ++ g ∷ []
    → all ≡ take (k + 1) (graphs_of schemas)
graphs_more schemas k all g h e is =
    let there : k < length (graphs_of schemas) = omega (arith, length-map schemas (λ (s : Schema). s.graph)) in
    is ∙ ap (λ (x : Graph). take k (graphs_of schemas) ++ x ∷ [])
    (e ∙ sym (get_or-map (λ (s : Schema). s.graph) schemas k no_schema g h))
    ∙ sym (take_more (graphs_of schemas) k g there)

-- all graphs
pub graphs_all : (schemas : List Schema) (k : ℕ) (all : List Graph) → length schemas ≤ k
    → all ≡ take k (graphs_of schemas) → all ≡ graphs_of schemas
graphs_all schemas k all h is =
    let few : length (graphs_of schemas) ≤ k = omega (arith, length-map schemas (λ (s : Schema). s.graph)) in
    is ∙ take_all k (graphs_of schemas) few

-- a target has as many categories as there are dimensions
pub target_fits : (schemas : List Schema) (target : List CatId) → AreCategoriesOf schemas (numbers_of target)
    → length target ≡ length schemas
target_fits [] [] a = refl
target_fits [] (c ∷ target) a = absurd a
target_fits (s ∷ schemas) [] a = absurd a
target_fits (s ∷ schemas) (c ∷ target) a = ap suc (target_fits schemas target a.1)

-- the categories of one column more
pub columns_more : (target : List CatId) (k : ℕ) (d : CatId) (old new : List Ascent) (a : Ascent) → k < length target
    → new ≡ old ++ a ∷ [] → categories_in old ≡ ids (take k target) → a.category ≡ (get_or target k d).0
    → categories_in new ≡ ids (take (k + 1) target)
columns_more target k d old new a h is so e =
    ap categories_in is ∙ map-append (λ (a : Ascent). a.category) old (a ∷ []) ∙ rw (so, e) refl
    ∙ sym (ap ids (take_more target k d h) ∙ map-append (λ (c : CatId). c.0) (take k target) (get_or target k d ∷ []))
