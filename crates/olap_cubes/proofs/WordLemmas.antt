-- The words of a command over several dimensions.
use Rattle.std.proofs.Common.{◌≡◌, ◌<◌, ℕ, List, [], ◌∷◌, length, drop, take, ap, sym, arith, ◌∙◌}
use Rattle.std.{proofs.lemmas.List.{drop-map, take-map}, specs.String.string_bytes, specs.declared.alloc.Global.Global}
use Rattle.std.specs.declared.string.String.{String}
use Rattle.olap_order.specs.{Behind.by_two, Families.IsNoUsage, Order.Told, Words.texts}
use Rattle.olap_order.specs.declared.status.Status.TheVariants.{Usage}
use Rattle.olap_cubes.specs.{Cut.{by_target, cube_by, cube_of, cubeview_by, cubeview_of}, Seen.{HasFiles, seen}}
use Rattle.olap_cubes.specs.declared.words.Command.{Command}
use Rattle.olap_cubes.specs.declared.words.Command.TheVariants as code

-- the order of a command isn't the usage
pub seen_is_no_usage : (command : Command) → HasFiles command → IsNoUsage (seen command)
seen_is_no_usage (code.CubeView schemas instances facts target) h bytes e = reads_first schemas.now h.0.0 e
  where
    reads_first : (words : List (String Global)) → 0 < length words
        → cubeview_of (texts words) (texts instances.now) facts.now target.now ≡ Told Usage bytes → ⊥
    reads_first [] l e = absurd (omega arith)
    reads_first (word ∷ words) l e = absurd (cc)
seen_is_no_usage (code.Cube schemas target sources) h bytes e = reads_first schemas.now h.0.0 e
  where
    reads_first : (words : List (String Global)) → 0 < length words
        → cube_of (texts words) target.now (texts sources.now) ≡ Told Usage bytes → ⊥
    reads_first [] l e = absurd (omega arith)
    reads_first (word ∷ words) l e = absurd (cc)

-- the words after the schemas
pub cut_schemas : (words schemas : List (String Global)) (k : ℕ) → schemas ≡ take k words
    → cube_by k (texts words) ≡ by_target (cube_of (texts schemas)) (texts (drop k words))
cut_schemas words schemas k s =
    ap (λ ws. by_target (cube_of ws) (drop k (texts words))) (take-map string_bytes k words ∙ ap texts (sym s))
    ∙ ap (by_target (cube_of (texts schemas))) (drop-map string_bytes k words)

-- the words after the schemas and the instances
pub cut_words : (words schemas instances : List (String Global)) (k : ℕ) → schemas ≡ take k words
    → instances ≡ take k (drop k words) → cubeview_by k (texts words)
    ≡ by_two (cubeview_of (texts schemas) (texts instances)) (texts (drop k (drop k words)))
cut_words words schemas instances k s i =
    let rest : drop k (texts words) ≡ texts (drop k words) = drop-map string_bytes k words in
    ap (λ ws. by_two (cubeview_of ws (take k (drop k (texts words)))) (drop k (drop k (texts words))))
    (take-map string_bytes k words ∙ ap texts (sym s))
    ∙ ap (λ ws. by_two (cubeview_of (texts schemas) (take k ws)) (drop k ws)) rest
    ∙ ap (λ ws. by_two (cubeview_of (texts schemas) ws) (drop k (texts (drop k words))))
    (take-map string_bytes k (drop k words) ∙ ap texts (sym i))
    ∙ ap (by_two (cubeview_of (texts schemas) (texts instances))) (drop-map string_bytes k (drop k words))
