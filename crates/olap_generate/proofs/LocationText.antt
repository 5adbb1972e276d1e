-- The text of the made input's schema stands for its schema.
use Rattle.std.proofs.Common.{◌≡◌, ◌<◌, ◌++◌, ◌∙◌, ◌+◌, ◌-◌, ℕ, zero, suc, true, List, [], ◌∷◌, None, Ok, Err, Result, codes, take, drop, length, refl, ap, arith, lit<}
use Rattle.std.specs.{Prelude.slice_index, Str.{chars, is_utf8}}
use Rattle.olap_base.specs.Reaching.{category_reaches, category_reaches_is}
use Rattle.olap_grammar.specs.{Brackets.opens_over, CuttingMachine.tokens_of, Machine.the_formula, Nodes.nodes_behind}
use Rattle.olap_grammar.specs.Words.{compared_in, is_number_token, pieces_of, plain_of}
use Rattle.olap_schema_text.specs.Judging.{Above, first_stuck, form_read, line_read, lines_on, nothing_above, Read, schema_read, statement_read, text_ended, whole}
use Rattle.olap_schema_text.specs.Lines.{chomped, is_quiet, lines_of}
use Rattle.olap_schema_text.specs.{Resolving.{categories_of, is_repeated, lacks_edge}, Statements.statement_of}
use Rattle.olap_schema_text.specs.Tokens.{is_bad_number, is_long}
use Rattle.olap_generate.proofs.Location.{location_graph, location_schema}
use Rattle.olap_generate.proofs.LocationGraph.{all_is, city_is, country_is, location_is_hierarchy, province_is, region_is, state_is, store_is}
use Rattle.olap_generate.specs.Location.{location_lines, location_text}
use lib.Utf8.{encode}
use Rattle.olap_grammar.specs.declared.tokens.Token.TheVariants as token

-- ---- lines

-- the text is cut into its lines
cut : lines_of location_text ≡ location_lines
unfolding lines_of
cut = refl

-- this many nodes the first constraints have, for each number of them
abbrev nodes : List ℕ
nodes = 0 ∷ 3 ∷ 7 ∷ 10 ∷ 13 ∷ 16 ∷ 19 ∷ 20 ∷ []

-- a result's value, or else this
abbrev value_or : {A E : Type 0} → A → Result A E → A
value_or a (Ok x) = x
value_or a (Err e) = a

-- what the version's line says
abbrev versioned : Above
versioned = value_or nothing_above
    (statement_read nothing_above 1 None (statement_of (token.Word (codes "schema") ∷ token.Word (codes "1") ∷ [])))

-- what the version, this many categories, this many edges and this many constraints say
abbrev said : ℕ → ℕ → ℕ → Above
said c e k = record {
  version = versioned.version;
  graph = record {
    names = take c location_graph.names;
    numbers = take c location_graph.numbers;
    edges = take e location_graph.edges;
  };
  category_lines = take c (2 ∷ 3 ∷ 4 ∷ 5 ∷ 6 ∷ 7 ∷ []);
  constraints = take k location_schema.constraints;
  nodes = slice_index nodes k;
}

-- what the first lines say
abbrev above : ℕ → Above
above zero = nothing_above
above (suc n) = said n (n - 6) (n - 15)

-- each line adds what it says to those above it
abbrev Follow : ℕ → List (List ℕ) → Type 0
Follow n [] = Unit {0}
Follow n (line ∷ lines) = (line_read (above n) (n + 1) (chomped line) ≡ Ok (above (n + 1))) × Follow (n + 1) lines

-- what is read where these lines stand after the first n
abbrev from : List (List ℕ) → ℕ → Read
from rest n = lines_on (Ok (above n)) n rest

-- lines that follow are read on from there
followed : (n : ℕ) (lines rest : List (List ℕ)) → Follow n lines → from (lines ++ rest) n ≡ from rest (n + length lines)
followed n [] rest f = ap (from rest) (let e : n ≡ n + 0 = omega arith in e)
followed n (line ∷ lines) rest f =
    let e : n + 1 + length lines ≡ n + length (line ∷ lines) = omega arith in
    ap (λ r. lines_on r (n + 1) (lines ++ rest)) f.0 ∙ followed (n + 1) lines rest f.1 ∙ ap (from rest) e

-- a pair
both : {A B : Type 0} → A → B → A × B
both a b = (a, b)

-- the version and the categories
category_lines : Follow 0 (take 7 location_lines)
unfolding line_read is_utf8 chars encode is_quiet tokens_of statement_of
category_lines =
    both refl (both (rw store_is refl) (both (rw city_is refl) (both (rw state_is refl) (both (rw province_is refl)
    (both (rw region_is refl) (both (rw country_is refl) tt))))))

-- the edges
edge_lines : Follow 7 (take 9 (drop 7 location_lines))
unfolding line_read is_utf8 chars encode is_quiet tokens_of statement_of
edge_lines =
    both (rw (store_is, city_is) refl) (both (rw (city_is, state_is) refl) (both (rw (city_is, province_is) refl)
    (both (rw (city_is, country_is) refl) (both (rw (state_is, region_is) refl) (both (rw (state_is, country_is) refl)
    (both (rw (province_is, region_is) refl) (both (rw (region_is, country_is) refl)
    (both (rw (country_is, all_is) refl) tt))))))))

-- the constraints
constraint_lines : Follow 16 (drop 16 location_lines)
unfolding line_read is_utf8 chars encode is_quiet tokens_of statement_of
    form_read the_formula plain_of compared_in pieces_of opens_over nodes_behind is_long is_bad_number
    is_number_token categories_of is_repeated lacks_edge
constraint_lines =
    both (simp (city_is, country_is)) (both (simp (city_is, state_is, province_is, country_is))
    (both (simp (city_is, country_is)) (both (simp (state_is, country_is))
    (both (simp (state_is, region_is, country_is)) (both (simp (state_is, region_is, country_is))
    (both (simp (province_is, country_is)) tt))))))

-- all lines
lines_say : from location_lines 0 ≡ Ok (above 23)
lines_say =
    followed 0 (take 7 location_lines) (drop 7 location_lines) category_lines
    ∙ followed 7 (take 9 (drop 7 location_lines)) (drop 16 location_lines) edge_lines
    ∙ followed 16 (drop 16 location_lines) [] constraint_lines

-- ---- the whole

-- each category reaches `All`
reached : (c : ℕ) → c < 7 → category_reaches location_graph c 0 ≡ true
reached c l = (category_reaches_is location_graph c 0).1 (location_is_hierarchy.reaches_all c l)

-- each category has a way to `All`
none_stuck : first_stuck location_graph ≡ None
none_stuck = rw (
  reached 1 (lit< tt),
  reached 2 (lit< tt),
  reached 3 (lit< tt),
  reached 4 (lit< tt),
  reached 5 (lit< tt),
  reached 6 (lit< tt),
) refl

-- the text is read as the schema
pub location_is_read : schema_read location_text ≡ Ok location_schema
unfolding schema_read statement_of
location_is_read =
    ap (λ lines. text_ended (lines_on (Ok nothing_above) 0 lines)) cut ∙ ap text_ended lines_say
    ∙ ap (whole (above 23)) none_stuck
