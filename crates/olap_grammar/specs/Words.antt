-- The meaning of words in a formula.
--     pieces_of      the parts of a word between marks
--     pieces_behind  the parts after the first mark
--     plain_of       a word by itself
--     equal_of       a word with a string
--     compare_of     a word with a number
--     atoms_of       all three, by a version of the text
use Rattle.std.specs.Prelude.{◌==◌, ◌&&◌, ℕ, Bool, List, [], ◌∷◌, Option, Some, None, codes, length, if◌then◌else◌, nat_lt, option_and_then}
use Rattle.std.specs.Borrow.{Bor}
use Rattle.std.specs.List.{list_all, slice_split}
use Rattle.std.specs.Option.{option_map}
use Rattle.std.specs.Str.{all_ascii_digits, bytes_eq}
use Rattle.olap_base.specs.Bytes.{full_stop, underscore}
use Rattle.olap_base.specs.Reaching.{is_category_name}
use Rattle.olap_numerals.specs.Comparing.{Op}
use Rattle.olap_numerals.specs.Numerals.{digits_in}
use Rattle.olap_grammar.specs.Cutting.{has_numbers}
use Rattle.olap_grammar.specs.Forms as words
use Rattle.olap_grammar.specs.Forms.{Atom, Form}
use Rattle.olap_grammar.specs.Grammar.{Atoms}
use Rattle.olap_grammar.specs.declared.tokens.Version.{Version}

-- the parts of a word between marks
unfoldable pub pieces_of : ℕ → List ℕ → List (List ℕ)
pieces_of mark w = slice_split (λ b. b == mark) w

-- the parts of what stands after a mark; if there is no mark, not even an empty part
abbrev pub pieces_behind : ℕ → Option (Bor (List ℕ)) → List (List ℕ)
pieces_behind mark None = []
pieces_behind mark (Some text) = pieces_of mark text.now

-- the parts, if each is a category's name by its letters
abbrev pub names_at : ℕ → List ℕ → Option (List (List ℕ))
names_at mark w = if list_all is_category_name (pieces_of mark w) then Some (pieces_of mark w) else None

-- two names or more that were joined by `_`
abbrev pub path_of : List (List ℕ) → Option Atom
path_of (root ∷ d ∷ ds) = Some (words.Atom.Path root (d ∷ ds))
path_of names = None

-- two or three names that were joined by `.`
abbrev pub reach_of : List (List ℕ) → Option Atom
reach_of (root ∷ d ∷ []) = Some (words.Atom.Reach root d)
reach_of (root ∷ d ∷ e ∷ []) = Some (words.Atom.Via root d e)
reach_of names = None

-- a word by itself
unfoldable pub plain_of : List ℕ → Option Atom
plain_of w =
    if bytes_eq w (codes "true") then Some words.Atom.Truth
    else if bytes_eq w (codes "false") then Some words.Atom.Falsity
    else if nat_lt 1 (length (pieces_of underscore w)) then option_and_then path_of (names_at underscore w)
    else option_and_then reach_of (names_at full_stop w)

-- one name, or two that were joined by `.`: the root, and the category that is compared, which may be the root
abbrev pub ends_of : List (List ℕ) → Option (List ℕ × List ℕ)
ends_of (root ∷ []) = Some (root, root)
ends_of (root ∷ d ∷ []) = Some (root, d)
ends_of names = None

-- the same of a word
unfoldable pub compared_in : List ℕ → Option (List ℕ × List ℕ)
compared_in w = option_and_then ends_of (names_at full_stop w)

-- a word with a string
abbrev pub equal_of : List ℕ → List ℕ → Option Atom
equal_of w k = option_map (λ ends. words.Atom.Equals ends.0 ends.1 k) (compared_in w)

-- a `-` or none, decimal digits, one at least, and nothing else
unfoldable pub is_number_token : List ℕ → Bool
is_number_token w = nat_lt 0 (length (digits_in w)) && all_ascii_digits (digits_in w)

-- a word with a number, in the version that has numbers
abbrev pub compare_of : Version → List ℕ → Op → List ℕ → Option Atom
compare_of v w op digits =
    if has_numbers v && is_number_token digits
    then option_map (λ ends. words.Atom.Compare ends.0 ends.1 op digits) (compared_in w)
    else None

-- by a version of the text
abbrev pub atoms_of : Version → Atoms Form
atoms_of v = record {
  plain = λ w. option_map words.Form.Of (plain_of w);
  equal = λ w k. option_map words.Form.Of (equal_of w k);
  compare = λ w op digits. option_map words.Form.Of (compare_of v w op digits);
}
