-- The lines of a text, and what is looked at before a line is cut into tokens.
--     lines_of      the lines, cut at each LF
--     chomped       a line without the CR at its end
--     is_quiet      it is blank or a comment
use Rattle.std.specs.Prelude.{◌==◌, ◌||◌, ◌-◌, ℕ, suc, Bool, true, List, [], ◌∷◌, length, take, slice_index, if◌then◌else◌}
use Rattle.std.specs.List.{onto_first}
use Rattle.olap_base.specs.Bytes.{carriage_return, hash_sign, line_feed, space, tab}

-- the text is split at each LF; a last piece that is empty isn't a line
unfoldable pub lines_of : List ℕ → List (List ℕ)
lines_of [] = []
lines_of (b ∷ bs) = if b == line_feed then [] ∷ lines_of bs else onto_first b (lines_of bs)

-- how many bytes stand before the first LF
unfoldable pub line_length : List ℕ → ℕ
line_length [] = 0
line_length (b ∷ bs) = if b == line_feed then 0 else suc (line_length bs)

-- the line without a CR at its end
abbrev pub chomped : List ℕ → List ℕ
chomped line = if slice_index line (length line - 1) == carriage_return then take (length line - 1) line else line

-- the line has only spaces and tabs, or its first other character is `#`
unfoldable pub is_quiet : List ℕ → Bool
is_quiet [] = true
is_quiet (b ∷ bs) = if (b == space) || (b == tab) then is_quiet bs else b == hash_sign
