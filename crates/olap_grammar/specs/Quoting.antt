-- Texts as strings of a line.
--     quoted     in quotes
use Rattle.std.specs.Prelude.{◌==◌, ◌||◌, ◌++◌, ℕ, List, [], ◌∷◌, flat_map, if◌then◌else◌}
use Rattle.olap_base.specs.Bytes.{backslash, quotation_mark}

-- the byte, with a `\` before it where it is `"` or `\`
abbrev pub escaped_byte : ℕ → List ℕ
escaped_byte b = if (b == quotation_mark) || (b == backslash) then backslash ∷ b ∷ [] else b ∷ []

-- the text as a string: in quotes, with a `\` before each `"` and `\`
abbrev pub quoted : List ℕ → List ℕ
quoted text = quotation_mark ∷ (flat_map escaped_byte text ++ quotation_mark ∷ [])
