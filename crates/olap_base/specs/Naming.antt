-- Texts that name things: where they stand in a list, and what is wrong with a text that is read.
--     place_of   the place of a text in a list of texts
--     Fault      where the first fault of a file is, and what it is
use Rattle.std.specs.Prelude.{ℕ, List, Option}
use Rattle.std.specs.List.{position_from}
use Rattle.std.specs.Str.{bytes_eq}
pub use Rattle.olap_base.specs.declared.refusals.Fault.{Fault}

-- the place of a text in a list, the first if it stands there more than once
abbrev pub place_of : List ℕ → List (List ℕ) → Option ℕ
place_of text texts = position_from (bytes_eq text) 0 texts
