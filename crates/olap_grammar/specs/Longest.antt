-- Where a mark ends, by the bytes that stand after it.
--     EndsMark    a mark before these bytes ends there
use Rattle.std.specs.Prelude.{◌≡◌, ◌==◌, ℕ, true, false, List, [], ◌∷◌}
use Rattle.olap_base.specs.Bytes.{equals_sign, greater_than_sign, hyphen}
use Rattle.olap_grammar.specs.declared.tokens.Mark.{Mark}
use Rattle.olap_grammar.specs.declared.tokens.Mark.TheVariants as mark

-- these bytes don't end an arrow
abbrev pub EndsDash : List ℕ → Type 0
EndsDash [] = Unit {0}
EndsDash (b ∷ bs) = b == greater_than_sign ≡ false

-- a `<` before these bytes is no part of a longer mark: neither of `<=` nor of `<->`
abbrev pub EndsLess : List ℕ → Type 0
EndsLess [] = Unit {0}
EndsLess (b ∷ bs) = (b == equals_sign ≡ false) × (b == hyphen ≡ true → EndsDash bs)

-- the mark before these bytes ends there: it is no part of a longer one
abbrev pub EndsMark : Mark → List ℕ → Type 0
EndsMark mark.Less bs = EndsLess bs
EndsMark m bs = Unit {0}
