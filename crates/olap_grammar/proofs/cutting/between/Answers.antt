use Rattle.std.proofs.Common.{◌≡◌, ◌⊎◌, ℕ, inl, inr, refl, sym}
use Rattle.olap_grammar.specs.{Cutter.kept_of, Keeping.Kept, declared.tokens.Version.Version}
use Rattle.olap_grammar.specs.Keeping as keeping
use Rattle.olap_grammar.proofs.cutting.between.Goals as goal

-- a tab or a space begins nothing
blank : (v : Version) (k : Kept) (b : ℕ) → (b ≡ 9) ⊎ (b ≡ 32) → keeping.between v k b ≡ keeping.Between k
blank v k b (inl e) = rw e refl
blank v k b (inr e) = rw e refl

pub returns-then-is_word_byte : goal.returns-then-is_word_byte
returns-then-is_word_byte c =
    rw (sym c.if-is_word_byte.ensures) (rw c.clear.ensures.items at (c.push.ensures (kept_of c.args.tokens.now)))

pub returns-in-32 : goal.returns-in-32
returns-in-32 c = blank _ _ c.args.byte c.in-32.is

pub returns-in-34 : goal.returns-in-34
returns-in-34 c = rw (c.in-34.is, c.clear.ensures.items) refl

pub returns-in-45 : goal.returns-in-45
returns-in-45 c = rw c.in-45.is refl

pub returns-in-60 : goal.returns-in-60
returns-in-60 c = rw c.in-60.is refl
