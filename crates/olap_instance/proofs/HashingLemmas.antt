-- The value after bytes, step by step.
use Rattle.std.proofs.Common.{◌≡◌, ◌≤◌, ◌<◌, ◌-◌, ◌++◌, ◌∷◌, ◌∙◌, ℕ, List, [], drop, length, refl, sym, take, arith}
use Rattle.std.{proofs.Math.Seq.take_all, proofs.lemmas.List.length-drop, specs.Int.{w64, from_le_bytes}}
use Rattle.std.specs.List.{fold}
use Rattle.olap_instance.specs.Hashing.{stepped, value_after, with_byte}

module _ (count point value : ℕ) where
  -- seven bytes are a coefficient
  pub seven-first : (bytes : List ℕ) → 7 ≤ length bytes
      → value_after count point value bytes
      ≡ value_after count point (stepped point value (from_le_bytes w64 (take 7 bytes ++ 0 ∷ []))) (drop 7 bytes)
  unfolding value_after
  seven-first [] l = absurd (omega arith)
  seven-first (a ∷ []) l = absurd (omega arith)
  seven-first (a ∷ b ∷ []) l = absurd (omega arith)
  seven-first (a ∷ b ∷ c ∷ []) l = absurd (omega arith)
  seven-first (a ∷ b ∷ c ∷ d ∷ []) l = absurd (omega arith)
  seven-first (a ∷ b ∷ c ∷ d ∷ e ∷ []) l = absurd (omega arith)
  seven-first (a ∷ b ∷ c ∷ d ∷ e ∷ f ∷ []) l = absurd (omega arith)
  seven-first (a ∷ b ∷ c ∷ d ∷ e ∷ f ∷ g ∷ rest) l = refl

  -- fewer are left over
  pub left-over : (bytes : List ℕ) → length bytes < 7
      → value_after count point value bytes ≡ stepped point value (fold with_byte count bytes)
  unfolding value_after
  left-over [] l = refl
  left-over (a ∷ []) l = refl
  left-over (a ∷ b ∷ []) l = refl
  left-over (a ∷ b ∷ c ∷ []) l = refl
  left-over (a ∷ b ∷ c ∷ d ∷ []) l = refl
  left-over (a ∷ b ∷ c ∷ d ∷ e ∷ []) l = refl
  left-over (a ∷ b ∷ c ∷ d ∷ e ∷ f ∷ []) l = refl
  left-over (a ∷ b ∷ c ∷ d ∷ e ∷ f ∷ g ∷ rest) l = absurd (omega arith)

  -- seven bytes more are written
  pub seven-more : (bytes : List ℕ) (number next all : ℕ) → 7 ≤ length bytes
      → number ≡ from_le_bytes w64 (take 7 bytes ++ 0 ∷ []) → next ≡ stepped point value number
      → value_after count point value bytes ≡ all
      → value_after count point next (take (length bytes - 7) (drop 7 bytes)) ≡ all
  seven-more bytes number next all l en es h =
      let n = length-drop 7 bytes in
      let rest : take (length bytes - 7) (drop 7 bytes) ≡ drop 7 bytes = take_all _ _ (omega arith) in
      rw (es, en, rest) (sym (seven-first bytes l) ∙ h)
