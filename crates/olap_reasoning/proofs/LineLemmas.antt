-- Texts that are appended one after the other.
use Rattle.std.proofs.Common.{◌≡◌, ℕ, List, ◌++◌, ap, ◌∙◌, append_assoc}

-- three texts, one after the other
pub three_more : (start a b d old mid new : List ℕ) → old ≡ start ++ a → mid ≡ old ++ b → new ≡ mid ++ d
    → new ≡ start ++ (a ++ (b ++ d))
three_more start a b d old mid new e m n =
    n ∙ ap (λ (t : List ℕ). t ++ d) (m ∙ ap (λ (t : List ℕ). t ++ b) e)
    ∙ append_assoc (start ++ a) b d ∙ append_assoc start a (b ++ d)
