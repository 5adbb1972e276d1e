-- From the cutter to tokens.
use Rattle.std.{proofs.Common.{◌≡◌, ℕ, List, [], ◌∷◌, refl, Some}, specs.List.fold}
use Rattle.olap_grammar.{proofs.CutComplete.cut_is_found, specs.Cutter.FailsWith, specs.Cutting.IsCut}
use Rattle.olap_grammar.specs.CuttingMachine.{tokens_of}
use Rattle.olap_grammar.specs.Keeping.{Between, Going, Kept, Stuck, kept_step, kept_tokens, nothing_kept}
use Rattle.olap_grammar.specs.declared.{refusals.NoTokens.NoTokens, tokens.Token.Token, tokens.Version.Version}
use Rattle.olap_base.specs.{Refusing.IsFor, declared.refusals.Refusal.Refusal}
use Rattle.olap_base.specs.declared.refusals.Refusal.TheVariants as refusal

-- a machine that is stuck stays so
stays_stuck : (v : Version) (bs : List ℕ) → fold (kept_step v) Stuck bs ≡ Stuck
stays_stuck v [] = refl
stays_stuck v (b ∷ bs) = stays_stuck v bs

-- where a step fails, the line can't be cut
pub cut_fails : (v : Version) (e : Refusal NoTokens) (old : Kept) (next : Going) (line bs : List ℕ)
    → fold (kept_step v) (Between old) line ≡ fold (kept_step v) next bs → IsFor (λ _. next ≡ Stuck) e
    → (most : ℕ) → old ≡ nothing_kept most → FailsWith e (kept_tokens v most line)
unfolding kept_tokens
cut_fails v (refusal.Kind r) old next line bs i h most z =
    let j : fold (kept_step v) (Between (nothing_kept most)) line ≡ fold (kept_step v) next bs = rw z at i in
    rw (j, h, stays_stuck v bs) refl
cut_fails v (refusal.Memory m) old next line bs i h most z = tt

-- a line has one cut, since the machine finds each
pub one_cut : (v : Version) (line : List ℕ) (ts us : List Token) → IsCut v line ts → IsCut v line us → ts ≡ us
one_cut v line ts us d e = let p : tokens_of v line ≡ Some ts =
    cut_is_found v line ts d in let q : tokens_of v line ≡ Some us = cut_is_found v line us e in cc
