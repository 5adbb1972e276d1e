-- Out of memory is the one refusal.
use Rattle.std.{proofs.Common.{ℕ, List, Result, Ok, Err}, specs.Prelude.{IfErr, IsErr, IsErrAnd, OnOk}}
use Rattle.olap_base.specs.{Refusing.IsForMemory, declared.refusals.Refusal.Refusal}
use Rattle.olap_grammar.specs.{Cutter.CutsTo, Keeping.{Going, Kept}, declared.cutting.Begun.Begun}
use Rattle.olap_grammar.specs.declared.refusals.NoTokens.{NoTokens}
use Rattle.olap_base.specs.declared.refusals.Refusal.TheVariants as refusal
use Rattle.olap_grammar.proofs.cutting.add.Goals as goal

-- it lets the cutter go anywhere
goes_anywhere : (r : Result Begun (Refusal NoTokens)) (bs : List ℕ) (k : Kept) (next : Going)
    → IsErr r × IsErrAnd r IsForMemory → CutsTo r bs k next
goes_anywhere (Ok b) bs k next h = absurd (let e = h.0 in cc)
goes_anywhere (Err (refusal.Memory m)) bs k next h = tt
goes_anywhere (Err (refusal.Kind r)) bs k next h = absurd h.1

-- it keeps nothing
keeps_nothing : (r : Result Begun (Refusal NoTokens)) (P : Type 0) → IsErr r × IsErrAnd r IsForMemory → OnOk r P
keeps_nothing (Ok b) P h = absurd (let e = h.0 in cc)
keeps_nothing (Err e) P h = tt

-- it is the reason
is_memory : (r : Result Begun (Refusal NoTokens)) → IsErr r × IsErrAnd r IsForMemory
    → IfErr r IsForMemory
is_memory (Ok b) h = tt
is_memory (Err e) h = h.1

pub returns-in_err-push : goal.returns-in_err-push
returns-in_err-push c =
    record { goes = λ bs. goes_anywhere r bs _ _ h; kept = keeps_nothing r _ h; memory = is_memory r h }
  where
    open c use {from_residual.result as r, from_residual.ensures as h}
