use Rattle.std.proofs.Common.{rules, ◌≡◌, ◌∙◌, ◌↔◌, ◌⊎◌, ◌+◌, ◌∷◌, [], pos, take, take-suc, get_or, sym, subst, ap, arith, suc}
use Rattle.std.{proofs.lemmas.List.take_all, specs.Prelude.Contains}
use Rattle.olap_numerals.proofs.EnteringLemmas.{least_small, name_cases, one_more, up_to_push}
use Rattle.olap_numerals.specs.Representatives.{IsLastNear, IsUpTo}
use Rattle.olap_numerals.proofs.representing.near.Goals as goal

pub constants-preserved : goal.constants-preserved
constants-preserved c = λ a.
    let n = get_or cs i (pos 0) in
    let next : i + 1 ≡ suc i = omega arith in
    let more = ap (λ k. take k cs) next ∙ take-suc cs i (pos 0) (omega arith) in
    let entered : Contains c.enter.new.numbers.items a ↔ (Contains c.constants.numbers.items a ⊎ IsUpTo (n ∷ []) a) =
    subst (λ m. Contains c.enter.new.numbers.items a ↔ (Contains c.constants.numbers.items a ⊎ IsUpTo (m ∷ []) a))
    (search rules) (c.in_ok-enter.ensures a) in
    subst (λ l. Contains c.enter.new.numbers.items a ↔ IsUpTo l a) (sym more)
    (one_more entered (c.constants.invariant a) (up_to_push (take i cs) n a))
  where
    open c use {args.constants.now as cs, constants.n-index as i}

pub enter_last-requires : goal.enter_last-requires
enter_last-requires c = λ n e. least_small c.args.constants.now c.requires n (sym c.least.ensures ∙ e)

pub returns : goal.returns
returns c = λ a.
    let cs = c.args.constants.now in
    let all : take c.constants.n-index cs ≡ cs = take_all c.constants.n-index cs (omega arith) in
    let before = subst (λ l. Contains c.constants.numbers.items a ↔ IsUpTo l a) all (c.constants.invariant a) in
    let entered = subst (λ l. Contains c.enter_last.new.numbers.items a
    ↔ (Contains c.constants.numbers.items a ⊎ IsLastNear l a)) c.least.ensures (c.in_ok-enter_last.ensures a) in
    one_more entered before (name_cases cs a)
