use Rattle.std.proofs.{Common.{rules, ◌≡◌, ◌↔◌, ◌⊎◌, ◌++◌, ◌∷◌, [], pos, sym, subst, arith, ◌+ℤ◌}, lemmas.Int.ints}
use Rattle.std.specs.Prelude.{Contains}
use Rattle.olap_numerals.{proofs.EnteringLemmas.entered_two, specs.Representatives.IsUpTo}
use Rattle.olap_numerals.proofs.representing.enter.Goals as goal

pub returns-in_ok-push-2 : goal.returns-in_ok-push-2
returns-in_ok-push-2 c = λ a.
    let first : c.push.new.self.items ≡ xs ++ n ∷ [] = search rules in
    let both : c.push-then-n-lt-MOST_NUMBER.new.self.items ≡ (xs ++ n ∷ []) ++ (n +ℤ pos 1) ∷ [] = search rules in
    subst (λ l. Contains l a ↔ (Contains xs a ⊎ IsUpTo (n ∷ []) a)) (sym both)
    (entered_two xs n c.requires (omega (arith, ints, c.if-n-lt-MOST_NUMBER.true)) a)
  where
    open c use {args.numbers.now.items as xs, args.n}
