use Rattle.std.proofs.{Common.{rules, ◌≡◌, ◌++◌, ◌∷◌, [], negsuc, arith, ◌+ℤ◌}, lemmas.Int.ints}
use Rattle.olap_numerals.proofs.EnteringLemmas.{entered_less}
use Rattle.olap_numerals.proofs.representing.enter_last.Goals as goal

pub returns-in_ok-push-in-Some : goal.returns-in_ok-push-in-Some
returns-in_ok-push-in-Some c = λ a.
    let more : c.push.new.self.items ≡ xs ++ (n +ℤ negsuc 0) ∷ [] = search rules in
    rw (c.in-Some.is, more)
    (entered_less xs n (c.requires n c.in-Some.is) (omega (arith, ints, c.if-n.true)) a)
  where
    open c use {args.numbers.now.items as xs, in-Some.n}
