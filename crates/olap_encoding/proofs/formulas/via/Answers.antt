-- Both walks.
use Rattle.olap_encoding.proofs.{Growing.{says_still, next_on, next_after}, TellingLemmas.tell_via}
use Rattle.olap_encoding.specs.EncoderInside.{encoding_of}
use Rattle.olap_base.proofs.GeneralLemmas.{both_ok}
use Rattle.olap_encoding.proofs.formulas.via.Goals as goal

pub returns-clause-next : goal.returns-clause-next
returns-clause-next c =
    next_after (encoding_of c.both.new.e) c.both.result
    (next_on c.in_ok-a.ensures.next c.in_ok-b.ensures.next) c.both.ensures.next

pub returns-clause-says : goal.returns-clause-says
returns-clause-says c =
    let e = encoding_of c.both.new.e in
    both_ok c.both.result _ _ _
    (λ l n s. tell_via e n.sound c.args.c.0 l a.a b.b c.args.d.0 c.args.k.0 s
    (says_still (next_on b.ensures.next n).later a.ensures.says) (says_still n.later b.ensures.says))
    c.both.ensures.next c.both.ensures.says
  where
    open c use {in_ok-a as a, in_ok-b as b}
