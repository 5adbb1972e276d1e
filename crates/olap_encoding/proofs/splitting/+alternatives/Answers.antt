-- The literals of one part, and then those of the other.
use Rattle.std.{proofs.Common.{◌≡◌, ◌+◌, refl, sym, arith}, proofs.lemmas.Result.IfOk-weaker, specs.Prelude.not}
use Rattle.olap_ast.specs.{Trees.formula_of, Valid.node_count}
use Rattle.olap_encoding.proofs.{Growing.next_after, OutLemmas.category_still, PartLemmas.part_spoken}
use Rattle.olap_encoding.proofs.SplittingLemmas.{counted, spoken_as, widened_still, widened_as, widened_turned, widened_some}
use Rattle.olap_encoding.{proofs.TellingLemmas.spoken_still, specs.EncoderInside.encoding_of}
use Rattle.olap_base.proofs.GeneralLemmas.{both_ok}
use Rattle.olap_encoding.proofs.splitting.+alternatives.Goals as goal

pub alternatives-requires : goal.alternatives-requires
alternatives-requires t c =
    let e = encoding_of c.args.e.now in
    let q = sym c.deref.ensures in
    let n : node_count (formula_of c.args.f.now) ≡ 1 + node_count (formula_of c.in-Not.g.value) =
    counted c.in-Not.is in (
      omega (arith, c.decreases, n, counted q),
      part_spoken e c.args.c.0 c.requires.sound c.requires.category q
          (spoken_as e.question c.in-Not.is c.requires.speaks),
    )

pub alternatives-requires-in-Some-2 : goal.alternatives-requires-in-Some-2
alternatives-requires-in-Some-2 t c =
    let k = c.in-Some.ensures in
    let n = c.in_ok-alternatives.ensures.next in
    let spoken = (k.spoken (encoding_of c.args.e.now).question c.requires.speaks).1 in
    let speaks = spoken_still n.later (formula_of c.in-Some.p.second.now) spoken in (
      omega (arith, c.decreases, k.smaller),
      (n.sound, (category_still n.later c.args.c.0 c.requires.category, speaks)),
    )

pub returns-in-Not-clause-widened : goal.returns-in-Not-clause-widened
returns-in-Not-clause-widened t c =
    let e = encoding_of c.alternatives.new.e in
    IfOk-weaker c.alternatives.result _ _
    (λ _ w. widened_as b b refl (sym c.in-Not.is)
    (widened_turned e c.args.c.0 b (formula_of c.in-Not.g.value)
    (widened_as (not b) (not b) refl c.deref.ensures w)))
    c.alternatives.ensures.widened
  where
    open c use {args.holds as b, alternatives.new.literals.items as ls}

pub returns-in-Some : goal.returns-in-Some
returns-in-Some t c =
    let e = encoding_of c.alternatives-in-Some-2.new.e in
    record {
      next = next_after e c.alternatives-in-Some-2.result u.next c.alternatives-in-Some-2.ensures.next;
      widened = both_ok c.alternatives-in-Some-2.result _ _ _
          (λ _ n w. widened_some e c.args.c.0 c.args.holds p.first_holds p.second_holds c.in-Some.ensures
          (widened_still n.later u.widened) w)
          c.alternatives-in-Some-2.ensures.next c.alternatives-in-Some-2.ensures.widened;
    }
  where
    open c use {in-Some.p, in_ok-alternatives.ensures as u, alternatives-in-Some-2.new.literals.items as ls}
