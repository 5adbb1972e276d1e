-- What is true of a formula is true of its parts.
use Rattle.std.{proofs.Common.{◌≡◌, ◌+◌, refl, sym, arith}, specs.Prelude.not}
use Rattle.olap_ast.specs.{Trees.formula_of, Valid.node_count}
use Rattle.olap_encoding.proofs.{Growing.next_after, OutLemmas.category_still}
use Rattle.olap_encoding.proofs.SplittingLemmas.{required, counted, spoken_as, true_still, true_as, true_turned, true_first, true_second}
use Rattle.olap_encoding.{proofs.TellingLemmas.spoken_still, specs.EncoderInside.encoding_of, specs.Formulas.signed}
use Rattle.olap_encoding.proofs.splitting.+require.Goals as goal

pub require-requires : goal.require-requires
require-requires t c =
    let e = encoding_of c.args.e.now in
    let b = c.args.holds in
    let q = sym c.deref.ensures in
    let n : node_count (formula_of c.args.f.now) ≡ 1 + node_count (formula_of c.in-Not.g.value) =
    counted c.in-Not.is in (
      omega (arith, c.decreases, n, counted q),
      required e c.args.c.0 (not b) q c.requires.sound c.requires.category
          (spoken_as e.question c.in-Not.is c.requires.speaks)
          (true_turned e c.args.c.0 b (formula_of c.in-Not.g.value)
          (true_as e c.args.c.0 b b refl c.in-Not.is c.requires.so)),
    )

pub require-requires-in-Some : goal.require-requires-in-Some
require-requires-in-Some t c =
    let e = encoding_of c.args.e.now in
    let so = true_first e c.args.c.0 c.args.holds p.first_holds p.second_holds k c.requires.so in (
      omega (arith, c.decreases, k.smaller),
      (c.requires.sound, (c.requires.category, ((k.spoken e.question c.requires.speaks).0, so))),
    )
  where
    open c use {in-Some.p, in-Some.ensures as k}

pub require-requires-in-Some-2 : goal.require-requires-in-Some-2
require-requires-in-Some-2 t c =
    let e = encoding_of c.args.e.now in
    let n = c.in_ok-require.ensures.next in
    let speaks = spoken_still n.later (formula_of p.second.now) (k.spoken e.question c.requires.speaks).1 in
    let so = true_still n.later c.args.c.0 (signed p.second_holds (formula_of p.second.now))
    (true_second e c.args.c.0 c.args.holds p.first_holds p.second_holds k c.requires.so) in (
      omega (arith, c.decreases, k.smaller),
      (n.sound, (category_still n.later c.args.c.0 c.requires.category, (speaks, so))),
    )
  where
    open c use {in-Some.p, in-Some.ensures as k}

pub returns-in-Some : goal.returns-in-Some
returns-in-Some t c = record {
  next = next_after (encoding_of c.require-in-Some-2.new.e) c.require-in-Some-2.result
      c.in_ok-require.ensures.next c.require-in-Some-2.ensures.next;
}
