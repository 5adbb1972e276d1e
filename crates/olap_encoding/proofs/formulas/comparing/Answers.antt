-- A rung; or no other that doesn't compare so, where the first name does, else another that does.
use Rattle.std.{proofs.Common.{not, sym, subst, length, w64}, proofs.lemmas.Int.to_z-of_z, specs.Prelude.{IsTrue, ◌↔◌}}
use Rattle.olap_ast.specs.{Formula.IsNumbered, Trees.op_of}
use Rattle.olap_names.specs.{Names.{first_of, others_of}, Questions.Question}
use Rattle.olap_encoding.proofs.{ComparingLemmas.number_by_names, OutLemmas.category_still}
use Rattle.olap_encoding.specs.{EncoderInside.encoding_of, Encoding.Says, Formulas.AmongIs}
use Rattle.olap_encoding.proofs.formulas.comparing.Goals as goal

pub returns-clause-says : goal.returns-clause-says
returns-clause-says c =
    let e = encoding_of c.among.new.e in
    let op = op_of c.args.op in
    number_by_names e s.next.sound d op n (category_still s.next.later d c.requires.category) b c.in_ok-some.some
    c.turned-l.result
    (subst (λ (p : Question). IsTrue b ↔ IsNumbered (first_of p.candidates d) op n) (sym s.next.later.question)
    (rw (to_z-of_z w64 c.args.n c.ranges.n) at c.first_passes-first.ensures))
    (subst (λ (p : Question). Says e c.in_ok-some.some (AmongIs d (length (others_of p.candidates d)) op n (not b)))
    (sym s.next.later.question) (rw (to_z-of_z w64 c.args.n c.ranges.n) at s.says)) c.turned-l.ensures
  where
    open c use {args.d.0 as d, args.n, first_passes-first.result as b, in_ok-some.ensures as s}
