-- One name more.
use Rattle.std.proofs.{Common.{◌≡◌, [], true, false, get_or, sym, subst, ◌∙◌, w64}, lemmas.Int.to_z-of_z}
use Rattle.olap_ast.specs.Trees.{op_of}
use Rattle.olap_names.specs.{Names.others_of, Questions.Question}
use Rattle.olap_encoding.proofs.{Growing.says_still, NumberLemmas.{says_more, says_other}}
use Rattle.olap_encoding.specs.{EncoderInside.encoding_of, Formulas.Wants}
use Rattle.olap_base.proofs.GeneralLemmas.{both_ok}
use Rattle.olap_encoding.proofs.formulas.among_more.Goals as goal

pub returns-then-not-is_wanted-clause-says : goal.returns-then-not-is_wanted-clause-says
returns-then-not-is_wanted-clause-says c =
    says_other (encoding_of c.args.e.now) c.args.d.0 c.args.j (op_of c.args.op) c.args.n c.args.want c.args.l
    c.requires.says
    (λ w. let z : false ≡ true = sym c.if-not-is_wanted.true
    ∙ (rw (to_z-of_z w64 c.args.n c.ranges.n) at c.is_wanted.ensures).1
    (subst (λ names. Wants (op_of c.args.op) c.args.n c.args.want (get_or names c.args.j []))
    (sym c.others.ensures.list) w)
    in cc)

pub returns-clause-says : goal.returns-clause-says
returns-clause-says c =
    let e = encoding_of c.any.new.e in
    let op = op_of c.args.op in
    both_ok c.any.result _ _ _
    (λ o n s. says_more e d j op m want c.args.l b o (says_still n.later c.requires.says)
    (says_still n.later c.name-b.ensures) s
    (subst (λ (p : Question). Wants op m want (get_or (others_of p.candidates d) j [])) (sym n.later.question)
    (subst (λ names. Wants op m want (get_or names j [])) c.others.ensures.list
    ((rw (to_z-of_z w64 m c.ranges.n) at c.is_wanted.ensures).0 c.if-not-is_wanted.false))))
    c.any.ensures.next c.any.ensures.says
  where
    open c use {args.d.0 as d, args.j, args.n as m, args.want, name-b.result as b}
