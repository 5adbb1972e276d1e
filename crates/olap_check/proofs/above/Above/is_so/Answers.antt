-- What is asked, by the row.
use Rattle.std.{proofs.Common.{◌↔◌, rules, subst, sym, w64}, proofs.lemmas.Int.to_z-of_z, specs.Prelude.IsTrue}
use Rattle.olap_check.{proofs.AboveLemmas.{named_by_row, numbered_by_row}, specs.Seen.IsSo}
use Rattle.olap_ast.specs.Trees.{op_of}
use Rattle.olap_base.proofs.GeneralLemmas.{iff_trans}
use mir.Val.{SFits}
use Rattle.olap_check.proofs.above.Above.is_so.Goals as goal

pub returns-in-GoesOn : goal.returns-in-GoesOn
returns-in-GoesOn c =
    let s = c.args.self.now in
    subst (λ a. IsTrue c.goes_on.result ↔ IsSo s.instance.now a s.x) (sym c.in-GoesOn.is) c.goes_on.ensures

pub returns-in-Named : goal.returns-in-Named
returns-in-Named c =
    let s = c.args.self.now in
    subst (λ a. IsTrue c.name_is.result ↔ IsSo s.instance.now a s.x) (sym c.in-Named.is)
    (iff_trans c.name_is.ensures
    (named_by_row s.instance.now s.categories s.x s.table.now s.sound c.in-Named.d.0 c.in-Named.text.now))

pub returns-in-Compares : goal.returns-in-Compares
returns-in-Compares c =
    let s = c.args.self.now in
    let fits : SFits w64 c.in-Compares.n = search rules in
    subst (λ a. IsTrue c.number_is.result ↔ IsSo s.instance.now a s.x) (sym c.in-Compares.is)
    (iff_trans (rw (to_z-of_z w64 c.in-Compares.n fits) at c.number_is.ensures)
    (numbered_by_row s.instance.now s.categories s.x s.table.now s.sound c.in-Compares.d.0 (op_of c.in-Compares.op)
    c.in-Compares.n))
