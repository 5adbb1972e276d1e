-- The name at a place.
use Rattle.std.proofs.{Common.{◌≡◌, [], get_or, subst, w64}, lemmas.Int.to_z-of_z, lemmas.List.get_or_read}
use Rattle.std.specs.Prelude.{IsTrue}
use Rattle.olap_ast.specs.Trees.{op_of}
use Rattle.olap_encoding.{proofs.NumberLemmas.wanted_is, specs.Formulas.Wants}
use mathlib.Core.Bool.{beq}
use Rattle.olap_encoding.proofs.formulas.is_wanted.Goals as goal

pub returns : goal.returns
returns c =
    let name : c.index-names-j.result ≡ get_or c.args.names.now c.args.j [] =
    get_or_read c.args.names.now c.args.j c.index-names-j.result c.requires c.index-names-j.is [] in
    let n = rw (to_z-of_z w64 c.args.n c.ranges.n) at c.passes-passed.ensures in
    subst (λ w. (IsTrue (beq c.passes-passed.result c.args.want)
    → Wants (op_of c.args.op) c.args.n c.args.want w) × (Wants (op_of c.args.op) c.args.n c.args.want w
    → IsTrue (beq c.passes-passed.result c.args.want))) name
    (wanted_is c.index-names-j.result (op_of c.args.op) c.args.n c.passes-passed.result c.args.want n)
