use Rattle.std.proofs.Common.{◌≡◌, refl, sym, true, false, true≢false}
use Rattle.olap_ast.specs.Trees.{formula_of}
use Rattle.olap_dimsat.specs.OneFound.{IsOneFound}
use Rattle.olap_schema.specs.Schemas.{schema_of}
use Rattle.olap_summ.proofs.auditing.ask.Goals.{In-Some}
use Rattle.olap_summ.proofs.auditing.ask.Goals as goal

-- what was found has the root that was asked
one : (c : In-Some)
    → IsOneFound (schema_of c.args.schema.now) (formula_of c.args.question.now) c.args.root.0 c.in-Some.found
one c = rw c.in-Some.is at c.in_ok-found.ensures.some

pub note-requires-clause-root : goal.note-requires-clause-root
note-requires-clause-root c = rw (one (goal.at.note-requires-clause-root c).In-Some).root c.requires.root

pub note-requires-clause-witness : goal.note-requires-clause-witness
note-requires-clause-witness c =
    let found = one (goal.at.note-requires-clause-witness c).In-Some in
    (formula_of c.args.question.now, rw (sym found.root) at found)

pub returns-in-Some-clause-no : goal.returns-in-Some-clause-no
returns-in-Some-clause-no c = (
  λ e. absurd (true≢false e),
  λ n. absurd (let t : true ≡ false = rw c.in-Some.is at (c.in_ok-found.ensures.none.1 n) in cc),
)

pub returns-in-Some-clause-yes : goal.returns-in-Some-clause-yes
returns-in-Some-clause-yes c = λ e.
    rw (one (goal.at.returns-in-Some-clause-yes c).In-Some).root at c.note.ensures.root

pub returns-in-None-clause-no : goal.returns-in-None-clause-no
returns-in-None-clause-no c = (λ e. c.in_ok-found.ensures.none.0 (rw c.in-None.is refl), λ n. refl)
