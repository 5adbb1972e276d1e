-- It isn't the root.
use Rattle.std.{proofs.Common.{◌≡◌, ◌∙◌, false, rules}, specs.Prelude.◌==◌}
use Rattle.olap_schema_text.proofs.RepeatLemmas.{among_is}
use Rattle.olap_schema_text.proofs.resolving.stands_before.Goals as goal

pub returns-else-eq : goal.returns-else-eq
returns-else-eq c =
    let no : (c.args.root.0 == c.args.c.0) ≡ false = search rules in
    rw no (c.is_among.ensures ∙ among_is c.args.c.0 c.args.categories.now)
