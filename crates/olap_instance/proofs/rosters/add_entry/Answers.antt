use Rattle.std.proofs.Common.{◌∙◌, ◌++◌, ◌∷◌, [], ap}
use Rattle.olap_instance.proofs.rosters.add_entry.Goals as goal

pub returns-clause-ids : goal.returns-clause-ids
returns-clause-ids c = rw c.reserve.ensures.keys at c.in_ok-insert.ensures.keys

pub returns-clause-categories : goal.returns-clause-categories
returns-clause-categories c =
    c.in_ok-push.ensures.items ∙ ap (λ t. t ++ c.args.category ∷ []) c.reserve-2.ensures.items
