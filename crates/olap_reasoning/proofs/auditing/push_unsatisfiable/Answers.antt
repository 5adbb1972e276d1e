use Rattle.std.proofs.Common.{ℕ, List, [], ◌∷◌, ◌++◌, codes, ap, ◌∙◌}
use Rattle.olap_reasoning.proofs.LineLemmas.{three_more}
use Rattle.olap_reasoning.proofs.auditing.push_unsatisfiable.Goals as goal

pub returns : goal.returns
returns c =
    let word = codes "unsatisfiable " in
    three_more c.args.out.now.items word c.bytes.result.now (10 ∷ []) c.extend_from_slice.new.self.items
    c.extend_from_slice-2.new.self.items c.push.new.self.items c.in_ok-extend_from_slice.ensures.items
    c.in_ok-extend_from_slice-2.ensures.items c.in_ok-push.ensures.items
    ∙ ap (λ (name : List ℕ). c.args.out.now.items ++ (word ++ (name ++ 10 ∷ []))) (c.bytes.ensures ∙ c.name.ensures)
