use Rattle.std.{proofs.Common.{◌≡◌, [], ◌∷◌, map, ◌∙◌}, proofs.lemmas.Result.IfOk-weaker, specs.List.range_with_len}
use Rattle.olap_facts.specs.FactText.{header}
use Rattle.olap_records.specs.Texts.{text_of_rows}
use Rattle.olap_generate.{proofs.TextLemmas.{groups_more, header_first}, specs.Members.{fact_row, fact_rows}}
use Rattle.olap_generate.proofs.facts.fact_text.Goals as goal

pub returns : goal.returns
returns c =
    let top = header_first header _ _ c.new-out.ensures.text c.in_ok-row.ensures.text in
    let all = groups_more (header ∷ []) (map (fact_row seed) (range_with_len 1 size)) _ _ top
    c.in_ok-add_facts.ensures in
    IfOk-weaker c.finish.result (λ text. text.items ≡ c.add_facts.new.out.text)
    (λ text. text.items ≡ text_of_rows (fact_rows seed size)) (λ text e. e ∙ all) c.finish.ensures.text
  where
    open c use {args.input.now.seed, args.input.now.size}
