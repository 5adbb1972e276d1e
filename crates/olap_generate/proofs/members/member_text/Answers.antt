use Rattle.std.proofs.{Common.{◌≡◌, ◌∙◌}, lemmas.Result.IfOk-weaker}
use Rattle.olap_records.specs.Texts.{text_of_rows}
use Rattle.olap_generate.specs.Members.{member_rows}
use Rattle.olap_generate.proofs.members.member_text.Goals as goal

pub returns : goal.returns
returns c =
    IfOk-weaker c.finish.result (λ text. text.items ≡ c.add_members.new.out.text)
    (λ text. text.items ≡ text_of_rows (member_rows c.args.input.now.seed c.args.input.now.size))
    (λ text e. e ∙ c.in_ok-add_members.ensures) c.finish.ensures.text
