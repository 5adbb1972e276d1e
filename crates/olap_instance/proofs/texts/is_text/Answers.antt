use Rattle.std.proofs.Common.{◌∙◌}
use Rattle.olap_instance.proofs.TextLemmas.{is_text}
use Rattle.olap_instance.proofs.texts.is_text.Goals as goal

pub returns : goal.returns
returns c = c.is_ok.ensures.value ∙ is_text c.args.bytes.now c.from_utf8.result _ _ c.from_utf8.ensures.cases
