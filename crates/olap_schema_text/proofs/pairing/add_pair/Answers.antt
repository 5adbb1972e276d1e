use Rattle.std.proofs.Common.{◌∙◌, ap}
use Rattle.olap_schema_text.proofs.PairLemmas.{atom, found_pair, new_pair}
use Rattle.olap_schema_text.proofs.pairing.add_pair.Goals as goal

pub returns-then-has_pair : goal.returns-then-has_pair
returns-then-has_pair c =
    found_pair _ _ _ _ _ _ c.deref.ensures.value c.bytes.ensures c.has_pair.ensures c.if-has_pair.true

pub returns : goal.returns
returns c =
    new_pair _ _ _ _ _ _ _ (record { category = c.args.d; text = c.in_ok-text.text }) c.deref.ensures.value
    c.bytes.ensures c.has_pair.ensures
    c.if-has_pair.false (ap (atom c.args.d.0) (c.in_ok-text.ensures ∙ c.bytes-2.ensures)) c.in_ok-push.ensures.items
