use Rattle.std.proofs.lemmas.Str.{is_utf8-from_IsUtf8}
use Rattle.olap_tests.proofs.instance.text.Goals as goal

pub returns : goal.returns
returns g c =
    let e = rw c.expect.ensures at c.from_bytes.ensures in
    rw e (is_utf8-from_IsUtf8 c.as_bytes.result.now c.as_bytes.ensures.utf8)
