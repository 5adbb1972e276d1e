-- One row more.
use Rattle.std.proofs.Common.{◌≡◌, ◌+◌, length, set, ap, refl, rules}
use Rattle.olap_view.proofs.StoredRowsLemmas.{put-is}
use Rattle.olap_view.proofs.stored_rows.StoredRows.put.Goals as goal

pub returns : goal.returns
returns c =
    let t = c.args.self.now in
    let len : c.len.result ≡ length c.args.self.now.summaries.items + 1 = search rules in
    put-is t c.args.y.0 c.requires.placed c.requires.member c.requires.nothing c.args.summary _
    (ap (set t.places.items c.args.y.0) len) c.in_ok-push.ensures.items refl
