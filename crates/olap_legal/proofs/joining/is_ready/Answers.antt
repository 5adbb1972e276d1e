-- Parents are marked as they are listed.
use Rattle.std.proofs.Common.{◌≡◌, ◌+◌, ◌<◌, ◌≤◌, length, subst, sym, ◌∙◌, arith}
use Rattle.olap_legal.proofs.JoiningLemmas.{listed_first, listed_more, listed_push, ready_fewer, waiting_fewer}
use Rattle.olap_legal.{proofs.MarkingLemmas.whole_marking, specs.Joining.{AreMembers, left}}
use Rattle.olap_legal.proofs.joining.is_ready.Goals as goal

pub returns-then-len-before-clause-seen : goal.returns-then-len-before-clause-seen
returns-then-len-before-clause-seen c =
    let m = whole_marking c.args.z c.requires.bounded c.in_ok-_whole.ensures in m.same_length ∙ c.requires.seen

pub returns-then-len-before-clause-members : goal.returns-then-len-before-clause-members
returns-then-len-before-clause-members c =
    let m = whole_marking c.args.z c.requires.bounded c.in_ok-_whole.ensures in
    let v = listed_push c.args.z c.requires.z c.requires.members c.in_ok-push.ensures.items in
    listed_more c.args.z c.requires.bounded v m

pub returns-then-len-before-clause-fewer : goal.returns-then-len-before-clause-fewer
returns-then-len-before-clause-fewer c =
    let m = whole_marking c.args.z c.requires.bounded c.in_ok-_whole.ensures in
    let list = c.args.list.now in
    let o = list.ok in
    let p = c.mark.new.list.ok in
    let more : length list.items + 1 < length c.mark.new.list.items = omega arith in
    waiting_fewer list.items c.args.z c.in_ok-push.ensures.items m more

pub returns-clause-seen : goal.returns-clause-seen
returns-clause-seen c =
    let m = whole_marking c.args.z c.requires.bounded c.in_ok-_whole.ensures in m.same_length ∙ c.requires.seen

pub returns-clause-members : goal.returns-clause-members
returns-clause-members c =
    let m = whole_marking c.args.z c.requires.bounded c.in_ok-_whole.ensures in
    let v = listed_push c.args.z c.requires.z c.requires.members c.in_ok-push.ensures.items in
    let all = listed_more c.args.z c.requires.bounded v m in
    subst (λ l. AreMembers c.args.instance.now l) (sym c.truncate.ensures.items) (listed_first c.len-before.result all)

pub returns-clause-fewer : goal.returns-clause-fewer
returns-clause-fewer c =
    let m = whole_marking c.args.z c.requires.bounded c.in_ok-_whole.ensures in
    let list = c.args.list.now in
    let o = list.ok in
    let same : c.len-before.result ≡ length list.items = omega arith in
    subst (λ l. left c.mark.new.seen.items l ≤ left c.args.seen.now.items list.items) (sym c.truncate.ensures.items)
    (ready_fewer list.items c.len-before.result same m)
