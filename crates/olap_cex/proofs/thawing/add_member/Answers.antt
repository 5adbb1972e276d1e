-- A new member is refused only if out of memory, and the draft gets it.
use Rattle.std.proofs.Common.{◌≡◌, None, sym, ◌∙◌, ap, is_some, true≢false}
use Rattle.olap_instance.specs.Drafts.{named_refusal}
use Rattle.olap_cex.proofs.DraftLemmas.{accepted, id_utf8, member_added, name_utf8}
use Rattle.olap_cex.proofs.thawing.add_member.Goals as goal

pub add_named-requires-clause-id : goal.add_named-requires-clause-id
add_named-requires-clause-id c =
    let r = c.requires in
    rw (c.in_ok-id.ensures ∙ c.bytes.ensures ∙ c.name.ensures)
    (id_utf8 c.args.graph.now c.args.found.now r.found r.hierarchy c.args.c.0 r.declared r.category r.present)

pub add_named-requires-clause-name : goal.add_named-requires-clause-name
add_named-requires-clause-name c =
    let r = c.requires in
    rw (c.in_ok-name.ensures ∙ c.bytes-2.ensures ∙ c.name-2.ensures)
    (name_utf8 c.args.graph.now c.args.found.now r.found r.hierarchy c.args.c.0 r.declared r.category r.present)

pub unreachable-requires : goal.unreachable-requires
unreachable-requires c =
    let r = c.requires in
    let id = c.in_ok-id.ensures ∙ c.bytes.ensures ∙ c.name.ensures in
    let name = c.in_ok-name.ensures ∙ c.bytes-2.ensures ∙ c.name-2.ensures in
    let none : named_refusal c.args.builder.now c.in_ok-id.id c.args.c.0 c.in_ok-name.name ≡ None =
    rw (r.before, id, name) (accepted c.args.graph.now c.args.found.now r.found r.hierarchy c.args.c.0 r.declared
    r.category r.present r.limits) in
    let cause = rw c.in-Err-Kind.field-0-is at c.in-Err-Kind.ensures.err in
    true≢false (ap is_some (sym cause ∙ none))

pub returns-in-Ok-clause-added : goal.returns-in-Ok-clause-added
returns-in-Ok-clause-added c =
    let id = c.in_ok-id.ensures ∙ c.bytes.ensures ∙ c.name.ensures in
    let name = c.in_ok-name.ensures ∙ c.bytes-2.ensures ∙ c.name-2.ensures in
    c.in-Ok.ensures.added ∙ rw (r.before, id, name)
    (member_added g f r.found r.hierarchy c.args.c.0 r.declared r.category r.present)
  where
    open c use {requires as r, args.graph.now as g, args.found.now as f}
