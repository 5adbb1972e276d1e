use Rattle.std.proofs.Common.{[], Ok, drop, sym, ap, refl, rules}
use Rattle.olap_records.specs.Records.{records_of}
use Rattle.olap_instance.proofs.{LinkingLemmas.parents-more, Refusing.refused-second, Soundness.{ids-whole, is-read}}
use Rattle.olap_instance.specs.{InstanceText.instance_read, Passes.{ids_in, parents_in}}
use Rattle.olap_base.specs.Refusing.{IsRefusedBy}
use Rattle.olap_instance.proofs.reading.read_parts.Goals as goal

pub returns-in_err-link_all-clause-read : goal.returns-in_err-link_all-clause-read
returns-in_err-link_all-clause-read c =
    let records = records_of c.args.text.now in
    let first = c.in_ok-enter_text.ensures.members in
    let ids = ids-whole g (drop 1 records) _ whole first.1.1 c.in_ok-add_all.ensures.ok in
    let cause : IsRefusedBy e (instance_read g records) =
    refused-second g records (ids_in whole) e first.0 first.1.0 ids
    (c.in_err-link_all.ensures (drop 1 records) c.in_ok-enter_text.ensures.fields) in
    search rules
  where
    open c use {args.graph.now as g, add_all.new.self as whole, in_err-link_all.field-0.0 as e}

pub returns : goal.returns
returns c =
    let rows = drop 1 (records_of c.args.text.now) in
    let first = c.in_ok-enter_text.ensures.members in
    let more = parents-more c.link_all.new.parents c.begin.new.self [] [] c.in_ok-begin.ensures refl in
    let r = is-read c.args.graph.now rows _ c.add_all.new.self
    (parents_in c.link_all.new.parents)
    (parents_in c.begin.new.self) first.1 c.in_ok-add_all.ensures.ok
    (c.in_ok-link_all.ensures rows c.in_ok-enter_text.ensures.fields) more in
    record {
      read = rw (first.0, first.1.0, r.second) (ap (λ i. Ok i) (sym r.members));
      sound = r.sound;
      made = r.made;
      names = r.names;
    }
