-- How a text is refused.
use Rattle.std.proofs.Common.{rules, ◌≡◌, true, ℕ, List, [], drop, None}
use Rattle.olap_base.specs.{Graph.Graph, Refusing.IsRefusedBy, declared.refusals.Fault.Fault}
use Rattle.olap_base.specs.declared.refusals.Refusal.{Refusal}
use Rattle.olap_records.specs.{Faults.first_fault, Tables.begins_with}
use Rattle.olap_instance.specs.InstanceText.{header, ids_of, instance_read, member_fault, parents_fault}
use Rattle.olap_instance.specs.{Refusals.IsFaultCause, declared.refusals.InstanceKind.InstanceKind}
use Rattle.olap_base.specs.declared.refusals.Refusal.TheVariants as refusal

-- the second pass's fault is the text's, where the first finds none
pub refused-second : (g : Graph) (records : List (List (List ℕ))) (ids : List (List ℕ))
    (e : Refusal (Fault InstanceKind))
    → begins_with header records ≡ true
    → first_fault (member_fault g) [] (drop 1 records) ≡ None → ids ≡ ids_of (drop 1 records)
    → IsFaultCause (first_fault (parents_fault ids) [] (drop 1 records)) e → IsRefusedBy e (instance_read g records)
refused-second g records ids (refusal.Kind f) h first ei c = search rules
refused-second g records ids (refusal.Memory m) h first ei c = tt
