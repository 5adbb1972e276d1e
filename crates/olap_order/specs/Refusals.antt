-- What a refusal says.
--     IsRefusal        it is the line of a refusal
--     IsOutOfMemory    memory ran out
--     part_text        of a file, the line or record that is at fault
use Rattle.std.specs.Prelude.{◌≡◌, ◌++◌, ℕ, List, codes, ⊤}
use Rattle.olap_order.specs.Outputs.{refusal}
use Rattle.olap_order.specs.Steps.{fault_text}
use Rattle.olap_order.specs.declared.replies.Stop.{Stop}
use Rattle.olap_order.specs.declared.replies.Stop.TheVariants as stops

-- it is the line of a refusal for this reason, or memory ran out for that line
abbrev pub IsRefusal : List ℕ → Stop → Type 0
IsRefusal why (stops.Refused bytes) = bytes.items ≡ refusal why
IsRefusal why stops.Read = ⊥
IsRefusal why (stops.Memory m) = ⊤

-- memory ran out
abbrev pub IsOutOfMemory : Stop → Type 0
IsOutOfMemory (stops.Memory m) = ⊤
IsOutOfMemory stop = ⊥

-- a line or record of the file with that label, and the name of its fault
abbrev pub part_text : List ℕ → List ℕ → ℕ → List ℕ → List ℕ
part_text label part at name = label ++ (codes " " ++ fault_text part at name)
