-- What the libraries and the sink in memory were made with, and what they stand for.
--     mem_..      of `MemLibrary`: its files and piece size, its calls, and what it tells
--     sink_..     of `MemSink`: its room and piece size, its calls, and what it takes for sure
--     written     the bytes that the sink holds
--     sure_..     of `SureLibrary`: its files and piece size, and what it tells
use Rattle.std.specs.Prelude.{ℕ, ◌+◌, ◌==◌, ◌&&◌, nat_le, Bool, List, drop, length, Option, Some}
use Rattle.std.specs.Option.{option_map}
use Rattle.olap_outside.specs.Files.{Files, content_of, content_or_empty, file_at, opened_content}
use Rattle.olap_outside.specs.declared.calls.Calls.{Calls}
use Rattle.olap_outside.specs.declared.sink_in_memory.MemSink.{MemSink}
use Rattle.olap_outside.specs.declared.library_in_memory.MemLibrary.{MemLibrary}
use Rattle.olap_outside.specs.declared.sure.SureLibrary.{SureLibrary}

-- ---- a library in memory

-- the files that it was made of, names with contents
abbrev pub mem_files : MemLibrary → List (List ℕ × List ℕ)
mem_files m = m.files

-- how many bytes a read hands out at most
abbrev pub mem_chunk : MemLibrary → ℕ
mem_chunk m = m.chunk

-- the calls that it has had, and those that are listed to fail
abbrev pub mem_calls : MemLibrary → Calls
mem_calls m = m.calls

-- for each name its content, or that it has none
abbrev pub mem_contents : MemLibrary → Option Files
mem_contents m = Some (content_of m.files)

-- what is left of the file that was asked for last
abbrev pub mem_rest : MemLibrary → Option (List ℕ)
mem_rest m = option_map (λ i. drop m.taken (file_at m.files i).1) m.asked

-- the name that was asked for last, or nothing if it isn't held or none was asked for
abbrev pub mem_asked : MemLibrary → Option (Option (List ℕ))
mem_asked m = Some (option_map (λ i. (file_at m.files i).0) m.asked)

-- a file is open
abbrev pub mem_ready : MemLibrary → Bool
mem_ready m = m.ready

-- how many bytes were handed out since the last opening
abbrev pub mem_taken : MemLibrary → ℕ
mem_taken m = m.taken

-- how many calls were refused
abbrev pub mem_faults : MemLibrary → ℕ
mem_faults m = m.calls.faults

-- no call is listed to fail
abbrev pub mem_sure : MemLibrary → Bool
mem_sure m = length m.calls.fails == 0

-- ---- a sink in memory

-- the bytes that it holds
abbrev pub written : MemSink → List ℕ
written s = s.bytes.items

-- how many bytes it takes in all
abbrev pub sink_room : MemSink → ℕ
sink_room s = s.room

-- how many bytes a write takes at most
abbrev pub sink_chunk : MemSink → ℕ
sink_chunk s = s.chunk

-- the calls that it has had, and those that are listed to fail
abbrev pub sink_calls : MemSink → Calls
sink_calls s = s.calls

-- how many calls were refused
abbrev pub sink_faults : MemSink → ℕ
sink_faults s = s.calls.faults

-- no call is listed to fail, and there is room for this many more bytes
abbrev pub sink_takes : MemSink → ℕ → Bool
sink_takes s k = length s.calls.fails == 0 && nat_le (length s.bytes.items + k) s.room

-- ---- a library that refuses nothing

-- the files that it was made of, names with contents
abbrev pub sure_files : SureLibrary → List (List ℕ × List ℕ)
sure_files s = s.files

-- how many bytes a read hands out at most
abbrev pub sure_chunk : SureLibrary → ℕ
sure_chunk s = s.chunk

-- each name's content, none of which is missing
abbrev pub sure_contents : SureLibrary → Option Files
sure_contents s = Some (content_or_empty s.files)

-- what is left of the opened file
abbrev pub sure_rest : SureLibrary → Option (List ℕ)
sure_rest s = Some (drop s.taken (opened_content s.files s.opened))

-- a file is open
abbrev pub sure_ready : SureLibrary → Bool
sure_ready s = s.ready

-- how many bytes were handed out since the last opening
abbrev pub sure_taken : SureLibrary → ℕ
sure_taken s = s.taken
