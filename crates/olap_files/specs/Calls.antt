-- The counts of the two adapters.
--     refused_calls     how many calls of the library of real files were refused
--     refused_writes    how many calls of standard output were refused
use Rattle.std.specs.Prelude.{ℕ}
use Rattle.olap_files.specs.declared.file_library.FileLibrary.{FileLibrary}
use Rattle.olap_files.specs.declared.stdout_sink.StdoutSink.{StdoutSink}

-- how many calls of the library of real files were refused
abbrev pub refused_calls : {R File Alloc : Type 0} → FileLibrary R File Alloc → ℕ
refused_calls library = library.faults

-- how many calls of standard output were refused
abbrev pub refused_writes : {P : Type 0} → StdoutSink P → ℕ
refused_writes sink = sink.faults
