-- Streams that are files. This project's own.
use Rattle.std.specs.Prelude.{ℕ, Bool, false, List, None, replicate, slice_index_or}
use Rattle.xsk_io.specs.declared.bay.Stream.{Stream}
use Rattle.xsk_io.specs.declared.bay.Stream.TheVariants.{Input, Output, Report}
use Rattle.xsk_io.specs.declared.bay.Kind.{Kind}
use Rattle.xsk_io.specs.declared.bay.Kind.TheVariants.{Open, Read, Write}
use Rattle.xsk_io.specs.Bay.{Moment}

-- one count for each stream
pub record StreamCounts : Type 0 where
  pub inputs : List ℕ
  pub outputs : List ℕ
  pub report : ℕ

-- which inputs and outputs are open, and the counts of faults
pub record FilesState : Type 0 where
  pub inputs : List Bool
  pub outputs : List Bool
  pub opens : StreamCounts
  pub reads : StreamCounts
  pub writes : StreamCounts

abbrev pub no_counts : StreamCounts
no_counts = record { inputs = replicate 4 0; outputs = replicate 4 0; report = 0 }

abbrev pub no_files : FilesState
no_files = record {
  inputs = replicate 4 false;
  outputs = replicate 4 false;
  opens = no_counts;
  reads = no_counts;
  writes = no_counts;
}

abbrev pub count_of : StreamCounts → Stream → ℕ
count_of counts (Input n) = slice_index_or counts.inputs n 0
count_of counts (Output n) = slice_index_or counts.outputs n 0
count_of counts Report = counts.report

abbrev pub is_file_open : FilesState → Stream → Bool
is_file_open files (Input n) = slice_index_or files.inputs n false
is_file_open files (Output n) = slice_index_or files.outputs n false
is_file_open files Report = false

abbrev pub file_faults : FilesState → Kind → Stream → ℕ
file_faults files Open = count_of files.opens
file_faults files Read = count_of files.reads
file_faults files Write = count_of files.writes

-- no name, byte or write is told
abbrev pub files_moment : FilesState → Moment
files_moment files = record {
  is_open = is_file_open files;
  asked = λ stream. None;
  left = λ stream. None;
  held = λ stream. None;
  offers = λ stream. None;
  faults = file_faults files;
}
