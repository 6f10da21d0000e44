-- What is kept of FILL: how many frames are on it, and the lines at which the last of them went. The form is this project's own.
use Rattle.std.specs.Prelude.{◌≡◌, ℕ, ◌+◌, ◌-◌, ◌<◌, ◌==◌, min, if◌then◌else◌, Option, Some, None, List, [], ◌∷◌, ◌++◌, length, flat_map, codes}
use Rattle.std.specs.List.{slice_index_or, slice_set, range_with_len}
use Rattle.xsk_umem.specs.declared.batch.XdpDesc.{XdpDesc}
use Rattle.xsk_model.specs.Descriptor.{is_inside}
use Rattle.xsk_model.specs.declared.call.Ring.{Ring}
use Rattle.xsk_model.specs.declared.call.Ring.TheVariants.{Fill as FillOf, Comp, Rx, Tx}
use Rattle.xsk_side.specs.Setting.{Setting}
use Rattle.xsk_side.specs.Entries.{frame}
use Rattle.xsk_judge.specs.Stands.{Line, calls_of}
use Rattle.xsk_hints.specs.declared.fills.Fill.{Fill}
use Rattle.xsk_hints.specs.Facts.{count_on, dried_at}
use Rattle.xsk_hints.specs.Told.{tally_line, dry_line}
use Rattle.xsk_hints.specs.Tallies.{most, no_tally, tally_of, with_line}

abbrev pub no_fill : Fill
no_fill = record { frames = 0; dried = no_tally }

abbrev pub fill_in : List Fill → ℕ → Fill
fill_in fills d = slice_index_or fills d no_fill

-- it is what these calls leave
abbrev pub Feeds : Setting → List Fill → List Line → Type 0
Feeds s fills lines = (d : ℕ) → d < length s.pairs
    → fill_in fills d ≡ record { frames = count_on s (FillOf d) (calls_of lines); dried = tally_of (dried_at s (FillOf d) lines) }

-- ---- one entry

abbrev pub one_more : Fill → Fill
one_more f = record f { frames = min (f.frames + 1) most }

abbrev pub one_less : ℕ → Fill → Fill
one_less line f =
    if f.frames == 0 then f
    else record { frames = f.frames - 1; dried = if f.frames == 1 then with_line line f.dried else f.dried }

abbrev pub raised_if : Setting → ℕ → XdpDesc → List Fill → List Fill
raised_if s d entry fills = if is_inside s.geometry entry then slice_set fills d (one_more (fill_in fills d)) else fills

abbrev pub raised : Setting → ℕ → List XdpDesc → List Fill → List Fill
raised s d [] fills = fills
raised s d (entry ∷ entries) fills = raised s d entries (raised_if s d entry fills)

abbrev pub raised_on : Setting → Ring → List XdpDesc → List Fill → List Fill
raised_on s (FillOf d) entries fills = raised s d entries fills
raised_on s (Comp d) entries fills = fills
raised_on s (Rx k) entries fills = fills
raised_on s (Tx k) entries fills = fills

-- where an entry's frame was
abbrev pub source_of_entry : Setting → (ℕ → Option Ring) → XdpDesc → Option Ring
source_of_entry s from entry = if is_inside s.geometry entry then from (frame s entry) else None

abbrev pub drained_by : ℕ → Option Ring → List Fill → List Fill
drained_by line None fills = fills
drained_by line (Some (FillOf d)) fills = slice_set fills d (one_less line (fill_in fills d))
drained_by line (Some (Comp d)) fills = fills
drained_by line (Some (Rx k)) fills = fills
drained_by line (Some (Tx k)) fills = fills

abbrev pub drained : Setting → ℕ → (ℕ → Option Ring) → List XdpDesc → List Fill → List Fill
drained s line from [] fills = fills
drained s line from (entry ∷ entries) fills = drained s line from entries (drained_by line (source_of_entry s from entry) fills)

-- ---- the text

abbrev pub told_fill : ℕ → Fill → List ℕ
told_fill d f = tally_line (FillOf d) (codes ": times that no frame was left on it: ") f.dried ++ dry_line d (if f.frames == 0 then f.dried.last else 0)

abbrev pub fill_lines : Setting → List Line → ℕ → List ℕ
fill_lines s lines d = told_fill d (record { frames = count_on s (FillOf d) (calls_of lines); dried = tally_of (dried_at s (FillOf d) lines) })

abbrev pub fills_text : Setting → List Line → List ℕ
fills_text s lines = flat_map (fill_lines s lines) (range_with_len 0 (length s.pairs))
