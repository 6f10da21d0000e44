-- The frames that the applications have, each in the place of its number.
use Rattle.std.specs.Prelude.{◌≡◌, ℕ, ◌+◌, ◌%◌, ◌≤◌, Option, Some, None, List, [], ◌∷◌, length, get_or, set, take, drop}
use Rattle.xsk_umem.specs.Frame.{Frame, written_at}
use Rattle.xsk_umem.specs.Geometry.{Geometry, frame_of}
use Rattle.xsk_umem.specs.declared.batch.Item.{Item}
use Rattle.xsk_c.specs.declared.answers.TheConstants.{DONE, NO_SUCH, SHORT}

-- ---- frames by their addresses

abbrev pub frame_in : List (Option Frame) → Option ℕ → Option Frame
frame_in frames None = None
frame_in frames (Some n) = get_or frames n None

-- the frame in which an address lies, if an application has it
abbrev pub frame_at : Geometry → List (Option Frame) → ℕ → Option Frame
frame_at g frames address = frame_in frames (frame_of g address)

abbrev pub without_in : List (Option Frame) → Option ℕ → List (Option Frame)
without_in frames None = frames
without_in frames (Some n) = set frames n None

-- that frame is taken
abbrev pub without : Geometry → List (Option Frame) → ℕ → List (Option Frame)
without g frames address = without_in frames (frame_of g address)

-- a frame is put in the place of its number, if there is one
abbrev pub with_frame : List (Option Frame) → Option Frame → List (Option Frame)
with_frame frames None = frames
with_frame frames (Some f) = set frames f.number (Some f)

-- and the frames of items, one after another
abbrev pub with_frames : List (Option Frame) → List Item → List (Option Frame)
with_frames frames [] = frames
with_frames frames (x ∷ xs) = with_frames (with_frame frames x.frame) xs

-- ---- the bytes of a frame, from an address on (af_xdp.rst, "UMEM")

-- so many bytes from the address on lie in its chunk
abbrev pub Fits : ℕ → ℕ → Frame → Type 0
Fits address count f = address % length f.bytes + count ≤ length f.bytes

-- bytes are written to a frame that is there, if they fit
abbrev pub Fills : ℕ → List ℕ → (before after : Option Frame) → (answer : ℕ) → Type 0
Fills address piece None after answer = (answer ≡ NO_SUCH) × (after ≡ None)
Fills address piece (Some f) after answer =
    (Fits address (length piece) f → (answer ≡ DONE) × (after ≡ Some (record f { bytes = written_at f.bytes (address % length f.bytes) piece })))
    × ((Fits address (length piece) f → ⊥) → (answer ≡ SHORT) × (after ≡ Some f))

abbrev pub WritesTo : Option ℕ → ℕ → List ℕ → (before after : List (Option Frame)) → (answer : ℕ) → Type 0
WritesTo None address piece before after answer = (answer ≡ NO_SUCH) × (after ≡ before)
WritesTo (Some n) address piece before after answer =
    (frame : Option Frame) × Fills address piece (get_or before n None) frame answer × (after ≡ set before n frame)

-- they are written to the frame of the address, and to no other
abbrev pub Writes : Geometry → ℕ → List ℕ → (before after : List (Option Frame)) → (answer : ℕ) → Type 0
Writes g address piece before after answer = WritesTo (frame_of g address) address piece before after answer

-- bytes of a frame that is there are copied, as many as there is room for, if it has so many
abbrev pub ReadsFrom : ℕ → Option Frame → (before after : List ℕ) → (answer : ℕ) → Type 0
ReadsFrom address None before after answer = (answer ≡ NO_SUCH) × (after ≡ before)
ReadsFrom address (Some f) before after answer =
    (Fits address (length before) f → (answer ≡ DONE) × (after ≡ take (length before) (drop (address % length f.bytes) f.bytes)))
    × ((Fits address (length before) f → ⊥) → (answer ≡ SHORT) × (after ≡ before))
