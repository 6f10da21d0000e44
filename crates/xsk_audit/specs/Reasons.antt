-- What is told of a line that can't follow those before it. The form is this project's own.
use Rattle.std.specs.Prelude.{ℕ, Option, None, Some, List, [], ◌++◌, codes, flat_map}
use Rattle.std.specs.Fmt.{decimal}
use Rattle.xsk_umem.specs.Geometry.{Geometry, frame_of}
use Rattle.xsk_umem.specs.declared.batch.XdpDesc.{XdpDesc}
use Rattle.xsk_legal.specs.declared.why.Illegal.{Illegal}
use Rattle.xsk_legal.specs.declared.why.Illegal.TheVariants as illegal
use Rattle.xsk_audit.specs.Naming.{last_naming}
use Rattle.xsk_audit.specs.Reading.{Reads}
use Rattle.xsk_audit.specs.declared.reasons.Reason.{Reason}
use Rattle.xsk_audit.specs.declared.reasons.Reason.TheVariants.{Form, Call, Frames, Reply, Round}

-- the condition of a legal call that fails
abbrev pub condition_text : Illegal → List ℕ
condition_text illegal.NoCaller = codes "there is no such caller\n"
condition_text illegal.Unknown = codes "there is no such ring or mark\n"
condition_text illegal.NotItsOwn = codes "the ring or mark isn't the caller's own\n"
condition_text illegal.NotNow = codes "the mark may not be set to this number now\n"
condition_text illegal.Count = codes "the number isn't from 1 to 32, or none that the mark can have\n"
condition_text illegal.Places = codes "the caller reserved fewer places, or peeked fewer items\n"
condition_text illegal.Items = codes "an item may not stand in this ring\n"
condition_text illegal.Frames = codes "the caller doesn't have these frames\n"
condition_text illegal.Packets = codes "the items aren't the packets that may stand there\n"
condition_text illegal.Ended = codes "the ring was ended\n"

-- where a frame was named last
abbrev pub place_text : Reads ℕ → List ℕ
place_text None = codes "no line before\n"
place_text (Some last) = codes "line " ++ decimal last.0 ++ codes ": " ++ last.1

abbrev pub frame_text : Geometry → List (List ℕ) → Option ℕ → List ℕ
frame_text g before None = []
frame_text g before (Some n) = codes "frame " ++ decimal n ++ codes " was last named by " ++ place_text (last_naming g n before)

-- of the frame of each descriptor, where there are these lines before
abbrev pub frames_text : Geometry → List (List ℕ) → List XdpDesc → List ℕ
frames_text g before descs = flat_map (λ (desc : XdpDesc). frame_text g before (frame_of g desc.addr)) descs

-- a text where the frames aren't the caller's
abbrev pub where_frames : Illegal → List ℕ → List ℕ
where_frames illegal.NoCaller text = []
where_frames illegal.Unknown text = []
where_frames illegal.NotItsOwn text = []
where_frames illegal.NotNow text = []
where_frames illegal.Count text = []
where_frames illegal.Places text = []
where_frames illegal.Items text = []
where_frames illegal.Frames text = text
where_frames illegal.Packets text = []
where_frames illegal.Ended text = []

-- What is told: the lines before it, the descriptors that it names, and the line without its round that would be right.
abbrev pub reason_text : Geometry → List (List ℕ) → List XdpDesc → List ℕ → Reason → List ℕ
reason_text g before descs right Form = codes "it isn't of the form of a line\n"
reason_text g before descs right (Call why) = condition_text why ++ where_frames why (frames_text g before descs)
reason_text g before descs right Frames = codes "no caller has one of these frames, or it is named twice\n" ++ frames_text g before descs
reason_text g before descs right Reply = codes "it would be " ++ right
reason_text g before descs right Round = codes "its round is below that of the line before\n"
