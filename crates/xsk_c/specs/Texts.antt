-- The texts of answers, for people.
use Rattle.std.specs.Prelude.{◌≡◌, ◌==◌, ℕ, nat_lt, if◌then◌else◌, Option, Some, None, List, codes}
use Rattle.xsk_c.specs.Reading.{CopiesTo}
use Rattle.xsk_c.specs.declared.answers.TheConstants.{NO_SUCH}

-- how a call ended: the last ten are the first condition of a legal call that fails
abbrev pub call_text : ℕ → Option (List ℕ)
call_text answer =
    if answer == 0 then Some (codes "it is done")
    else if answer == 1 then Some (codes "the handle isn't live")
    else if answer == 2 then Some (codes "the handle is live")
    else if answer == 3 then Some (codes "out of memory")
    else if answer == 4 then Some (codes "there is no such kind, mark, pair, class or packet")
    else if answer == 5 then Some (codes "the bytes or the room are too few")
    else if answer == 6 then Some (codes "fewer places are free")
    else if answer == 7 then Some (codes "nothing is there")
    else if answer == 16 then Some (codes "there is no such caller")
    else if answer == 17 then Some (codes "there is no such ring or mark")
    else if answer == 18 then Some (codes "it isn't the caller's own")
    else if answer == 19 then Some (codes "the number isn't from 1 to 32, or none that the mark can have")
    else if answer == 20 then Some (codes "fewer places are reserved, or fewer items were peeked")
    else if answer == 21 then Some (codes "an item may not stand in the ring")
    else if answer == 22 then Some (codes "the caller doesn't have these frames")
    else if answer == 23 then Some (codes "the items aren't the packets that may stand there")
    else if answer == 24 then Some (codes "the ring was ended")
    else if answer == 25 then Some (codes "the mark may not be set to this number now")
    else None

-- why a layout or a capture is refused
abbrev pub refusal_text : ℕ → Option (List ℕ)
refusal_text answer =
    if answer == 32 then Some (codes "there must be 2 or 4 ports")
    else if answer == 33 then Some (codes "a port must have 1, 2 or 4 queues")
    else if answer == 34 then Some (codes "a queue must have 1, 2 or 4 sockets")
    else if answer == 35 then Some (codes "each port must have a capture, and these must lie in the text in order")
    else if answer == 36 then Some (codes "a chunk must have 2048 or 4096 bytes")
    else if answer == 37 then Some (codes "the headroom leaves no room for data")
    else if answer == 38 then Some (codes "there must be 1 to 4096 frames, the same number for each queue")
    else if answer == 39 then Some (codes "an RX ring must have a power of two of entries, from 2 to 2048")
    else if answer == 40 then Some (codes "a TX ring must have a power of two of entries, from 2 to 2048")
    else if answer == 41 then Some (codes "a FILL ring must have a power of two of entries, from 2 to 2048")
    else if answer == 42 then Some (codes "a COMPLETION ring must have a power of two of entries, from 2 to 2048")
    else if answer == 43 then Some (codes "the frames of a queue don't fit its FILL ring")
    else if answer == 48 then Some (codes "a capture's file header is cut short")
    else if answer == 49 then Some (codes "a file has no magic number of a capture")
    else if answer == 50 then Some (codes "a capture's version is not 2.4")
    else if answer == 51 then Some (codes "a capture's link type is not Ethernet")
    else if answer == 52 then Some (codes "a record of a capture is cut short")
    else if answer == 53 then Some (codes "a record of a capture is too long")
    else None

abbrev pub text_in : ℕ → Option (List ℕ)
text_in answer = if nat_lt answer 32 then call_text answer else refusal_text answer

-- a text is copied, if there is one, and its length is told
abbrev pub TellsText : Option (List ℕ) → (before after : List ℕ) → (had len answer : ℕ) → Type 0
TellsText None before after had len answer = (answer ≡ NO_SUCH) × (after ≡ before) × (len ≡ had)
TellsText (Some text) before after had len answer = CopiesTo text before after len answer
