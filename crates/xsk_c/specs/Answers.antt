-- What exports answer, by the numbers of c/include/xsk_c.h.
use Rattle.std.specs.Prelude.{ℕ}
use Rattle.xsk_legal.specs.declared.why.Illegal.{Illegal}
use Rattle.xsk_legal.specs.declared.why.Illegal.TheVariants as condition
use Rattle.xsk_model.specs.declared.call.Reply.{Reply}
use Rattle.xsk_model.specs.declared.call.Reply.TheVariants as reply
use Rattle.xsk_pcap.specs.declared.reading.BadCapture.{BadCapture}
use Rattle.xsk_pcap.specs.declared.reading.BadCapture.TheVariants as capture
use Rattle.xsk_socket.specs.declared.layout.Unlawful.{Unlawful}
use Rattle.xsk_socket.specs.declared.layout.Unlawful.TheVariants as fault
use Rattle.xsk_c.specs.declared.answers.TheConstants.{DONE, NO_MEMORY, FULL, EMPTY, BAD_CAPTURES}

-- the first condition of a legal call that fails
abbrev pub condition_number : Illegal → ℕ
condition_number condition.NoCaller = 16
condition_number condition.Unknown = 17
condition_number condition.NotItsOwn = 18
condition_number condition.Count = 19
condition_number condition.Places = 20
condition_number condition.Items = 21
condition_number condition.Frames = 22
condition_number condition.Packets = 23
condition_number condition.Ended = 24
condition_number condition.NotNow = 25

-- why a layout is refused
abbrev pub fault_number : Unlawful → ℕ
fault_number (fault.Ports n) = 32
fault_number (fault.Queues n) = 33
fault_number (fault.Sockets n) = 34
fault_number (fault.Files n) = BAD_CAPTURES
fault_number (fault.Chunk n) = 36
fault_number (fault.Headroom n) = 37
fault_number (fault.Frames n) = 38
fault_number (fault.Rx n) = 39
fault_number (fault.Tx n) = 40
fault_number (fault.Fill n) = 41
fault_number (fault.Comp n) = 42
fault_number (fault.Pool n) = 43
fault_number (fault.Empty n) = 44
fault_number (fault.Close n) = 45
fault_number (fault.Hands n) = 46

-- why a capture is refused
abbrev pub capture_number : BadCapture → ℕ
capture_number capture.ShortHeader = 48
capture_number capture.BadMagic = 49
capture_number capture.BadVersion = 50
capture_number capture.BadLink = 51
capture_number (capture.Truncated at) = 52
capture_number (capture.RecordTooLong at) = 53
capture_number capture.OutOfMemory = NO_MEMORY

-- a reply: a ring was full, or empty, or else it is done
abbrev pub reply_number : Reply → ℕ
reply_number reply.Granted = DONE
reply_number (reply.Full free) = FULL
reply_number reply.Submitted = DONE
reply_number (reply.Items items) = DONE
reply_number reply.Empty = EMPTY
reply_number reply.Released = DONE
reply_number (reply.Old value) = DONE

-- how many places are free, or the number of a mark, where a reply tells that, and else what stood there
abbrev pub told_in : ℕ → Reply → ℕ
told_in before (reply.Full free) = free
told_in before (reply.Old value) = value
told_in before other = before
