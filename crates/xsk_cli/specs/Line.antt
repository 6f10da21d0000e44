-- The line that tells a refusal. This project's own.
use Rattle.std.specs.Prelude.{ℕ, List, ◌++◌, Option, Some, None, codes}
use Rattle.std.specs.Fmt.{decimal}
use Rattle.xsk_io.specs.declared.bay.Stream.{Stream}
use Rattle.xsk_io.specs.declared.bay.Stream.TheVariants.{Input, Output, Report}
use Rattle.xsk_pcap.specs.declared.reading.BadCapture.{BadCapture as Cause}
use Rattle.xsk_pcap.specs.declared.reading.BadCapture.TheVariants.{ShortHeader, BadMagic, BadVersion, BadLink, Truncated, RecordTooLong, OutOfMemory as NoCause}
use Rattle.xsk_pcapng.specs.declared.reading.BadPcapng.{BadPcapng as FileCause}
use Rattle.xsk_pcapng.specs.declared.reading.BadPcapng.TheVariants.{ShortHeader as NoHeader, BadMagic as BadFileMagic, BadVersion as BadFileVersion, Truncated as CutShort, BadBlock, SecondSection, BadLink as BadFileLink, TooManyInterfaces, OtherPacket, NoInterface, RecordTooLong as PacketTooLong, OutOfMemory as NoFileCause}
use Rattle.xsk_socket.specs.declared.layout.Unlawful.{Unlawful}
use Rattle.xsk_socket.specs.declared.layout.Unlawful.TheVariants.{Ports, Queues, Sockets, Files, Chunk, Headroom, Frames, Rx, Tx, Fill, Comp, Pool, Empty, Close, Hands}
use Rattle.xsk_cli.specs.declared.status.Excess.{Excess}
use Rattle.xsk_cli.specs.declared.status.Excess.TheVariants.{Input as TooLong, Packets, Bytes}
use Rattle.xsk_cli.specs.declared.status.Status.{Status}
use Rattle.xsk_cli.specs.declared.status.Status.TheVariants.{Done, Usage, BadCapture, ReadFault, WriteFault, OpenFault, Refused, Stalled, TooMuch, OutOfMemory, NotLegal, BadPcapng}

-- words, and the number behind them where there is one
abbrev pub numbered : List ℕ → Option ℕ → List ℕ
numbered name None = name
numbered name (Some n) = name ++ decimal n

abbrev pub cause_text : Cause → List ℕ
cause_text ShortHeader = codes "short header"
cause_text BadMagic = codes "bad magic"
cause_text BadVersion = codes "bad version"
cause_text BadLink = codes "bad link"
cause_text (Truncated at) = codes "truncated " ++ decimal at
cause_text (RecordTooLong at) = codes "record too long " ++ decimal at
cause_text NoCause = codes "out of memory"

abbrev pub file_cause_text : FileCause → List ℕ
file_cause_text NoHeader = codes "short header"
file_cause_text BadFileMagic = codes "bad magic"
file_cause_text BadFileVersion = codes "bad version"
file_cause_text (CutShort at) = codes "truncated " ++ decimal at
file_cause_text (BadBlock at) = codes "bad block " ++ decimal at
file_cause_text (SecondSection at) = codes "second section " ++ decimal at
file_cause_text (BadFileLink at) = codes "bad link " ++ decimal at
file_cause_text (TooManyInterfaces at) = codes "too many interfaces " ++ decimal at
file_cause_text (OtherPacket at) = codes "other packet " ++ decimal at
file_cause_text (NoInterface at) = codes "no interface " ++ decimal at
file_cause_text (PacketTooLong at) = codes "record too long " ++ decimal at
file_cause_text NoFileCause = codes "out of memory"

abbrev pub stream_text : Stream → List ℕ
stream_text (Input port) = codes "input " ++ decimal port
stream_text (Output port) = codes "output " ++ decimal port
stream_text Report = codes "report"

abbrev pub excess_text : Excess → List ℕ
excess_text (TooLong port) = codes "input " ++ decimal port
excess_text (Packets n) = codes "packets " ++ decimal n
excess_text (Bytes n) = codes "bytes " ++ decimal n

abbrev pub unlawful_text : Unlawful → List ℕ
unlawful_text (Ports n) = codes "ports " ++ decimal n
unlawful_text (Queues n) = codes "queues " ++ decimal n
unlawful_text (Sockets n) = codes "sockets " ++ decimal n
unlawful_text (Files n) = codes "files " ++ decimal n
unlawful_text (Chunk n) = codes "chunk " ++ decimal n
unlawful_text (Headroom n) = codes "headroom " ++ decimal n
unlawful_text (Frames n) = codes "frames " ++ decimal n
unlawful_text (Rx n) = codes "rx " ++ decimal n
unlawful_text (Tx n) = codes "tx " ++ decimal n
unlawful_text (Fill n) = codes "fill " ++ decimal n
unlawful_text (Comp n) = codes "comp " ++ decimal n
unlawful_text (Pool n) = codes "pool " ++ decimal n
unlawful_text (Empty n) = codes "empty " ++ decimal n
unlawful_text (Close n) = codes "close " ++ decimal n
unlawful_text (Hands n) = codes "hands " ++ decimal n

abbrev pub status_text : Status → List ℕ
status_text Done = codes "done"
status_text Usage = codes "usage"
status_text (BadCapture port cause) = codes "bad capture " ++ decimal port ++ codes " " ++ cause_text cause
status_text (ReadFault port) = codes "read fault " ++ decimal port
status_text (WriteFault stream) = codes "write fault " ++ stream_text stream
status_text (OpenFault stream) = codes "open fault " ++ stream_text stream
status_text (Refused unlawful) = codes "refused " ++ unlawful_text unlawful
status_text (Stalled round) = codes "stalled " ++ decimal round
status_text (TooMuch excess) = codes "too much " ++ excess_text excess
status_text OutOfMemory = codes "out of memory"
status_text (NotLegal line) = codes "not legal " ++ decimal line
status_text (BadPcapng cause) = codes "bad pcapng " ++ file_cause_text cause

abbrev pub line_of : Status → List ℕ
line_of status = status_text status ++ codes "\n"
