-- What a command answers. To read in this order:
-- Options: how each option is called. Words: which words are a command. ExitStatus, Line: its status and the line of a refusal. Judged: what of the inputs is refused. Outcome: what is
--   made of their bytes. Stalls: what is told of a run that stalls. Streams, Ends, Cause: what was done to the streams, and why it ended. Forward: the same by threads. Format: pcap and pcapng. Misfit: what is told of a journal that isn't legal.
-- Journals: journals of runs are legal. Ample: where no run stalls. For code: Steps, and Terms, what a run comes to by the terms that its work lends.
pub mod Cause
pub mod ExitStatus
pub mod Options
pub mod Words
pub mod Judged
pub mod Format
pub mod Stalls
pub mod Misfit
pub mod Outcome
pub mod Streams
pub mod Line
pub mod Ends
pub mod Steps
pub mod Forward
pub mod Ample
pub mod Journals
pub mod Terms
