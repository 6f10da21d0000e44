-- Which kind of reply the application's machine waits for.
use Rattle.xsk_model.specs.Expected.{Expected, nothing, place, submitted, item, released, number, ended}
use Rattle.xsk_app.specs.declared.machine.Wait.{Wait}
use Rattle.xsk_app.specs.declared.machine.Wait.TheVariants.{Start, LowerCell, TellClosing, DrainRx, ReleaseDrained, PeekRx, ReleaseRx, ReserveTx, SubmitTx, PeekComp, ReleaseComp, ReserveFill, SubmitFill, LookNeed, Kick, LookAcked, LookRxDone, TellTxDone, LookGone, Ended}

abbrev pub expects : Wait → Expected
expects Start = nothing
expects (LowerCell socket index) = number
expects (TellClosing socket) = number
expects (DrainRx lane) = item
expects (ReleaseDrained lane) = released
expects (PeekRx lane) = item
expects (ReleaseRx lane) = released
expects (ReserveTx lane) = place
expects (SubmitTx lane) = submitted
expects (PeekComp side) = item
expects (ReleaseComp side) = released
expects (ReserveFill side home count) = place
expects (SubmitFill side home) = submitted
expects (LookNeed pair next) = number
expects (Kick next) = number
expects LookAcked = number
expects (LookRxDone side) = number
expects TellTxDone = number
expects (LookGone side) = number
expects Ended = ended
