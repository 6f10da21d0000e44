-- With a layout of ample room no run stalls.
use Rattle.std.proofs.Common.{◌≡◌, ℕ, ◌*◌, ◌/◌, ◌≤◌, None, List, refl, sym, ap, subst, arith}
use Rattle.std.specs.Prelude.{unwrap_or}
use Rattle.xsk_model.specs.Config.{HasRing, size_of, pair_at, socket_at}
use Rattle.xsk_model.specs.declared.config.PairInfo.{PairInfo}
use Rattle.xsk_model.specs.declared.config.SocketInfo.{SocketInfo}
use Rattle.xsk_model.specs.declared.call.Ring.{Ring}
use Rattle.xsk_model.specs.declared.call.Ring.TheVariants.{Fill, Comp, Rx, Tx}
use Rattle.xsk_socket.specs.declared.layout.Layout.{Layout}
use Rattle.xsk_socket.specs.Layout.{pairs_in}
use Rattle.xsk_socket.specs.Regular.{pair_in, regular_of, socket_in}
use Rattle.xsk_socket.proofs.Accepted.{fits}
use Rattle.xsk_socket.proofs.Numbered.{get_or-numbered, length-numbered}
use Rattle.xsk_socket.proofs.Regularity.{regular-regular}
use Rattle.xsk_still.specs.Still.{HasAmpleRoom}
use Rattle.xsk_sim.proofs.Stretch.{none_stands_still}
use Rattle.xsk_cli.specs.Ample.{IsAmple, HasAmple, IsFinished}
use Rattle.xsk_cli.specs.Ends.{Ends, IsComplete}
use Rattle.xsk_cli.specs.Outcome.{stalled, setting_of, frames_of, IsIllegalIn, IsOnPackets, IsOutcome}
use Rattle.xsk_io.specs.Bay.{Moment}
use Rattle.xsk_cli.specs.Words.{Plan, fault_in}
use Rattle.xsk_cli.specs.declared.words.Work.{Work}
use Rattle.xsk_cli.specs.declared.words.Work.TheVariants.{Simulate, Generate, Audit}
use Rattle.xsk_cli.specs.declared.status.Status.{Status}
use Rattle.xsk_cli.specs.declared.status.Status.TheVariants.{Done, Usage, BadCapture, ReadFault, WriteFault, OpenFault, Refused, Stalled, TooMuch, OutOfMemory, NotLegal, BadPcapng}

ample_room : (l : Layout) → IsAmple l → HasAmpleRoom (regular_of l)
ample_room l ample = record {
  rings = rings;
  pool = (let pool = ample.pool in omega (arith, pool, ap (λ n. l.frames / n) (length-numbered (pairs_in l) (pair_in l))));
}
  where
    pair_is : (d : ℕ) → HasRing (regular_of l) (Fill d) → pair_at (regular_of l).pairs d ≡ pair_in l d
    pair_is d has = get_or-numbered (pairs_in l) (pair_in l) d _ (let count = length-numbered (pairs_in l) (pair_in l) in omega (arith, has, count))

    socket_is : (s : ℕ) → HasRing (regular_of l) (Rx s) → socket_at (regular_of l).sockets s ≡ socket_in l s
    socket_is s has =
        get_or-numbered (pairs_in l * l.sockets) (socket_in l) s _ (let count = length-numbered (pairs_in l * l.sockets) (socket_in l) in omega (arith, has.0, count))

    rings : (r : Ring) → HasRing (regular_of l) r → 32 ≤ size_of (regular_of l) r
    rings (Fill d) has = subst (λ (p : PairInfo). 32 ≤ p.fill) (sym (pair_is d has)) ample.fill
    rings (Comp d) has = subst (λ (p : PairInfo). 32 ≤ p.comp) (sym (pair_is d has)) ample.comp
    rings (Rx s) has = subst (λ (k : SocketInfo). 32 ≤ unwrap_or k.rx 0) (sym (socket_is s has)) ample.rx
    rings (Tx s) has = subst (λ (k : SocketInfo). 32 ≤ unwrap_or k.tx 0) (sym (get_or-numbered (pairs_in l * l.sockets) (socket_in l) s _ (let count = length-numbered (pairs_in l * l.sockets) (socket_in l) in omega (arith, has.0, count)))) ample.tx

none_stalls : (work : Work) (inputs : List (List ℕ)) (round : ℕ) (told : List ℕ) → fault_in work ≡ None → HasAmple work → IsOutcome work inputs (stalled round told) → ⊥
none_stalls (Simulate layout programs wire manner order number telling format) inputs round told accepted ample is =
    let lists = is.1.0 in
    let run = is.1.2.1 in
    none_stands_still (setting_of layout programs wire manner lists) (frames_of layout) order round (record { regular = regular-regular layout (fits layout accepted); closes = ample.1 }) (ample_room layout ample.2) ample.0
    (record { past = run.stalled.past; still = run.stalled.still })
none_stalls (Generate number) inputs round told accepted ample is = is.1.2.1
none_stalls (Audit layout why) inputs round told accepted ample is = is.1.1

-- so no command ends so
pub never_stalled : (plan : Plan) (old new : Moment) (status : Status) (round : ℕ) → Ends plan old new status → fault_in plan.work ≡ None → HasAmple plan.work → status ≡ Stalled round → ⊥
never_stalled plan old new status round ends accepted ample is =
    let now : Ends plan old new (Stalled round) = subst (Ends plan old new) is ends in
    none_stalls plan.work now.inputs round now.texts.report accepted ample now.comes

-- and work on packets tells of no journal
none_illegal : (work : Work) (inputs : List (List ℕ)) (line : ℕ) → IsIllegalIn work inputs line → IsOnPackets work → ⊥
none_illegal (Simulate layout programs wire manner order number telling format) inputs line is packets = is
none_illegal (Generate number) inputs line is packets = is
none_illegal (Audit layout why) inputs line is packets = packets

pub never_illegal : (plan : Plan) (old new : Moment) (status : Status) (line : ℕ) → Ends plan old new status → status ≡ NotLegal line → IsOnPackets plan.work → ⊥
never_illegal plan old new status line ends is packets =
    let now : Ends plan old new (NotLegal line) = subst (Ends plan old new) is ends in
    none_illegal plan.work now.inputs line now.comes.0.1 packets

pub finished : (work : Work) (status : Status) → IsComplete status → ((round : ℕ) → status ≡ Stalled round → ⊥) → ((line : ℕ) → status ≡ NotLegal line → IsOnPackets work → ⊥) → IsFinished work status
finished work Done complete goes legal = tt
finished work (Stalled round) complete goes legal = goes round refl
finished work (NotLegal line) complete goes legal = legal line refl
finished work OutOfMemory complete goes legal = tt
finished work Usage complete goes legal = complete
finished work (BadCapture port cause) complete goes legal = complete
finished work (BadPcapng cause) complete goes legal = complete
finished work (ReadFault port) complete goes legal = complete
finished work (WriteFault stream) complete goes legal = complete
finished work (OpenFault stream) complete goes legal = complete
finished work (Refused unlawful) complete goes legal = complete
finished work (TooMuch excess) complete goes legal = complete
