-- No driver sends more than what is to bounce of what its port received on its queue, and what the paired port received there.
use Rattle.std.proofs.Common.{◌≡◌, ℕ, ◌+◌, ◌*◌, ◌/◌, ◌<◌, ◌≤◌, List, [], length, length-append, sym, ap, subst, ◌∙◌, arith}
use Rattle.std.specs.List.{concat, slice_index_or}
use Rattle.std.proofs.lemmas.List.Folds.{concat-append}
use Rattle.std.proofs.lemmas.Nat.{div-add-mod', div_below, mod_below}
use Rattle.xsk_umem.specs.Frame.{Frame}
use Rattle.xsk_umem.specs.PacketList.{PacketList}
use Rattle.xsk_model.specs.Config.{Config, IsRegular, pair_at}
use Rattle.xsk_model.specs.Entry.{Told, Entry}
use Rattle.xsk_model.specs.History.{IsHistory}
use Rattle.xsk_model.specs.Sent.{all_sent}
use Rattle.xsk_model.specs.Steering.{paired_port, driver_on}
use Rattle.xsk_laws.specs.Expected.{received, bounced_on}
use Rattle.xsk_prog.specs.declared.rule.Verdict.{Verdict}
use Rattle.xsk_turns.specs.Hands.{IsWholeRunOf}
use Rattle.xsk_turns.specs.SentWith.{bouncing}
use Rattle.xsk_turns.specs.Verdicts.{judged}
use Rattle.xsk_turns.specs.Workers.{Setting, IsWholeRun}
use Rattle.xsk_machine.specs.Acts.{sent_of}
use Rattle.xsk_machine.proofs.Acts.{IsWithin}

-- all that a port sent on a queue is no more, in packets and in bytes, than what is to bounce there and what the paired port received
abbrev pub LeavesWithin : Config → List PacketList → List (List Verdict) → List Entry → ℕ → ℕ → Type 0
LeavesWithin c lists verdicts h p q =
    let bounced : List (List ℕ) = bounced_on c lists verdicts p q in
    let sent_here : List (List ℕ) = all_sent c bounced h (driver_on c p q) in
    let others : List (List ℕ) = received c lists (paired_port p) q in
    (length sent_here ≤ length bounced + length others) × (length (concat sent_here) ≤ length (concat bounced) + length (concat others))

-- each driver's packets are no more than that
abbrev pub AreWithin : Setting → List Entry → Type 0
AreWithin s h = (d : ℕ) → d < length s.config.pairs → IsWithin s d (sent_of s h d)

-- what a driver with these verdicts sent is no more than what is to bounce of its packets, and others
abbrev HasRoomWith : Setting → List Entry → List (List ℕ) → List (List ℕ) → ℕ → Type 0
HasRoomWith s h mine others k =
    let bounced : List (List ℕ) = bouncing (judged mine (slice_index_or s.verdicts k [])) in
    let sent_here : List (List ℕ) = all_sent s.config bounced h k in
    (length sent_here ≤ length bounced + length others) × (length (concat sent_here) ≤ length (concat bounced) + length (concat others))

-- so they are where those of each port are
pub each_within : (s : Setting) (frames : List Frame) (h : List Entry) → IsRegular s.config → IsHistory s.config frames h
    → ((p q : ℕ) → p < s.config.ports → q < s.config.queues → LeavesWithin s.config s.packets s.verdicts h p q) → AreWithin s h
each_within s frames h regular legal left d below =
    let p = (pair_at s.config.pairs d).port in
    let q = (pair_at s.config.pairs d).queue in
    let seat = regular.seats d below in
    let some : 0 < s.config.queues = omega (arith, legal.opened.config.queues) in
    let here : driver_on s.config p q ≡ d = ap (λ n. n * s.config.queues + q) seat.0 ∙ ap (λ n. (d / s.config.queues) * s.config.queues + n) seat.1 ∙ div-add-mod' d s.config.queues in
    let port : p < s.config.ports = subst (λ n. n < s.config.ports) (sym seat.0) (div_below d s.config.queues s.config.ports some (omega (arith, below, regular.pairs))) in
    let queue : q < s.config.queues = subst (λ n. n < s.config.queues) (sym seat.1) (mod_below d s.config.queues some) in
    let mine = received s.config s.packets p q in
    let others = received s.config s.packets (paired_port p) q in
    let bounced = bouncing (judged mine (slice_index_or s.verdicts d [])) in
    let few : HasRoomWith s h mine others d = subst (HasRoomWith s h mine others) here (left p q port queue) in
    record {
      count = omega (arith, few.0, length-append bounced others);
      bytes = omega (arith, few.1, ap length (concat-append bounced others), length-append (concat bounced) (concat others));
    }

-- whole runs by one hand
pub by_one : (s : Setting) (who : ℕ) (l : List Told) → IsWholeRun s who l → IsWholeRunOf 1 s who l
by_one s who l run = record { driver = run.driver; app = run.app }
