-- What is sent as the driver's machine gives a call: the packet that the call counts as bounced, and else none beside those that it
-- completes.
use Rattle.std.proofs.Common.{◌≡◌, ℕ, Bool, true, false, cond, List, [], ◌∷◌, ◌++◌, refl, sym, ap, ◌∙◌, subst, append_assoc, append-nil}
use Rattle.xsk_model.specs.Packets.{bytes_of}
use Rattle.std.specs.List.{slice_index_or}
use Rattle.xsk_model.specs.declared.call.Act.{Act}
use Rattle.xsk_model.specs.declared.call.Act.TheVariants.{Call as Gave, Ended as IsEnded}
use Rattle.xsk_turns.specs.SentWith.{sent_by}
use Rattle.xsk_turns.specs.Turns.{Kept}
use Rattle.xsk_driver.specs.SentRoom.{Sends}
use Rattle.xsk_driver.specs.Outbox.{sent_in, outbox_of}
use Rattle.xsk_driver.specs.Gives.{SendsBy, SendsAll, IsQuietAct, counts_by, counts_bounced, bounced_by}
use Rattle.xsk_driver.specs.Stands.{seat_in, kept_in, first}
use Rattle.xsk_driver.specs.declared.machine.Machine.{Machine}
use Rattle.xsk_driver.specs.declared.outbox.Outbox.{Outbox}
use Rattle.xsk_driver.specs.declared.machine.Wait.{Wait}
use Rattle.xsk_driver.specs.declared.machine.Wait.TheVariants.{TellBounced}

-- only one waiting point is behind a call that counts a bounced packet
counts_none : (wait : Wait) → (wait ≡ TellBounced → ⊥) → counts_bounced wait ≡ false
counts_none TellBounced other = absurd (other refl)
counts_none wait other = refl

-- a call that doesn't, or none
pub sends_other : (old now : Machine) (act : Act) → (now.wait ≡ TellBounced → ⊥) → counts_by act ≡ counts_bounced now.wait → SendsBy old now act → SendsAll old now act
sends_other old now act other counts sends packets before =
    let completed : List (List ℕ) = sent_by (seat_in old) (kept_in old) act in
    subst (λ (b : Bool). Sends (sent_in now) (packets ++ (completed ++ (cond b ((first (kept_in now)).bytes ∷ []) [])))) (sym (counts ∙ counts_none now.wait other))
    (subst (λ (ps : List (List ℕ)). Sends (sent_in now) (packets ++ ps)) (sym (append-nil completed)) (sends packets before))

-- one that does: its packet is appended behind what the call completes
pub sends_bounced : (old mid now : Machine) (act : Act) (bytes : List ℕ) → mid.wait ≡ TellBounced → counts_by act ≡ counts_bounced mid.wait → kept_in now ≡ kept_in mid
    → bytes ≡ (first (kept_in mid)).bytes → SendsBy old mid act → ((packets : List (List ℕ)) → Sends (sent_in mid) packets → Sends (sent_in now) (packets ++ bytes ∷ [])) → SendsAll old now act
sends_bounced old mid now act bytes is counts same packet sends adds packets before =
    let completed : List (List ℕ) = sent_by (seat_in old) (kept_in old) act in
    let bounces : counts_by act ≡ true = counts ∙ ap counts_bounced is in
    let all : bounced_by (kept_in now) act ≡ bytes ∷ [] =
    ap (λ (b : Bool). cond b ((first (kept_in now)).bytes ∷ []) []) bounces ∙ ap (λ (k : Kept). (first k).bytes ∷ []) same ∙ ap (λ (p : List ℕ). p ∷ []) (sym packet) in
    subst (λ (ps : List (List ℕ)). Sends (sent_in now) (packets ++ (completed ++ ps))) (sym all)
    (subst (λ (ps : List (List ℕ)). Sends (sent_in now) ps) (append_assoc packets completed (bytes ∷ [])) (adds (packets ++ completed) (sends packets before)))

-- where nothing is completed, nothing is sent before
pub quiet_by : (old mid : Machine) (act : Act) → mid.outbox ≡ old.outbox → IsQuietAct act → SendsBy old mid act
quiet_by old mid (Gave call) same quiet packets before =
    let seat = seat_in old in
    let kept = kept_in old in
    subst (λ (b : Bool). Sends (sent_in mid) (packets ++ (cond b (bytes_of seat.config.geometry seat.config.sg (slice_index_or kept.finished 0 []) ∷ []) []))) (sym quiet)
    (subst (λ (ps : List (List ℕ)). Sends (sent_in mid) ps) (sym (append-nil packets)) (subst (λ (s : Outbox). Sends (outbox_of s) packets) (sym same) before))
quiet_by old mid IsEnded same quiet packets before =
    subst (λ (ps : List (List ℕ)). Sends (sent_in mid) ps) (sym (append-nil packets)) (subst (λ (s : Outbox). Sends (outbox_of s) packets) (sym same) before)
