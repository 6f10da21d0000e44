-- The packets that are to bounce: they are delivered to no socket, and under rules that let none bounce there is none.
use Rattle.std.proofs.Common.{◌≡◌, ℕ, zero, suc, ◌+◌, ◌-◌, ◌<◌, ◌≤◌, inl, inr, Bool, true, false, cond, eqb, ltb, nat_lt, not, ◌&&◌, Some, None, List, [], ◌∷◌, ◌++◌, length, map, take, drop, refl, sym, ap, ◌∙◌, ⊎_elim, arith}
use Rattle.std.proofs.lemmas.Bool.{cases_lt, lt-ltb, and_parts}
use Rattle.std.proofs.Math.Bool.{and-false}
use Rattle.xsk_model.specs.Config.{Config}
use Rattle.xsk_model.specs.Packets.{bytes_of}
use Rattle.xsk_model.specs.Entry.{Told}
use Rattle.xsk_model.specs.Sent.{completed_in, sent_from, bounced_in, bounced_of, all_sent_from}
use Rattle.xsk_model.specs.declared.call.Call.{Call}
use Rattle.xsk_model.specs.declared.call.Call.TheVariants.{Reserve, Submit, Peek, Release, Swap, Look}
use Rattle.xsk_model.specs.declared.call.Mark.TheVariants.{Bounced}
use Rattle.xsk_model.specs.Steering.{packet_cell}
use Rattle.xsk_prog.specs.Rules.{Meets, MeetsChain, ether_type_of}
use Rattle.xsk_prog.specs.declared.rule.Rule.{Rule}
use Rattle.xsk_prog.specs.declared.rule.Rule.TheVariants.{Redirect as ByClass, Drop as DropAll, Pass as PassAll, EtherType, Fixed, AtMost, Bounce as BounceAll, BounceType}
use Rattle.xsk_prog.specs.declared.rule.Verdict.{Verdict}
use Rattle.xsk_prog.specs.declared.rule.Verdict.TheVariants.{Drop, Pass, Redirect, Bounce}
use Rattle.xsk_turns.specs.Turns.{Seat, Judged, bounces, disposal_by}
use Rattle.xsk_turns.specs.Disposals.{disposal_in}
use Rattle.xsk_turns.specs.declared.disposal.Disposal.{Disposal}
use Rattle.xsk_turns.specs.declared.disposal.Disposal.TheVariants.{Delivered, NoFrames, RxFull, TooLong, Runt, Missed, Passed, Dropped, Bounced as BouncedOff}
use Rattle.xsk_turns.proofs.Saying.{in-bounced}
use Rattle.xsk_turns.specs.SentWith.{bounces_at, bouncing}
use Rattle.xsk_turns.specs.Verdicts.{judged, EachHas, IsGiven}
use Rattle.xsk_laws.specs.Expected.{may_bounce, none_bounces}
use Rattle.xsk_laws.specs.Lost.{is_lost}
use Rattle.xsk_laws.proofs.Losing.{IsFair, AreFair}
use Rattle.xsk_turns.specs.Totals.{total}
use Rattle.xsk_turns.proofs.Totals.{total-append}
use Rattle.xsk_laws.proofs.Totals.{total-cond, cond_few, is_from, delivered_from}

-- ---- of no packets none is bounced

nothing_in : (call : Call) → bounced_in [] call ≡ []
nothing_in (Reserve r n) = refl
nothing_in (Submit r items) = refl
nothing_in (Peek r n) = refl
nothing_in (Release r n) = refl
nothing_in (Look m) = refl
nothing_in (Swap (Bounced d) value) = ap (take 1) (nothing_left (value - 1))
  where
    nothing_left : (k : ℕ) → drop {A = List ℕ} k [] ≡ []
    nothing_left zero = refl
    nothing_left (suc k) = refl
nothing_in (Swap m value) = refl

pub nothing_of : (mine : List Told) → bounced_of [] mine ≡ []
nothing_of [] = refl
nothing_of (t ∷ mine) = ap (λ xs. xs ++ bounced_of [] mine) (nothing_in t.call) ∙ nothing_of mine

-- ---- sums

-- all that is sent is what was completed and what bounced
pub total-sent : (f : List ℕ → ℕ) (c : Config) (ss : List ℕ) (packets : List (List ℕ)) (past mine : List Told)
    → total f (all_sent_from c ss packets past mine) ≡ total f (sent_from c ss past mine) + total f (bounced_of packets mine)
total-sent f c ss packets past [] = refl
total-sent f c ss packets past (t ∷ mine) =
    let completed : List (List ℕ) = map (bytes_of c.geometry c.sg) (completed_in c ss past t.call) in
    let bounced = bounced_in packets t.call in
    omega (
      arith,
      total-append f (completed ++ bounced) (all_sent_from c ss packets (past ++ t ∷ []) mine),
      total-append f completed bounced,
      total-append f completed (sent_from c ss (past ++ t ∷ []) mine),
      total-append f bounced (bounced_of packets mine),
      total-sent f c ss packets (past ++ t ∷ []) mine,
    )

-- a packet that is to bounce has that disposal
bounces_said : (seat : Seat) (packet : Judged) → bounces_at packet ≡ true → disposal_in seat packet ≡ BouncedOff
bounces_said seat packet e = let both = by (nat_lt (length packet.bytes) 14) packet.verdict e in in-bounced seat packet both.0 both.1
  where
    by : (short : Bool) (verdict : Verdict) → (not short && bounces verdict) ≡ true → (cond short (Some Runt) (disposal_by seat verdict) ≡ None) × (bounces verdict ≡ true)
    by true verdict e = absurd (cc)
    by false Drop e = absurd (cc)
    by false Pass e = absurd (cc)
    by false (Redirect cell) e = absurd (cc)
    by false Bounce e = (refl, refl)

lost_from : (n : ℕ) (d : Disposal) → is_lost d ≡ true → is_from n d ≡ false
lost_from n NoFrames e = refl
lost_from n RxFull e = refl
lost_from n (Delivered t) e = absurd (cc)
lost_from n TooLong e = absurd (cc)
lost_from n Runt e = absurd (cc)
lost_from n Missed e = absurd (cc)
lost_from n Passed e = absurd (cc)
lost_from n Dropped e = absurd (cc)
lost_from n BouncedOff e = absurd (cc)

module _ (c : Config) (pair : ℕ) (seat : Seat) where
  -- so it isn't delivered
  stays_off : (n : ℕ) (packet : Judged) (d : Disposal) → IsFair c pair seat packet d → bounces_at packet ≡ true → is_from n d ≡ false
  stays_off n packet d (inl is) e = ap (is_from n) (sym is ∙ bounces_said seat packet e)
  stays_off n packet d (inr lost) e = lost_from n d lost.lost

  leaves_once : (n size : ℕ) (packet : Judged) (d : Disposal) → IsFair c pair seat packet d → cond (is_from n d) size 0 + cond (bounces_at packet) size 0 ≤ size
  leaves_once n size packet d fair = by (bounces_at packet) refl
    where
      by : (b : Bool) → bounces_at packet ≡ b → cond (is_from n d) size 0 + cond b size 0 ≤ size
      by false e = omega (arith, cond_few (is_from n d) size)
      by true e = omega (arith, ap (λ b. cond b size 0) (stays_off n packet d fair e))

  -- what is delivered and what bounces is no more than what comes
  pub leaving_within : (f : List ℕ → ℕ) (n : ℕ) (input : List Judged) (ds : List Disposal) → AreFair c pair seat input ds
      → total f (delivered_from n input ds) + total f (bouncing input) ≤ total (λ (x : Judged). f x.bytes) input
  leaving_within f n [] [] h = omega arith
  leaving_within f n [] (d ∷ ds) h = absurd h
  leaving_within f n (packet ∷ input) [] h = absurd h
  leaving_within f n (packet ∷ input) (d ∷ ds) h =
      omega (
        arith,
        leaves_once n (f packet.bytes) packet d h.0,
        leaving_within f n input ds h.1,
        total-cond f (is_from n d) packet.bytes (delivered_from n input ds),
        total-cond f (bounces_at packet) packet.bytes (bouncing input),
      )

-- ---- rules

neither : (b : Bool) (cell : ℕ) → bounces (cond b (Redirect cell) Pass) ≡ false
neither true cell = refl
neither false cell = refl

rule_stays : (rule : Rule) (packet : List ℕ) (queue : ℕ) (verdict : Verdict) → may_bounce rule ≡ false → Meets rule packet queue verdict → bounces verdict ≡ false
rule_stays (ByClass sockets) packet queue verdict e h = ap bounces h
rule_stays DropAll packet queue verdict e h = ap bounces h
rule_stays PassAll packet queue verdict e h = ap bounces h
rule_stays (EtherType kind sockets) packet queue verdict e h = ap bounces h ∙ neither (eqb (ether_type_of packet) kind) (packet_cell sockets queue packet)
rule_stays (Fixed cell) packet queue verdict e h = ap bounces h
rule_stays (AtMost cells) packet queue Drop e h = refl
rule_stays (AtMost cells) packet queue Pass e h = refl
rule_stays (AtMost cells) packet queue (Redirect cell) e h = refl
rule_stays (AtMost cells) packet queue Bounce e h = absurd h
rule_stays BounceAll packet queue verdict e h = absurd (cc)
rule_stays (BounceType kind) packet queue verdict e h = absurd (cc)

not_false : (b : Bool) → not b ≡ true → b ≡ false
not_false true e = absurd (cc)
not_false false e = refl

chain_stays : (rules : List Rule) (packet : List ℕ) (queue : ℕ) (verdict : Verdict) → none_bounces rules ≡ true → MeetsChain rules packet queue verdict → bounces verdict ≡ false
chain_stays [] packet queue verdict e h = ap bounces h
chain_stays (rule ∷ rules) packet queue verdict e h =
    let both = and_parts (not (may_bounce rule)) (none_bounces rules) e in
    ⊎_elim
    (λ met. rule_stays rule packet queue verdict (not_false (may_bounce rule) both.0) met.0)
    (λ passed. chain_stays rules packet queue verdict both.1 passed.1)
    h

packet_stays : (rules : List Rule) (queue : ℕ) (packet : List ℕ) (verdict : Verdict) → none_bounces rules ≡ true → IsGiven (λ p v. MeetsChain rules p queue v) packet verdict
    → bounces_at (record { bytes = packet; verdict = verdict }) ≡ false
packet_stays rules queue packet verdict e given = ⊎_elim
    (λ (short : length packet < 14). ap (λ b. not b && bounces verdict) (lt-ltb (length packet) 14 short))
    (λ (long : 14 ≤ length packet).
    ap (λ b. not (ltb (length packet) 14) && b) (chain_stays rules packet queue verdict e (given.asked long)) ∙ and-false (not (ltb (length packet) 14)))
    (cases_lt (length packet) 14)

-- under such rules no packet is to bounce
pub none_to_bounce : (rules : List Rule) (queue : ℕ) (packets : List (List ℕ)) (verdicts : List Verdict) → none_bounces rules ≡ true
    → EachHas (IsGiven (λ p v. MeetsChain rules p queue v)) packets verdicts → bouncing (judged packets verdicts) ≡ []
none_to_bounce rules queue [] verdicts e h = refl
none_to_bounce rules queue (packet ∷ packets) [] e h = refl
none_to_bounce rules queue (packet ∷ packets) (verdict ∷ verdicts) e h =
    let later = bouncing (judged packets verdicts) in
    ap (λ b. cond b (packet ∷ later) later) (packet_stays rules queue packet verdict e h.0) ∙ none_to_bounce rules queue packets verdicts e h.1
