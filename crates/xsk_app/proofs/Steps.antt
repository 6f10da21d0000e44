-- What each call of an application's machine and its wait come to, in the machine's own terms.
use Rattle.std.proofs.Common.{◌≡◌, ℕ, zero, true, false, ◌<◌, ◌≤◌, Option, Some, None, List, [], length, map, take, drop, refl, sym, ap, ◌∙◌, subst, get_or-set_same}
use Rattle.xsk_turns.proofs.Object.{Frame, Config, pool_of, batch_of, home_item}
use Rattle.xsk_turns.proofs.Calls.{Item, Fill, Comp, Rx, Tx, Reserve, Submit, Peek, Release, Reply, Granted, Full, Submitted, Items, Empty, Released, Old}
use Rattle.xsk_model.specs.Expected.{CanCome, submitted, number}
use Rattle.xsk_model.specs.Object.{taken}
use Rattle.xsk_model.specs.declared.call.Act.{Act}
use Rattle.xsk_model.specs.declared.call.Act.TheVariants.{Call as Gave, Ended as HasEnded}
use Rattle.xsk_model.specs.declared.ask.Ask.{Ask}
use Rattle.xsk_model.specs.declared.ask.Answer.{Answer}
use Rattle.xsk_model.specs.declared.ask.Answer.TheVariants.{Granted as Allowed, Full as IsFull, Submitted as Taken, Items as HasItems, Empty as IsEmpty, Released as Freed, Old as Was}
use Rattle.xsk_turns.specs.Stepping.{joined_answer, joined_ask, IsLent}
use Rattle.xsk_turns.specs.Script.{Script, ask, begun}
use Rattle.xsk_turns.specs.AppTurns.{AppKept, AppNoted, rx_of, tx_of, lanes_of, pair_of, pending_at, with_pending, drains, drained, received, awaited_after, cut_after, given_on, passed_on, back_at, with_back, pass_on, receive_lane, give_back, app_turn}
use Rattle.xsk_app.specs.Ways.{IsGroup}
use Rattle.xsk_app.specs.Stands.{noted_by, kept_by, from_lane, after_full_lane, from_side, after_full_side, by_reply, left, counted, drain_by, doing, GoesOn, to_do}
use Rattle.xsk_app.specs.declared.machine.Machine.{Machine}
use Rattle.xsk_app.specs.declared.machine.Wait.{Wait}
use Rattle.xsk_app.specs.declared.machine.Wait.TheVariants.{DrainRx, ReleaseDrained, PeekRx, ReleaseRx, SubmitTx, PeekComp, ReserveFill, SubmitFill}
use Rattle.xsk_turns.proofs.AppGroups.{with_back-same}
use Rattle.xsk_app.proofs.TurnLemmas.{submit_home, lane_empty, lane_drains, side_empty, give_back_some, give_back_granted}

pub peek_lane : (c : Config) (app lane : ℕ) (noted : AppNoted) (kept : AppKept) (rx batch : ℕ) → lane < lanes_of c → drains c app lane kept ≡ false → pending_at kept lane ≡ []
    → rx ≡ rx_of c app lane → batch ≡ batch_of c
    → ask kept (Peek (Rx rx) batch) (left c app (PeekRx lane) noted kept) ≡ from_lane c app lane noted kept
peek_lane c app lane noted kept rx batch h other empty e f =
    ap (λ (r : ℕ). ask kept (Peek (Rx r) batch) (left c app (PeekRx lane) noted kept)) e
    ∙ ap (λ (n : ℕ). ask kept (Peek (Rx (rx_of c app lane)) n) (left c app (PeekRx lane) noted kept)) f
    ∙ sym (lane_empty c app lane noted kept h other empty)

pub peek_drain : (c : Config) (app lane : ℕ) (noted : AppNoted) (kept : AppKept) (rx batch : ℕ) → lane < lanes_of c → drains c app lane kept ≡ true
    → rx ≡ rx_of c app lane → batch ≡ batch_of c
    → ask kept (Peek (Rx rx) batch) (left c app (DrainRx lane) noted kept) ≡ from_lane c app lane noted kept
peek_drain c app lane noted kept rx batch h closed e f =
    ap (λ (r : ℕ). ask kept (Peek (Rx r) batch) (left c app (DrainRx lane) noted kept)) e
    ∙ ap (λ (n : ℕ). ask kept (Peek (Rx (rx_of c app lane)) n) (left c app (DrainRx lane) noted kept)) f
    ∙ sym (lane_drains c app lane noted kept h closed)

pub release_drained : (c : Config) (app lane : ℕ) (noted : AppNoted) (kept now : AppKept) (items : List Item) (rx count : ℕ) → now ≡ drained c lane kept items → rx ≡ rx_of c app lane → count ≡ length items
    → ask now (Release (Rx rx) count) (left c app (ReleaseDrained lane) noted now) ≡ drain_by c app lane noted kept (Items items)
release_drained c app lane noted kept now items rx count is e f =
    ap (λ (k : AppKept). ask k (Release (Rx rx) count) (left c app (ReleaseDrained lane) noted k)) is
    ∙ ap (λ (r : ℕ). ask (drained c lane kept items) (Release (Rx r) count) (left c app (ReleaseDrained lane) noted (drained c lane kept items))) e
    ∙ ap (λ (n : ℕ). ask (drained c lane kept items) (Release (Rx (rx_of c app lane)) n) (left c app (ReleaseDrained lane) noted (drained c lane kept items))) f

pub release_lane : (c : Config) (app lane : ℕ) (noted : AppNoted) (kept now : AppKept) (items : List Item) (rx count : ℕ) → now ≡ received c app lane kept items → rx ≡ rx_of c app lane → count ≡ length items
    → ask now (Release (Rx rx) count) (left c app (ReleaseRx lane) noted now) ≡ receive_lane c app lane kept (after_full_lane c app lane noted) items
release_lane c app lane noted kept now items rx count is e f =
    ap (λ (k : AppKept). ask k (Release (Rx rx) count) (left c app (ReleaseRx lane) noted k)) is
    ∙ ap (λ (r : ℕ). ask (received c app lane kept items) (Release (Rx r) count) (left c app (ReleaseRx lane) noted (received c app lane kept items))) e
    ∙ ap (λ (n : ℕ). ask (received c app lane kept items) (Release (Rx (rx_of c app lane)) n) (left c app (ReleaseRx lane) noted (received c app lane kept items))) f

-- what is pending on a lane that received is what it counts
pub counted_received : (c : Config) (app lane : ℕ) (kept : AppKept) (items pending : List Item) → lane < length kept.pending → pending ≡ items
    → counted c app lane (with_pending kept lane pending) ≡ received c app lane kept items
counted_received c app lane kept items pending h is =
    let made : List Item → List Item → AppKept = λ ps xs. record (with_pending kept lane ps) { awaited = awaited_after c app lane c.closing xs kept.awaited; cut = cut_after c app lane c.closing xs kept.cut } in
    ap (made pending) (get_or-set_same kept.pending lane pending [] h ∙ is) ∙ ap (λ xs. made xs items) is

pub peek_side : (c : Config) (app side : ℕ) (noted : AppNoted) (kept : AppKept) (pair batch : ℕ) → side < 2 → back_at kept side ≡ []
    → pair ≡ pair_of c app side → batch ≡ batch_of c
    → ask kept (Peek (Comp pair) batch) (left c app (PeekComp side) noted kept) ≡ from_side c app side noted kept
peek_side c app side noted kept pair batch h empty e f =
    ap (λ (d : ℕ). ask kept (Peek (Comp d) batch) (left c app (PeekComp side) noted kept)) e
    ∙ ap (λ (n : ℕ). ask kept (Peek (Comp (pair_of c app side)) n) (left c app (PeekComp side) noted kept)) f
    ∙ sym (side_empty c app side noted kept h empty)

pub reserve_group : (c : Config) (app side : ℕ) (noted : AppNoted) (kept : AppKept) (home count : ℕ)
    → IsGroup (pool_of c) (batch_of c) (back_at kept side) home count
    → ask kept (Reserve (Fill home) count) (left c app (ReserveFill side home count) noted kept)
    ≡ give_back c side zero (back_at kept side) kept (after_full_side c app side noted)
reserve_group c app side noted kept home count group =
    ap (λ (k : AppKept). ask k (Reserve (Fill home) count) (left c app (ReserveFill side home count) noted kept)) (sym (with_back-same kept side))
    ∙ sym (give_back_some c side (back_at kept side) kept (after_full_side c app side noted) home count group)

pub submit_group : (c : Config) (app side : ℕ) (noted : AppNoted) (kept : AppKept) (home count : ℕ) (items : List Item) (rest : List Frame)
    → side < length kept.back → IsGroup (pool_of c) (batch_of c) (back_at kept side) home count → 1 ≤ batch_of c
    → items ≡ map (home_item c.geometry) (take count (back_at kept side)) → rest ≡ drop count (back_at kept side)
    → ask (with_back kept side rest) (Submit (Fill home) items) (left c app (SubmitFill side home) noted (with_back kept side rest))
    ≡ by_reply (give_back c side zero (back_at kept side) kept (after_full_side c app side noted)) Granted
submit_group c app side noted kept home count items rest h group some e f =
    let next = after_full_side c app side noted in
    let back = back_at kept side in
    let here : back_at (with_back kept side rest) side ≡ rest = get_or-set_same kept.back side rest [] h in
    ap (λ (xs : List Item). ask (with_back kept side rest) (Submit (Fill home) xs) (left c app (SubmitFill side home) noted (with_back kept side rest))) e
    ∙ ap (λ (fs : List Frame). submit_home c home (with_back kept side rest) (take count back) (give_back c side zero fs (with_back kept side rest) next)) here
    ∙ ap (λ (fs : List Frame). submit_home c home (with_back kept side fs) (take count back) (give_back c side zero fs (with_back kept side fs) next)) f
    ∙ sym (give_back_granted c side back kept next home count group some)

pub submit_lane : (c : Config) (app lane : ℕ) (noted : AppNoted) (kept now : AppKept) (items : List Item) (tx : ℕ) → now ≡ passed_on c lane kept → items ≡ given_on c lane kept
    → tx ≡ tx_of c app lane
    → ask now (Submit (Tx tx) items) (left c app (SubmitTx lane) noted now) ≡ by_reply (pass_on c app lane kept (after_full_lane c app lane noted)) Granted
submit_lane c app lane noted kept now items tx e f g =
    ap (λ (k : AppKept). ask k (Submit (Tx tx) items) (left c app (SubmitTx lane) noted k)) e
    ∙ ap (λ (xs : List Item). ask (passed_on c lane kept) (Submit (Tx tx) xs) (left c app (SubmitTx lane) noted (passed_on c lane kept))) f
    ∙ ap (λ (t : ℕ). ask (passed_on c lane kept) (Submit (Tx t) (given_on c lane kept)) (left c app (SubmitTx lane) noted (passed_on c lane kept))) g

-- the reply to a Submit
pub submitted_came : (reply : Option Reply) → CanCome submitted reply → reply ≡ Some Submitted
submitted_came None came = absurd came
submitted_came (Some reply) came = ap Some came

-- and that to a Swap or a Look
pub number_came : (reply : Option Reply) → CanCome number reply → (n : ℕ) × (reply ≡ Some (Old n))
number_came None came = absurd came
number_came (Some (Old n)) came = (n, refl)
number_came (Some Granted) came = absurd came
number_came (Some (Full free)) came = absurd came
number_came (Some Submitted) came = absurd came
number_came (Some (Items items)) came = absurd came
number_came (Some Empty) came = absurd came
number_came (Some Released) came = absurd came

-- a reply with no items: none are lent
abbrev items_in : Option Reply → List Item
items_in None = []
items_in (Some reply) = taken reply

lent_none : (answer : Option Answer) (items : List Item) (reply : Reply) → joined_answer answer items ≡ Some reply → taken reply ≡ [] → IsLent answer items → items ≡ []
lent_none None items reply came none lent = lent
lent_none (Some HasItems) items reply came none lent = ap items_in came ∙ none
lent_none (Some Allowed) items reply came none lent = lent
lent_none (Some (IsFull free)) items reply came none lent = lent
lent_none (Some Taken) items reply came none lent = lent
lent_none (Some IsEmpty) items reply came none lent = lent
lent_none (Some Freed) items reply came none lent = lent
lent_none (Some (Was n)) items reply came none lent = lent

-- then it goes on from its waiting point to a call with none
pub goes_bare : (old now : Machine) (answer : Option Answer) (items : List Item) (asked : Option Ask) (wait : Wait) (reply : Reply) → old.wait ≡ wait → joined_answer answer items ≡ Some reply → taken reply ≡ []
    → IsLent answer items → GoesOn old.config.now old.app now (joined_ask asked []) (left old.config.now old.app wait (noted_by old.turn) (kept_by old) reply)
    → GoesOn old.config.now old.app now (joined_ask asked items) (to_do old.config.now old.app old (joined_answer answer items))
goes_bare old now answer items asked wait reply at came none lent goes =
    let c = old.config.now in
    subst (λ (r : Option Reply). GoesOn c old.app now (joined_ask asked items) (to_do c old.app old r)) (sym came)
    (subst (λ (xs : List Item). GoesOn c old.app now (joined_ask asked xs) (to_do c old.app old (Some reply))) (sym (lent_none answer items reply came none lent))
    (subst (λ (w : Wait). GoesOn c old.app now (joined_ask asked []) (left c old.app w (noted_by old.turn) (kept_by old) reply)) (sym at) goes))

-- what it does is begun
pub goes_begun : (c : Config) (app : ℕ) (now : Machine) (act : Act) (script : Script AppKept) → doing c app now act ≡ script → GoesOn c app now act script
goes_begun c app now (Gave call) script is = subst (λ (s : Script AppKept). doing c app now (Gave call) ≡ begun (app_turn c app) s) is refl
goes_begun c app now HasEnded script is = subst (λ (s : Script AppKept). doing c app now HasEnded ≡ begun (app_turn c app) s) is refl
