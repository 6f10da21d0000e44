use Rattle.std.proofs.Common.{rules, ◌≡◌, ℕ, ◌+◌, ◌<◌, ◌==◌, [], ◌∷◌, length, map, arith, sym, ap, subst, ◌∙◌, Bool, length-append}
use Rattle.std.specs.List.{range_with_len}
use Rattle.xsk_model.specs.Config.{callers_of}
use Rattle.xsk_turns.specs.Workers.{Setting}
use Rattle.xsk_table.specs.Held.{Holder, new_pass}
use Rattle.xsk_workers.specs.Terms.{setting_over}
use Rattle.xsk_workers.specs.Shown.{seat_with, seat_at}
use Rattle.xsk_workers.specs.Members.{member_seat}
use Rattle.xsk_workers.specs.Gathering.{AreTaken}
use Rattle.xsk_workers.proofs.Gathering.{taken_more, is_new_pass}
use Rattle.xsk_workers.proofs.Seats.{is_app, one_seated, seated_count}
use Rattle.xsk_workers.proofs.seating.seat_members.Goals as goal

pub loop-who-init : goal.loop-who-init
loop-who-init g c =
    let b = c.args.shared.now in
    let s : Setting = setting_over c.args.source.terms g.V.Verdicts.verdicts in
    let ms = c.seat_drivers.new.members.items in
    let pairs : length c.args.source.terms.config.now.pairs ≡ length c.pairs.result.now = sym (ap length c.pairs.ensures.value) in
    let seats : map member_seat ms ≡ map (seat_at c.args.source.terms.hands s b) (range_with_len 0 (length c.pairs.result.now)) =
    subst (λ (n : ℕ). map member_seat ms ≡ map (seat_at c.args.source.terms.hands s b) (range_with_len 0 n)) pairs (c.seat_drivers.ensures.seats c.args.source.terms.hands) in (
      subst (λ (n : ℕ). AreTaken b n c.seat_drivers.new.passes) pairs c.seat_drivers.ensures.taken,
      seats,
      seated_count c.args.source.terms.hands s b (length c.pairs.result.now) ms seats,
      omega (arith, pairs),
      omega (arith, c.seat_drivers.ensures.room, c.in_ok-members.ensures.capacity, c.callers-callers.ensures),
    )

pub seat_app-requires-clause-unused : goal.seat_app-requires-clause-unused
seat_app-requires-clause-unused g c =
    let b = c.args.shared.now in
    let below : c.loop-who.who < callers_of b.setup.config = search rules in
    let is : c.in-Some.pass ≡ new_pass b c.loop-who.who = is_new_pass b c.loop-who.who c.loop-who.passes c.in-Some.pass below c.loop-who.invariant.0 (search rules) in
    (ap (λ (p : Holder). p.view.flight) is, ap (λ (p : Holder). p.view.seen) is, ap (λ (p : Holder). p.view.setup.config) is ∙ c.requires.table)

pub loop-who-preserved : goal.loop-who-preserved
loop-who-preserved g c =
    let b = c.args.shared.now in
    let hands = c.args.source.terms.hands in
    let s : Setting = setting_over c.args.source.terms g.V.Verdicts.verdicts in
    let who = c.loop-who.who in
    let below : who < callers_of b.setup.config = search rules in
    let is : c.in-Some.pass ≡ new_pass b who = is_new_pass b who c.loop-who.passes c.in-Some.pass below c.loop-who.invariant.0 (search rules) in
    let member = c.in_ok-member.member in
    let seat : member_seat member ≡ seat_at hands s b who =
    c.in_ok-member.ensures ∙ ap (λ (p : Holder). seat_with s p (hands == 1)) is ∙ ap (λ (x : Bool). seat_with s (new_pass b who) x) (sym (is_app hands s who c.loop-who.invariant.3)) in (
      subst (AreTaken b (who + 1)) (sym c.take.ensures.left) (taken_more b who c.loop-who.passes below c.loop-who.invariant.0),
      one_seated hands s b who c.loop-who.members.items c.push_reserved.new.self.items member c.push_reserved.ensures.items seat c.loop-who.invariant.1,
      ap length c.push_reserved.ensures.items ∙ length-append c.loop-who.members.items (member ∷ []) ∙ ap (λ n. n + 1) c.loop-who.invariant.2,
      search rules,
      search rules,
    )
