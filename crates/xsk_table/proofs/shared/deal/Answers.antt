use Rattle.std.proofs.Common.{rules, ◌≡◌, ℕ, ◌+◌, ◌-◌, ◌<◌, [], length, map, sym, ap, subst, ◌∙◌, arith}
use Rattle.std.specs.Vec.{vec_items}
use Rattle.std.specs.List.{range_with_len}
use Rattle.std.proofs.lemmas.List.{map-set, length-set, length-map}
use Rattle.std.specs.Prelude.{Option}
use Rattle.xsk_model.specs.Config.{callers_of}
use Rattle.xsk_table.specs.View.{newcomer, first_caller, other_callers}
use Rattle.xsk_table.specs.Plays.{Seated}
use Rattle.xsk_table.specs.Held.{Board, Holder, known_in, new_pass}
use Rattle.xsk_table.proofs.Seating.{deals}
use Rattle.xsk_table.proofs.Deals.{FirstFrom, from_set, seat_first, seat_others, new_holds, new_sure, new_left, passes_more, read_at}
use Rattle.xsk_table.proofs.shared.deal.Goals as goal

pub split_seat-own-requires-clause-keeps : goal.split_seat-own-requires-clause-keeps
split_seat-own-requires-clause-keeps c = deals _ _ _

pub invariant_of-push_reserved : goal.invariant_of-push_reserved
invariant_of-push_reserved c =
    let inv = c.loop-who.invariant in
    let k = c.args.board.now.setup in
    let own = c.split_seat-own.ensures.right in
    let left : c.loop-who.who < c.args.callers = c.loop-who-test.true in
    let is = ap (λ (m : Seated). m.0) own ∙ ap (λ (m : Seated). first_caller m.0) inv.seat ∙ seat_first k c.loop-who.who (c.args.callers - c.loop-who.who) (omega arith) in
    let there = read_at vec_items c.loop-who.ends.items c.loop-who.who c.replace-list.result _ (omega (arith, left, inv.ends_len)) c.replace-list.ensures.value c.index_mut.ensures.value in (
      new_holds k c.loop-who.who _ _ _ (let z : c.loop-who.who < callers_of k.config = omega (arith, c.requires.callers) in z) c.requires.opened (inv.ends c.loop-who.who _ (omega arith) there) is (ap (λ (m : Seated). m.1) own),
      new_sure k c.loop-who.who _ _ c.requires.opened (inv.ends c.loop-who.who _ (omega arith) there) is,
      new_left k c.loop-who.who _ _ c.requires.opened (inv.ends c.loop-who.who _ (omega arith) there) is,
    )

pub loop-who-preserved : goal.loop-who-preserved
loop-who-preserved c =
    let inv = c.loop-who.invariant in
    let k = c.args.board.now.setup in
    let b : Board = record { table = c.args.board.now.table; setup = k } in
    let split = c.split_seat-own.ensures in
    let left : c.loop-who.who < c.args.callers = c.loop-who-test.true in
    let is = ap (λ (m : Seated). m.0) split.right ∙ ap (λ (m : Seated). first_caller m.0) inv.seat ∙ seat_first k c.loop-who.who (c.args.callers - c.loop-who.who) (omega arith) in
    let others = ap (λ (m : Seated). other_callers m.0) inv.seat ∙ seat_others k c.loop-who.who (c.args.callers - c.loop-who.who) (omega arith) in
    let fewer : c.args.callers - c.loop-who.who - 1 ≡ c.args.callers - (c.loop-who.who + 1) = omega arith in
    let seat : Seated = c.loop-who.seat.me in
    let first : other_callers seat.0 ≡ newcomer k (range_with_len (c.loop-who.who + 1) (c.args.callers - (c.loop-who.who + 1))) = others ∙ ap (λ n. newcomer k (range_with_len (c.loop-who.who + 1) n)) fewer in
    let there = read_at vec_items c.loop-who.ends.items c.loop-who.who c.replace-list.result _ (omega (arith, left, inv.ends_len)) c.replace-list.ensures.value c.index_mut.ensures.value in
    let known = (inv.ends c.loop-who.who _ (omega arith) there k.frames c.requires.opened).1 in
    let holder : Holder = record { table = c.split_seat-own.result.table_id; who = c.loop-who.who; view = c.split_seat-own.result.me.0; known = known_in c.replace-list.result.items } in
    let same : holder ≡ new_pass b c.loop-who.who = λ i. record { table = (split.same.2 ∙ inv.table) i; who = c.loop-who.who; view = is i; known = known i } in
    record {
      table = split.same.0 ∙ inv.table;
      seat = split.left ∙ (λ i. (first i, ap (λ (m : Seated). m.1) inv.seat i));
      passes = c.push_reserved.ensures.items ∙ passes_more b c.loop-who.who c.loop-who.passes.items holder inv.passes same;
      room = search rules;
      len = search rules;
      ends_len = length-set c.loop-who.ends.items c.loop-who.who _ ∙ inv.ends_len;
      ends = subst (FirstFrom k.config k.first (c.loop-who.who + 1)) (sym (map-set vec_items c.loop-who.ends.items c.loop-who.who _)) (from_set k.config k.first c.loop-who.who (map vec_items c.loop-who.ends.items) _ inv.ends);
    }

pub loop-who-init : goal.loop-who-init
loop-who-init c =
    let k = c.args.board.now.setup in
    let count : callers_of k.config ≡ c.args.callers - 0 = omega (arith, c.requires.callers) in
    record {
      table = c.requires.table.0;
      seat = subst (λ (n : ℕ). c.args.seat.me ≡ (newcomer k (range_with_len 0 n), [])) count c.requires.seat;
      passes = c.requires.passes.0;
      room = c.requires.passes.1;
      len = ap (length {A = Option Holder}) c.requires.passes.0;
      ends_len = sym (length-map c.args.ends.items vec_items) ∙ c.requires.ends.0;
      ends = λ w ends from at. c.requires.ends.1 w ends at;
    }
