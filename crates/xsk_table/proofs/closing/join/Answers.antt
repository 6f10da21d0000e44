use Rattle.std.proofs.Common.{◌≡◌, ◌<◌, ap, subst, ◌∙◌, arith, None, get_or, get_or-set_other}
use Rattle.xsk_model.specs.Config.{callers_of}
use Rattle.xsk_table.specs.View.{View, told_of}
use Rattle.xsk_table.specs.Plays.{Seated}
use Rattle.xsk_table.specs.Meeting.{Met}
use Rattle.xsk_table.proofs.Ending.{joined_more}
use Rattle.xsk_table.proofs.closing.join.Goals as goal

pub take_seat-other-requires : goal.take_seat-other-requires
take_seat-other-requires c =
    let lt : c.loop-who.who < callers_of c.args.board.now.setup.config = (let t = c.loop-who-test.true in let is = c.requires.callers.0 in omega arith) in
    let t = c.requires.there c.loop-who.who lt in
    (t.0, c.loop-who.invariant.left c.loop-who.who (omega arith) ∙ t.1)

pub take_in-requires-clause-table : goal.take_in-requires-clause-table
take_in-requires-clause-table c =
    let lt : c.loop-who.who < callers_of c.args.board.now.setup.config = (let t = c.loop-who-test.true in let is = c.requires.callers.0 in omega arith) in
    let t = c.requires.there c.loop-who.who lt in
    let got = c.take_seat-other.ensures.seat t.0 (c.loop-who.invariant.left c.loop-who.who (omega arith) ∙ t.1) in
    (c.loop-who.invariant.table, got.0 ∙ t.2.table, c.requires.words)

pub take_in-requires-clause-alone : goal.take_in-requires-clause-alone
take_in-requires-clause-alone c =
    let lt : c.loop-who.who < callers_of c.args.board.now.setup.config = (let t = c.loop-who-test.true in let is = c.requires.callers.0 in omega arith) in
    let t = c.requires.there c.loop-who.who lt in
    let at = c.loop-who.invariant.left c.loop-who.who (omega arith) ∙ t.1 in
    let me = (c.take_seat-other.ensures.seat t.0 at).1 in
    (c.loop-who.invariant.joined.alone, ap (λ (m : Seated). m.0.others) me ∙ (c.take_seat-other.ensures.rests t.0 at).1, ap (λ (m : Seated). m.1) me)

pub take_in-requires-clause-rests : goal.take_in-requires-clause-rests
take_in-requires-clause-rests c w p =
    let lt : c.loop-who.who < callers_of c.args.board.now.setup.config = (let t = c.loop-who-test.true in let is = c.requires.callers.0 in omega arith) in
    let t = c.requires.there c.loop-who.who lt in
    let at = c.loop-who.invariant.left c.loop-who.who (omega arith) ∙ t.1 in
    (c.loop-who.invariant.joined.rests, ap (λ (m : Seated). m.0.flight) (c.take_seat-other.ensures.seat t.0 at).1 ∙ (c.take_seat-other.ensures.rests t.0 at).2)

pub loop-who-preserved : goal.loop-who-preserved
loop-who-preserved c =
    let inv = c.loop-who.invariant in
    let who = c.loop-who.who in
    let k = c.args.board.now.setup in
    let lt : who < callers_of k.config = (let t = c.loop-who-test.true in let is = c.requires.callers.0 in omega arith) in
    let t = c.requires.there who lt in
    let at = inv.left who (omega arith) ∙ t.1 in
    let view : c.take_seat-other.result.me.0 ≡ t.0.view = ap (λ (m : Seated). m.0) (c.take_seat-other.ensures.seat t.0 at).1 in
    let v : View = c.loop-who.seat.me.0 in
    let did = subst (λ (u : View). Met k (told_of v u, c.loop-who.seat.me.1) c.take_in.new.seat.me) view c.take_in.ensures.told in
    record {
      table = c.take_in.ensures.same.0 ∙ inv.table;
      joined = joined_more k c.args.passes who t.0 v c.loop-who.seat.me.1 c.take_in.new.seat.me inv.joined t.1 (c.take_seat-other.ensures.rests t.0 at).0 did;
      left = λ w le. ap (λ l. get_or l w None) c.take_seat-other.ensures.left ∙ get_or-set_other c.loop-who.passes who w None None (λ e. omega arith) ∙ inv.left w (omega arith);
    }
