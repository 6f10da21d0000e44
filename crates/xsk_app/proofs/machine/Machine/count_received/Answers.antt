use Rattle.std.proofs.Common.{rules, arith, ◌≡◌, ◌≢◌, ◌-◌, List, [], length, sym, ap, ◌∙◌}
use Rattle.std.proofs.lemmas.List.{get_or_default}
use Rattle.xsk_umem.specs.declared.batch.Item.{Item}
use Rattle.xsk_turns.specs.AppTurns.{rx_of, tx_of, pending_at, is_cut}
use Rattle.xsk_app.specs.Stands.{kept_by}
use Rattle.xsk_app.proofs.Shutting.{counted_rx, counted_tx, counted_other}
use Rattle.xsk_app.proofs.Ways.{way_read}
use Rattle.xsk_app.proofs.machine.Machine.count_received.Goals as goal

pub returns-then-way-socket-clause-kept : goal.returns-then-way-socket-clause-kept
returns-then-way-socket-clause-kept c =
    let m = c.args.self.now in
    let k = m.config.now in
    let lane = c.args.lane in
    let way = c.index-way.result.now in
    let read = way_read k m.app lane m.ways.items way m.ways_are (omega (arith, c.requires.lane, m.lanes)) c.index-way.ensures in
    let test : way.rx ≡ c.args.socket = search rules in
    let rx : rx_of k m.app lane ≡ c.args.socket = sym read.rx ∙ test in
    let items : c.index-items.result.now ≡ pending_at (kept_by m) lane =
    c.index-items.ensures ∙ get_or_default m.pending.items lane c.index-items.result.now [] (omega (arith, c.requires.lane)) in
    let cut = c.is_cut-cut.ensures ∙ ap (λ (xs : List Item). is_cut xs) items in
    let count = c.len-count.ensures.value ∙ ap (λ (xs : List Item). length xs) items in
    let awaited : c.saturating_sub-self.result ≡ m.awaited - length (pending_at (kept_by m) lane) = omega (arith, c.saturating_sub-self.ensures, count) in
    counted_rx k m.app lane c.args.socket c.saturating_sub-self.result way.side c.is_cut-cut.result (kept_by m) c.requires.closing rx awaited read.side cut

pub returns-then-way-socket-2-clause-kept : goal.returns-then-way-socket-2-clause-kept
returns-then-way-socket-2-clause-kept c =
    let m = c.args.self.now in
    let k = m.config.now in
    let lane = c.args.lane in
    let way = c.index-way.result.now in
    let read = way_read k m.app lane m.ways.items way m.ways_are (omega (arith, c.requires.lane, m.lanes)) c.index-way.ensures in
    let test : way.rx ≢ c.args.socket = search rules in
    let test-2 : way.tx ≡ c.args.socket = search rules in
    let tx : tx_of k m.app lane ≡ c.args.socket = sym read.tx ∙ test-2 in
    let items : c.index-items.result.now ≡ pending_at (kept_by m) lane =
    c.index-items.ensures ∙ get_or_default m.pending.items lane c.index-items.result.now [] (omega (arith, c.requires.lane)) in
    let cut = c.is_cut-cut.ensures ∙ ap (λ (xs : List Item). is_cut xs) items in
    counted_tx k m.app lane c.args.socket way.side c.is_cut-cut.result (kept_by m) c.requires.closing (λ e. test (read.rx ∙ e)) tx read.side cut

pub returns-else-way-socket-2-clause-kept : goal.returns-else-way-socket-2-clause-kept
returns-else-way-socket-2-clause-kept c =
    let m = c.args.self.now in
    let k = m.config.now in
    let lane = c.args.lane in
    let way = c.index-way.result.now in
    let read = way_read k m.app lane m.ways.items way m.ways_are (omega (arith, c.requires.lane, m.lanes)) c.index-way.ensures in
    let test : way.rx ≢ c.args.socket = search rules in
    let test-2 : way.tx ≢ c.args.socket = search rules in
    counted_other k m.app lane c.args.socket (kept_by m) c.requires.closing (λ e. test (read.rx ∙ e)) (λ e. test-2 (read.tx ∙ e))
