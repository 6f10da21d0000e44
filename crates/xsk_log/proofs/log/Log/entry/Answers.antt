use Rattle.std.proofs.Common.{◌≡◌, List, map, take, drop, ap, subst}
use Rattle.std.specs.Prelude.{sum_by}
use Rattle.xsk_umem.specs.declared.batch.Item.{Item}
use Rattle.xsk_model.specs.Asks.{ask_of, answer_of}
use Rattle.xsk_model.specs.Entry.{Entry}
use Rattle.xsk_log.specs.Log.{entry_with, item_of}
use Rattle.xsk_log.specs.Pieces.{count_of}
use Rattle.xsk_log.proofs.RowLines.{row_entry}
use Rattle.xsk_log.proofs.log.Log.entry.Goals as goal

pub returns : goal.returns
returns c e found =
    let log = c.args.self.now in
    let row = c.get-row.result in
    let all : List Item = map (item_of log.bytes.items) log.pieces.items in
    let items : List Item = take row.items (drop (sum_by count_of (take c.args.i log.rows.items)) all) in
    let here = row_entry log.rows.items c.args.i row all c.get-row.ensures in
    let same : entry_with row.who row.event items ≡ e = cc in
    let who : row.who ≡ e.who = ap (λ (one : Entry). one.who) same in
    let ask : c.ask_in.result ≡ ask_of e.call = subst (λ (one : Entry). c.ask_in.result ≡ ask_of one.call) same (c.ask_in.ensures items) in
    let answer : c.answer_in.result ≡ answer_of e.reply = subst (λ (one : Entry). c.answer_in.result ≡ answer_of one.reply) same (c.answer_in.ensures items) in
    λ i. record { who = who i; ask = ask i; answer = answer i }
