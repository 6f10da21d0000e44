use Rattle.std.proofs.Common.{◌+◌, ◌%◌, ◌∙◌, ap, sym}
use Rattle.xsk_table.specs.View.{View}
use Rattle.xsk_table.specs.Plays.{ask_for}
use Rattle.xsk_umem.specs.Geometry.{frame_of}
use Rattle.xsk_table.proofs.Moving.{this_place, first_word, entry_fits, some_words, place_small, fetched_front, emptied_first, still_position, out}
use Rattle.xsk_table.proofs.moves.fetch.Goals as goal

pub read_entry-addr-requires-clause-word : goal.read_entry-addr-requires-clause-word
read_entry-addr-requires-clause-word c =
    let b = c.requires.base in
    let p = c.requires.position in
    let k = c.args.board.now.setup in (
      some_words c.args.ring c.entry_word-word.result _ (entry_fits c.args.ring c.args.base (c.args.mask + 1) (c.args.position % (c.args.mask + 1)) c.entry_word-word.result _ (place_small c.args.position c.args.mask) c.entry_word-word.ensures.value b.1),
      (
        p.0,
        p.1,
        first_word k.config c.args.ring c.args.base c.args.mask _ (k.first + p.0) c.entry_word-word.result b.0 c.requires.size.0 (this_place k (c.args.mask + 1) p.0 c.args.position c.requires.size.1 p.2) c.entry_word-word.ensures.value,
      ),
    )

pub empty_slot-frame-requires-clause-front : goal.empty_slot-frame-requires-clause-front
empty_slot-frame-requires-clause-front c =
    let f = c.requires.flight in
    let t = fetched_front (ask_for c.args.board.now.setup c.args.who c.args.ring 0) f.0 f.1 _ _ _ (c.read_entry-addr.ensures.told f.0 f.1 f.2) in
    (f.0.frame, t.0 ∙ ap (λ g. frame_of g c.read_entry-addr.result) (sym c.requires.table.1), t.1)

pub read_desc-desc-requires-clause-caller : goal.read_desc-desc-requires-clause-caller
read_desc-desc-requires-clause-caller c =
    let f = c.requires.flight in
    let did = c.read_entry-addr.ensures.told f.0 f.1 f.2 in
    let t = fetched_front (ask_for c.args.board.now.setup c.args.who c.args.ring 0) f.0 f.1 _ _ _ did in
    let e = c.empty_slot-frame.ensures.told f.0.frame (t.0 ∙ ap (λ g. frame_of g c.read_entry-addr.result) (sym c.requires.table.1)) t.1 in
    (ap (λ (v : View). v.callers) (e.view ∙ did.view) ∙ c.requires.caller.0, c.requires.caller.1, c.requires.caller.2, c.requires.caller.3)

pub read_desc-desc-requires-clause-alone : goal.read_desc-desc-requires-clause-alone
read_desc-desc-requires-clause-alone c =
    let f = c.requires.flight in
    let did = c.read_entry-addr.ensures.told f.0 f.1 f.2 in
    let t = fetched_front (ask_for c.args.board.now.setup c.args.who c.args.ring 0) f.0 f.1 _ _ _ did in
    let e = c.empty_slot-frame.ensures.told f.0.frame (t.0 ∙ ap (λ g. frame_of g c.read_entry-addr.result) (sym c.requires.table.1)) t.1 in
    ap (λ (v : View). v.others) (e.view ∙ did.view) ∙ c.requires.alone

pub read_desc-desc-requires-clause-flight : goal.read_desc-desc-requires-clause-flight
read_desc-desc-requires-clause-flight c =
    let f = c.requires.flight in
    let b = c.requires.base in
    let p = c.requires.position in
    let k = c.args.board.now.setup in
    let did = c.read_entry-addr.ensures.told f.0 f.1 f.2 in
    let t = fetched_front (ask_for k c.args.who c.args.ring 0) f.0 f.1 _ _ _ did in
    let e = c.empty_slot-frame.ensures.told f.0.frame (t.0 ∙ ap (λ g. frame_of g c.read_entry-addr.result) (sym c.requires.table.1)) t.1 in (
      f.0,
      f.1,
      ap (λ (v : View). v.flight) (e.view ∙ did.view),
      emptied_first f.0.frame _ _ _ e,
      (
        p.0,
        still_position k c.args.who c.args.ring c.args.seat.now.me.0 c.empty_slot-frame.new.seat.me.0 p.0 f.0 f.1 f.2 (ap (λ (v : View). v.seen) (e.view ∙ did.view)) p.1,
        first_word k.config c.args.ring c.args.base c.args.mask _ (k.first + p.0) c.entry_word-word.result b.0 c.requires.size.0 (this_place k (c.args.mask + 1) p.0 c.args.position c.requires.size.1 p.2) c.entry_word-word.ensures.value,
      ),
    )

pub read_desc-desc-requires-clause-within : goal.read_desc-desc-requires-clause-within
read_desc-desc-requires-clause-within c = (
  entry_fits c.args.ring c.args.base (c.args.mask + 1) (c.args.position % (c.args.mask + 1)) c.entry_word-word.result _ (place_small c.args.position c.args.mask) c.entry_word-word.ensures.value c.requires.base.1,
  c.entry_word-word.ensures.few,
)

pub returns-clause-told : goal.returns-clause-told
returns-clause-told c x left flies =
    let k = c.args.board.now.setup in
    let did = c.read_entry-addr.ensures.told x left flies in
    let t = fetched_front (ask_for k c.args.who c.args.ring 0) x left _ _ _ did in
    let e = c.empty_slot-frame.ensures.told x.frame (t.0 ∙ ap (λ g. frame_of g c.read_entry-addr.result) (sym c.requires.table.1)) t.1 in
    let s = c.read_desc-desc.ensures.told x left (ap (λ (v : View). v.flight) (e.view ∙ did.view)) did.found_is did.lawful in
    out (ask_for k c.args.who c.args.ring 0) x left _ _ _ _ _ _ _ did e s.0 s.1
