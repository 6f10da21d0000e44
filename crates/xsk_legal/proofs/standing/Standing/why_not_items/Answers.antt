use Rattle.std.proofs.Common.{◌≡◌, ◌≤◌, All, length, subst, arith, true, false}
use Rattle.xsk_model.specs.Legal.{IsItemOn}
use Rattle.xsk_model.specs.Own.{room_of}
use Rattle.xsk_model.specs.Swaps.{IsFed}
use Rattle.xsk_legal.specs.Pieces.{MaySubmit}
use Rattle.xsk_legal.proofs.Allowed.{may_legal, packets_placed, placed_packets}
use Rattle.xsk_legal.proofs.Frames.{has_to_had, had_to_has}
use Rattle.xsk_legal.proofs.Setting.{open_is_fed}
use Rattle.xsk_legal.proofs.standing.Standing.why_not_items.Goals as goal

pub returns-then-not-has_frames : goal.returns-then-not-has_frames
returns-then-not-has_frames c = λ mine h.
    let config = c.args.config.now in
    let kept = c.args.self.now in
    let room : length c.args.items.now ≤ room_of c.args.ring mine = omega (arith, c.requires.room, h.keeps.room c.args.ring c.requires.ring) in
    let lawful : All (IsItemOn config.geometry c.args.ring) c.args.items.now =
    subst (λ g. All (IsItemOn g c.args.ring) c.args.items.now) c.geometry.ensures.value (c.are_items.ensures.0 c.if-not-are_items.false) in (
      ((h.caller, c.requires.ring, c.requires.role), (c.requires.some, c.requires.few, room)),
      lawful,
      λ frames.
          let yes : c.has_frames.result ≡ true = c.has_frames.ensures.1 (had_to_has config kept mine h c.args.ring c.args.items.now lawful frames) in
          let no : c.has_frames.result ≡ false = c.if-not-has_frames.true in
          absurd (cc),
    )

pub returns-then-not-may_place : goal.returns-then-not-may_place
returns-then-not-may_place c = λ mine h.
    let config = c.args.config.now in
    let kept = c.args.self.now in
    let room : length c.args.items.now ≤ room_of c.args.ring mine = omega (arith, c.requires.room, h.keeps.room c.args.ring c.requires.ring) in
    let lawful : All (IsItemOn config.geometry c.args.ring) c.args.items.now =
    subst (λ g. All (IsItemOn g c.args.ring) c.args.items.now) c.geometry.ensures.value (c.are_items.ensures.0 c.if-not-are_items.false) in
    let frames = has_to_had config kept mine h c.args.items.now (c.has_frames.ensures.0 c.if-not-has_frames.false) in (
      (((h.caller, c.requires.ring, c.requires.role), (c.requires.some, c.requires.few, room)), lawful, frames),
      λ packets.
          let yes : c.may_place.result ≡ true =
          c.may_place.ensures.1 (packets_placed config kept mine c.args.items.now c.geometry.ensures.lawful h c.args.ring c.requires.ring c.requires.role c.requires.some lawful frames packets) in
          let no : c.may_place.result ≡ false = c.if-not-may_place.true in
          absurd (cc),
    )

pub returns-then-not-is_open : goal.returns-then-not-is_open
returns-then-not-is_open c = λ mine h.
    let config = c.args.config.now in
    let kept = c.args.self.now in
    let room : length c.args.items.now ≤ room_of c.args.ring mine = omega (arith, c.requires.room, h.keeps.room c.args.ring c.requires.ring) in
    let lawful : All (IsItemOn config.geometry c.args.ring) c.args.items.now =
    subst (λ g. All (IsItemOn g c.args.ring) c.args.items.now) c.geometry.ensures.value (c.are_items.ensures.0 c.if-not-are_items.false) in
    let has_each = c.has_frames.ensures.0 c.if-not-has_frames.false in
    let may : MaySubmit config kept c.args.ring c.args.items.now = record {
      some = c.requires.some;
      few = c.requires.few;
      room = c.requires.room;
      lawful = lawful;
      frames = has_each;
      packets = c.may_place.ensures.0 c.if-not-may_place.false;
    } in (
      (((h.caller, c.requires.ring, c.requires.role), (c.requires.some, c.requires.few, room)), lawful, has_to_had config kept mine h c.args.items.now has_each),
      placed_packets config kept mine c.args.items.now c.geometry.ensures.lawful h c.args.ring c.requires.ring c.requires.role may,
      λ fed.
          let yes : c.is_open.result ≡ true = c.is_open.ensures.1 ((open_is_fed config kept mine h c.args.ring).1 fed) in
          let no : c.is_open.result ≡ false = c.if-not-is_open.true in
          absurd (cc),
    )

pub returns : goal.returns
returns c = λ mine h.
    let config = c.args.config.now in
    let kept = c.args.self.now in
    let lawful : All (IsItemOn config.geometry c.args.ring) c.args.items.now =
    subst (λ g. All (IsItemOn g c.args.ring) c.args.items.now) c.geometry.ensures.value (c.are_items.ensures.0 c.if-not-are_items.false) in
    let may : MaySubmit config kept c.args.ring c.args.items.now = record {
      some = c.requires.some;
      few = c.requires.few;
      room = c.requires.room;
      lawful = lawful;
      frames = c.has_frames.ensures.0 c.if-not-has_frames.false;
      packets = c.may_place.ensures.0 c.if-not-may_place.false;
    } in
    let fed : IsFed config mine c.args.ring = (open_is_fed config kept mine h c.args.ring).0 (c.is_open.ensures.0 c.if-not-is_open.false) in
    may_legal config kept mine c.args.items.now c.geometry.ensures.lawful h c.args.ring c.requires.ring c.requires.role fed may
