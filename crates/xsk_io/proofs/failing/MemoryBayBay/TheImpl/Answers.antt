use Rattle.std.proofs.Common.{length, rules}
use Rattle.xsk_io.proofs.Writes.{seen_there, unseen_elsewhere, offer_stream}
use Rattle.xsk_io.proofs.MemoryReads.{bytes_come, none_at_end_of}
use Rattle.xsk_io.proofs.failing.MemoryBayBay.TheImpl.Goals as goal

pub read-tells : goal.read-tells
read-tells c = record {
  bound = search rules;
  bytes = bytes_come c.args.self.now.memory c.new.self.now.memory c.args.stream c.result c.new.buf.now c.requires.numbered c.requires.input c.ensures.streams c.ensures.bytes (search rules);
  end = none_at_end_of c.args.self.now.memory c.args.stream c.result (length c.new.buf.now) c.requires.input c.ensures.count;
  failed = search rules;
  left_others = search rules;
  opened = search rules;
  names = search rules;
  held = search rules;
  offers = search rules;
  cause = search rules;
  no_fault = search rules;
  never_falls = search rules;
  counts = search rules;
}

pub write-tells : goal.write-tells
write-tells c = record {
  bound = search rules;
  some = search rules;
  bytes = search rules;
  failed = search rules;
  held_others = search rules;
  offered = seen_there c.args.self.now.offers c.new.self.now.offers _ c.args.stream c.ensures.offers (offer_stream c.args.stream (length c.args.piece.now) c.result);
  other_offers = unseen_elsewhere c.args.self.now.offers c.new.self.now.offers _ c.args.stream c.ensures.offers (offer_stream c.args.stream (length c.args.piece.now) c.result);
  opened = search rules;
  names = search rules;
  left = search rules;
  cause = search rules;
  no_fault = search rules;
  never_falls = search rules;
  counts = search rules;
}
