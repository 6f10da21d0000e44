use Rattle.std.proofs.Common.{length, rules}
use Rattle.xsk_io.proofs.MemoryReads.{bytes_come, none_at_end}
use Rattle.xsk_io.proofs.steady.SteadyBayBay.TheImpl.Goals as goal

pub read-tells : goal.read-tells
read-tells c = record {
  bound = search rules;
  bytes = bytes_come c.args.self.now c.new.self.now c.args.stream c.result c.new.buf.now c.requires.numbered c.requires.input (search rules) c.ensures.bytes c.ensures.after;
  end = none_at_end c.args.self.now c.args.stream c.result (length c.new.buf.now) c.requires.input c.ensures.count;
  failed = search rules;
  left_others = search rules;
  opened = search rules;
  names = search rules;
  held = search rules;
  offers = search rules;
  cause = search rules;
  no_fault = search rules;
  never_falls = search rules;
  counts = search rules;
}
