use Rattle.std.proofs.Common.{arith, refl}
use Rattle.xsk_sim.proofs.Rooms.{payload_within}
use Rattle.xsk_sim.proofs.server.PlainServer.serve.Goals as goal

pub returns-clause-serves : goal.returns-clause-serves
returns-clause-serves c =
    let s = c.serve.ensures in
    record {
      reply = s.reply;
      state = s.state;
      config = s.config;
      calls = s.calls;
      keeps = refl;
      log = λ kept. s.log;
      entries = omega (arith, s.entries);
      bytes = omega (arith, s.bytes, payload_within c.args.self.now.config c.args.ask c.args.items.now c.requires.geometry c.len-count.ensures.few);
    }

pub serve-requires-clause-bytes : goal.serve-requires-clause-bytes
serve-requires-clause-bytes c =
    omega (arith, payload_within c.args.self.now.config c.args.ask c.args.items.now c.requires.geometry c.len-count.ensures.few, c.requires.bytes)
