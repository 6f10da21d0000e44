use Rattle.std.proofs.Common.{arith, refl}
use Rattle.xsk_sim.proofs.server.UnloggedServer.serve.Goals as goal

pub returns-clause-serves : goal.returns-clause-serves
returns-clause-serves c =
    let s = c.serve.ensures in
    record {
      reply = λ state shows. s.reply state (record { rings = shows.rings; marks = shows.marks });
      state = λ state shows. (let left = s.state state c.args._who (record { rings = shows.rings; marks = shows.marks }) in record { rings = left.rings; marks = left.marks });
      config = s.config;
      calls = s.calls;
      keeps = refl;
      log = λ kept. let no = kept in cc;
      entries = omega (arith, s.calls);
      bytes = omega (arith, s.calls);
    }
