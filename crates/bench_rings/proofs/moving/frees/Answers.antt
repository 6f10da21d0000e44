use Rattle.bench_rings.proofs.Legality.{room_freed}
use Rattle.bench_rings.proofs.moving.frees.Goals as goal

pub returns-in-Released-clause-room : goal.returns-in-Released-clause-room
returns-in-Released-clause-room c = room_freed c.args.pass.now c.serve.new.self c.args.source c.args.sink c.args.count c.args.most c.args.count _ c.requires.apart c.serve.ensures.told.served c.requires.room
