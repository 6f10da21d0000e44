use Rattle.std.proofs.Common.{length}
use Rattle.bench_rings.proofs.Legality.{room_put, held_put}
use Rattle.bench_rings.proofs.moving.puts.Goals as goal

pub returns-in-Submitted-clause-held : goal.returns-in-Submitted-clause-held
returns-in-Submitted-clause-held c = held_put c.args.pass.now c.serve.new.self c.args.source c.args.sink c.args.items.now (length c.args.items.now) _ c.requires.apart c.serve.ensures.told.served c.requires.held

pub returns-in-Submitted-clause-room : goal.returns-in-Submitted-clause-room
returns-in-Submitted-clause-room c = room_put c.args.pass.now c.serve.new.self c.args.sink c.args.items.now _ c.args.most c.serve.ensures.told.served c.requires.room
