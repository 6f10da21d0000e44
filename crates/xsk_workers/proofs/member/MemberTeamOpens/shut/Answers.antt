use Rattle.std.proofs.Common.{ap}
use Rattle.xsk_workers.specs.Hands.{team_seat}
use Rattle.xsk_workers.proofs.member.MemberTeamOpens.shut.Goals as goal

pub returns : goal.returns
returns g c = ap team_seat c.new.ensures
