use Rattle.std.proofs.Common.{rules, ◌≡◌, length, map, subst, sym}
use Rattle.xsk_model.specs.Config.{IsRegular, callers_of}
use Rattle.xsk_turns.specs.Workers.{Setting}
use Rattle.xsk_workers.specs.Members.{member_seat}
use Rattle.xsk_workers.specs.Terms.{setting_over}
use Rattle.xsk_workers.proofs.Gathering.{are_on, will_have_run}
use Rattle.xsk_workers.proofs.Sleeping.{few_wakers}
use Rattle.xsk_workers.proofs.forwarding.run_drivers.Goals as goal

pub seat_members-requires-clause-few : goal.seat_members-requires-clause-few
seat_members-requires-clause-few g c =
    let few = few_wakers _ _ c.args.terms.config.now.wakeup (length c.args.terms.config.now.pairs) c.in_ok-parkers.ensures.count c.in_ok-parkers.ensures.tied in search (rules, few)

pub run_members-requires-clause-regular : goal.run_members-requires-clause-regular
run_members-requires-clause-regular g c κs within = subst IsRegular (sym c.requires.table) c.requires.regular

pub run_members-requires-clause-on : goal.run_members-requires-clause-on
run_members-requires-clause-on g c κs within =
    let b = c.args.shared.now in
    are_on b c.args.terms.hands (setting_over c.args.terms g.V.Verdicts.verdicts) 0 (callers_of b.setup.config) c.in_ok-members.members.items c.in_ok-members.ensures.seats

pub run_members-requires-clause-run : goal.run_members-requires-clause-run
run_members-requires-clause-run g c κs within =
    let s : Setting = setting_over c.args.terms g.V.Verdicts.verdicts in
    let config : s.config ≡ c.args.shared.now.setup.config = sym c.requires.table in
    (c.args.terms.hands, s, will_have_run c.args.shared.now c.args.terms.hands s (map member_seat c.in_ok-members.members.items) config c.requires.unchanged c.in_ok-members.ensures.seats)

pub returns : goal.returns
returns g c =
    let s : Setting = setting_over c.args.terms g.V.Verdicts.verdicts in
    let config : s.config ≡ c.args.shared.now.setup.config = sym c.requires.table in
    c.run_members.ensures c.args.terms.hands s (will_have_run c.args.shared.now c.args.terms.hands s (map member_seat c.in_ok-members.members.items) config c.requires.unchanged c.in_ok-members.ensures.seats)
