use Rattle.std.proofs.Common.{rules, ◌≡◌, map, string_bytes, None}
use Rattle.xsk_io.specs.Bay.{Moment}
use Rattle.xsk_cli.specs.Words.{gen_plan}
use Rattle.xsk_cli.proofs.Coming.{usage_comes}
use Rattle.xsk_cli.proofs.plain.run_gen.Goals as goal

pub returns-in_default : goal.returns-in_default
returns-in_default g c =
    let now : Moment = g.B.Bay.moment c.args.bay.now in
    let none : gen_plan (map string_bytes c.args.words.now) ≡ None = search rules in
    usage_comes (gen_plan (map string_bytes c.args.words.now)) now c.requires none
