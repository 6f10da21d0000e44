use Rattle.std.proofs.Common.{rules, ◌≡◌, map, string_bytes, length}
use Rattle.xsk_io.specs.Bay.{Moment}
use Rattle.xsk_cli.specs.Words.{plan_of}
use Rattle.xsk_cli.proofs.Coming.{usage_comes}
use Rattle.xsk_cli.proofs.Planning.{no_words}
use Rattle.xsk_cli.proofs.plain.run_words.Goals as goal

pub returns-in_default : goal.returns-in_default
returns-in_default g c =
    let now : Moment = g.B.Bay.moment c.args.bay.now in
    let none : length c.args.words.now ≡ 0 = search rules in
    usage_comes (plan_of (map string_bytes c.args.words.now)) now c.requires (no_words string_bytes c.args.words.now none)
