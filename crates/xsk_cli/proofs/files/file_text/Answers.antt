use Rattle.std.proofs.Common.{rules, IfOk, ◌≡◌, List, ℕ, sym, subst}
use Rattle.xsk_pcapng.specs.Written.{IsWritable, written as written_file}
use Rattle.xsk_cli.proofs.Filing.{joined_as_is}
use Rattle.xsk_cli.proofs.files.file_text.Goals as goal

pub write_over-requires : goal.write_over-requires
write_over-requires c =
    subst IsWritable (joined_as_is c.args.ports c.args.each c.args.lists.now (search rules) c.requires.count) c.requires.writable

pub returns-then-each-eq1 : goal.returns-then-each-eq1
returns-then-each-eq1 c =
    subst (λ (ls : List (List (List ℕ))). IfOk c.write_over.result (λ text. text.items ≡ written_file ls)) (sym (joined_as_is c.args.ports c.args.each c.args.lists.now (search rules) c.requires.count)) c.write_over.ensures
