use Rattle.xsk_cli.proofs.Running.{one_list-writable}
use Rattle.xsk_cli.proofs.texts.capture_text.Goals as goal

pub add-requires : goal.add-requires
add-requires c = rw c.in_ok-capture.ensures (one_list-writable c.args.list.now.packets c.requires.short c.requires.few c.requires.small)
