use Rattle.xsk_model.proofs.LayoutLaws.{packets-layout}
use Rattle.xsk_desc.proofs.laws.packet_of_a_layout.Goals as goal

pub returns : goal.returns
returns c = λ g sg packet items lawful. packets-layout g sg lawful packet items
