use Rattle.std.proofs.Common.{rules}
use Rattle.xsk_umem.specs.Span.{gap_before}
use Rattle.xsk_umem.proofs.Sharing.{spare_room}
use Rattle.xsk_umem.proofs.packet_list.PacketList.reserve.Goals as goal

pub invariant_of-self-in_err-reserve_own : goal.invariant_of-self-in_err-reserve_own
invariant_of-self-in_err-reserve_own c =
    let room = spare_room c.self.inside.front c.self.inside.spare_packets (gap_before c.self.inside.gaps) c.self.inside.spare_bytes c.self.invariant.5 c.self.invariant.6 in (
      rw (c.reserve.ensures.items, c.reserve_own.ensures.bytes) c.self.invariant.0,
      rw c.reserve.ensures.items c.self.invariant.1,
      search rules,
      c.reserve_own.ensures.kept _ room c.self.invariant.3,
      search rules,
      rw c.reserve_own.ensures.own tt,
      rw c.reserve_own.ensures.own tt,
      rw (c.reserve.ensures.items, c.reserve_own.ensures.bytes) c.self.invariant.7,
    )
