-- The words of a configuration, its object and its histories, as most proofs cite them, passed on from one place. Declares
-- nothing.
pub use Rattle.xsk_umem.specs.Geometry.{payload_of, Geometry, IsGeometry, IsChunkSize, area_of, data_of, frame_of}
pub use Rattle.xsk_umem.specs.Frame.{Frame, written_at}
pub use Rattle.xsk_model.specs.Config.{Config, pool_of, batch_of, classes_of, IsConfig, IsRegular, pair_at, map_of, HasRing, callers_of, socket_at, IsBound, IsServed, IsRingSize, least, pair_sizes, size_or_none, socket_sizes}
pub use Rattle.xsk_model.specs.declared.config.PairInfo.{PairInfo}
pub use Rattle.xsk_model.specs.declared.config.SocketInfo.{SocketInfo}
pub use Rattle.xsk_model.specs.Rings.{caller_of, application_on, app_of, producer, consumer, is_ring, port_of, queue_of}
pub use Rattle.xsk_model.specs.Marks.{apps_of, HasMark, IsMarkNumber}
pub use Rattle.xsk_model.specs.Swaps.{MaySwap, IsFed}
pub use Rattle.xsk_model.specs.Numbers.{times, numbers, number_of, without}
pub use Rattle.xsk_model.specs.Descriptor.{is_valid, is_inside, has_bytes, fits_chunk, has_known_options, body_of, payload}
pub use Rattle.xsk_model.specs.Packets.{IsLayout, IsWhole, packets, whole_packets, rest, packets_from, bad_items, bytes_of, Packet, whole, bad, items_of, rest_from, IsCut, options_before, HoldsPiece, HoldPieces, ended_by, group_after}
pub use Rattle.xsk_model.specs.Object.{submitted, taken}
pub use Rattle.xsk_model.specs.Own.{room_of, is_from_fill, completed_by, waiting, tx_work_of, had_of, is_on, peeked_of, peeked_step, submitted_of, submitted_step, TxWork, is_fill_peek, fill_step, tx_work_after, is_same, held_of, room_step, held_step}
pub use Rattle.xsk_model.specs.Opening.{home_item}
pub use Rattle.xsk_model.specs.Legal.{IsLegal, IsItemOn, AreReceived, AreCompleted}
pub use Rattle.xsk_model.specs.History.{OwnGoesOn, Fits, AreFresh}
pub use Rattle.xsk_model.specs.Sent.{sockets_of, completed_in, sent_from, sockets_from}
pub use Rattle.xsk_model.specs.Ends.{Draining, unseen_after, draining_of, Telling, telling_after, telling_of, are_none, draining_after, draining_step, telling_step}
