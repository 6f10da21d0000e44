use Rattle.std.proofs.Common.{[], refl, sym, ap}
use Rattle.xsk_recording.specs.Header.{Header}
use Rattle.xsk_recording.specs.Text.{lines_after}
use Rattle.xsk_recording.specs.Feeding.{has_no_feed}
use Rattle.xsk_recording.proofs.reading.Reading.new.Goals as goal

pub returns : goal.returns
unfolding lines_after
returns c = record {
  whole = [];
  text_is = sym c.new-2.ensures.items;
  lines = tt;
  begun = ap has_no_feed c.new-2.ensures.items;
  read = refl;
  shows = record {
    next = ap (λ (h : Header). h.next) c.new.ensures;
    header = c.new.ensures;
    time = refl;
    lines = refl;
  };
}
