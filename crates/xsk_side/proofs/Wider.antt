-- Where a kernel is bound less, all that was possible still is: the same history stands.
use Rattle.std.proofs.Common.{ℕ, Bool, ◌&&◌, ◌||◌, not, ◌==◌, Option, List, [], ◌∷◌, IsTrue, arith}
use Rattle.std.specs.List.{slice_index_or}
use Rattle.xsk_umem.specs.declared.batch.XdpDesc.{XdpDesc}
use Rattle.xsk_model.specs.declared.call.Ring.{Ring}
use Rattle.xsk_model.specs.declared.call.Ring.TheVariants.{Fill, Comp, Rx, Tx}
use Rattle.xsk_model.specs.Descriptor.{is_inside, has_bytes, fits_chunk}
use Rattle.xsk_side.specs.Setting.{Setting, HasRing, pair_of}
use Rattle.xsk_side.specs.Entries.{is_laid}
use Rattle.xsk_side.specs.Object.{Entry, ring_of}
use Rattle.xsk_side.specs.Own.{source_of, strays_taken}
use Rattle.xsk_side.specs.Legal.{IsReceived, MayCome, IsPut, IsLegal}
use Rattle.xsk_side.specs.Possible.{IsHistory, own}
use Rattle.xsk_side.specs.Laws.{IsWider, WiderKernels}
use Rattle.xsk_side.specs.declared.setting.Rules.{Rules}
use Rattle.xsk_side.specs.declared.call.Party.{Party}
use Rattle.xsk_side.specs.declared.call.Call.{Call}
use Rattle.xsk_side.specs.declared.call.Call.TheVariants.{Reserve, Free, Submit, Peek, Release, Cancel}

abbrev bound_less : Setting → Rules → Setting
bound_less s wider = record s { rules = wider }

weaker : (inside bytes fits none more laid sg sg' at at' : Bool) → (IsTrue sg → IsTrue sg') → (IsTrue at' → IsTrue at)
    → IsTrue (inside && bytes && fits && (none || (sg && more)) && (not at || laid))
    → IsTrue (inside && bytes && fits && (none || (sg' && more)) && (not at' || laid))
weaker inside bytes fits none more laid sg sg' at at' f g h = grind arith

received : (s : Setting) (wider : Rules) (from : ℕ → Option Ring) (socket : ℕ) (e : XdpDesc) → IsWider s.rules wider
    → IsReceived s from socket e → IsReceived (bound_less s wider) from socket e
received s wider from socket e is h = record {
  lawful = weaker (is_inside s.geometry e) (has_bytes e) (fits_chunk s.geometry e) (e.options == 0) (e.options == 1) (is_laid s e)
      s.rules.sg wider.sg s.rules.at_data wider.at_data is.sg is.at_data h.lawful;
  pair = h.pair;
  filled = h.filled;
  feeds = λ own. h.feeds (is.own own);
}

comes : (s : Setting) (wider : Rules) (from : ℕ → Option Ring) (strays : ℕ) (r : Ring) (es : List XdpDesc) → IsWider s.rules wider
    → MayCome s from strays r es → MayCome (bound_less s wider) from strays r es
comes s wider from strays (Fill d) es is h = tt
comes s wider from strays (Comp d) es is h = (λ k d l. let c = h.0 k d l in record { len = c.len; options = c.options; sent = c.sent }, h.1)
comes s wider from strays (Rx k) es is h = λ i d l. received s wider from k (slice_index_or es i d) is (h i d l)
comes s wider from strays (Tx k) es is h = tt

put : (s : Setting) (wider : Rules) (mine : List Call) (call : Call) → IsWider s.rules wider
    → IsPut s mine call → IsPut (bound_less s wider) mine call
put s wider mine (Reserve r n answer) is h = tt
put s wider mine (Free r n places) is h = tt
put s wider mine (Submit (Fill d) es) is h = tt
put s wider mine (Submit (Comp d) es) is h = comes s wider (source_of s mine) (strays_taken s d mine) (Comp d) es is h
put s wider mine (Submit (Rx k) es) is h = comes s wider (source_of s mine) (strays_taken s (pair_of s (Rx k)) mine) (Rx k) es is h
put s wider mine (Submit (Tx k) es) is h = tt
put s wider mine (Peek r n es) is h = tt
put s wider mine (Release r n) is h = tt
put s wider mine (Cancel r n) is h = tt

same_known : (s : Setting) (wider : Rules) (call : Call) → HasRing s (ring_of call) → HasRing (bound_less s wider) (ring_of call)
same_known s wider call h = h

legal_still : (s : Setting) (wider : Rules) (who : Party) (mine : List Call) (call : Call) → IsWider s.rules wider
    → IsLegal s who mine call → IsLegal (bound_less s wider) who mine call
legal_still s wider who mine call is h = record {
  known = same_known s wider call h.known;
  role = h.role;
  counted = h.counted;
  frames = h.frames;
  untouched = h.untouched;
  put = put s wider mine call is h.put;
}

history_still : (s : Setting) (wider : Rules) (h : List Entry) → IsWider s.rules wider → IsHistory s h → IsHistory (bound_less s wider) h
history_still s wider [] is h = record { umem = h.umem; pairs = h.pairs; sockets = h.sockets }
history_still s wider (e ∷ past) is h =
    (history_still s wider past is h.0, legal_still s wider e.who (own e.who past) e.call is h.1, h.2)

pub wider_kernels : WiderKernels
wider_kernels s wider calls is possible =
    record { history = possible.history; legal = history_still s wider possible.history is possible.legal; own = possible.own }
