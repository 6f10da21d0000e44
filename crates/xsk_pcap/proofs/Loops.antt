-- The way over a capture's records, which finds the spans of their packets.
use Rattle.std.proofs.Common.{◌≡◌, ℕ, ◌+◌, ◌≤◌, Bool, true, false, List, [], ◌∷◌, ◌++◌, length, drop, map, refl, sym, ap, subst, ◌∙◌, append_assoc, arith}
use Rattle.std.specs.Prelude.{◌||◌, not, if◌then◌else◌}
use Rattle.std.proofs.lemmas.List.{length-append, map-append, take_at, drop_at, drop-drop}
use Rattle.std.proofs.lemmas.List.Elements.{All-push}
use Rattle.xsk_umem.specs.declared.packet_list.Span.{Span}
use Rattle.xsk_umem.specs.Span.{at_span, IsWithin, AreInText, end_of}
use Rattle.xsk_pcap.specs.declared.endianness.Endianness.{Endianness}
use Rattle.xsk_pcap.specs.Capture.{header_bytes, Begins, IsCapture}
use Rattle.xsk_pcap.specs.Steps.{BeginsRecord, Finds}
use Rattle.xsk_pcap.proofs.Grammar.{Begins-push}
use Rattle.xsk_pcap.proofs.Unique.{drop_16-record, length-record}
use Rattle.xsk_umem.proofs.Spans.{apart-push, end_of-push}

-- a record takes 16 bytes beside its packet
pub length-begins_record : (order : Endianness) (bytes packet rest : List ℕ) → BeginsRecord order bytes packet rest → length bytes ≡ 16 + length packet + length rest
length-begins_record order bytes packet rest b =
    omega (arith, ap length b.whole, length-record order b.of rest, length-append b.of.packet rest, ap length b.packet_is)

-- the packets up to a place, and their spans where there was memory for all of them
pub record Finding (order : Endianness) (bytes rest : List ℕ) (lacks : Bool) (spans : List Span) : Type 0 where
  pub packets : List (List ℕ)
  pub begins : Begins order bytes packets rest
  pub shown : lacks ≡ false → map (at_span bytes) spans ≡ packets
  pub are : AreInText bytes spans
  pub behind : end_of 0 spans + length rest ≤ length bytes

pub Finding-none : (order : Endianness) (bytes rest : List ℕ) → Begins order bytes [] rest → length rest ≤ length bytes → Finding order bytes rest false []
Finding-none order bytes rest begins within = record {
  packets = [];
  begins = begins;
  shown = λ _. refl;
  are = record { within = λ k d h. absurd (omega (arith, h)); apart = tt };
  behind = omega (arith, within);
}

-- ---- one record more

-- what is left of a capture stands at its end
drop-begins : (order : Endianness) (bytes rest : List ℕ) (packets : List (List ℕ)) (offset : ℕ) → Begins order bytes packets rest → offset + length rest ≡ length bytes → drop offset bytes ≡ rest
drop-begins order bytes rest packets offset begins at =
    let front : List ℕ = header_bytes order begins.header ++ begins.body in
    let whole : front ++ rest ≡ bytes = append_assoc (header_bytes order begins.header) begins.body rest ∙ begins.whole in
    let len : length front ≡ offset = omega (arith, ap length whole, length-append front rest, at) in
    ap (drop offset) (sym whole) ∙ drop_at front rest offset len

-- the packet of the record that begins there
at_span-record : (order : Endianness) (bytes rest packet more : List ℕ) (packets : List (List ℕ)) (offset : ℕ) (span : Span) → Begins order bytes packets rest → BeginsRecord order rest packet more
    → offset + length rest ≡ length bytes → span.start ≡ offset + 16 → span.len ≡ length packet → at_span bytes span ≡ packet
at_span-record order bytes rest packet more packets offset span begins next at start len =
    let behind : drop 16 rest ≡ packet ++ more =
    ap (drop 16) (sym next.whole) ∙ drop_16-record order next.of more ∙ ap (λ (p : List ℕ). p ++ more) next.packet_is in
    let from : drop (offset + 16) bytes ≡ packet ++ more =
    sym (drop-drop 16 offset bytes) ∙ ap (drop 16) (drop-begins order bytes rest packets offset begins at) ∙ behind in
    rw (start, len, from) (take_at packet more (length packet) refl)

-- one packet more, and its span behind the others
pub Finding-push : (order : Endianness) (bytes rest packet more : List ℕ) (offset : ℕ) (lacks : Bool) (spans : List Span) (span : Span) → Finding order bytes rest lacks spans → BeginsRecord order rest packet more
    → offset + length rest ≡ length bytes → span.start ≡ offset + 16 → span.len ≡ length packet → Finding order bytes more lacks (spans ++ span ∷ [])
Finding-push order bytes rest packet more offset lacks spans span f next at start len =
    let long : length rest ≡ 16 + length packet + length more = length-begins_record order rest packet more next in
    let behind : end_of 0 spans ≤ span.start = omega (arith, f.behind, at, start) in
    let here : at_span bytes span ≡ packet = at_span-record order bytes rest packet more f.packets offset span f.begins next at start len in
    record {
      packets = f.packets ++ packet ∷ [];
      begins = Begins-push order bytes f.packets rest packet more f.begins next;
      shown = λ none. map-append (at_span bytes) spans (span ∷ []) ∙ ap (λ (ps : List (List ℕ)). ps ++ at_span bytes span ∷ []) (f.shown none) ∙ ap (λ (p : List ℕ). f.packets ++ p ∷ []) here;
      are = record { within = All-push (IsWithin bytes) spans span f.are.within (omega (arith, long, at, start, len)); apart = apart-push 0 spans span f.are.apart behind };
      behind = omega (arith, end_of-push 0 spans span, long, at, start, len);
    }

-- one packet more, without its span
pub Finding-lacks : (order : Endianness) (bytes rest packet more : List ℕ) (lacks : Bool) (spans : List Span) → Finding order bytes rest lacks spans → BeginsRecord order rest packet more → Finding order bytes more true spans
Finding-lacks order bytes rest packet more lacks spans f next =
    let long : length rest ≡ 16 + length packet + length more = length-begins_record order rest packet more next in
    record {
      packets = f.packets ++ packet ∷ [];
      begins = Begins-push order bytes f.packets rest packet more f.begins next;
      shown = λ none. absurd (true_false none);
      are = f.are;
      behind = omega (arith, f.behind, long);
    }
  where
    true_false : true ≡ false → ⊥
    true_false e = cc

-- one packet more, and its span where memory for it could be had
pub Finding-more : (order : Endianness) (bytes rest packet more : List ℕ) (offset : ℕ) (lacks failed : Bool) (spans new : List Span) (span : Span) → Finding order bytes rest lacks spans → BeginsRecord order rest packet more
    → offset + length rest ≡ length bytes → span.start ≡ offset + 16 → span.len ≡ length packet → new ≡ (if not failed then spans ++ span ∷ [] else spans) → Finding order bytes more (lacks || failed) new
Finding-more order bytes rest packet more offset false false spans new span f next at start len is = rw is (Finding-push order bytes rest packet more offset false spans span f next at start len)
Finding-more order bytes rest packet more offset true false spans new span f next at start len is = rw is (Finding-push order bytes rest packet more offset true spans span f next at start len)
Finding-more order bytes rest packet more offset false true spans new span f next at start len is = rw is (Finding-lacks order bytes rest packet more false spans f next)
Finding-more order bytes rest packet more offset true true spans new span f next at start len is = rw is (Finding-lacks order bytes rest packet more true spans f next)

-- ---- at the end

pub rest_none : (rest : List ℕ) → length rest ≡ 0 → rest ≡ []
rest_none [] none = refl
rest_none (x ∷ rest) none = absurd (omega (arith, none))

-- where nothing is left the bytes are a capture of the packets that were found
pub Finding-capture : (order : Endianness) (bytes rest : List ℕ) (lacks : Bool) (spans : List Span) (f : Finding order bytes rest lacks spans) → length rest ≡ 0 → IsCapture bytes f.packets
Finding-capture order bytes rest lacks spans f none = (order, subst (Begins order bytes f.packets) (rest_none rest none) f.begins)

pub Finding-done : (order : Endianness) (bytes rest : List ℕ) (lacks : Bool) (spans : List Span) → Finding order bytes rest lacks spans → lacks ≡ false → length rest ≡ 0 → Finds order bytes spans
Finding-done order bytes rest lacks spans f has none = record {
  begins = subst (λ (ps : List (List ℕ)). Begins order bytes ps []) (sym (f.shown has)) (subst (Begins order bytes f.packets) (rest_none rest none) f.begins);
  are = f.are;
}
