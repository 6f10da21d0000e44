-- Writing headers into the gaps of a text.
use Rattle.std.proofs.Common.{◌≡◌, ℕ, ◌+◌, ◌-◌, ◌<◌, ◌≤◌, List, [], ◌∷◌, ◌++◌, length, get_or, take, drop, map, replicate, refl, sym, ap, subst, ◌∙◌, append_assoc, arith}
use Rattle.std.specs.Prelude.{All, Option, Some}
use Rattle.std.proofs.lemmas.List.{length-append, length-drop, length-take-le, take_at, drop_at, drop_all, drop_more, drop-drop, take-append-drop}
use Rattle.std.proofs.lemmas.List.Elements.{All-head, All-tail, All-weaker}
use Rattle.xsk_umem.specs.declared.packet_list.Gaps.{Gaps}
use Rattle.xsk_umem.specs.declared.packet_list.Span.{Span}
use Rattle.xsk_umem.specs.Span.{at_span, IsWithin, AreSpans, HaveGaps, end_of, first_gap, spans_from, laid_from, text_of}
use Rattle.xsk_umem.proofs.Spans.{gaps-spans}

-- ---- packets and gaps

-- the text is packets one behind the other, each behind a gap of so many bytes
abbrev pub AreGapped : ℕ → List ℕ → List (List ℕ) → Type 0
AreGapped size text [] = text ≡ []
AreGapped size text (packet ∷ packets) = (gap : List ℕ) × (more : List ℕ) × (length gap ≡ size) × (gap ++ (packet ++ more) ≡ text) × AreGapped size more packets

-- spans end behind the place from which on they stand
after_start : (from gap : ℕ) (packets : List (List ℕ)) → from ≤ end_of from (spans_from from gap packets)
after_start from gap [] = omega arith
after_start from gap (p ∷ ps) = omega (arith, after_start (from + gap + length p) gap ps)

-- where the packets stand in the text, and nothing else does
pub record HasGaps (first size : ℕ) (text : List ℕ) (spans : List Span) : Type 0 where
  pub within : All (IsWithin text) spans
  pub spaced : spans ≡ spans_from first size (map (at_span text) spans)
  pub end : end_of first spans ≡ length text

pub first_gap_fits : (first size : ℕ) (text : List ℕ) (spans : List Span) → HasGaps first size text spans → first ≤ length text
first_gap_fits first size text spans has =
    let end = rw has.spaced at has.end in
    omega (arith, after_start first size (map (at_span text) spans), end)

-- what stands from a place on, where spans with gaps begin there
gapped_from : (size : ℕ) (text : List ℕ) (from : ℕ) (packets : List (List ℕ)) → All (IsWithin text) (spans_from from size packets) → map (at_span text) (spans_from from size packets) ≡ packets
    → end_of from (spans_from from size packets) ≡ length text → AreGapped size (drop from text) packets
gapped_from size text from [] within shown end = drop_all from text (omega (arith, end))
gapped_from size text from (p ∷ ps) within shown end =
    let start : ℕ = from + size in
    let behind : ℕ = start + length p in
    let span : Span = record { start = start; len = length p } in
    let others : List Span = spans_from behind size ps in
    let here : take (length p) (drop start text) ≡ p = ap (λ (qs : List (List ℕ)). get_or qs 0 []) shown in
    let rest : map (at_span text) others ≡ ps = ap (drop 1) shown in
    let fits : start + length p ≤ length text = All-head (IsWithin text) span others within in
    let gap_len : length (take size (drop from text)) ≡ size = length-take-le size (drop from text) (omega (arith, length-drop from text, fits)) in
    let packet_and_more : p ++ drop behind text ≡ drop start text =
    ap (λ (q : List ℕ). q ++ drop behind text) (sym here) ∙ ap (λ (t : List ℕ). take (length p) (drop start text) ++ t) (sym (drop-drop (length p) start text)) ∙ take-append-drop (length p) (drop start text) in
    let whole : take size (drop from text) ++ (p ++ drop behind text) ≡ drop from text =
    ap (λ (t : List ℕ). take size (drop from text) ++ t) (packet_and_more ∙ sym (drop-drop size from text)) ∙ take-append-drop size (drop from text) in
    (take size (drop from text), drop behind text, gap_len, whole, gapped_from size text behind ps (All-tail (IsWithin text) span others within) rest end)

-- ---- from packet to packet

module _ (header : ℕ → ℕ → List ℕ) (size : ℕ) where
  -- the headers up to a packet are written, and the spans from it on stand behind their gaps
  pub record Filling (all : List ℕ) (number : ℕ) (text : List ℕ) (spans : List Span) : Type 0 where
    pub packets : List (List ℕ)
    pub front : List ℕ
    pub rest : List ℕ
    pub whole : front ++ rest ≡ text
    pub gapped : AreGapped size rest packets
    pub spaced : spans ≡ spans_from (length front) size packets
    pub to_be : front ++ laid_from header number packets ≡ all

  -- the first header is written before the first packet's
  pub Filling-first : (first text new : List ℕ) (spans : List Span) → HasGaps (length first) size text spans → new ≡ first ++ drop (length first) text
      → Filling (first ++ laid_from header 0 (map (at_span text) spans)) 0 new spans
  Filling-first first text new spans has is =
      let packets : List (List ℕ) = map (at_span text) spans in
      record {
        packets = packets;
        front = first;
        rest = drop (length first) text;
        whole = sym is;
        gapped = gapped_from size text (length first) packets (rw (← has.spaced) has.within) (rw (← has.spaced) refl) (rw (← has.spaced) has.end);
        spaced = has.spaced;
        to_be = refl;
      }

  -- where a packet's gap and the packet are, and what follows once its header is written
  pub record FillsNext (all : List ℕ) (number : ℕ) (text : List ℕ) (span : Span) (spans : List Span) : Type 0 where
    pub gap : size ≤ span.start
    pub within : span.start + span.len ≤ length text
    pub next : (written new : List ℕ) → written ≡ header number span.len → length written ≡ size
        → take span.start new ≡ take (span.start - size) text ++ written → drop span.start new ≡ drop span.start text → Filling all (number + 1) new spans

  Filling-next : (all : List ℕ) (number : ℕ) (text : List ℕ) (span : Span) (spans : List Span) → Filling all number text (span ∷ spans) → FillsNext all number text span spans
  Filling-next all number text span spans f = next_of f.packets f.gapped f.spaced f.to_be
    where
      next_of : (packets : List (List ℕ)) → AreGapped size f.rest packets → span ∷ spans ≡ spans_from (length f.front) size packets → f.front ++ laid_from header number packets ≡ all → FillsNext all number text span spans
      next_of [] gapped spaced to_be = absurd (omega (arith, ap length spaced))
      next_of (p ∷ ps) (gap, more, gap_len, rest_is, gapped) spaced to_be =
          let span_is : span ≡ record { start = length f.front + size; len = length p } = ap (λ (ss : List Span). get_or ss 0 span) spaced in
          let start : span.start ≡ length f.front + size = ap (λ (s : Span). s.start) span_is in
          let len : span.len ≡ length p = ap (λ (s : Span). s.len) span_is in
          let others : spans ≡ spans_from (length f.front + size + length p) size ps = ap (drop 1) spaced in
          let text_is : f.front ++ (gap ++ (p ++ more)) ≡ text = ap (λ (t : List ℕ). f.front ++ t) rest_is ∙ f.whole in
          let long : length text ≡ length f.front + (length gap + (length p + length more)) =
          omega (arith, ap length text_is, length-append f.front (gap ++ (p ++ more)), length-append gap (p ++ more), length-append p more) in
          record {
            gap = omega (arith, start);
            within = omega (arith, start, len, long, gap_len);
            next = λ written new written_is written_len up_to from.
                let bytes : List ℕ = header number (length p) ++ p in
                let before : take (span.start - size) text ≡ f.front = ap (take (span.start - size)) (sym text_is) ∙ take_at f.front (gap ++ (p ++ more)) (span.start - size) (omega (arith, start)) in
                let joined : (f.front ++ gap) ++ (p ++ more) ≡ text = append_assoc f.front gap (p ++ more) ∙ text_is in
                let behind : drop span.start text ≡ p ++ more =
                ap (drop span.start) (sym joined) ∙ drop_at (f.front ++ gap) (p ++ more) span.start (omega (arith, start, gap_len, length-append f.front gap)) in
                let bytes_are : written ++ p ≡ bytes = rw (written_is, len) refl in
                let count : length bytes ≡ size + length p = omega (arith, ap length (sym bytes_are), length-append written p, written_len) in
                record {
                  packets = ps;
                  front = f.front ++ bytes;
                  rest = more;
                  whole =
                      ap (λ (t : List ℕ). (f.front ++ t) ++ more) (sym bytes_are) ∙ ap (λ (t : List ℕ). t ++ more) (sym (append_assoc f.front written p)) ∙ append_assoc (f.front ++ written) p more
                      ∙ ap (λ (t : List ℕ). (f.front ++ written) ++ t) (sym (from ∙ behind)) ∙ ap (λ (t : List ℕ). t ++ drop span.start new) (sym (up_to ∙ ap (λ (t : List ℕ). t ++ written) before))
                      ∙ take-append-drop span.start new;
                  gapped = gapped;
                  spaced = others ∙ ap (λ (n : ℕ). spans_from n size ps) (omega (arith, length-append f.front bytes, count));
                  to_be = append_assoc f.front bytes (laid_from header (number + 1) ps) ∙ to_be;
                };
          }

  -- the span of the packet with this number
  pub filling_at : (all : List ℕ) (number : ℕ) (text : List ℕ) (spans : List Span) (d : Span) → number < length spans → Filling all number text (drop number spans)
      → FillsNext all number text (get_or spans number d) (drop (number + 1) spans)
  filling_at all number text spans d known f =
      Filling-next all number text (get_or spans number d) (drop (number + 1) spans) (subst (Filling all number text) (drop_more spans number d known) f)

  -- where no span is left all is written
  pub Filling-done : (all : List ℕ) (number : ℕ) (text : List ℕ) → Filling all number text [] → text ≡ all
  Filling-done all number text f = done_of f.packets f.gapped f.spaced f.to_be
    where
      done_of : (packets : List (List ℕ)) → AreGapped size f.rest packets → [] ≡ spans_from (length f.front) size packets → f.front ++ laid_from header number packets ≡ all → text ≡ all
      done_of [] none spaced to_be = sym f.whole ∙ ap (λ (t : List ℕ). f.front ++ t) none ∙ to_be
      done_of (p ∷ ps) gapped spaced to_be = absurd (omega (arith, ap length spaced))

-- ---- where the packets stand then

-- behind their headers
pub packets_behind_headers : (header : ℕ → ℕ → List ℕ) (size : ℕ) → ((number len : ℕ) → length (header number len) ≡ size) → (front : List ℕ) (number : ℕ) (packets : List (List ℕ))
    → map (at_span (front ++ laid_from header number packets)) (spans_from (length front) size packets) ≡ packets
packets_behind_headers header size sized front number [] = refl
packets_behind_headers header size sized front number (p ∷ ps) =
    let before : List ℕ = header number (length p) in
    let bytes : List ℕ = before ++ p in
    let rest : List ℕ = laid_from header (number + 1) ps in
    let all : List ℕ = front ++ (bytes ++ rest) in
    let start : ℕ = length front + size in
    let parts : (front ++ before) ++ (p ++ rest) ≡ all = append_assoc front before (p ++ rest) ∙ ap (λ (t : List ℕ). front ++ t) (sym (append_assoc before p rest)) in
    let from : drop start all ≡ p ++ rest = ap (drop start) (sym parts) ∙ drop_at (front ++ before) (p ++ rest) start (omega (arith, length-append front before, sized number (length p))) in
    let here : take (length p) (drop start all) ≡ p = ap (take (length p)) from ∙ take_at p rest (length p) refl in
    let len : start + length p ≡ length (front ++ bytes) = omega (arith, length-append front bytes, length-append before p, sized number (length p)) in
    let others : map (at_span all) (spans_from (start + length p) size ps) ≡ ps =
    ap (λ (t : List ℕ). map (at_span t) (spans_from (start + length p) size ps)) (sym (append_assoc front bytes rest))
    ∙ ap (λ (n : ℕ). map (at_span ((front ++ bytes) ++ rest)) (spans_from n size ps)) len ∙ packets_behind_headers header size sized (front ++ bytes) (number + 1) ps in
    ap (λ (q : List ℕ). q ∷ map (at_span all) (spans_from (start + length p) size ps)) here ∙ ap (λ (qs : List (List ℕ)). p ∷ qs) others

-- the spans show what they showed
pub same_packets : (header : ℕ → ℕ → List ℕ) (size : ℕ) → ((number len : ℕ) → length (header number len) ≡ size) → (first text new : List ℕ) (spans : List Span) → HasGaps (length first) size text spans
    → new ≡ first ++ laid_from header 0 (map (at_span text) spans) → map (at_span new) spans ≡ map (at_span text) spans
same_packets header size sized first text new spans has is =
    let packets : List (List ℕ) = map (at_span text) spans in
    ap (λ (t : List ℕ). map (at_span t) spans) is ∙ ap (map (at_span (first ++ laid_from header 0 packets))) has.spaced ∙ packets_behind_headers header size sized first 0 packets

-- spans of a text are spans of one as long
pub same_spans : (from : ℕ) (text new : List ℕ) (spans : List Span) → AreSpans from text spans → length new ≡ length text → AreSpans from new spans
same_spans from text new spans are same = record {
  within = All-weaker (IsWithin text) (IsWithin new) (λ span within. let w : span.start + span.len ≤ length text = within in omega (arith, w, same)) spans are.within;
  apart = are.apart;
  end = are.end ∙ sym same;
}

-- spans with these gaps
pub has_gaps : (gaps : Option Gaps) (sizes : Gaps) (text : List ℕ) (spans : List Span) → gaps ≡ Some sizes → AreSpans (first_gap gaps) text spans → HaveGaps gaps spans
    → HasGaps sizes.first sizes.before_each text spans
has_gaps gaps sizes text spans is are have =
    let ends : end_of (first_gap gaps) spans ≡ length text = are.end in
    record { within = are.within; spaced = gaps-spans text gaps spans have are.within sizes is; end = rw is at ends }

-- ---- zeros in place of headers

pub laid_zeros : (size number : ℕ) (packets : List (List ℕ)) → laid_from (λ _ _. replicate size 0) number packets ≡ text_of size packets
laid_zeros size number [] = refl
laid_zeros size number (packet ∷ packets) = ap (λ (text : List ℕ). replicate size 0 ++ packet ++ text) (laid_zeros size (number + 1) packets)
