-- What a list's spans show after its text has grown.
use Rattle.std.proofs.Common.{◌≡◌, ℕ, zero, suc, ◌+◌, ◌-◌, ◌*◌, ◌^◌, ◌<◌, ◌≤◌, List, [], ◌∷◌, ◌++◌, length, get_or, set, take, drop, map, replicate, append_assoc, append-nil, refl, sym, ap, ◌∙◌, arith, length-append, length-drop}
use Rattle.std.specs.Prelude.{All, Bool, true, false, Option, Some, None, sum_by}
use Rattle.std.specs.List.{concat}
use Rattle.std.proofs.lemmas.List.{drop-append-le, take-append-le, take-append-drop, length-take-le, length-map, map-append}
use Rattle.std.proofs.lemmas.List.Elements.{All-head, All-tail, All-cons, All-push, All-set, All-weaker}
use Rattle.std.proofs.lemmas.List.Sums.{sum_by-cons}
use Rattle.std.proofs.lemmas.Nat.{mul-lt}
use Rattle.std.proofs.Math.Seq.{drop-append_seam, take-length}
use Rattle.xsk_umem.specs.declared.packet_list.Span.{Span}
use Rattle.xsk_umem.specs.declared.packet_list.Gaps.{Gaps}
use Rattle.xsk_umem.specs.PacketList.{with_last_extended}
use Rattle.xsk_umem.specs.Span.{at_span, len_of, IsWithin, AreFrom, AreInText, AreSpans, AreSpaced, HaveGaps, HasText, end_of, spans_from, text_of, text_with, first_gap, gap_before}

-- ---- what is shown

-- a span within the text shows the same bytes in a longer text
at_span-append : (text piece : List ℕ) (span : Span) → IsWithin text span → at_span (text ++ piece) span ≡ at_span text span
at_span-append text piece span h =
    let start : span.start ≤ length text = omega arith in
    let len : span.len ≤ length (drop span.start text) = omega (arith, length-drop span.start text) in
    rw (drop-append-le span.start text piece start) (take-append-le span.len (drop span.start text) piece len)

-- it shows as many bytes as it has
length-at_span : (text : List ℕ) (span : Span) → IsWithin text span → length (at_span text span) ≡ span.len
length-at_span text span within =
    let start : span.start + span.len ≤ length text = within in
    let rest : span.len ≤ length (drop span.start text) = omega (arith, start, length-drop span.start text) in
    length-take-le span.len (drop span.start text) rest

-- a span within the text shows the same bytes in a longer text, and so do all spans within it
pub map_at_span-append : (text piece : List ℕ) (spans : List Span) → All (IsWithin text) spans → map (at_span (text ++ piece)) spans ≡ map (at_span text) spans
map_at_span-append text piece [] h = refl
map_at_span-append text piece (span ∷ spans) h =
    let first : at_span (text ++ piece) span ≡ at_span text span = at_span-append text piece span (All-head (IsWithin text) span spans h) in
    let rest : map (at_span (text ++ piece)) spans ≡ map (at_span text) spans = map_at_span-append text piece spans (All-tail (IsWithin text) span spans h) in
    cc

-- the span of what was appended shows it
at_span-end : (text piece : List ℕ) (span : Span) → span.start ≡ length text → span.len ≡ length piece → at_span (text ++ piece) span ≡ piece
at_span-end text piece span start len =
    rw (start, len, drop-append_seam text piece) (take-length piece)

-- spans within a text lie within a longer one
within_longer : (text piece : List ℕ) (spans : List Span) → All (IsWithin text) spans → All (IsWithin (text ++ piece)) spans
within_longer text piece spans all = All-weaker (IsWithin text) (IsWithin (text ++ piece)) (λ span within. let w : span.start + span.len ≤ length text = within in omega (arith, length-append text piece)) spans all

-- the packets after one has been appended to the text behind a gap, and its span to the spans
pub map_at_span-push : (text gap piece : List ℕ) (spans : List Span) (span : Span) → All (IsWithin text) spans → span.start ≡ length (text ++ gap) → span.len ≡ length piece
    → map (at_span (text ++ gap ++ piece)) (spans ++ span ∷ []) ≡ map (at_span text) spans ++ piece ∷ []
map_at_span-push text gap piece spans span h start len =
    let old : map (at_span (text ++ gap ++ piece)) spans ≡ map (at_span text) spans =
    map_at_span-append (text ++ gap) piece spans (within_longer text gap spans h) ∙ map_at_span-append text gap spans h in
    rw (map-append (at_span (text ++ gap ++ piece)) spans (span ∷ []), old, at_span-end (text ++ gap) piece span start len) refl

-- the longer span at the end of the text shows its old bytes and then the piece
at_span-extend : (text piece : List ℕ) (old new : Span) → old.start + old.len ≡ length text → new.start ≡ old.start → new.len ≡ old.len + length piece → at_span (text ++ piece) new ≡ at_span text old ++ piece
at_span-extend text piece old new end start len =
    let within : old.start ≤ length text = omega arith in
    let back : length (drop old.start text) ≡ old.len = omega (arith, length-drop old.start text) in
    let whole : length (drop old.start text ++ piece) ≡ old.len + length piece = omega (arith, back, length-append (drop old.start text) piece) in
    rw (start, len, drop-append-le old.start text piece within, ← whole, take-length (drop old.start text ++ piece), ← back, take-length (drop old.start text)) refl

-- the packets after bytes were appended to the text and the last span got longer by them
pub map_at_span-extend : (text piece : List ℕ) (from i : ℕ) (spans : List Span) (d new : Span) → All (IsWithin text) spans → i + 1 ≡ length spans → end_of from spans ≡ length text
    → new.start ≡ (get_or spans i d).start → new.len ≡ (get_or spans i d).len + length piece
    → map (at_span (text ++ piece)) (set spans i new) ≡ with_last_extended (map (at_span text) spans) piece
map_at_span-extend text piece from i [] d new all last end start len = absurd (omega arith)
map_at_span-extend text piece from zero (first ∷ []) d new all last end start len = rw (at_span-extend text piece first new end start len) refl
map_at_span-extend text piece from (suc i) (first ∷ []) d new all last end start len = absurd (omega arith)
map_at_span-extend text piece from zero (first ∷ next ∷ spans) d new all last end start len = absurd (omega arith)
map_at_span-extend text piece from (suc i) (first ∷ next ∷ spans) d new all last end start len =
    let here : at_span (text ++ piece) first ≡ at_span text first = at_span-append text piece first (All-head (IsWithin text) first (next ∷ spans) all) in
    let rest : map (at_span (text ++ piece)) (set (next ∷ spans) i new) ≡ with_last_extended (map (at_span text) (next ∷ spans)) piece =
    map_at_span-extend text piece (first.start + first.len) i (next ∷ spans) d new (All-tail (IsWithin text) first (next ∷ spans) all) (omega arith) end start len in
    rw (here, rest) refl

-- ---- where the spans end

-- where the last of the spans ends after one was appended, and after the last was replaced
pub end_of-push : (from : ℕ) (spans : List Span) (span : Span) → end_of from (spans ++ span ∷ []) ≡ span.start + span.len
end_of-push from [] span = refl
end_of-push from (first ∷ spans) span = end_of-push (first.start + first.len) spans span

end_of-set_last : (from i : ℕ) (spans : List Span) (span : Span) → i + 1 ≡ length spans → end_of from (set spans i span) ≡ span.start + span.len
end_of-set_last from i [] span last = absurd (omega arith)
end_of-set_last from zero (first ∷ []) span last = refl
end_of-set_last from zero (first ∷ next ∷ spans) span last = absurd (omega arith)
end_of-set_last from (suc i) (first ∷ spans) span last = end_of-set_last (first.start + first.len) i spans span (omega arith)

pub end_of-last : (from i : ℕ) (spans : List Span) (d : Span) → i + 1 ≡ length spans → end_of from spans ≡ (get_or spans i d).start + (get_or spans i d).len
end_of-last from i [] d last = absurd (omega arith)
end_of-last from zero (first ∷ []) d last = refl
end_of-last from zero (first ∷ next ∷ spans) d last = absurd (omega arith)
end_of-last from (suc i) (first ∷ spans) d last = end_of-last (first.start + first.len) i spans d (omega arith)

-- spans that stand apart from a place on end behind it, by as many bytes as they have or more
sum_before_end : (from : ℕ) (spans : List Span) → AreFrom from spans → from + sum_by len_of spans ≤ end_of from spans
sum_before_end from [] apart = omega arith
sum_before_end from (span ∷ spans) apart =
    let first : from ≤ span.start = apart.0 in
    let rest : span.start + span.len + sum_by len_of spans ≤ end_of (span.start + span.len) spans = sum_before_end (span.start + span.len) spans apart.1 in
    let sum : sum_by len_of (span ∷ spans) ≡ span.len + sum_by len_of spans = sum_by-cons len_of span spans in
    omega (arith, first, rest, sum)

before_end : (from : ℕ) (spans : List Span) → AreFrom from spans → from ≤ end_of from spans
before_end from spans apart = let sum : from + sum_by len_of spans ≤ end_of from spans = sum_before_end from spans apart in omega (arith, sum)

-- spans in order end where the last ends, or before
within_end : (from : ℕ) (spans : List Span) (text : List ℕ) → AreFrom from spans → end_of from spans ≤ length text → All (IsWithin text) spans
within_end from [] text apart end = λ k d h. absurd (omega (arith, h))
within_end from (span ∷ spans) text apart end =
    let near : span.start + span.len ≤ end_of (span.start + span.len) spans = before_end (span.start + span.len) spans apart.1 in
    let far : end_of (span.start + span.len) spans ≤ length text = end in
    All-cons (IsWithin text) span spans (omega (arith, near, far)) (within_end (span.start + span.len) spans text apart.1 far)

pub end_within : (text : List ℕ) (from : ℕ) (spans : List Span) → from ≤ length text → All (IsWithin text) spans → end_of from spans ≤ length text
end_within text from [] begins all = begins
end_within text from (span ∷ spans) begins all =
    end_within text (span.start + span.len) spans (All-head (IsWithin text) span spans all) (All-tail (IsWithin text) span spans all)

-- ---- spans of a text

-- spans from a place on are spans from an earlier one on
pub are_in_text : (from : ℕ) (text : List ℕ) (spans : List Span) → AreSpans from text spans → AreInText text spans
are_in_text from text [] are = record { within = are.within; apart = tt }
are_in_text from text (span ∷ spans) are = record { within = are.within; apart = (omega arith, are.apart.1) }

-- the text cut behind the last span shows the same packets
pub cut-spans : (text : List ℕ) (spans : List Span) → AreInText text spans → AreSpans 0 (take (end_of 0 spans) text) spans
cut-spans text spans are =
    let len : length (take (end_of 0 spans) text) ≡ end_of 0 spans = length-take-le (end_of 0 spans) text (end_within text 0 spans (omega arith) are.within) in
    record { within = within_end 0 spans (take (end_of 0 spans) text) are.apart (omega (arith, len)); apart = are.apart; end = sym len }

pub cut-packets : (text : List ℕ) (spans : List Span) → AreInText text spans → map (at_span (take (end_of 0 spans) text)) spans ≡ map (at_span text) spans
cut-packets text spans are =
    let cut = cut-spans text spans are in
    let grown : map (at_span (take (end_of 0 spans) text ++ drop (end_of 0 spans) text)) spans ≡ map (at_span (take (end_of 0 spans) text)) spans =
    map_at_span-append (take (end_of 0 spans) text) (drop (end_of 0 spans) text) spans cut.within in
    sym (rw (take-append-drop (end_of 0 spans) text) at grown)

-- spans in order stay so with one behind them, and with another length of the last
pub apart-push : (from : ℕ) (spans : List Span) (span : Span) → AreFrom from spans → end_of from spans ≤ span.start → AreFrom from (spans ++ span ∷ [])
apart-push from [] span apart behind = (behind, tt)
apart-push from (old ∷ spans) span apart behind = (apart.0, apart-push (old.start + old.len) spans span apart.1 behind)

apart-extend : (from i : ℕ) (spans : List Span) (d new : Span) → AreFrom from spans → i + 1 ≡ length spans → new.start ≡ (get_or spans i d).start → AreFrom from (set spans i new)
apart-extend from i [] d new apart last start = absurd (omega arith)
apart-extend from zero (span ∷ []) d new apart last start = (rw start apart.0, tt)
apart-extend from zero (span ∷ next ∷ spans) d new apart last start = absurd (omega arith)
apart-extend from (suc i) (span ∷ spans) d new apart last start = (apart.0, apart-extend (span.start + span.len) i spans d new apart.1 (omega arith) start)

pub spans-push : (text gap piece : List ℕ) (from : ℕ) (spans : List Span) (span : Span) → AreSpans from text spans → span.start ≡ length (text ++ gap) → span.len ≡ length piece
    → AreSpans from (text ++ gap ++ piece) (spans ++ span ∷ [])
spans-push text gap piece from spans span are start len =
    let longer : length (text ++ gap) ≡ length text + length gap = length-append text gap in
    let whole : length (text ++ gap ++ piece) ≡ length (text ++ gap) + length piece = length-append (text ++ gap) piece in
    let end : end_of from spans ≡ length text = are.end in
    let old : All (IsWithin (text ++ gap ++ piece)) spans = within_longer (text ++ gap) piece spans (within_longer text gap spans are.within) in
    record {
      within = All-push (IsWithin (text ++ gap ++ piece)) spans span old (omega (arith, start, len, whole));
      apart = apart-push from spans span are.apart (omega (arith, end, start, longer));
      end = end_of-push from spans span ∙ omega (arith, start, len, whole);
    }

pub spans-extend : (text piece : List ℕ) (from i : ℕ) (spans : List Span) (d new : Span) → AreSpans from text spans → i + 1 ≡ length spans
    → new.start ≡ (get_or spans i d).start → new.len ≡ (get_or spans i d).len + length piece → AreSpans from (text ++ piece) (set spans i new)
spans-extend text piece from i spans d new are last start len =
    let end : (get_or spans i d).start + (get_or spans i d).len ≡ length text = sym (end_of-last from i spans d last) ∙ are.end in
    record {
      within = All-set (IsWithin (text ++ piece)) spans i new (omega (arith, length-append text piece)) (within_longer text piece spans are.within);
      apart = apart-extend from i spans d new are.apart last start;
      end = end_of-set_last from i spans new last ∙ omega (arith, length-append text piece);
    }

-- ---- gaps

spaced-push : (from gap : ℕ) (spans : List Span) (span : Span) → AreSpaced from gap spans → span.start ≡ end_of from spans + gap → AreSpaced from gap (spans ++ span ∷ [])
spaced-push from gap [] span spaced behind = (behind, tt)
spaced-push from gap (old ∷ spans) span spaced behind = (spaced.0, spaced-push (old.start + old.len) gap spans span spaced.1 behind)

pub gaps-push : (gaps : Option Gaps) (spans : List Span) (span : Span) → HaveGaps gaps spans → span.start ≡ end_of (first_gap gaps) spans + gap_before gaps → HaveGaps gaps (spans ++ span ∷ [])
gaps-push None spans span have behind = tt
gaps-push (Some gaps) spans span have behind = spaced-push gaps.first gaps.before_each spans span have behind

spaced-extend : (from gap i : ℕ) (spans : List Span) (d new : Span) → AreSpaced from gap spans → i + 1 ≡ length spans → new.start ≡ (get_or spans i d).start → AreSpaced from gap (set spans i new)
spaced-extend from gap i [] d new spaced last start = absurd (omega arith)
spaced-extend from gap zero (span ∷ []) d new spaced last start = (start ∙ spaced.0, tt)
spaced-extend from gap zero (span ∷ next ∷ spans) d new spaced last start = absurd (omega arith)
spaced-extend from gap (suc i) (span ∷ spans) d new spaced last start = (spaced.0, spaced-extend (span.start + span.len) gap i spans d new spaced.1 (omega arith) start)

pub gaps-extend : (gaps : Option Gaps) (i : ℕ) (spans : List Span) (d new : Span) → HaveGaps gaps spans → i + 1 ≡ length spans → new.start ≡ (get_or spans i d).start → HaveGaps gaps (set spans i new)
gaps-extend None i spans d new have last start = tt
gaps-extend (Some gaps) i spans d new have last start = spaced-extend gaps.first gaps.before_each i spans d new have last start

-- spans with gaps are those of the packets that they show
spaced-spans : (text : List ℕ) (from gap : ℕ) (spans : List Span) → AreSpaced from gap spans → All (IsWithin text) spans → spans ≡ spans_from from gap (map (at_span text) spans)
spaced-spans text from gap [] spaced all = refl
spaced-spans text from gap (span ∷ spans) spaced all =
    let start : span.start ≡ from + gap = spaced.0 in
    let len : length (at_span text span) ≡ span.len = length-at_span text span (All-head (IsWithin text) span spans all) in
    let rest : spans ≡ spans_from (span.start + span.len) gap (map (at_span text) spans) =
    spaced-spans text (span.start + span.len) gap spans spaced.1 (All-tail (IsWithin text) span spans all) in
    rw (len, ← start) (ap (λ more. span ∷ more) rest)

pub gaps-spans : (text : List ℕ) (gaps : Option Gaps) (spans : List Span) → HaveGaps gaps spans → All (IsWithin text) spans
    → (some : Gaps) → gaps ≡ Some some → spans ≡ spans_from some.first some.before_each (map (at_span text) spans)
gaps-spans text gaps spans have all some is =
    let spaced : AreSpaced some.first some.before_each spans = rw is at have in
    spaced-spans text some.first some.before_each spans spaced all

-- ---- the text with gaps

-- one more packet stands behind its gap at the end
text_of-push : (gap : ℕ) (packets : List (List ℕ)) (packet : List ℕ) → text_of gap (packets ++ packet ∷ []) ≡ text_of gap packets ++ replicate gap 0 ++ packet
text_of-push gap [] packet = append-nil (replicate gap 0 ++ packet)
text_of-push gap (first ∷ packets) packet =
    let here : List ℕ = replicate gap 0 ++ first in
    ap (λ (text : List ℕ). here ++ text) (text_of-push gap packets packet)
    ∙ sym (append_assoc here (text_of gap packets ++ replicate gap 0) packet)
    ∙ ap (λ (text : List ℕ). text ++ packet) (sym (append_assoc here (text_of gap packets) (replicate gap 0)))

-- and what is appended to the last packet stands at the end
text_of-extend : (gap : ℕ) (packets : List (List ℕ)) (bytes : List ℕ) → 1 ≤ length packets → text_of gap (with_last_extended packets bytes) ≡ text_of gap packets ++ bytes
text_of-extend gap [] bytes some = absurd (omega (arith, some))
text_of-extend gap (packet ∷ []) bytes some =
    let zeros : List ℕ = replicate gap 0 in
    append-nil (zeros ++ (packet ++ bytes)) ∙ sym (append_assoc zeros packet bytes) ∙ ap (λ (text : List ℕ). text ++ bytes) (sym (append-nil (zeros ++ packet)))
text_of-extend gap (packet ∷ next ∷ packets) bytes some =
    let here : List ℕ = replicate gap 0 ++ packet in
    ap (λ (text : List ℕ). here ++ text) (text_of-extend gap (next ∷ packets) bytes (omega arith)) ∙ sym (append_assoc here (text_of gap (next ∷ packets)) bytes)

text-push : (laid : Bool) (gaps : Option Gaps) (packets : List (List ℕ)) (packet text : List ℕ) → HasText laid gaps packets text → HasText laid gaps (packets ++ packet ∷ []) (text ++ replicate (gap_before gaps) 0 ++ packet)
text-push true gaps packets packet text has = tt
text-push false None packets packet text has = tt
text-push false (Some gaps) packets packet text has =
    let is : text ≡ text_with gaps packets = has in
    let zeros : List ℕ = replicate gaps.first 0 in
    let gap : List ℕ = replicate gaps.before_each 0 in
    ap (λ (t : List ℕ). t ++ gap ++ packet) is
    ∙ ap (λ (t : List ℕ). t ++ packet) (append_assoc zeros (text_of gaps.before_each packets) gap)
    ∙ append_assoc zeros (text_of gaps.before_each packets ++ gap) packet
    ∙ ap (λ (t : List ℕ). zeros ++ t) (sym (text_of-push gaps.before_each packets packet))

text-extend : (laid : Bool) (gaps : Option Gaps) (packets : List (List ℕ)) (bytes text : List ℕ) → 1 ≤ length packets → HasText laid gaps packets text → HasText laid gaps (with_last_extended packets bytes) (text ++ bytes)
text-extend true gaps packets bytes text some has = tt
text-extend false None packets bytes text some has = tt
text-extend false (Some gaps) packets bytes text some has =
    let is : text ≡ text_with gaps packets = has in
    let zeros : List ℕ = replicate gaps.first 0 in
    ap (λ (t : List ℕ). t ++ bytes) is ∙ append_assoc zeros (text_of gaps.before_each packets) bytes
    ∙ ap (λ (t : List ℕ). zeros ++ t) (sym (text_of-extend gaps.before_each packets bytes some))

-- with the packets that the spans show
pub has-push : (laid : Bool) (gaps : Option Gaps) (text piece : List ℕ) (spans : List Span) (span : Span) (gap : ℕ) → gap ≡ gap_before gaps → All (IsWithin text) spans → span.start ≡ length (text ++ replicate gap 0)
    → span.len ≡ length piece → HasText laid gaps (map (at_span text) spans) text
    → HasText laid gaps (map (at_span (text ++ replicate gap 0 ++ piece)) (spans ++ span ∷ [])) (text ++ replicate gap 0 ++ piece)
has-push laid gaps text piece spans span gap is all start len has =
    rw (map_at_span-push text (replicate gap 0) piece spans span all start len, is) (text-push laid gaps (map (at_span text) spans) piece text has)

pub has-extend : (laid : Bool) (gaps : Option Gaps) (text piece : List ℕ) (from i : ℕ) (spans : List Span) (d new : Span) → All (IsWithin text) spans → i + 1 ≡ length spans → end_of from spans ≡ length text
    → new.start ≡ (get_or spans i d).start → new.len ≡ (get_or spans i d).len + length piece → HasText laid gaps (map (at_span text) spans) text
    → HasText laid gaps (map (at_span (text ++ piece)) (set spans i new)) (text ++ piece)
has-extend laid gaps text piece from i spans d new all last end start len has =
    let count : length (map (at_span text) spans) ≡ length spans = length-map spans (at_span text) in
    rw (map_at_span-extend text piece from i spans d new all last end start len) (text-extend laid gaps (map (at_span text) spans) piece text (omega (arith, last, count)) has)

pub text-is : (laid : Bool) (gaps : Option Gaps) (packets : List (List ℕ)) (text : List ℕ) → HasText laid gaps packets text → laid ≡ false → (some : Gaps) → gaps ≡ Some some → text ≡ text_with some packets
text-is laid gaps packets text has clean some is = rw (clean, is) at has

-- ---- how many bytes

-- the packets have the bytes of their spans
pub length-packets : (text : List ℕ) (spans : List Span) → All (IsWithin text) spans → length (concat (map (at_span text) spans)) ≡ sum_by len_of spans
length-packets text [] all = refl
length-packets text (span ∷ spans) all =
    let first : length (at_span text span) ≡ span.len = length-at_span text span (All-head (IsWithin text) span spans all) in
    let rest : length (concat (map (at_span text) spans)) ≡ sum_by len_of spans = length-packets text spans (All-tail (IsWithin text) span spans all) in
    let sum : sum_by len_of (span ∷ spans) ≡ span.len + sum_by len_of spans = sum_by-cons len_of span spans in
    length-append (at_span text span) (concat (map (at_span text) spans)) ∙ omega (arith, first, rest, sum)

-- spans that stand apart have no more bytes than their text
pub sum_within : (from : ℕ) (text : List ℕ) (spans : List Span) → AreSpans from text spans → sum_by len_of spans ≤ length text
sum_within from text spans are =
    let sum : from + sum_by len_of spans ≤ end_of from spans = sum_before_end from spans are.apart in
    let end : end_of from spans ≡ length text = are.end in
    omega (arith, sum, end)

-- ---- the room of gaps

-- the gaps of a packet fewer
pub gap_less : (packets gap : ℕ) → 1 ≤ packets → (packets - 1) * gap + gap ≡ packets * gap
gap_less zero gap some = absurd (omega (arith, some))
gap_less (suc packets) gap some = let less : suc packets - 1 ≡ packets = omega arith in rw less (omega arith)

-- the gaps of so many packets are a number of 64 bits
pub gaps_fit : (packets gap : ℕ) → packets < 2 ^ 32 → gap < 2 ^ 32 → packets * gap < 2 ^ 64
gaps_fit packets gap few small = mul-lt packets gap (2 ^ 32) (2 ^ 32) few small
