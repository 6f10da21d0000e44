-- The packets of a list, as parts of a text.
use Rattle.std.specs.Prelude.{◌≡◌, ℕ, ◌+◌, ◌≤◌, All, Bool, true, false, Option, Some, None, List, [], ◌∷◌, ◌++◌, length, take, drop, replicate}
use Rattle.xsk_umem.specs.declared.packet_list.Span.{Span}
use Rattle.xsk_umem.specs.declared.packet_list.Gaps.{Gaps}

abbrev pub at_span : List ℕ → Span → List ℕ
at_span text span = take span.len (drop span.start text)

abbrev pub len_of : Span → ℕ
len_of span = span.len

abbrev pub IsWithin : List ℕ → Span → Type 0
IsWithin text span = span.start + span.len ≤ length text

-- where the last span ends, and the place itself where there is none
abbrev pub end_of : ℕ → List Span → ℕ
end_of from [] = from
end_of from (span ∷ spans) = end_of (span.start + span.len) spans

-- each span begins behind the place, and behind the end of the one before it
abbrev pub AreFrom : ℕ → List Span → Type 0
AreFrom from [] = Unit {0}
AreFrom from (span ∷ spans) = (from ≤ span.start) × AreFrom (span.start + span.len) spans

-- spans in order and apart, all within the text
pub record AreInText (text : List ℕ) (spans : List Span) : Type 0 where
  pub within : All (IsWithin text) spans
  pub apart : AreFrom 0 spans

-- spans in order and apart from a place on, of which the last ends with the text
pub record AreSpans (from : ℕ) (text : List ℕ) (spans : List Span) : Type 0 where
  pub within : All (IsWithin text) spans
  pub apart : AreFrom from spans
  pub end : end_of from spans ≡ length text

-- ---- gaps

-- the spans of packets that stand one behind the other from a place on, each behind a gap
abbrev pub spans_from : ℕ → ℕ → List (List ℕ) → List Span
spans_from from gap [] = []
spans_from from gap (packet ∷ packets) = (record { start = from + gap; len = length packet }) ∷ spans_from (from + gap + length packet) gap packets

-- spans that stand so
abbrev pub AreSpaced : ℕ → ℕ → List Span → Type 0
AreSpaced from gap [] = Unit {0}
AreSpaced from gap (span ∷ spans) = (span.start ≡ from + gap) × AreSpaced (span.start + span.len) gap spans

-- the further gap before the first packet and the gap before each, none where spans were handed in
abbrev pub first_gap : Option Gaps → ℕ
first_gap None = 0
first_gap (Some gaps) = gaps.first

abbrev pub gap_before : Option Gaps → ℕ
gap_before None = 0
gap_before (Some gaps) = gaps.before_each

-- spans with these gaps; those that were handed in may stand anywhere
abbrev pub HaveGaps : Option Gaps → List Span → Type 0
HaveGaps None spans = Unit {0}
HaveGaps (Some gaps) spans = AreSpaced gaps.first gaps.before_each spans

-- packets one behind the other, each behind a gap of zeros
abbrev pub text_of : ℕ → List (List ℕ) → List ℕ
text_of gap [] = []
text_of gap (packet ∷ packets) = replicate gap 0 ++ packet ++ text_of gap packets

-- behind the first gap
abbrev pub text_with : Gaps → List (List ℕ) → List ℕ
text_with gaps packets = replicate gaps.first 0 ++ text_of gaps.before_each packets

-- a text with these gaps has nothing but zeros in them, where no headers were laid there; one that was handed in may have
-- anything between its spans
abbrev pub HasText : Bool → Option Gaps → List (List ℕ) → List ℕ → Type 0
HasText true gaps packets text = Unit {0}
HasText false None packets text = Unit {0}
HasText false (Some gaps) packets text = text ≡ text_with gaps packets

-- packets one behind the other, numbered from a place on, each behind the header of its number and its length
abbrev pub laid_from : (ℕ → ℕ → List ℕ) → ℕ → List (List ℕ) → List ℕ
laid_from header number [] = []
laid_from header number (packet ∷ packets) = header number (length packet) ++ packet ++ laid_from header (number + 1) packets
