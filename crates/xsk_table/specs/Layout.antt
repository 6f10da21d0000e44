-- Where the words of all rings and marks stand in one row: FILL by pair, COMPLETION by pair, RX by socket, TX by socket,
-- and then the marks. A ring has its producer word, its consumer word and its entries; FILL and COMPLETION have one word
-- an entry, RX and TX two (af_xdp.rst, "Rings": u64 addresses, and `struct xdp_desc`).
-- Each count is alone in 16 words and each mark in 8, so that no two of them share a cache line of 64 bytes, wherever the
-- row begins.
use Rattle.std.specs.Prelude.{◌≡◌, ℕ, ◌+◌, ◌*◌, ◌<◌, Option, Some, None, List, ◌++◌, map, take}
use Rattle.std.specs.List.{sum}
use Rattle.xsk_model.specs.Config.{Config, IsConfig, HasRing, size_of}
use Rattle.xsk_model.specs.Rings.{place}
use Rattle.xsk_model.specs.Bases.{mark_bases as first_places}
use Rattle.xsk_model.specs.Marks.{HasMark, mark_place, mark_places_of}
use Rattle.xsk_model.specs.declared.config.SocketInfo.{SocketInfo}
use Rattle.xsk_model.specs.declared.config.PairInfo.{PairInfo}
use Rattle.xsk_model.specs.declared.call.Ring.{Ring}
use Rattle.xsk_model.specs.declared.call.Ring.TheVariants.{Fill, Comp, Rx, Tx}
use Rattle.xsk_model.specs.declared.call.Mark.{Mark}
use Rattle.xsk_table.specs.declared.bases.MarkBases.{MarkBases}

-- ---- widths

abbrev pub entry_words : Ring → ℕ
entry_words (Fill d) = 1
entry_words (Comp d) = 1
entry_words (Rx s) = 2
entry_words (Tx s) = 2

-- the words of a ring: 32 for both counts, and those of its entries
abbrev pub width : ℕ → ℕ → ℕ
width words size = 32 + words * size

abbrev pub width_of : Config → Ring → ℕ
width_of c r = width (entry_words r) (size_of c r)

abbrev pub fill_width : PairInfo → ℕ
fill_width pair = width 1 pair.fill

abbrev pub comp_width : PairInfo → ℕ
comp_width pair = width 1 pair.comp

-- a ring that a socket hasn't got has no words
abbrev pub width_or_none : Option ℕ → ℕ
width_or_none None = 0
width_or_none (Some size) = width 2 size

abbrev pub rx_width : SocketInfo → ℕ
rx_width socket = width_or_none socket.rx

abbrev pub tx_width : SocketInfo → ℕ
tx_width socket = width_or_none socket.tx

-- the widths of all rings, by place
abbrev pub widths_of : Config → List ℕ
widths_of c = map fill_width c.pairs ++ map comp_width c.pairs ++ map rx_width c.sockets ++ map tx_width c.sockets

-- ---- places

-- the words before a ring, and those of all rings
abbrev pub ring_base : Config → Ring → ℕ
ring_base c r = sum (take (place c r) (widths_of c))

abbrev pub marks_base : Config → ℕ
marks_base c = sum (widths_of c)

-- the most words of all rings: 256 rings of 2,048 entries of two words
abbrev pub most_ring_words : ℕ
most_ring_words = 1056768

-- the last word in which an entry may begin, of a ring behind all others
abbrev pub last_entry_word : ℕ
last_entry_word = 1060894

-- the number of words
abbrev pub words_of : Config → ℕ
words_of c = marks_base c + 8 * mark_places_of c

-- a word: a count, the first or the second word of an entry, by its place in the ring, or a mark
pub data Word : Type 0 where
  producer : Ring → Word
  consumer : Ring → Word
  entry : Ring → ℕ → Word
  second : Ring → ℕ → Word
  mark : Mark → Word

abbrev pub HasWord : Config → Word → Type 0
HasWord c (producer r) = HasRing c r
HasWord c (consumer r) = HasRing c r
HasWord c (entry r i) = HasRing c r × (i < size_of c r)
HasWord c (second r i) = HasRing c r × (i < size_of c r) × (entry_words r ≡ 2)
HasWord c (mark m) = HasMark c m

-- where it stands
abbrev pub word_at : Config → Word → ℕ
word_at c (producer r) = ring_base c r + 8
word_at c (consumer r) = ring_base c r + 24
word_at c (entry r i) = ring_base c r + (32 + entry_words r * i)
word_at c (second r i) = ring_base c r + (33 + entry_words r * i)
word_at c (mark m) = marks_base c + (8 * mark_place c m + 7)

-- the word of the mark of a place
abbrev pub word_from : ℕ → ℕ → ℕ
word_from base place = base + (8 * place + 7)

-- where the first mark of each kind stands
abbrev pub mark_bases : Config → MarkBases
mark_bases c = record { words = map (word_from (marks_base c)) (first_places c) }

-- each word has a place of its own
abbrev pub OwnWords : Type 0
OwnWords = (c : Config) (v w : Word) → IsConfig c → HasWord c v → HasWord c w
    → (word_at c v < words_of c) × (word_at c v ≡ word_at c w → v ≡ w)
