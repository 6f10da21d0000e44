-- The way over a file's blocks, which finds its packets.
use Rattle.std.proofs.Common.{◌≡◌, ℕ, ◌+◌, ◌≤◌, Bool, true, false, List, [], ◌∷◌, ◌++◌, length, take, drop, map, Some, None, refl, sym, ap, subst, ◌∙◌, append_assoc, arith, inl, inr}
use Rattle.std.specs.Prelude.{◌||◌, ◌<◌, ◌%◌, not, if◌then◌else◌, All}
use Rattle.std.specs.List.{concat}
use Rattle.std.proofs.lemmas.Bool.Decides.{eqb_tells}
use Rattle.std.proofs.lemmas.List.{length-append, length-drop, append-nil, map-append, take_at, drop_at, drop-drop, drop-append-le, take-append-le}
use Rattle.std.proofs.lemmas.List.Concat.{flat_map-append}
use Rattle.std.proofs.lemmas.List.Folds.{concat-append}
use Rattle.std.proofs.lemmas.List.Elements.{All-push}
use Rattle.xsk_pcap.specs.declared.endianness.Endianness.{Endianness}
use Rattle.xsk_pcapng.specs.declared.reading.BadPcapng.{BadPcapng}
use Rattle.xsk_pcapng.specs.declared.reading.Content.{Content}
use Rattle.xsk_pcapng.specs.declared.reading.Content.TheVariants.{Other, Interface, Packet}
use Rattle.xsk_pcapng.specs.declared.reading.Found.{Found}
use Rattle.xsk_umem.specs.Span.{at_span, AreFrom, end_of}
use Rattle.xsk_pcapng.specs.Blocks.{kind_in, total_in, interfaces_after, interfaces_behind, IsBlock, MayStand, AreBlocks, Arrival, arrivals_of, arrivals_in}
use Rattle.xsk_pcapng.specs.Pcapng.{PassesHeader, Begins, IsPcapng, lists_of, length_refusal, content_refusal, block_refusal, IsCause}
use Rattle.xsk_pcapng.specs.Steps.{CutsOff, IsEnds, Holds, arrival_in, IsFoundIn, Finds, spans_in}
use Rattle.xsk_umem.proofs.Spans.{apart-push, end_of-push}
use Rattle.xsk_pcapng.proofs.Blocks.{total_in-append, length_none}
use Rattle.xsk_pcap.proofs.Loops.{rest_none}

-- ---- one block more

AreBlocks-push : (order : Endianness) (ports at interfaces : ℕ) (blocks : List (List ℕ)) (block : List ℕ) → AreBlocks order ports at interfaces blocks → IsBlock order block
    → MayStand order ports (at + length (concat blocks)) (interfaces_behind order interfaces blocks) block → AreBlocks order ports at interfaces (blocks ++ block ∷ [])
AreBlocks-push order ports at interfaces [] block are is may =
    let place : at + 0 ≡ at = omega arith in
    (is, subst (λ (n : ℕ). MayStand order ports n interfaces block) place may, tt)
AreBlocks-push order ports at interfaces (b ∷ bs) block are is may =
    let place : at + length (b ++ concat bs) ≡ at + length b + length (concat bs) = omega (arith, length-append b (concat bs)) in
    let may' = subst (λ (n : ℕ). MayStand order ports n (interfaces_behind order (interfaces_after order interfaces b) bs) block) place may in
    (are.0, are.1, AreBlocks-push order ports (at + length b) (interfaces_after order interfaces b) bs block are.2 is may')

interfaces_behind-push : (order : Endianness) (n : ℕ) (blocks : List (List ℕ)) (block : List ℕ) → interfaces_behind order n (blocks ++ block ∷ []) ≡ interfaces_after order (interfaces_behind order n blocks) block
interfaces_behind-push order n [] block = refl
interfaces_behind-push order n (b ∷ bs) block = interfaces_behind-push order (interfaces_after order n b) bs block

arrivals_in-push : (order : Endianness) (blocks : List (List ℕ)) (block : List ℕ) → arrivals_in order (blocks ++ block ∷ []) ≡ arrivals_in order blocks ++ arrivals_of order block
arrivals_in-push order blocks block =
    flat_map-append (arrivals_of order) blocks (block ∷ []) ∙ ap (λ (xs : List Arrival). arrivals_in order blocks ++ xs) (append-nil (arrivals_of order block))

Begins-push : (order : Endianness) (ports : ℕ) (bytes : List ℕ) (blocks : List (List ℕ)) (rest block more : List ℕ) → Begins order ports bytes blocks rest → block ++ more ≡ rest → IsBlock order block
    → MayStand order ports (length (concat blocks)) (interfaces_behind order 0 blocks) block → Begins order ports bytes (blocks ++ block ∷ []) more
Begins-push order ports bytes blocks rest block more begins whole is may =
    let place : length (concat blocks) ≡ 0 + length (concat blocks) = omega arith in
    record {
      header = begins.header;
      are = AreBlocks-push order ports 0 0 blocks block begins.are is (subst (λ (n : ℕ). MayStand order ports n (interfaces_behind order 0 blocks) block) place may);
      whole =
          ap (λ (t : List ℕ). t ++ more) (concat-append blocks (block ∷ []) ∙ ap (λ (t : List ℕ). concat blocks ++ t) (append-nil block))
          ∙ append_assoc (concat blocks) block more ∙ ap (λ (t : List ℕ). concat blocks ++ t) whole ∙ begins.whole;
    }

is_block : (order : Endianness) (bytes block rest : List ℕ) → CutsOff order bytes block rest → IsEnds order block (kind_in order block) → IsBlock order block
is_block order bytes block rest cuts ends = record {
  long = ends.long;
  multiple = cuts.multiple;
  total = sym (total_in-append order block rest (omega (arith, cuts.long))) ∙ ap (total_in order) cuts.whole ∙ cuts.total;
  last = ends.last;
}

-- ---- the packets up to a place

-- the blocks up to a place, how many interfaces there are, and the packets where there was memory for all of them
pub record Walking (order : Endianness) (ports : ℕ) (bytes rest : List ℕ) (lacks : Bool) (interfaces : ℕ) (found : List Found) : Type 0 where
  pub blocks : List (List ℕ)
  pub begins : Begins order ports bytes blocks rest
  pub interfaces_are : interfaces ≡ interfaces_behind order 0 blocks
  pub few : interfaces ≤ ports
  pub shown : lacks ≡ false → map (arrival_in bytes) found ≡ arrivals_in order blocks
  pub within : All (IsFoundIn bytes) found
  pub apart : AreFrom 0 (spans_in found)
  pub behind : end_of 0 (spans_in found) + length rest ≤ length bytes

-- a block that passes its checks at this place
pub record Passing (order : Endianness) (ports : ℕ) (bytes rest : List ℕ) (interfaces at : ℕ) (content : Content) (block after : List ℕ) : Type 0 where
  pub at_is : at + length rest ≡ length bytes
  pub cuts : CutsOff order rest block after
  pub ends : IsEnds order block (kind_in order block)
  pub may : MayStand order ports at interfaces block
  pub holds : Holds order interfaces block content

pub Walking-none : (order : Endianness) (ports : ℕ) (bytes : List ℕ) → PassesHeader order bytes → Walking order ports bytes bytes false 0 []
Walking-none order ports bytes passes = record {
  blocks = [];
  begins = record { header = passes; are = tt; whole = refl };
  interfaces_are = refl;
  few = omega arith;
  shown = λ _. refl;
  within = λ k d h. absurd (omega (arith, h));
  apart = tt;
  behind = omega arith;
}

-- the place is behind the blocks
place_of : (order : Endianness) (ports : ℕ) (bytes rest : List ℕ) (blocks : List (List ℕ)) (at : ℕ) → Begins order ports bytes blocks rest → at + length rest ≡ length bytes → at ≡ length (concat blocks)
place_of order ports bytes rest blocks at begins is = omega (arith, ap length begins.whole, length-append (concat blocks) rest, is)

next_begins : (order : Endianness) (ports : ℕ) (bytes rest : List ℕ) (lacks : Bool) (interfaces at : ℕ) (found : List Found) (content : Content) (block after : List ℕ) (w : Walking order ports bytes rest lacks interfaces found)
    → Passing order ports bytes rest interfaces at content block after → Begins order ports bytes (w.blocks ++ block ∷ []) after
next_begins order ports bytes rest lacks interfaces at found content block after w p =
    let may = subst (λ (n : ℕ). MayStand order ports n interfaces block) (place_of order ports bytes rest w.blocks at w.begins p.at_is) p.may in
    let may' = subst (λ (n : ℕ). MayStand order ports (length (concat w.blocks)) n block) w.interfaces_are may in
    Begins-push order ports bytes w.blocks rest block after w.begins p.cuts.whole (is_block order rest block after p.cuts p.ends) may'

next_interfaces : (order : Endianness) (n m : ℕ) (blocks : List (List ℕ)) (block : List ℕ) → n ≡ interfaces_behind order 0 blocks → interfaces_after order n block ≡ m → m ≡ interfaces_behind order 0 (blocks ++ block ∷ [])
next_interfaces order n m blocks block is after =
    sym (interfaces_behind-push order 0 blocks block ∙ ap (λ (k : ℕ). interfaces_after order k block) (sym is) ∙ after)

-- packets stay as they are where a block has none
next_shown : (order : Endianness) (bytes : List ℕ) (found : List Found) (blocks : List (List ℕ)) (block : List ℕ) → map (arrival_in bytes) found ≡ arrivals_in order blocks → arrivals_of order block ≡ []
    → map (arrival_in bytes) found ≡ arrivals_in order (blocks ++ block ∷ [])
next_shown order bytes found blocks block shown none =
    shown ∙ sym (arrivals_in-push order blocks block ∙ ap (λ (xs : List Arrival). arrivals_in order blocks ++ xs) none ∙ append-nil (arrivals_in order blocks))

pub Walking-other : (order : Endianness) (ports : ℕ) (bytes rest : List ℕ) (lacks : Bool) (interfaces at : ℕ) (found : List Found) (block after : List ℕ) → Walking order ports bytes rest lacks interfaces found
    → Passing order ports bytes rest interfaces at Other block after → Walking order ports bytes after lacks interfaces found
Walking-other order ports bytes rest lacks interfaces at found block after w p = record {
  blocks = w.blocks ++ block ∷ [];
  begins = next_begins order ports bytes rest lacks interfaces at found Other block after w p;
  interfaces_are = next_interfaces order interfaces interfaces w.blocks block w.interfaces_are p.holds.0;
  few = w.few;
  shown = λ has. next_shown order bytes found w.blocks block (w.shown has) p.holds.1;
  within = w.within;
  apart = w.apart;
  behind = omega (arith, w.behind, ap length p.cuts.whole, length-append block after);
}

-- an interface more stands below the number of ports
pub room_for_interface : (order : Endianness) (ports at n : ℕ) (block : List ℕ) → interfaces_after order n block ≡ n + 1 → MayStand order ports at n block → n < ports
room_for_interface order ports at n block after may =
    elim (eqb_tells (kind_in order block) 1) [
      | inl i ↦ may.port i.1
      | inr i ↦ let same : n ≡ n + 1 = rw i.0 at after in absurd (omega (arith, same))
    ]

pub Walking-interface : (order : Endianness) (ports : ℕ) (bytes rest : List ℕ) (lacks : Bool) (interfaces at : ℕ) (found : List Found) (block after : List ℕ) → Walking order ports bytes rest lacks interfaces found
    → Passing order ports bytes rest interfaces at Interface block after → Walking order ports bytes after lacks (interfaces + 1) found
Walking-interface order ports bytes rest lacks interfaces at found block after w p = record {
  blocks = w.blocks ++ block ∷ [];
  begins = next_begins order ports bytes rest lacks interfaces at found Interface block after w p;
  interfaces_are = next_interfaces order interfaces (interfaces + 1) w.blocks block w.interfaces_are p.holds.0;
  few = omega (arith, room_for_interface order ports at interfaces block p.holds.0 p.may);
  shown = λ has. next_shown order bytes found w.blocks block (w.shown has) p.holds.1;
  within = w.within;
  apart = w.apart;
  behind = omega (arith, w.behind, ap length p.cuts.whole, length-append block after);
}

-- ---- a packet more

-- its bytes stand in the file as in the block
at_span-packet : (order : Endianness) (ports : ℕ) (bytes rest block after : List ℕ) (blocks : List (List ℕ)) (at len : ℕ) → Begins order ports bytes blocks rest → at + length rest ≡ length bytes → block ++ after ≡ rest
    → 28 + len ≤ length block → take len (drop (at + 28) bytes) ≡ take len (drop 28 block)
at_span-packet order ports bytes rest block after blocks at len begins at_is whole within =
    let front : drop at bytes ≡ rest = ap (drop at) (sym begins.whole) ∙ drop_at (concat blocks) rest at (sym (place_of order ports bytes rest blocks at begins at_is)) in
    let behind : drop (at + 28) bytes ≡ drop 28 block ++ after =
    sym (drop-drop 28 at bytes) ∙ ap (drop 28) (front ∙ sym whole) ∙ drop-append-le 28 block after (omega (arith, within)) in
    ap (take len) behind ∙ take-append-le len (drop 28 block) after (omega (arith, within, length-drop 28 block))

-- a packet that is kept
next_packet : (order : Endianness) (bytes : List ℕ) (found : List Found) (f : Found) (blocks : List (List ℕ)) (block : List ℕ) (a : Arrival) → map (arrival_in bytes) found ≡ arrivals_in order blocks
    → arrivals_of order block ≡ a ∷ [] → arrival_in bytes f ≡ a → map (arrival_in bytes) (found ++ f ∷ []) ≡ arrivals_in order (blocks ++ block ∷ [])
next_packet order bytes found f blocks block a shown one is =
    map-append (arrival_in bytes) found (f ∷ []) ∙ ap (λ (xs : List Arrival). xs ++ arrival_in bytes f ∷ []) shown ∙ ap (λ (x : Arrival). arrivals_in order blocks ++ x ∷ []) is
    ∙ ap (λ (xs : List Arrival). arrivals_in order blocks ++ xs) (sym one) ∙ sym (arrivals_in-push order blocks block)

next_within : (bytes : List ℕ) (failed : Bool) (found new : List Found) (f : Found) → new ≡ (if not failed then found ++ f ∷ [] else found) → All (IsFoundIn bytes) found → IsFoundIn bytes f → All (IsFoundIn bytes) new
next_within bytes false found new f is all one = subst (All (IsFoundIn bytes)) (sym is) (All-push (IsFoundIn bytes) found f all one)
next_within bytes true found new f is all one = subst (All (IsFoundIn bytes)) (sym is) all

-- where it stands among the others
next_apart : (failed : Bool) (found new : List Found) (f : Found) → new ≡ (if not failed then found ++ f ∷ [] else found) → AreFrom 0 (spans_in found) → end_of 0 (spans_in found) ≤ f.span.start → AreFrom 0 (spans_in new)
next_apart false found new f is apart behind = subst (λ (fs : List Found). AreFrom 0 (spans_in fs)) (sym is) (rw (map-append (λ (g : Found). g.span) found (f ∷ [])) (apart-push 0 (spans_in found) f.span apart behind))
next_apart true found new f is apart behind = subst (λ (fs : List Found). AreFrom 0 (spans_in fs)) (sym is) apart

next_behind : (bytes after : List ℕ) (failed : Bool) (found new : List Found) (f : Found) → new ≡ (if not failed then found ++ f ∷ [] else found) → end_of 0 (spans_in found) + length after ≤ length bytes
    → f.span.start + f.span.len + length after ≤ length bytes → end_of 0 (spans_in new) + length after ≤ length bytes
next_behind bytes after false found new f is old one =
    let end : end_of 0 (spans_in (found ++ f ∷ [])) ≡ f.span.start + f.span.len = ap (end_of 0) (map-append (λ (g : Found). g.span) found (f ∷ [])) ∙ end_of-push 0 (spans_in found) f.span in
    subst (λ (fs : List Found). end_of 0 (spans_in fs) + length after ≤ length bytes) (sym is) (omega (arith, end, one))
next_behind bytes after true found new f is old one = subst (λ (fs : List Found). end_of 0 (spans_in fs) + length after ≤ length bytes) (sym is) old

or_left_false : (a b : Bool) → (a || b) ≡ false → a ≡ false
or_left_false false b e = refl
or_left_false true b e = absurd cc

-- the packets that were found, where none was lost
next_kept : (order : Endianness) (bytes : List ℕ) (blocks : List (List ℕ)) (lacks failed : Bool) (found new : List Found) (f : Found) → new ≡ (if not failed then found ++ f ∷ [] else found) → (lacks || failed) ≡ false
    → (map (arrival_in bytes) (found ++ f ∷ []) ≡ arrivals_in order blocks) → map (arrival_in bytes) new ≡ arrivals_in order blocks
next_kept order bytes blocks lacks false found new f is has shown = ap (map (arrival_in bytes)) is ∙ shown
next_kept order bytes blocks false true found new f is has shown = absurd cc
next_kept order bytes blocks true true found new f is has shown = absurd cc

pub Walking-packet : (order : Endianness) (ports : ℕ) (bytes rest : List ℕ) (lacks failed : Bool) (interfaces at interface len : ℕ) (found new : List Found) (f : Found) (block after : List ℕ)
    → Walking order ports bytes rest lacks interfaces found → Passing order ports bytes rest interfaces at (Packet interface len) block after
    → f.interface ≡ interface → f.span.start ≡ at + 28 → f.span.len ≡ len → new ≡ (if not failed then found ++ f ∷ [] else found)
    → Walking order ports bytes after (lacks || failed) interfaces new
Walking-packet order ports bytes rest lacks failed interfaces at interface len found new f block after w p interface_is start len_is is =
    let packet : at_span bytes f.span ≡ take len (drop 28 block) =
    ap (λ (n : ℕ). take n (drop f.span.start bytes)) len_is ∙ ap (λ (n : ℕ). take len (drop n bytes)) start
    ∙ at_span-packet order ports bytes rest block after w.blocks at len w.begins p.at_is p.cuts.whole p.holds.2 in
    let arrival : arrival_in bytes f ≡ record { interface = interface; packet = take len (drop 28 block) } =
    ap (λ (i : ℕ). record { interface = i; packet = at_span bytes f.span }) interface_is ∙ ap (λ (t : List ℕ). record { interface = interface; packet = t }) packet in
    record {
      blocks = w.blocks ++ block ∷ [];
      begins = next_begins order ports bytes rest lacks interfaces at found (Packet interface len) block after w p;
      interfaces_are = next_interfaces order interfaces interfaces w.blocks block w.interfaces_are p.holds.0;
      few = w.few;
      shown = λ has.
          next_kept order bytes (w.blocks ++ block ∷ []) lacks failed found new f is has (
          next_packet order bytes found f w.blocks block (record { interface = interface; packet = take len (drop 28 block) }) (w.shown (or_left_false lacks failed has)) p.holds.1 arrival
          );
      within = next_within bytes failed found new f is w.within (
          omega (arith, start, len_is, p.at_is, p.holds.2, ap length p.cuts.whole, length-append block after)
          );
      apart = next_apart failed found new f is w.apart (omega (arith, start, p.at_is, w.behind));
      behind = next_behind bytes after failed found new f is (omega (arith, w.behind, ap length p.cuts.whole, length-append block after))
          (omega (arith, start, len_is, p.at_is, p.holds.2, ap length p.cuts.whole, length-append block after));
    }

-- ---- at the end

-- where nothing is left the bytes are a file of the packets up to there
pub Walking-file : (order : Endianness) (ports : ℕ) (bytes rest : List ℕ) (lacks : Bool) (interfaces : ℕ) (found : List Found) (w : Walking order ports bytes rest lacks interfaces found) → length rest ≡ 0
    → IsPcapng ports bytes (lists_of ports (arrivals_in order w.blocks))
Walking-file order ports bytes rest lacks interfaces found w none = record {
  order = order;
  blocks = w.blocks;
  begins = subst (Begins order ports bytes w.blocks) (rest_none rest none) w.begins;
  lists_are = refl;
}

pub Walking-done : (order : Endianness) (ports : ℕ) (bytes rest : List ℕ) (lacks : Bool) (interfaces : ℕ) (found : List Found) → Walking order ports bytes rest lacks interfaces found → lacks ≡ false → length rest ≡ 0
    → Finds order ports bytes found
Walking-done order ports bytes rest lacks interfaces found w has none = record {
  blocks = w.blocks;
  begins = subst (Begins order ports bytes w.blocks) (rest_none rest none) w.begins;
  shown = w.shown has;
  within = w.within;
  apart = w.apart;
}

-- ---- a block that fails

pub Walking-within : (order : Endianness) (ports : ℕ) (bytes rest : List ℕ) (lacks : Bool) (interfaces : ℕ) (found : List Found) → Walking order ports bytes rest lacks interfaces found → length rest ≤ length bytes
Walking-within order ports bytes rest lacks interfaces found w = omega (arith, ap length w.begins.whole, length-append (concat w.blocks) rest)

-- the content of a block that was cut off is refused
pub content_cause : (order : Endianness) (ports : ℕ) (bytes rest : List ℕ) (lacks : Bool) (interfaces at : ℕ) (found : List Found) (block after : List ℕ) (refusal : BadPcapng) → Walking order ports bytes rest lacks interfaces found
    → at + length rest ≡ length bytes → CutsOff order rest block after → content_refusal order ports at interfaces block ≡ Some refusal → IsCause ports bytes refusal
content_cause order ports bytes rest lacks interfaces at found block after refusal w at_is cuts fails =
    let all : length rest ≡ length block + length after = omega (arith, ap length cuts.whole, length-append block after) in
    let none : length_refusal order at rest ≡ None = length_none order at rest (omega (arith, cuts.total, cuts.long)) (ap (λ (n : ℕ). n % 4) cuts.total ∙ cuts.multiple) (omega (arith, cuts.total, all)) in
    let front : take (total_in order rest) rest ≡ block = ap (take (total_in order rest)) (sym cuts.whole) ∙ take_at block after (total_in order rest) (sym cuts.total) in
    let here : block_refusal order ports at interfaces rest ≡ Some refusal = rw (none, front) fails in
    let placed = subst (λ (n : ℕ). block_refusal order ports n interfaces rest ≡ Some refusal) (place_of order ports bytes rest w.blocks at w.begins at_is) here in
    inl (
    inr (
    record {
      order = order;
      blocks = w.blocks;
      rest = rest;
      begins = w.begins;
      more = omega (arith, all, cuts.long);
      fails = subst (λ (n : ℕ). block_refusal order ports (length (concat w.blocks)) n rest ≡ Some refusal) w.interfaces_are placed;
    }
    )
    )
