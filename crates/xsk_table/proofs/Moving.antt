-- Where entries stand by the counts of a pass, and what comes out of a slot.
use Rattle.std.proofs.Common.{◌≡◌, ℕ, ◌+◌, ◌-◌, ◌*◌, ◌%◌, ◌^◌, ◌<◌, ◌≤◌, List, [], ◌∷◌, length, refl, ap, sym, ◌∙◌, arith, subst, Option, Some, None, bit_and}
use Rattle.std.specs.Option.{option_map}
use Rattle.std.proofs.lemmas.Nat.{and_mask}
use Rattle.atomic_table.specs.Table.{rest}
use Rattle.xsk_umem.specs.Frame.{Frame}
use Rattle.xsk_umem.specs.Geometry.{Geometry, frame_of}
use Rattle.xsk_umem.specs.declared.batch.Item.{Item}
use Rattle.xsk_umem.specs.declared.batch.XdpDesc.{XdpDesc}
use Rattle.xsk_model.specs.Config.{Config, IsRingSize, size_of}
use Rattle.xsk_model.specs.Legal.{IsItemOn}
use Rattle.xsk_model.specs.declared.call.Ring.{Ring}
use Rattle.xsk_model.specs.declared.call.Ring.TheVariants.{Fill, Comp, Rx, Tx}
use Rattle.xsk_table.specs.Words.{second_word, unpacked}
use Rattle.xsk_table.specs.Layout.{entry_words, ring_base, word_at}
use Rattle.xsk_table.proofs.Counts.{packed_back}
use Rattle.xsk_table.specs.View.{Basis, Flight, taking, View}
use Rattle.xsk_model.specs.Entry.{Entry, own}
use Rattle.xsk_model.specs.Own.{given_of, released_of, held_of}
use Rattle.xsk_table.specs.Rule.{wrapped, entry_of, second_of, opened, lying}
use Rattle.xsk_table.specs.Plays.{Seated, Purpose, with_slot, without_slot, IsFirst, Lifted, Fetched, Settled, Emptied, TakenOut, still, emptied, ask_for}
use Rattle.xsk_table.proofs.WordRows.{divides}
use Rattle.xsk_table.proofs.Placing.{gone}

-- ---- places

pub masked : (count mask : ℕ) → IsRingSize (mask + 1) → bit_and count mask ≡ count % (mask + 1)
masked count mask h =
    let k = h.power.0 in
    let is : mask ≡ 2 ^ k - 1 = (let e : mask + 1 ≡ 2 ^ k = h.power.1 in omega arith) in
    ap (bit_and count) is ∙ and_mask count k ∙ ap (λ n. count % n) (sym h.power.1)

pub next_place : (k : Basis) (size a near placed : ℕ) → IsRingSize size → near ≡ wrapped k a → ((near + placed) % 2 ^ 32) % size ≡ (k.first + (a + placed)) % size
next_place k size a near placed h is =
    let m : ℕ = k.first in
    let wraps : (near + placed) % 2 ^ 32 ≡ (m + (a + placed)) % 2 ^ 32 = omega arith in
    ap (λ n. n % size) wraps ∙ divides size (m + (a + placed)) h

pub this_place : (k : Basis) (size a position : ℕ) → IsRingSize size → position ≡ wrapped k a → position % size ≡ (k.first + a) % size
this_place k size a position h is = ap (λ n. n % size) is ∙ divides size (k.first + a) h

-- an entry has one word or two
pub one_or_two : (r : Ring) → (entry_words r ≡ 2 → ⊥) → entry_words r ≡ 1
one_or_two (Fill d) h = refl
one_or_two (Comp d) h = refl
one_or_two (Rx s) h = absurd (h refl)
one_or_two (Tx s) h = absurd (h refl)

pub few_words : (r : Ring) (p : ℕ) → entry_words r * p ≤ 2 * p
few_words (Fill d) p = omega arith
few_words (Comp d) p = omega arith
few_words (Rx s) p = omega arith
few_words (Tx s) p = omega arith

pub some_words : (r : Ring) (word words : ℕ) → word + entry_words r ≤ words → word < words
some_words (Fill d) word words h = omega arith
some_words (Comp d) word words h = omega arith
some_words (Rx s) word words h = omega arith
some_words (Tx s) word words h = omega arith

-- the first word of an entry, and the second
pub first_word : (c : Config) (r : Ring) (base mask p count word : ℕ) → base ≡ ring_base c r → mask + 1 ≡ size_of c r → p ≡ count % (mask + 1) → word ≡ base + (32 + entry_words r * p) → word ≡ word_at c (entry_of c r count)
first_word c r base mask p count word at size is here =
    let place : p ≡ count % size_of c r = is ∙ ap (λ n. count % n) size in
    here ∙ (λ i. at i + (32 + entry_words r * place i))

pub behind : (c : Config) (r : Ring) (count word : ℕ) → word ≡ word_at c (entry_of c r count) → word + 1 ≡ word_at c (second_of c r count)
behind c r count word is =
    let b : ℕ = ring_base c r in
    let e : ℕ = entry_words r * (count % size_of c r) in
    let z : word ≡ b + (32 + e) = is in
    let goal : word + 1 ≡ b + (33 + e) = omega arith in
    goal

-- an entry lies within its ring
pub entry_fits : (r : Ring) (base size p word words : ℕ) → p < size → word ≡ base + (32 + entry_words r * p) → base + (32 + entry_words r * size) ≤ words → word + entry_words r ≤ words
entry_fits (Fill d) base size p word words lt is le = omega arith
entry_fits (Comp d) base size p word words lt is le = omega arith
entry_fits (Rx s) base size p word words lt is le = omega arith
entry_fits (Tx s) base size p word words lt is le = omega arith

pub place_small : (count mask : ℕ) → count % (mask + 1) < mask + 1
place_small count mask = omega arith

-- ---- frames

pub framed : (f : Option Frame) (n : ℕ) → option_map (λ (g : Frame). g.number) f ≡ Some n → (g : Frame) × (f ≡ Some g) × (g.number ≡ n)
framed None n e = absurd (cc)
framed (Some g) n e = (g, refl, (cc))

pub unframed : (f : Option Frame) → option_map (λ (g : Frame). g.number) f ≡ None → f ≡ None
unframed None e = refl
unframed (Some g) e = absurd (cc)

abbrev Slots : Type 0
Slots = List (ℕ × Option Frame)

front_some : (f : Option Frame) (g : Frame) (slots : Slots) → f ≡ Some g → IsFirst f f slots → slots ≡ (g.number, f) ∷ rest slots
front_some f g slots is h =
    let first : slots ≡ (g.number, Some g) ∷ rest slots = subst (λ (t : Option Frame). IsFirst t t slots) is h in
    first ∙ (λ i. (g.number, sym is i) ∷ rest slots)

pub front_number : (f : Option Frame) (n : ℕ) (slots : Slots) → option_map (λ (g : Frame). g.number) f ≡ Some n → IsFirst f f slots → slots ≡ (n, f) ∷ rest slots
front_number f n slots e h = let t = framed f n e in front_some f t.0 slots t.1 h ∙ (λ i. (t.2 i, f) ∷ rest slots)

abbrev value_of : Slots → Option Frame → Option Frame
value_of [] d = d
value_of (x ∷ xs) d = x.1

with_some : (f : Option Frame) (g : Frame) (slots : Slots) → f ≡ Some g → with_slot f None (without_slot f slots) ≡ (g.number, None) ∷ rest slots
with_some f g slots is = ap (λ t. with_slot t None (without_slot t slots)) is

pub emptied_some : (f : Option Frame) (n : ℕ) (m m' : Seated) (result : Option Frame) → option_map (λ (g : Frame). g.number) f ≡ Some n → IsFirst f f m.1 → m.1 ≡ (n, result) ∷ rest m.1 → m' ≡ (m.0, (n, None) ∷ rest m.1) → Emptied f m result m'
emptied_some f n m m' result e first was now =
    let t = framed f n e in
    record {
      frame = ap (λ l. value_of l None) (sym was ∙ front_number f n m.1 e first);
      view = ap (λ (s : Seated). s.0) now;
      slots = ap (λ (s : Seated). s.1) now ∙ (λ i. (sym t.2 i, None) ∷ rest m.1) ∙ sym (with_some f t.0 m.1 t.1);
    }

pub emptied_none : (f : Option Frame) (m : Seated) → option_map (λ (g : Frame). g.number) f ≡ None → Emptied f m None m
emptied_none f m e =
    let is = unframed f e in
    record { frame = sym is; view = refl; slots = sym (ap (λ t. with_slot t None (without_slot t m.1)) is) }

first_with : (f value : Option Frame) (slots : Slots) → IsFirst f value (with_slot f value slots)
first_with None value slots = tt
first_with (Some f) value slots = refl

-- ---- an item that comes out

pub fetched_front : (a : Purpose) (x : Item) (left : List Item) (m m' : Seated) (found : ℕ) → Fetched a x left m found m'
    → (option_map (λ (g : Frame). g.number) x.frame ≡ frame_of a.setup.config.geometry found) × IsFirst x.frame x.frame m'.1
fetched_front a x left m m' found h = (
  h.lawful.frame ∙ ap (frame_of a.setup.config.geometry) (sym h.found_is),
  subst (IsFirst x.frame x.frame) (sym h.slots) (first_with x.frame x.frame m.1),
)

pub emptied_first : (f result : Option Frame) (m m' : Seated) → Emptied f m result m' → IsFirst f None m'.1
emptied_first f result m m' h = subst (IsFirst f None) (sym h.slots) (first_with f None (without_slot f m.1))

-- an item of a ring whose entries have one word has an address alone
pub desc_one : (g : Geometry) (r : Ring) (x : Item) (addr : ℕ) → entry_words r ≡ 1 → addr ≡ x.desc.addr → IsItemOn g r x → record { addr = addr; len = 0; options = 0 } ≡ x.desc
desc_one g (Fill d) x addr one a h = λ i. record { addr = a i; len = sym h.plain.0 i; options = sym h.plain.1 i }
desc_one g (Comp d) x addr one a h = λ i. record { addr = a i; len = sym h.plain.0 i; options = sym h.plain.1 i }
desc_one g (Rx s) x addr one a h = absurd (cc)
desc_one g (Tx s) x addr one a h = absurd (cc)

-- one of another ring is in its two words
pub desc_two : (g : Geometry) (r : Ring) (x : Item) (addr second : ℕ) → addr ≡ x.desc.addr → second ≡ second_word x.desc → IsItemOn g r x → unpacked addr second ≡ x.desc
desc_two g r x addr second a b h = (λ i. unpacked (a i) (b i)) ∙ packed_back x.desc h.len

-- its count is the same once its slot is taken
pub still_position : (k : Basis) (who : ℕ) (r : Ring) (v w : View) (count : ℕ) (x : Item) (left : List Item) → v.flight ≡ taking r (x ∷ left) → w.seen ≡ v.seen
    → count + length (lying v.flight) ≡ emptied (ask_for k who r 0) v → count + length (x ∷ left) ≡ emptied (ask_for k who r 0) w
still_position k who r v w count x left flies same at_count =
    ap (λ (f : Flight). count + length (lying f)) (sym flies) ∙ at_count ∙ ap (λ (l : List Entry). released_of r (own who l) + held_of r (own who l)) (sym same)

pub out : (a : Purpose) (x : Item) (left : List Item) (m m' m'' n : Seated) (found : ℕ) (result : Option Frame) (desc : XdpDesc) → Fetched a x left m found m' → Emptied x.frame m' result m'' → Settled a x left m'' n → desc ≡ x.desc
    → TakenOut a.ring x left (record { frame = result; desc = desc }) m n
out a x left m m' m'' n found result desc h e down same = record {
  item = λ i. record { frame = e.frame i; desc = same i };
  view = down.view ∙ ap (λ (v : View). record v { flight = still a.ring left }) (e.view ∙ h.view);
  slots = down.slots ∙ ap (without_slot x.frame) e.slots ∙ gone x.frame None (without_slot x.frame m'.1) ∙ ap (without_slot x.frame) h.slots ∙ gone x.frame x.frame m.1;
}

-- the entry behind the items that are placed
pub placed_word : (a : Purpose) (m : Seated) (base mask near placed word : ℕ) → base ≡ ring_base a.setup.config a.ring → mask + 1 ≡ size_of a.setup.config a.ring → IsRingSize (mask + 1)
    → near ≡ wrapped a.setup (opened a.setup a.ring + given_of a.ring (own a.who m.0.seen)) → placed ≡ length (lying m.0.flight) → word ≡ base + (32 + entry_words a.ring * (((near + placed) % 2 ^ 32) % (mask + 1)))
    → word ≡ word_at a.setup.config (entry_of a.setup.config a.ring (a.setup.first + (opened a.setup a.ring + given_of a.ring (own a.who m.0.seen) + length (lying m.0.flight))))
placed_word a m base mask near placed word at size power near_is placed_is here =
    let k = a.setup in
    let r = a.ring in
    let n : ℕ = opened k r + given_of r (own a.who m.0.seen) in
    let place : ((near + placed) % 2 ^ 32) % (mask + 1) ≡ (k.first + (n + length (lying m.0.flight))) % (mask + 1) =
    next_place k (mask + 1) n near placed power near_is ∙ ap (λ l. (k.first + (n + l)) % (mask + 1)) placed_is in
    first_word k.config r base mask _ (k.first + (n + length (lying m.0.flight))) word at size place here

-- it is the same once the slot is taken
pub lifted_word : (a : Purpose) (m m' : Seated) (word : ℕ) → Lifted a m m'
    → word ≡ word_at a.setup.config (entry_of a.setup.config a.ring (a.setup.first + (opened a.setup a.ring + given_of a.ring (own a.who m.0.seen) + length (lying m.0.flight))))
    → word ≡ word_at a.setup.config (entry_of a.setup.config a.ring (a.setup.first + (opened a.setup a.ring + given_of a.ring (own a.who m'.0.seen) + length (lying m'.0.flight))))
lifted_word a m m' word did is =
    let k = a.setup in
    let r = a.ring in
    let P : View → Type 0 = λ v. word ≡ word_at k.config (entry_of k.config r (k.first + (opened k r + given_of r (own a.who v.seen) + length (lying v.flight)))) in
    subst P (sym did.view) is
