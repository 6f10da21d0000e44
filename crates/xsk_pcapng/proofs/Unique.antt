-- Bytes are read as blocks in one way.
use Rattle.std.proofs.Common.{◌≡◌, ℕ, ◌+◌, false, List, [], ◌∷◌, ◌++◌, length, None, refl, sym, ap, subst, ◌∙◌, append_assoc, arith, ltb}
use Rattle.std.specs.List.{concat}
use Rattle.std.proofs.lemmas.Bool.{le-ltb}
use Rattle.std.proofs.lemmas.Option.{same_Some}
use Rattle.std.proofs.lemmas.List.{length-append}
use Rattle.xsk_pcap.specs.declared.endianness.Endianness.{Endianness}
use Rattle.xsk_pcapng.specs.Blocks.{interfaces_after, interfaces_behind, AreBlocks}
use Rattle.xsk_pcapng.specs.Pcapng.{header_refusal, PassesHeader, Begins}
use Rattle.xsk_pcapng.proofs.Blocks.{front_unique, EndsAt}

-- nothing that may stand behind these blocks does
abbrev pub EndsBehind : Endianness → ℕ → ℕ → ℕ → List (List ℕ) → List ℕ → Type 0
EndsBehind order ports at interfaces blocks rest = EndsAt order ports (at + length (concat blocks)) (interfaces_behind order interfaces blocks) rest

-- behind a block more
ends_later : (order : Endianness) (ports at interfaces : ℕ) (block : List ℕ) (blocks : List (List ℕ)) (rest : List ℕ) → EndsBehind order ports at interfaces (block ∷ blocks) rest
    → EndsBehind order ports (at + length block) (interfaces_after order interfaces block) blocks rest
ends_later order ports at interfaces block blocks rest ends =
    let place : at + length (block ++ concat blocks) ≡ at + length block + length (concat blocks) = omega (arith, length-append block (concat blocks)) in
    subst (λ (n : ℕ). EndsAt order ports n (interfaces_behind order (interfaces_after order interfaces block) blocks) rest) place ends

-- at the front
ends_here : (order : Endianness) (ports at interfaces : ℕ) (rest : List ℕ) → EndsBehind order ports at interfaces [] rest → EndsAt order ports at interfaces rest
ends_here order ports at interfaces rest ends =
    let place : at + 0 ≡ at = omega arith in
    subst (λ (n : ℕ). EndsAt order ports n interfaces rest) place ends

blocks_unique : (order : Endianness) (ports at interfaces : ℕ) (bs cs : List (List ℕ)) (x y : List ℕ) → AreBlocks order ports at interfaces bs → AreBlocks order ports at interfaces cs
    → EndsBehind order ports at interfaces bs x → EndsBehind order ports at interfaces cs y → concat bs ++ x ≡ concat cs ++ y → (bs ≡ cs) × (x ≡ y)
blocks_unique order ports at interfaces [] [] x y are_b are_c end_x end_y e = (refl, e)
blocks_unique order ports at interfaces [] (c ∷ cs) x y are_b are_c end_x end_y e =
    absurd (ends_here order ports at interfaces x end_x c (concat cs ++ y) are_c.0 are_c.1 (sym (append_assoc c (concat cs) y) ∙ sym e))
blocks_unique order ports at interfaces (b ∷ bs) [] x y are_b are_c end_x end_y e =
    absurd (ends_here order ports at interfaces y end_y b (concat bs ++ x) are_b.0 are_b.1 (sym (append_assoc b (concat bs) x) ∙ e))
blocks_unique order ports at interfaces (b ∷ bs) (c ∷ cs) x y are_b are_c end_x end_y e =
    let regrouped = sym (append_assoc b (concat bs) x) ∙ e ∙ append_assoc c (concat cs) y in
    let first = front_unique order b c (concat bs ++ x) (concat cs ++ y) are_b.0 are_c.0 regrouped in
    let are_c' = subst (λ (t : List ℕ). AreBlocks order ports (at + length t) (interfaces_after order interfaces t) cs) (sym first.0) are_c.2 in
    let end_y' = subst (λ (t : List ℕ). EndsBehind order ports (at + length t) (interfaces_after order interfaces t) cs y) (sym first.0) (ends_later order ports at interfaces c cs y end_y) in
    let others = blocks_unique order ports (at + length b) (interfaces_after order interfaces b) bs cs x y are_b.2 are_c' (ends_later order ports at interfaces b bs x end_x) end_y' first.1 in
    (ap (λ (t : List ℕ). t ∷ bs) first.0 ∙ ap (λ (ts : List (List ℕ)). c ∷ ts) others.0, others.1)

-- ---- the section header

pub passes_none : (order : Endianness) (bytes : List ℕ) → PassesHeader order bytes → header_refusal bytes ≡ None
passes_none order bytes passes =
    let long : ltb (length bytes) 28 ≡ false = le-ltb (length bytes) 28 passes.long in
    rw (long, passes.kind, passes.magic, passes.major) refl

-- ---- the beginning of a file

-- two beginnings that go as far as they can are one
pub Begins-unique : (o q : Endianness) (ports : ℕ) (bytes x y : List ℕ) (bs cs : List (List ℕ)) → Begins o ports bytes bs x → Begins q ports bytes cs y
    → EndsBehind o ports 0 0 bs x → EndsBehind q ports 0 0 cs y → (o ≡ q) × (bs ≡ cs) × (x ≡ y)
Begins-unique o q ports bytes x y bs cs b d end_x end_y =
    let same : o ≡ q = same_Some o q (sym b.header.magic ∙ d.header.magic) in
    let d' : Begins o ports bytes cs y = subst (λ (z : Endianness). Begins z ports bytes cs y) (sym same) d in
    let end' : EndsBehind o ports 0 0 cs y = subst (λ (z : Endianness). EndsBehind z ports 0 0 cs y) (sym same) end_y in
    let u = blocks_unique o ports 0 0 bs cs x y b.are d'.are end_x end' (b.whole ∙ sym d'.whole) in
    (same, u.0, u.1)
