use Rattle.std.proofs.Common.{arith, All, ◌≤◌, ◌++◌, ◌∷◌, [], length, sym, subst, List, ℕ}
use Rattle.std.proofs.lemmas.List.{append-nil}
use Rattle.std.proofs.lemmas.List.Elements.{All-head, All-tail}
use Rattle.std.specs.List.{AllByRecursion, concat}
use Rattle.xsk_pcap.specs.Capture.{IsShort}
use Rattle.xsk_pcap.specs.Written.{IsWritable}
use Rattle.template.proofs.capture_of.Goals as goal

by_recursion : (list : List (List ℕ)) → All IsShort list → AllByRecursion IsShort list
by_recursion [] all = tt
by_recursion (x ∷ xs) all = (All-head IsShort x xs all, by_recursion xs (All-tail IsShort x xs all))

-- Packets that are short, few and of few bytes may be written.
IsWritable-one : (list : List (List ℕ)) → All IsShort list → length list ≤ 65536 → length (concat list) ≤ 33554432 → IsWritable (list ∷ [])
IsWritable-one list each few small =
    let same = sym (append-nil list) in
    record {
      each = subst (AllByRecursion IsShort) same (by_recursion list each);
      packets = subst (λ l. length l ≤ 65536) same few;
      bytes = subst (λ l. length (concat l) ≤ 33554432) same small;
    }

pub add-requires : goal.add-requires
add-requires c =
    let list = c.args.list.now.packets in
    let few : length list ≤ 65536 = omega (arith, c.if-len-gt65536.false, c.len.ensures.value) in
    let small : length (concat list) ≤ 33554432 = omega (arith, c.if-bytes-gt33554432.false, c.bytes.ensures) in
    let each : All IsShort list = c.are_short.ensures c.if-not-are_short.false in
    subst (λ lists. IsWritable (lists ++ list ∷ [])) (sym c.in_ok-capture.ensures) (IsWritable-one list each few small)
