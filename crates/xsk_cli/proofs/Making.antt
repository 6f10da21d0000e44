-- Packets that are made are within the limits, and may be written.
use Rattle.std.proofs.Common.{◌≡◌, ℕ, zero, suc, ◌+◌, ◌*◌, ◌≤◌, List, [], ◌∷◌, ◌++◌, length, map, refl, ap, ◌∙◌, subst, sym, arith, le-ltb, None, Some, Bool, Option}
use Rattle.std.specs.Prelude.{All, sum_by, Result, Ok, Err, IfErr, IfOk}
use Rattle.std.specs.List.{concat, range_with_len}
use Rattle.std.proofs.lemmas.List.{map-append}
use Rattle.std.proofs.lemmas.List.FromFn.{sum_by-map-range_with_len_more}
use Rattle.xsk_turns.specs.declared.manner.Manner.{Manner}
use Rattle.xsk_umem.specs.PacketList.{PacketList}
use Rattle.xsk_driver.specs.SentRoom.{IsShort}
use Rattle.xsk_gen.specs.Generator.{first, packet}
use Rattle.xsk_gen.proofs.Sizes.{all_first, bytes_first, length-first, length-packet}
use Rattle.xsk_socket.specs.declared.layout.Layout.{Layout}
use Rattle.xsk_socket.specs.Layout.{fault_of}
use Rattle.xsk_socket.proofs.Accepted.{fits}
use Rattle.xsk_cli.specs.Judged.{bytes_of, AreShort, packets_in, bytes_in, excess_of}
use Rattle.xsk_cli.specs.Outcome.{listed, made, made_lists, Written, AreListsOf, AreMadeOf, AreTextsBy, IsAudited, IsOutcome}
use Rattle.xsk_cli.specs.Steps.{AreUntaken, FailsAudit, FailsMaking, FailsRunning, MakesNone, lists_in, read_by, written_in, IsUntaken}
use Rattle.xsk_cli.specs.declared.texts.Texts.{Texts}
use Rattle.xsk_cli.specs.Words.{fault_in, most_of}
use Rattle.xsk_cli.specs.declared.failure.RunFailure.{RunFailure}
use Rattle.xsk_cli.specs.declared.failure.RunFailure.TheVariants.{BadCapture as Bad, TooMuch as Excessive, Stalled as Stalls, Explained, OutOfMemory as NoMemory, NotLegal as Breaks, Reasoned, BadPcapng as BadFile}
use Rattle.xsk_cli.specs.declared.format.Format.{Format}
use Rattle.xsk_cli.specs.declared.format.Format.TheVariants.{Pcap, Pcapng}
use Rattle.xsk_cli.proofs.Ports.{more_ports}
use Rattle.xsk_args.specs.declared.program.Program.{Program}
use Rattle.xsk_turns.specs.declared.wire.Wire.{Wire}
use Rattle.xsk_cli.specs.declared.words.Telling.{Telling}
use Rattle.xsk_cli.specs.declared.words.Work.{Work}
use Rattle.xsk_cli.specs.declared.words.Work.TheVariants.{Simulate, Generate, Audit}

pub few_ports : (layout : Layout) → fault_of layout ≡ None → layout.ports ≤ 4
few_ports layout accepted = omega (arith, (fits layout accepted).ports)

-- a command reads few inputs
pub few_read : (work : Work) → fault_in work ≡ None → read_by work ≤ 4
few_read (Simulate layout programs wire manner order None telling Pcap) accepted = few_ports layout accepted
few_read (Simulate layout programs wire manner order None telling Pcapng) accepted = omega arith
few_read (Simulate layout programs wire manner order (Some number) telling format) accepted = omega arith
few_read (Generate number) accepted = omega arith
few_read (Audit layout why) accepted = omega arith

-- ---- limits

sum_few : {X : Type 0} (g : X → ℕ) (f : ℕ → X) (n : ℕ) → ((i : ℕ) → g (f i) ≤ 2000) → sum_by g (map f (range_with_len 0 n)) ≤ n * 2000
sum_few g f zero each = omega arith
sum_few g f (suc n) each =
    let next : n + 1 ≡ suc n = omega arith in
    subst (λ k. sum_by g (map f (range_with_len 0 k)) ≤ k * 2000) next (omega (arith, sum_by-map-range_with_len_more g f 0 n n (omega arith), sum_few g f n each, each n))

sum_small : {X : Type 0} (g : X → ℕ) (f : ℕ → X) (n : ℕ) → ((i : ℕ) → g (f i) ≤ 3028000) → sum_by g (map f (range_with_len 0 n)) ≤ n * 3028000
sum_small g f zero each = omega arith
sum_small g f (suc n) each =
    let next : n + 1 ≡ suc n = omega arith in
    subst (λ k. sum_by g (map f (range_with_len 0 k)) ≤ k * 3028000) next (omega (arith, sum_by-map-range_with_len_more g f 0 n n (omega arith), sum_small g f n each, each n))

made_few : (number port : ℕ) → length (first 2000 (packet number port)) ≤ 2000
made_few number port = omega (arith, length-first 2000 (packet number port))

made_small : (number port : ℕ) → length (concat (first 2000 (packet number port))) ≤ 3028000
made_small number port = bytes_first 2000 (packet number port) (length-packet number port)

none_passed : (lists : List (List (List ℕ))) → packets_in lists ≤ 65536 → bytes_in lists ≤ 33554432 → excess_of lists ≡ None
none_passed lists few small = rw (le-ltb 65536 (packets_in lists) few, le-ltb 33554432 (bytes_in lists) small) refl

pub made_within : (number ports : ℕ) → ports ≤ 4 → excess_of (made_lists number ports) ≡ None
made_within number ports few =
    none_passed (made_lists number ports)
    (omega (arith, few, sum_few (λ (packets : List (List ℕ)). length packets) (λ port. first 2000 (packet number port)) ports (made_few number)))
    (omega (arith, few, sum_small (λ (packets : List (List ℕ)). length (concat packets)) (λ port. first 2000 (packet number port)) ports (made_small number)))

-- ---- one list

pub record IsMade (packets : List (List ℕ)) : Type 0 where
  pub short : All IsShort packets
  pub few : length packets ≤ 65536
  pub small : length (concat packets) ≤ 33554432

pub is_made : (number : ℕ) (list : PacketList) → list ≡ listed (first 2000 (packet number 0)) → IsMade list.packets
is_made number list is = subst IsMade (sym (ap (λ (l : PacketList). l.packets) is)) (record {
  short = all_first IsShort 2000 (packet number 0) (λ i. omega (arith, length-packet number 0 i));
  few = omega (arith, made_few number 0);
  small = omega (arith, made_small number 0);
})

-- ---- the work's packets

pub untaken_makes : (layout : Layout) (programs : List Program) (wire : Wire) (manner : Manner) (order : ℕ) (telling : Telling) (inputs : List (List ℕ)) (failure : RunFailure) → AreUntaken inputs failure → MakesNone (Simulate layout programs wire manner order None telling Pcap) inputs failure
untaken_makes layout programs wire manner order telling inputs (Bad port cause) h = (h.0, h.1, tt)
untaken_makes layout programs wire manner order telling inputs (Excessive excess) h = h
untaken_makes layout programs wire manner order telling inputs (Stalls round) h = absurd h
untaken_makes layout programs wire manner order telling inputs (Explained round text) h = absurd h
untaken_makes layout programs wire manner order telling inputs NoMemory h = h
untaken_makes layout programs wire manner order telling inputs (Breaks line) h = absurd h
untaken_makes layout programs wire manner order telling inputs (Reasoned line text) h = absurd h
untaken_makes layout programs wire manner order telling inputs (BadFile cause) h = absurd h

pub file_makes : (layout : Layout) (programs : List Program) (wire : Wire) (manner : Manner) (order : ℕ) (telling : Telling) (inputs : List (List ℕ)) (failure : RunFailure) → IsUntaken layout.ports inputs failure → MakesNone (Simulate layout programs wire manner order None telling Pcapng) inputs failure
file_makes layout programs wire manner order telling inputs (Bad port cause) h = absurd h
file_makes layout programs wire manner order telling inputs (Excessive excess) h = h
file_makes layout programs wire manner order telling inputs (Stalls round) h = absurd h
file_makes layout programs wire manner order telling inputs (Explained round text) h = absurd h
file_makes layout programs wire manner order telling inputs NoMemory h = h
file_makes layout programs wire manner order telling inputs (Breaks line) h = absurd h
file_makes layout programs wire manner order telling inputs (Reasoned line text) h = absurd h
file_makes layout programs wire manner order telling inputs (BadFile cause) h = h

pub none_of : {X : Type 0} (xs : List X) → length xs ≡ 0 → xs ≡ []
none_of [] none = refl
none_of (x ∷ xs) none = absurd (omega (arith, none))

-- the texts of packets that are made are the outcome of no inputs
pub made_outcome : (work : Work) (number : ℕ) (inputs : List (List ℕ)) (texts : Written) → work ≡ Generate number → length inputs ≡ 0 → AreTextsBy (Generate number) (made_lists number 1) texts → IsOutcome work inputs (made texts)
made_outcome work number inputs texts is none are = subst (λ (w : Work). IsOutcome w inputs (made texts)) (sym is)
    ((λ port below. absurd (omega (arith, below, none))), (made_lists number 1, (none_of inputs none, refl), (made_within number 1 (omega arith), are)))

-- those of an audit are that of the inputs
pub audit_made : (answer : Result Texts RunFailure) (work : Work) (layout : Layout) (why : Bool) (inputs : List (List ℕ)) → work ≡ Audit layout why → AreShort (most_of work) inputs (length inputs)
    → IfOk answer (λ texts. IsAudited layout (bytes_of inputs 0) (made (written_in [] texts))) → IfOk answer (λ texts. IsOutcome work inputs (made (written_in [] texts)))
audit_made (Ok texts) work layout why inputs is within h =
    subst (λ (w : Work). IsOutcome w inputs (made (written_in [] texts))) (sym is) (subst (λ (w : Work). AreShort (most_of w) inputs (length inputs)) is within, h)
audit_made (Err failure) work layout why inputs is within h = tt

pub making_fails : (work : Work) (inputs : List (List ℕ)) (lists : List (List (List ℕ))) (failure : RunFailure) → AreShort (most_of work) inputs (length inputs) → AreListsOf work inputs lists → excess_of lists ≡ None
    → FailsMaking work lists failure → MakesNone work inputs failure
making_fails work inputs lists (Bad at cause) short are within h = absurd h
making_fails work inputs lists (Excessive excess) short are within h = absurd h
making_fails work inputs lists (Stalls round) short are within h = (short, (lists, are, (within, h)))
making_fails work inputs lists (Explained round text) short are within h = (h.0, (short, (lists, are, (within, h.1))), h.2)
making_fails work inputs lists NoMemory short are within h = tt
making_fails work inputs lists (Breaks line) short are within h = absurd h
making_fails work inputs lists (Reasoned line text) short are within h = absurd h
making_fails work inputs lists (BadFile cause) short are within h = absurd h

-- one list more
pub made_more : (number port : ℕ) (lists : List PacketList) (list : PacketList) (all : List PacketList) → lists_in lists ≡ made_lists number port → lists ≡ map listed (lists_in lists)
    → list ≡ listed (first 2000 (packet number port)) → all ≡ lists ++ list ∷ [] → (lists_in all ≡ made_lists number (port + 1)) × (all ≡ map listed (lists_in all))
made_more number port lists list all are bare is pushed =
    let packets : PacketList → List (List ℕ) = λ (l : PacketList). l.packets in
    let parts : lists_in all ≡ lists_in lists ++ list.packets ∷ [] = ap lists_in pushed ∙ map-append packets lists (list ∷ []) in
    let one : list ≡ listed list.packets = subst (λ (l : PacketList). l ≡ listed l.packets) (sym is) refl in (
      parts ∙ ap (λ ls. ls ++ list.packets ∷ []) are ∙ ap (λ (l : PacketList). made_lists number port ++ l.packets ∷ []) is ∙ sym (more_ports (λ port. first 2000 (packet number port)) port),
      pushed ∙ ap (λ ls. ls ++ list ∷ []) bare ∙ ap (λ l. map listed (lists_in lists) ++ l ∷ []) one ∙ sym (map-append listed (lists_in lists) (list.packets ∷ [])) ∙ ap (map listed) (sym parts),
    )

-- ---- what is made of packets

-- texts of packets are made of the inputs
pub packets_made : (work : Work) (inputs : List (List ℕ)) (lists : List (List (List ℕ))) (texts : Written) → AreListsOf work inputs lists → excess_of lists ≡ None → AreTextsBy work lists texts → AreMadeOf work inputs texts
packets_made (Simulate layout programs wire manner order number telling format) inputs lists texts are within is = (lists, are, (within, is))
packets_made (Generate number) inputs lists texts are within is = (lists, are, (within, is))
packets_made (Audit layout why) inputs lists texts are within is = absurd are

-- an answer with such a failure
pub answer_makes : {A : Type 0} (answer : Result A RunFailure) (failure : RunFailure) (work : Work) (inputs : List (List ℕ)) → answer ≡ Err failure → MakesNone work inputs failure → IfErr answer (MakesNone work inputs)
answer_makes answer failure work inputs is makes = subst (λ r. IfErr r (MakesNone work inputs)) (sym is) makes

-- why an audit gives nothing
audit_fails : (layout : Layout) (why : Bool) (inputs : List (List ℕ)) (failure : RunFailure) → AreShort (most_of (Audit layout why)) inputs (length inputs) → FailsAudit why layout (bytes_of inputs 0) failure → MakesNone (Audit layout why) inputs failure
audit_fails layout why inputs (Bad at cause) within h = absurd h
audit_fails layout why inputs (BadFile cause) within h = absurd h
audit_fails layout why inputs (Excessive excess) within h = absurd h
audit_fails layout why inputs (Stalls round) within h = absurd h
audit_fails layout why inputs (Explained round text) within h = absurd h
audit_fails layout why inputs NoMemory within h = tt
audit_fails layout why inputs (Breaks line) within h = ((within, h.0), h.1)
audit_fails layout why inputs (Reasoned line text) within h = (h.0, ((within, h.1.0), h.1.1), h.2)

pub audit_makes : {A : Type 0} (answer : Result A RunFailure) (layout : Layout) (why : Bool) (inputs : List (List ℕ)) → AreShort (most_of (Audit layout why)) inputs (length inputs) → IfErr answer (FailsAudit why layout (bytes_of inputs 0)) → IfErr answer (MakesNone (Audit layout why) inputs)
audit_makes (Ok texts) layout why inputs within h = tt
audit_makes (Err failure) layout why inputs within h = audit_fails layout why inputs failure within h

-- a run that gives nothing, as its work gives nothing
pub run_makes : {A : Type 0} (layout : Layout) (programs : List Program) (wire : Wire) (manner : Manner) (order : ℕ) (number : Option ℕ) (telling : Telling) (format : Format) (lists : List (List (List ℕ)))
    (r : Result A RunFailure) → IfErr r (FailsRunning layout programs wire manner order telling lists) → IfErr r (FailsMaking (Simulate layout programs wire manner order number telling format) lists)
run_makes layout programs wire manner order number telling format lists (Ok texts) fails = fails
run_makes layout programs wire manner order number telling format lists (Err (Stalls round)) fails = fails
run_makes layout programs wire manner order number telling format lists (Err (Explained round text)) fails = fails
run_makes layout programs wire manner order number telling format lists (Err NoMemory) fails = tt
run_makes layout programs wire manner order number telling format lists (Err (Bad port cause)) fails = absurd fails
run_makes layout programs wire manner order number telling format lists (Err (Excessive excess)) fails = absurd fails
run_makes layout programs wire manner order number telling format lists (Err (Breaks line)) fails = absurd fails
run_makes layout programs wire manner order number telling format lists (Err (Reasoned line text)) fails = absurd fails
run_makes layout programs wire manner order number telling format lists (Err (BadFile cause)) fails = absurd fails
