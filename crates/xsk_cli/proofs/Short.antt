-- The packets of all ports are no longer than a capture's.
use Rattle.std.proofs.Common.{ℕ, ◌<◌, List, [], length, get_or, sym, subst, arith}
use Rattle.std.specs.Prelude.{All, None, Some}
use Rattle.std.specs.List.{range_with_len}
use Rattle.std.proofs.lemmas.List.{length-map, get_or-map}
use Rattle.std.proofs.lemmas.List.Elements.{All-from_recursion}
use Rattle.xsk_umem.specs.PacketList.{PacketList}
use Rattle.xsk_driver.specs.SentRoom.{IsShort}
use Rattle.xsk_gen.specs.Generator.{first, packet}
use Rattle.xsk_gen.proofs.Sizes.{all_first, length-packet}
use Rattle.xsk_sim.specs.Shown.{HasShortPackets}
use Rattle.xsk_pcapng.proofs.Fits.{read_fits}
use Rattle.xsk_cli.specs.Format.{IsFile}
use Rattle.xsk_cli.specs.declared.format.Format.TheVariants.{Pcap, Pcapng}
use Rattle.xsk_cli.specs.Judged.{bytes_of, AreCaptures}
use Rattle.xsk_cli.proofs.Filing.{each_of_all}
use Rattle.xsk_cli.specs.Outcome.{made_lists, AreListsOf}
use Rattle.xsk_cli.specs.Steps.{lists_in}
use Rattle.xsk_cli.specs.declared.words.Work.{Work}
use Rattle.xsk_cli.specs.declared.words.Work.TheVariants.{Simulate, Generate, Audit}

abbrev AllShort : List (List (List ℕ)) → Type 0
AllShort lists = (port : ℕ) → port < length lists → All IsShort (get_or lists port [])

made_short : (number ports : ℕ) → AllShort (made_lists number ports)
made_short number ports port below =
    let made : ℕ → List (List ℕ) = λ port. first 2000 (packet number port) in
    let known : port < length (range_with_len 0 ports) = subst (λ n. port < n) (length-map (range_with_len 0 ports) made) below in
    subst (All IsShort) (sym (get_or-map made (range_with_len 0 ports) port 0 [] known))
    (all_first IsShort 2000 (packet number (get_or (range_with_len 0 ports) port 0)) (λ i. omega (arith, length-packet number (get_or (range_with_len 0 ports) port 0) i)))

captured_short : (inputs : List (List ℕ)) (lists : List (List (List ℕ))) → AreCaptures inputs lists → AllShort lists
captured_short inputs lists are port below = All-from_recursion IsShort (get_or lists port []) (are.each port (omega (arith, below, are.count))).1.records.short

filed_short : (ports : ℕ) (inputs : List (List ℕ)) (lists : List (List (List ℕ))) → IsFile ports inputs lists → AllShort lists
filed_short ports inputs lists are port below = All-from_recursion IsShort (get_or lists port []) (each_of_all IsShort lists (read_fits ports (bytes_of inputs 0) lists are.is).1 port below)

all_short : (work : Work) (inputs : List (List ℕ)) (lists : List (List (List ℕ))) → AreListsOf work inputs lists → AllShort lists
all_short (Simulate layout programs wire manner order None telling Pcap) inputs lists are = captured_short inputs lists are
all_short (Simulate layout programs wire manner order None telling Pcapng) inputs lists are = filed_short layout.ports inputs lists are
all_short (Simulate layout programs wire manner order (Some number) telling format) inputs lists are = subst AllShort (sym are.1) (made_short number layout.ports)
all_short (Generate number) inputs lists are = subst AllShort (sym are.1) (made_short number 1)
all_short (Audit layout why) inputs lists are = absurd are

pub short_lists : (work : Work) (inputs : List (List ℕ)) (lists : List PacketList) → AreListsOf work inputs (lists_in lists) → All HasShortPackets lists
short_lists work inputs lists are port d below =
    let packets : PacketList → List (List ℕ) = λ list. list.packets in
    subst (All IsShort) (get_or-map packets lists port d [] below) (all_short work inputs (lists_in lists) are port (subst (λ n. port < n) (sym (length-map lists packets)) below))
