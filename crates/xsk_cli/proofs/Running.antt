-- What a run of the command sent is what is expected at each port and queue and what goes back there, and fits the captures of the
-- ports.
use Rattle.std.proofs.Common.{◌≡◌, ℕ, false, suc, ◌+◌, ◌*◌, ◌<◌, ◌≤◌, List, [], ◌∷◌, length, map, get_or, take, drop, refl, sym, ap, ◌∙◌, subst, arith, None, inl, inr, ⊎_elim, append-nil, mul-le-mul_right}
use Rattle.std.specs.Prelude.{All, ◌++◌, Bool, if◌then◌else◌, Option, Some, is_some, not, true, ◌&&◌, ◌==◌, ◌⊎◌}
use Rattle.std.proofs.lemmas.Bool.{and_parts, eqb-true, or_cases}
use Rattle.std.specs.List.{concat, range_with_len}
use Rattle.std.specs.Fn.{Shared}
use denote.Ref.{Bor}
use Rattle.std.proofs.lemmas.List.{length-map, get_or-map}
use Rattle.std.proofs.lemmas.List.Elements.{recursion_from_All}
use Rattle.xsk_pcap.specs.Capture.{IsShort}
use Rattle.xsk_pcap.specs.Written.{IsWritable, all_packets}
use Rattle.xsk_pcapng.specs.Written.{IsWritable as IsWritableFile}
use Rattle.xsk_umem.specs.PacketList.{PacketList}
use Rattle.xsk_umem.specs.Frame.{Frame}
use Rattle.xsk_model.specs.Config.{Config, classes_of, callers_of}
use Rattle.xsk_model.specs.Entry.{Entry, own}
use Rattle.xsk_model.specs.History.{IsHistory, state_after}
use Rattle.xsk_model.specs.Stored.{stored}
use Rattle.xsk_plain.specs.Engine.{Engine, Part, seen}
use Rattle.xsk_model.specs.Rings.{caller_of}
use Rattle.xsk_model.specs.Sent.{all_sent, bounced_of}
use Rattle.xsk_model.specs.Steering.{paired_port, driver_on, socket_on}
use Rattle.xsk_model.proofs.Closings.{all_completed}
use Rattle.xsk_model.proofs.Seats.{IsAt, below, is_at}
use Rattle.xsk_turns.specs.Inputs.{packets_of_queue}
use Rattle.xsk_turns.specs.SentWith.{bouncing}
use Rattle.xsk_turns.specs.Turns.{Judged}
use Rattle.xsk_turns.specs.declared.manner.Manner.{Manner}
use Rattle.xsk_turns.specs.Hands.{IsWholeRunOf}
use Rattle.xsk_turns.specs.Workers.{AreGiven, IsRuled, Setting, ruled_by}
use Rattle.xsk_prog.specs.Chain.{rules_of}
use Rattle.xsk_prog.specs.Program.{XdpProgram}
use Rattle.xsk_prog.specs.declared.rule.Rule.{Rule}
use Rattle.xsk_prog.specs.declared.rule.Verdict.{Verdict}
use Rattle.xsk_args.specs.declared.program.Program.{Program}
use Rattle.xsk_turns.specs.declared.wire.Wire.{Wire}
use Rattle.xsk_turns.specs.declared.wire.Wire.TheVariants.{Wait}
use Rattle.xsk_driver.specs.Asking.{IsAnswer}
use Rattle.xsk_machine.specs.Acts.{sent_of}
use Rattle.xsk_machine.specs.Workers.{setting_by}
use Rattle.xsk_machine.proofs.Ruling.{asked_ruled}
use Rattle.xsk_machine.proofs.Within.{by_one}
use Rattle.xsk_workers.specs.Forwarded.{OutcomeShown, HasForwarded}
use Rattle.xsk_workers.specs.Hands.{SuitHands}
use Rattle.xsk_cli.specs.Forward.{unmangled}
use Rattle.xsk_cli.specs.Words.{suits_hands}
use Rattle.xsk_sim.specs.Left.{HasStalledOnUnder}
use Rattle.xsk_sim.specs.Runs.{HasEnded, HasEndedUnder, HasStalledUnder}
use Rattle.xsk_sim.specs.Server.{logged_seen}
use Rattle.xsk_sim.specs.Turning.{HasRun}
use Rattle.xsk_sim.specs.declared.simulation.SimError.{SimError}
use Rattle.xsk_sim.specs.declared.simulation.SimError.TheVariants.{Stalled as HasNoEnd, OutOfMemory as RunMemory}
use Rattle.xsk_sim.specs.Journal.{journal_of}
use Rattle.xsk_sim.specs.Shown.{HasShortPackets, Shown}
use Rattle.xsk_sim.proofs.InRounds.{entries_stand_in_rounds}
use Rattle.xsk_sim.proofs.Journaling.{journal_stored}
use Rattle.xsk_sim.proofs.Verdicts.{ends_as_ruled}
use Rattle.xsk_turns.proofs.Verdicts.{one_setting}
use Rattle.xsk_why.specs.Why.{why_text}
use Rattle.xsk_laws.specs.Laws.{AreEndedRunsBy, AreWholeRunsBy}
use Rattle.xsk_ended.specs.Until.{AreExpectedUntil, AreForwardedUntil}
use Rattle.xsk_ended.proofs.Ended.{ended_bounced_as_said, ended_is_within}
use Rattle.xsk_ended.proofs.Until.{all_are_expected, all_are_forwarded, ended_are_expected, ended_are_forwarded}
use Rattle.xsk_laws.specs.Expected.{bounced_on, received}
use Rattle.xsk_laws.proofs.Joined.{input_is}
use Rattle.xsk_laws.proofs.Places.{are_paired}
use Rattle.xsk_laws.proofs.Theorems.{all_is_expected}
use Rattle.xsk_socket.specs.declared.layout.Layout.{Layout}
use Rattle.xsk_socket.specs.Layout.{fault_of, pairs_in}
use Rattle.xsk_socket.specs.Regular.{pair_in, regular_of}
use Rattle.xsk_socket.proofs.Accepted.{fits}
use Rattle.xsk_socket.proofs.Numbered.{length-numbered}
use Rattle.xsk_socket.proofs.Regularity.{regular-config, regular-regular}
use Rattle.xsk_cli.specs.Format.{joined, outputs_of}
use Rattle.xsk_cli.specs.Judged.{excess_of}
use Rattle.xsk_cli.specs.declared.format.Format.{Format}
use Rattle.xsk_stats.specs.Report.{report_text}
use Rattle.xsk_cli.specs.Outcome.{Written, listed, setting_of, verdicts_by, frames_of, sent_on, sent_from, going_on, going_back, rules_by, report_of, told_of, AreTextsIn, AreTextsOf, NoneGoesBack, sent_on_by}
use Rattle.xsk_cli.specs.Stalls.{IsStall, told_of_stall, told_on}
use Rattle.xsk_sim.specs.SoFar.{all_counters}
use Rattle.xsk_stats.specs.Counters.{counters_text}
use Rattle.xsk_turns.specs.declared.disposal.DriverCounters.{DriverCounters}
use Rattle.xsk_cli.specs.Steps.{FailsRunning, IsExplained, IsStallText, lists_in, sim_failure}
use Rattle.xsk_cli.specs.declared.failure.RunFailure.{RunFailure}
use Rattle.xsk_cli.specs.declared.failure.RunFailure.TheVariants.{BadCapture as Bad, TooMuch as Excessive, Stalled as Stalls, Explained, OutOfMemory as NoMemory, NotLegal as Breaks, Reasoned, BadPcapng as BadFile}
use Rattle.xsk_cli.specs.declared.words.Telling.{Telling}
use Rattle.xsk_cli.proofs.Going.{bounced_goes_back, classes_are, expected_goes_on, are_exact_by, packets_there}
use Rattle.xsk_cli.proofs.Judging.{limits_of}
use Rattle.xsk_cli.proofs.Ports.{same_map}
use Rattle.xsk_cli.proofs.Filing.{same_texts}
use Rattle.xsk_cli.proofs.Queues.{IsWithin, piece, port_writable, ports_writable}

-- ---- the pairs of a layout

pub pairs_are : (layout : Layout) → length (regular_of layout).pairs ≡ pairs_in layout
pairs_are layout = length-numbered (pairs_in layout) (pair_in layout)

-- so many of a port's pairs are among all
pub rows : (ports queues port count : ℕ) → port < ports → count ≤ queues → port * queues + count ≤ ports * queues
rows ports queues port count in_ports few =
    let next : suc port * queues ≡ port * queues + queues = grind arith in
    let most : suc port * queues ≤ ports * queues = mul-le-mul_right queues in_ports in
    omega (arith, next, most, few)

driver_known : (ports queues port queue : ℕ) → port < ports → queue < queues → port * queues + queue < ports * queues
driver_known ports queues port queue in_ports in_queues = below port queues queue (ports * queues) in_queues (mul-le-mul_right queues in_ports)

-- ---- a history in which all runs are whole, and the lists that are shown of it

module _ (hands : ℕ) (layout : Layout) (programs : List Program) (wire : Wire) (manner : Manner) (lists : List (List (List ℕ))) (accepted : fault_of layout ≡ None) (history : List Entry) (legal : IsHistory (regular_of layout) (frames_of layout) history)
    (whole : (who : ℕ) → who < callers_of (regular_of layout) → IsWholeRunOf hands (setting_of layout programs wire manner lists) who (own who history)) (all : List (List (List ℕ)))
    (each : (pair : ℕ) → pair < length (regular_of layout).pairs → get_or all pair [] ≡ sent_of (setting_of layout programs wire manner lists) history pair) where
  abbrev config : Config
  config = regular_of layout

  abbrev verdicts : List (List Verdict)
  verdicts = verdicts_by layout programs lists

  -- all workers have whole runs
  whole_runs : AreEndedRunsBy hands manner wire config (map listed lists) verdicts (frames_of layout) history
  whole_runs = record {
    regular = regular-regular layout (fits layout accepted);
    history = legal;
    drivers = λ d below. (whole d (omega (arith, below))).driver below;
    apps = λ a below. (whole (caller_of config a) (omega (arith, below))).app a refl;
  }

  -- and where no socket is closed
  steady_runs : layout.close ≡ None → AreWholeRunsBy hands manner wire config (map listed lists) verdicts (frames_of layout) history
  steady_runs closes = record { steady = record { regular = whole_runs.regular; closes = closes }; history = legal; drivers = whole_runs.drivers; apps = whole_runs.apps }

  -- what goes back of what a port received on a queue is what its driver is to bounce
  goes_back_on : (port queue : ℕ) → port < layout.ports → queue < layout.queues → bounced_on config (map listed lists) verdicts port queue ≡ going_back layout programs lists port queue
  goes_back_on port queue in_ports in_queues = bounced_goes_back layout programs lists port queue accepted in_ports in_queues

  -- so what it sent is what the words say
  abbrev sent_here : ℕ → ℕ → List (List ℕ)
  sent_here port queue = sent_on layout programs lists history port queue

  sent_as : (port queue : ℕ) → port < layout.ports → queue < layout.queues → all_sent config (bounced_on config (map listed lists) verdicts port queue) history (driver_on config port queue) ≡ sent_here port queue
  sent_as port queue in_ports in_queues = ap (λ ps. all_sent config ps history (driver_on config port queue)) (goes_back_on port queue in_ports in_queues)

  shown_sent : (port queue : ℕ) → port < layout.ports → queue < layout.queues → get_or all (port * layout.queues + queue) [] ≡ sent_here port queue
  shown_sent port queue in_ports in_queues =
      let d : ℕ = driver_on config port queue in
      let some : 0 < classes_of config = (let classes = (regular-regular layout (fits layout accepted)).classes in omega (arith, classes)) in
      let at : IsAt config port queue 0 d (socket_on config port queue 0) =
      is_at config port queue 0 (regular-config layout (fits layout accepted)) (regular-regular layout (fits layout accepted)) in_ports in_queues some in
      each (port * layout.queues + queue) (omega (arith, driver_known layout.ports layout.queues port queue in_ports in_queues, pairs_are layout))
      ∙ ap (λ (input : List Judged). all_sent config (bouncing input) history d) (input_is config (map listed lists) verdicts port queue 0 d (socket_on config port queue 0) at)
      ∙ sent_as port queue in_ports in_queues

  module _ (pairs : length all ≡ pairs_in layout) where
    sent_piece : (port count : ℕ) → port < layout.ports → count ≤ layout.queues → take count (drop (port * layout.queues) all) ≡ map (sent_here port) (range_with_len 0 count)
    sent_piece port count in_ports few =
        piece [] all (port * layout.queues) count (omega (arith, rows layout.ports layout.queues port count in_ports few, pairs))
        ∙ same_map _ _ 0 count (λ queue below. shown_sent port queue in_ports (omega (arith, below, few)))

    -- ---- the texts

    all_from : (port : ℕ) → port < layout.ports → take layout.queues (drop (port * layout.queues) all) ≡ sent_from layout programs lists history port
    all_from port in_ports = sent_piece port layout.queues in_ports (omega arith)

    -- with one socket on each queue, and where nothing goes back, each driver sent what goes on to its queue
    one_sent : manner.mangle ≡ None → layout.close ≡ None → wire ≡ Wait → layout.sockets ≡ 1 → NoneGoesBack layout programs lists → (port queue : ℕ) → port < layout.ports → queue < layout.queues
        → sent_here port queue ≡ going_on layout programs lists (paired_port port) queue 0
    one_sent none closes waits one back port queue in_ports in_queues =
        let classes : classes_of config ≡ 1 = classes_are layout (omega (arith, driver_known layout.ports layout.queues port queue in_ports in_queues)) ∙ one in
        ap (λ ps. all_sent config ps history (driver_on config port queue)) (back port queue in_ports in_queues)
        ∙ all_completed config history (driver_on config port queue)
        ∙ all_is_expected hands manner wire config (map listed lists) verdicts (frames_of layout) history port queue none waits (steady_runs closes) in_ports in_queues classes
        ∙ expected_goes_on layout programs lists port queue 0 accepted (record { in_ports = in_ports; in_queues = in_queues; in_classes = omega (arith, classes) })

    -- until lanes were cut, it is what was forwarded there, and what is expected
    forwarded_here : (port queue : ℕ) → manner.mangle ≡ None → port < layout.ports → queue < layout.queues → AreForwardedUntil wire config history (map listed lists) verdicts port queue (sent_here port queue)
    forwarded_here port queue none in_ports in_queues =
        subst (AreForwardedUntil wire config history (map listed lists) verdicts port queue) (sent_as port queue in_ports in_queues)
        (ended_are_forwarded hands manner wire config (map listed lists) verdicts (frames_of layout) history port queue none whole_runs in_ports in_queues)

    expected_here : (port queue : ℕ) → manner.mangle ≡ None → wire ≡ Wait → port < layout.ports → queue < layout.queues → AreExpectedUntil config history (map listed lists) verdicts port queue (sent_here port queue)
    expected_here port queue none waits in_ports in_queues =
        subst (AreExpectedUntil config history (map listed lists) verdicts port queue) (sent_as port queue in_ports in_queues)
        (ended_are_expected hands manner wire config (map listed lists) verdicts (frames_of layout) history port queue none waits whole_runs in_ports in_queues)

    pub texts_in : (format : Format) (told : List ℕ) (texts : Written)
        → texts.outputs ≡ outputs_of format (λ port. take layout.queues (drop (port * layout.queues) all)) (range_with_len 0 layout.ports)
        → texts.report ≡ told → AreTextsIn format layout programs wire manner lists history told texts
    texts_in format told texts outputs report =
        let is : texts.outputs ≡ outputs_of format (sent_from layout programs lists history) (range_with_len 0 layout.ports) =
        outputs ∙ same_texts format (λ port. take layout.queues (drop (port * layout.queues) all)) (sent_from layout programs lists history) layout.ports all_from in
        record {
          sent = is;
          bounced = λ port queue in_ports in_queues.
              subst (λ ps. bounced_of ps (own (driver_on config port queue) history) ≡ ps) (goes_back_on port queue in_ports in_queues)
              (ended_bounced_as_said hands manner wire config (map listed lists) verdicts (frames_of layout) history port queue whole_runs in_ports in_queues);
          forwarded = λ port queue none closes in_ports in_queues.
              all_are_forwarded wire config history (map listed lists) verdicts port queue (sent_here port queue) closes (forwarded_here port queue none in_ports in_queues);
          redirected = λ port queue none closes waits in_ports in_queues.
              all_are_expected config history (map listed lists) verdicts port queue (sent_here port queue) closes (expected_here port queue none waits in_ports in_queues);
          forwarded_until = forwarded_here;
          redirected_until = expected_here;
          one_socket = λ none closes waits one back.
              is
              ∙ same_texts format (sent_from layout programs lists history) (sent_on_by layout programs lists) layout.ports
              (λ port h. same_map _ _ 0 layout.queues (λ queue k. one_sent none closes waits one back port queue h (omega (arith, k))));
          report = report;
        }

    -- ---- the captures of the ports

    module _ (count_is : length lists ≡ layout.ports) (within : excess_of lists ≡ None) (each_short : (pair : ℕ) → pair < length all → All IsShort (get_or all pair [])) where
      -- so many ports
      in_lists : (port : ℕ) → port < length lists → port < layout.ports
      in_lists port known = omega (arith, known, count_is)

      ports_are : (length lists ≡ 2) ⊎ (length lists ≡ 4)
      ports_are = subst (λ (n : ℕ). (n ≡ 2) ⊎ (n ≡ 4)) (sym count_is) (fits layout accepted).ports

      sent_short : (port queue : ℕ) → port < layout.ports → queue < layout.queues → All IsShort (sent_here port queue)
      sent_short port queue in_ports in_queues =
          subst (All IsShort) (shown_sent port queue in_ports in_queues)
          (each_short (port * layout.queues + queue) (omega (arith, driver_known layout.ports layout.queues port queue in_ports in_queues, pairs)))

      -- what a port received on a queue
      received_there : (port queue : ℕ) → received config (map listed lists) port queue ≡ packets_of_queue layout.queues queue (get_or lists port [])
      received_there port queue = ap (packets_of_queue layout.queues queue) (packets_there lists port)

      sent_within : (port queue : ℕ) → port < layout.ports → queue < layout.queues
          → IsWithin layout.queues (get_or lists port []) (get_or lists (paired_port port) []) queue (sent_here port queue) (sent_here (paired_port port) queue)
      sent_within port queue in_ports in_queues =
          let other : paired_port port < layout.ports = (are_paired layout.ports port (fits layout accepted).ports in_ports).in_ports in
          let few = ended_is_within hands manner wire config (map listed lists) verdicts (frames_of layout) history port queue whole_runs in_ports in_queues in
          let mine = sent_as port queue in_ports in_queues in
          let theirs = sent_as (paired_port port) queue other in_queues in
          let here = received_there port queue in
          let there = received_there (paired_port port) queue in
          record {
            few = omega (arith, few.0, ap length mine, ap length theirs, ap length here, ap length there);
            small =
                omega (
                  arith,
                  few.1,
                  ap (λ (ps : List (List ℕ)). length (concat ps)) mine,
                  ap (λ (ps : List (List ℕ)). length (concat ps)) theirs,
                  ap (λ (ps : List (List ℕ)). length (concat ps)) here,
                  ap (λ (ps : List (List ℕ)). length (concat ps)) there,
                );
          }

      pub all_writable : (port count : ℕ) → port < layout.ports → count ≤ layout.queues → IsWritable (take count (drop (port * layout.queues) all))
      all_writable port count in_ports few =
          subst IsWritable (sym (sent_piece port count in_ports few))
          (port_writable layout.queues lists sent_here count ports_are
          (λ other queue known below. sent_short other queue (in_lists other known) (omega (arith, below, few)))
          (λ other queue known below. sent_within other queue (in_lists other known) (omega (arith, below, few)))
          (limits_of lists within).0 (limits_of lists within).1 port (omega (arith, in_ports, count_is)))

      -- so all of them go into one file
      pub all_in_file : IsWritableFile (joined layout.ports layout.queues all)
      all_in_file =
          let one : ℕ → List (List ℕ) = λ port. all_packets (map (sent_here port) (range_with_len 0 layout.queues)) in
          let same : joined layout.ports layout.queues all ≡ map one (range_with_len 0 layout.ports) =
          same_map (λ port. all_packets (take layout.queues (drop (port * layout.queues) all))) one 0 layout.ports (λ port below. ap all_packets (all_from port (omega (arith, below)))) in
          subst IsWritableFile (sym same)
          (subst (λ (n : ℕ). IsWritableFile (map one (range_with_len 0 n))) count_is
          (ports_writable layout.queues lists sent_here layout.queues ports_are
          (λ port queue known below. sent_short port queue (in_lists port known) below)
          (λ port queue known below. sent_within port queue (in_lists port known) below)
          (limits_of lists within).0 (limits_of lists within).1))

-- ---- a run in rounds that has ended

module _ (layout : Layout) (programs : List Program) (wire : Wire) (manner : Manner) (order : ℕ) (lists : List (List (List ℕ))) (accepted : fault_of layout ≡ None) (run : Shown) (ended : HasEnded (setting_of layout programs wire manner lists) (frames_of layout) order run)
    (pairs : length run.sent ≡ pairs_in layout) where
  -- one hand runs each application
  whole : (who : ℕ) → who < callers_of (regular_of layout) → IsWholeRunOf 1 (setting_of layout programs wire manner lists) who (own who ended.history)
  whole who below = by_one (setting_of layout programs wire manner lists) who (own who ended.history) (ended.whole who below)

  pub texts_of : (format : Format) (journal : Bool) (texts : Written)
      → texts.outputs ≡ outputs_of format (λ port. take layout.queues (drop (port * layout.queues) run.sent)) (range_with_len 0 layout.ports)
      → run.pairs ≡ pairs_in layout → texts.report ≡ report_text (regular_of layout) run.figures ++ (if journal then journal_of run.pairs run.log else [])
      → AreTextsOf format layout programs wire manner order lists journal texts
  texts_of format journal texts outputs drivers report =
      let config : Config = regular_of layout in
      record {
        run = run;
        ended = ended;
        are =
            texts_in 1 layout programs wire manner lists accepted ended.history ended.is.legal whole run.sent ended.sent pairs format (told_of layout programs wire manner lists journal ended.history) texts outputs
            (report ∙ ap (λ figures. report_text config figures ++ (if journal then journal_of run.pairs run.log else [])) ended.figures
            ∙ ap (λ n. report_of layout programs wire manner lists ended.history ++ (if journal then journal_of n run.log else [])) (drivers ∙ sym (pairs_are layout))
            ∙ ap (λ h. report_of layout programs wire manner lists ended.history ++ (if journal then journal_of (length config.pairs) h else [])) ended.log
            ∙ ap (λ t. report_of layout programs wire manner lists ended.history ++ (if journal then t else [])) (journal_stored config.geometry config.sg (length config.pairs) ended.history));
        rounds = entries_stand_in_rounds (setting_of layout programs wire manner lists) (frames_of layout) order ended.count ended.history ended.is;
      }

  pub sent_writable : length lists ≡ layout.ports → excess_of lists ≡ None → ((pair : ℕ) → pair < length run.sent → All IsShort (get_or run.sent pair [])) → (port count : ℕ) → port < layout.ports → count ≤ layout.queues
      → IsWritable (take count (drop (port * layout.queues) run.sent))
  sent_writable count_is within each_short = all_writable 1 layout programs wire manner lists accepted ended.history ended.is.legal whole run.sent ended.sent pairs count_is within each_short

  pub sent_in_file : length lists ≡ layout.ports → excess_of lists ≡ None → ((pair : ℕ) → pair < length run.sent → All IsShort (get_or run.sent pair [])) → IsWritableFile (joined layout.ports layout.queues run.sent)
  sent_in_file count_is within each_short = all_in_file 1 layout programs wire manner lists accepted ended.history ended.is.legal whole run.sent ended.sent pairs count_is within each_short

-- ---- a run on threads

module _ (layout : Layout) (programs : List Program) (wire : Wire) (manner : Manner) (lists : List (List (List ℕ))) (accepted : fault_of layout ≡ None) (o : OutcomeShown) (shown : HasForwarded layout.hands (setting_of layout programs wire manner lists) (frames_of layout) o)
    (pairs : length o.sent ≡ pairs_in layout) where
  pub texts_shown : (format : Format) (texts : Written)
      → texts.outputs ≡ outputs_of format (λ port. take layout.queues (drop (port * layout.queues) o.sent)) (range_with_len 0 layout.ports)
      → texts.report ≡ report_text (regular_of layout) o.figures → AreTextsIn format layout programs wire manner lists o.history (report_of layout programs wire manner lists o.history) texts
  texts_shown format texts outputs report =
      texts_in layout.hands layout programs wire manner lists accepted o.history shown.legal shown.whole o.sent shown.sent pairs format (report_of layout programs wire manner lists o.history) texts outputs (report ∙ ap (report_text (regular_of layout)) shown.figures)

  pub shown_writable : length lists ≡ layout.ports → excess_of lists ≡ None → ((pair : ℕ) → pair < length o.sent → All IsShort (get_or o.sent pair [])) → (port count : ℕ) → port < layout.ports → count ≤ layout.queues
      → IsWritable (take count (drop (port * layout.queues) o.sent))
  shown_writable count_is within each_short = all_writable layout.hands layout programs wire manner lists accepted o.history shown.legal shown.whole o.sent shown.sent pairs count_is within each_short

  pub shown_in_file : length lists ≡ layout.ports → excess_of lists ≡ None → ((pair : ℕ) → pair < length o.sent → All IsShort (get_or o.sent pair [])) → IsWritableFile (joined layout.ports layout.queues o.sent)
  shown_in_file count_is within each_short = all_in_file layout.hands layout programs wire manner lists accepted o.history shown.legal shown.whole o.sent shown.sent pairs count_is within each_short

-- a layout and a manner that go together can be run by the layout's hands
pub hands_suit : (layout : Layout) (manner : Manner) → suits_hands layout manner ≡ true → SuitHands layout.hands (regular_of layout)
hands_suit layout manner is = ⊎_elim
    (λ (one : (layout.hands == 1) ≡ true). inl (eqb-true layout.hands 1 one))
    (λ (rest : (not (is_some layout.close) && manner.after == 0) ≡ true).
    let both = and_parts (not (is_some layout.close)) (manner.after == 0) rest in
    inr (nothing layout.close both.0))
    (or_cases (layout.hands == 1) (not (is_some layout.close) && manner.after == 0) is)
  where
    nothing : (o : Option ℕ) → not (is_some o) ≡ true → o ≡ None
    nothing None e = refl
    nothing (Some n) e = absurd (cc)

-- so it is one of the command's setting
pub forwarded_as : (layout : Layout) (programs : List Program) (wire : Wire) (manner : Manner) (c : Config) (own : List PacketList) (fs : List Frame) (lists : List (List (List ℕ))) (o : OutcomeShown) → c ≡ regular_of layout → own ≡ map listed lists
    → fs ≡ frames_of layout → (rules : List Rule) → rules ≡ rules_by layout.sockets programs
    → HasForwarded layout.hands (ruled_by rules wire manner c own) fs o → HasForwarded layout.hands (setting_of layout programs wire manner lists) (frames_of layout) o
forwarded_as layout programs wire manner c own fs lists o is_config is_own is_frames rules are_rules h =
    subst (λ f. HasForwarded layout.hands (setting_of layout programs wire manner lists) f o) is_frames
    (subst (λ (l : List PacketList). HasForwarded layout.hands (ruled_by (rules_by layout.sockets programs) wire manner (regular_of layout) l) fs o) is_own
    (subst (λ (k : Config). HasForwarded layout.hands (ruled_by (rules_by layout.sockets programs) wire manner k own) fs o) is_config
    (subst (λ (rs : List Rule). HasForwarded layout.hands (ruled_by rs wire manner c own) fs o) are_rules h)))

-- the lists of the code
pub lists_short : (own : List PacketList) → All HasShortPackets own → (pair : ℕ) → pair < length (lists_in own) → All IsShort (get_or (lists_in own) pair [])
lists_short own short pair known =
    let packets : PacketList → List (List ℕ) = λ list. list.packets in
    let none : PacketList = record { packets = []; gaps = None; spare_packets = 0; spare_bytes = 0 } in
    let below : pair < length own = subst (λ n. pair < n) (length-map own packets) known in
    subst (All IsShort) (sym (get_or-map packets own pair none [] below)) (short pair none below)

-- one list within the limits may be written
pub one_list-writable : (packets : List (List ℕ)) → All IsShort packets → length packets ≤ 65536 → length (concat packets) ≤ 33554432 → IsWritable (packets ∷ [])
one_list-writable packets short few small = record {
  each = rw append-nil (recursion_from_All IsShort packets short);
  packets = rw append-nil few;
  bytes = rw append-nil small;
}

pub unasked : (asked : Bool) → not asked ≡ true → asked ≡ false
unasked true e = absurd (cc)
unasked false e = refl

-- nothing is told where nothing was asked for
none_told : (telling : Telling) (c : Config) (rings : List Part) (h : List Entry) (counters : List DriverCounters) → telling.why ≡ false → told_on telling c rings h counters ≡ []
none_told telling c rings h counters none =
    subst (λ (asked : Bool). (if asked then why_text c rings h ++ (counters_text c counters ++ (if telling.journal then journal_of (length c.pairs) h else [])) else []) ≡ []) (sym none) refl

-- what is told of the object on which a run stalled is told of its history
engine_tells : (s : Setting) (frames : List Frame) (h : List Entry) (telling : Telling) (engine : Engine) (counters : List DriverCounters) → HasRun s frames h (logged_seen engine) → counters ≡ all_counters s h
    → told_on telling engine.config engine.rings engine.log counters ≡ told_of_stall telling s frames h
engine_tells s frames h telling engine counters run counted =
    ap (λ (k : Config). told_on telling k engine.rings engine.log counters) run.config
    ∙ ap (λ (parts : List Part). told_on telling s.config parts engine.log counters) (sym run.shows.rings)
    ∙ ap (λ (l : List Entry). told_on telling s.config (map seen (state_after s.config frames h).rings) l counters) (run.log refl)
    ∙ ap (told_on telling s.config (map seen (state_after s.config frames h).rings) (stored s.config.geometry s.config.sg h)) counted

-- a run of the code's configuration, lists and frames
stall_as : (layout : Layout) (programs : List Program) (wire : Wire) (manner : Manner) (order : ℕ) (c : Config) (own : List PacketList) (fs : List Frame) (lists : List (List (List ℕ))) (round : ℕ) (telling : Telling) (told : List ℕ)
    → c ≡ regular_of layout → own ≡ map listed lists → fs ≡ frames_of layout → (verdicts : List (List Verdict))
    → IsRuled (rules_by layout.sockets programs) (record { config = c; wire = wire; manner = manner; packets = own; verdicts = verdicts })
    → IsStall (record { config = c; wire = wire; manner = manner; packets = own; verdicts = verdicts }) fs order round telling told → IsStall (setting_of layout programs wire manner lists) (frames_of layout) order round telling told
stall_as layout programs wire manner order c own fs lists round telling told is_config is_own is_frames verdicts is h =
    subst (λ f. IsStall (setting_of layout programs wire manner lists) f order round telling told) is_frames
    (subst (λ (l : List PacketList). IsStall (ruled_by (rules_by layout.sockets programs) wire manner (regular_of layout) l) fs order round telling told) is_own
    (subst (λ (k : Config). IsStall (ruled_by (rules_by layout.sockets programs) wire manner k own) fs order round telling told) is_config
    (subst (λ (s : Setting). IsStall s fs order round telling told) (one_setting (rules_by layout.sockets programs) (record { config = c; wire = wire; manner = manner; packets = own; verdicts = verdicts }) (are_exact_by layout.sockets programs) is) h)))

pub ended_as : (layout : Layout) (programs : List Program) (wire : Wire) (manner : Manner) (order : ℕ) (c : Config) (own : List PacketList) (fs : List Frame) (lists : List (List (List ℕ))) (run : Shown) → c ≡ regular_of layout → own ≡ map listed lists
    → fs ≡ frames_of layout → (verdicts : List (List Verdict)) → IsRuled (rules_by layout.sockets programs) (record { config = c; wire = wire; manner = manner; packets = own; verdicts = verdicts })
    → HasEnded (record { config = c; wire = wire; manner = manner; packets = own; verdicts = verdicts }) fs order run → HasEnded (setting_of layout programs wire manner lists) (frames_of layout) order run
ended_as layout programs wire manner order c own fs lists run is_config is_own is_frames verdicts is h =
    subst (λ f. HasEnded (setting_of layout programs wire manner lists) f order run) is_frames
    (subst (λ (l : List PacketList). HasEnded (ruled_by (rules_by layout.sockets programs) wire manner (regular_of layout) l) fs order run) is_own
    (subst (λ (k : Config). HasEnded (ruled_by (rules_by layout.sockets programs) wire manner k own) fs order run) is_config (ends_as_ruled (rules_by layout.sockets programs) (record { config = c; wire = wire; manner = manner; packets = own; verdicts = verdicts }) fs order run (are_exact_by layout.sockets programs) is h)))

-- so is one under a chain of the programs' rules
module _ {F : Type 0} (g : Shared F (Bor (List ℕ) × (ℕ × Unit {0})) Verdict) (chain : List (XdpProgram F)) (layout : Layout) (programs : List Program) (wire : Wire) (manner : Manner) (order : ℕ) (c : Config) (own : List PacketList) (fs : List Frame) (lists : List (List (List ℕ)))
    (is_config : c ≡ regular_of layout) (is_own : own ≡ map listed lists) (is_frames : fs ≡ frames_of layout) (are_rules : rules_of chain ≡ rules_by layout.sockets programs) where
  ruled : (verdicts : List (List Verdict)) → AreGiven (IsAnswer g chain) (setting_by c wire manner own verdicts) → IsRuled (rules_by layout.sockets programs) (setting_by c wire manner own verdicts)
  ruled verdicts asked =
      let s : Setting = setting_by c wire manner own verdicts in
      subst (λ rules. IsRuled rules s) are_rules (asked_ruled g chain s asked)

  pub ended_under : (after : List (XdpProgram F)) (run : Shown) → HasEndedUnder g chain after wire manner c own fs order run → HasEnded (setting_of layout programs wire manner lists) (frames_of layout) order run
  ended_under after run under = ended_as layout programs wire manner order c own fs lists run is_config is_own is_frames under.verdicts (ruled under.verdicts under.asked) under.ended

  -- and so one stalls, of which nothing more is told
  pub failed_under : (after : List (XdpProgram F)) (telling : Telling) (error : SimError) → telling.why ≡ false → ((round : ℕ) → error ≡ HasNoEnd round → HasStalledUnder g chain after wire manner c own fs order round)
      → FailsRunning layout programs wire manner order telling lists (sim_failure error)
  failed_under after telling (HasNoEnd round) none stalled =
      let under = stalled round refl in
      let stall : IsStall (setting_by c wire manner own under.verdicts) fs order round telling [] = record {
        stalled = under.stalled;
        tells = sym (none_told telling c (map seen (state_after c fs under.stalled.past.history).rings) (stored c.geometry c.sg under.stalled.past.history)
            (all_counters (setting_by c wire manner own under.verdicts) under.stalled.past.history) none);
      } in
      stall_as layout programs wire manner order c own fs lists round telling [] is_config is_own is_frames under.verdicts (ruled under.verdicts under.asked) stall
  failed_under after telling RunMemory none stalled = tt

  -- or more is, of the object on which it stalled
  stalled_under : (after : List (XdpProgram F)) (telling : Telling) (round : ℕ) (engine : Engine) (counters : List DriverCounters) (told : List ℕ) → HasStalledOnUnder g chain after wire manner c own fs order round (logged_seen engine) counters
      → told_on telling engine.config engine.rings engine.log counters ≡ told → IsStall (setting_of layout programs wire manner lists) (frames_of layout) order round telling told
  stalled_under after telling round engine counters told on is =
      let under = on.under in
      let stall : IsStall (setting_by c wire manner own under.verdicts) fs order round telling told = record {
        stalled = under.stalled;
        tells = sym is ∙ engine_tells (setting_by c wire manner own under.verdicts) fs under.stalled.past.history telling engine counters on.run on.counted;
      } in
      stall_as layout programs wire manner order c own fs lists round telling told is_config is_own is_frames under.verdicts (ruled under.verdicts under.asked) stall

  pub explained_under : (after : List (XdpProgram F)) (telling : Telling) (round : ℕ) (engine : Engine) (counters : List DriverCounters) (failure : RunFailure) → HasStalledOnUnder g chain after wire manner c own fs order round (logged_seen engine) counters
      → IsExplained telling round engine counters failure → FailsRunning layout programs wire manner order telling lists failure
  explained_under after telling round engine counters (Stalls at) on is =
      subst (λ (n : ℕ). IsStall (setting_of layout programs wire manner lists) (frames_of layout) order n telling []) (sym is.0) (stalled_under after telling round engine counters [] on is.1)
  explained_under after telling round engine counters (Explained at text) on is =
      let told = told_on telling engine.config engine.rings engine.log counters in (
        told,
        subst (λ (n : ℕ). IsStall (setting_of layout programs wire manner lists) (frames_of layout) order n telling told) (sym is.0) (stalled_under after telling round engine counters told on refl),
        subst (λ (n : ℕ). IsStallText n told text.items) (sym is.0) is.1,
      )
  explained_under after telling round engine counters NoMemory on is = tt
  explained_under after telling round engine counters (Bad port cause) on is = absurd is
  explained_under after telling round engine counters (Excessive excess) on is = absurd is
  explained_under after telling round engine counters (Breaks line) on is = absurd is
  explained_under after telling round engine counters (Reasoned line text) on is = absurd is
  explained_under after telling round engine counters (BadFile cause) on is = absurd is
