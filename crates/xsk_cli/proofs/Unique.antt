-- The bytes of the inputs have one outcome.
use Rattle.std.proofs.Common.{◌≡◌, ℕ, ◌+◌, ◌<◌, ◌⊎◌, List, [], length, get_or, refl, sym, ap, ◌∙◌, subst, inl, inr, ⊎_elim, arith, Some, None, Option, Bool}
use Rattle.std.proofs.lemmas.Bool.{cases_order}
use Rattle.std.proofs.lemmas.Option.{same_Some}
use Rattle.xsk_turns.specs.declared.manner.Manner.{Manner}
use Rattle.xsk_pcap.specs.declared.reading.BadCapture.{BadCapture as Cause}
use Rattle.xsk_pcapng.specs.declared.reading.BadPcapng.{BadPcapng as FileCause}
use Rattle.xsk_pcapng.proofs.FileLaws.{one_reading as one_file_reading, one_refusal as one_file_refusal, refused_is_no_file}
use Rattle.xsk_pcap.proofs.CaptureLaws.{one_reading, one_refusal, refused_is_no_capture}
use Rattle.xsk_umem.specs.Frame.{Frame}
use Rattle.xsk_sim.specs.Runs.{IsRoundHistory}
use Rattle.xsk_turns.specs.Workers.{Setting}
use Rattle.xsk_sim.proofs.Unique.{one_history, one_run, ends_or_stalls, one_stall as one_stalled_round}
use Rattle.xsk_cli.specs.Judged.{bytes_of, AreShort, IsTooLong, AreCaptures, IsBadCapture, excess_of}
use Rattle.xsk_cli.specs.Outcome.{Written, Outcome, long, bad, passed, stalled, made, illegal, AreListsOf, AreMadeOf, IsAudited, IsIllegalIn, IsOnPackets, legal_text, AreTextsBy, AreTextsOf, IsOutcomeOf, IsOutcomeIn, IsOutcome, IsStalledBy, OneOutcome, setting_of, frames_of, ports_of, told_of, sent_from, bad_file}
use Rattle.xsk_cli.specs.Format.{AreFiles, HasBadCapture, HasBadFile, outputs_of}
use Rattle.xsk_cli.specs.Stalls.{IsStall, told_of_stall}
use Rattle.xsk_cli.specs.Words.{format_in, most_of, ports_in}
use Rattle.xsk_cli.specs.declared.format.Format.{Format}
use Rattle.xsk_cli.specs.declared.format.Format.TheVariants.{Pcap, Pcapng}
use Rattle.xsk_args.specs.declared.program.Program.{Program}
use Rattle.xsk_turns.specs.declared.wire.Wire.{Wire}
use Rattle.xsk_cli.specs.declared.words.Telling.{Telling}
use Rattle.xsk_cli.specs.declared.words.Work.{Work}
use Rattle.xsk_cli.specs.declared.words.Work.TheVariants.{Simulate, Generate, Audit}
use Rattle.xsk_socket.specs.declared.layout.Layout.{Layout}
use Rattle.xsk_socket.specs.Regular.{regular_of}
use Rattle.xsk_audit.specs.declared.auditing.Verdicts.{Verdicts}
use Rattle.xsk_audit.specs.declared.auditing.Verdicts.TheVariants.{Legal, NotLegal}
use Rattle.xsk_audit.proofs.OneVerdict.{one-verdict}
use Rattle.xsk_cli.specs.declared.status.Excess.{Excess}
use Rattle.xsk_cli.proofs.Ports.{same_lists}

-- ---- captures

pub same_captures : (inputs : List (List ℕ)) (some others : List (List (List ℕ))) → AreCaptures inputs some → AreCaptures inputs others → some ≡ others
same_captures inputs some others a b =
    same_lists [] some others (a.count ∙ sym b.count)
    (λ i h.
    let known : i < length inputs = omega (arith, h, a.count) in
    one_reading (bytes_of inputs i) (get_or some i []) (get_or others i []) (a.each i known) (b.each i known))

one_long : (most : ℕ) (inputs : List (List ℕ)) (p q : ℕ) → IsTooLong most inputs p → IsTooLong most inputs q → p ≡ q
one_long most inputs p q a b = ⊎_elim
    (λ (e : p ≡ q). e)
    (λ other. ⊎_elim
    (λ (l : p < q). absurd (omega (arith, a.long, b.before p l)))
    (λ (l : q < p). absurd (omega (arith, b.long, a.before q l)))
    other)
    (cases_order p q)

pub long_not_short : (most : ℕ) (inputs : List (List ℕ)) (p : ℕ) → IsTooLong most inputs p → AreShort most inputs (length inputs) → ⊥
long_not_short most inputs p a short = omega (arith, a.long, short p a.known)

refused_port : (inputs : List (List ℕ)) (p q : ℕ) (c d : Cause) → IsBadCapture inputs p c → IsBadCapture inputs q d → p < q → ⊥
refused_port inputs p q c d a b l = let before = b.before p l in refused_is_no_capture (bytes_of inputs p) c before.0 a.refused before.1

one_bad : (inputs : List (List ℕ)) (p q : ℕ) (c d : Cause) → IsBadCapture inputs p c → IsBadCapture inputs q d → bad p c ≡ bad q d
one_bad inputs p q c d a b = ⊎_elim
    (λ (e : p ≡ q).
    ap (λ port. bad port c) e ∙ ap (bad q) (one_refusal (bytes_of inputs q) c d (subst (λ k. IsBadCapture inputs k c) e a).refused b.refused))
    (λ other. ⊎_elim
    (λ (l : p < q). absurd (refused_port inputs p q c d a b l))
    (λ (l : q < p). absurd (refused_port inputs q p d c b a l))
    other)
    (cases_order p q)

pub bad_not_captures : (inputs : List (List ℕ)) (p : ℕ) (c : Cause) (lists : List (List (List ℕ))) → IsBadCapture inputs p c → AreCaptures inputs lists → ⊥
bad_not_captures inputs p c lists a b = refused_is_no_capture (bytes_of inputs p) c (get_or lists p []) a.refused (b.each p a.known)

-- ---- files of a format

pub same_files : (format : Format) (ports : ℕ) (inputs : List (List ℕ)) (some others : List (List (List ℕ))) → AreFiles format ports inputs some → AreFiles format ports inputs others → some ≡ others
same_files Pcap ports inputs some others a b = same_captures inputs some others a b
same_files Pcapng ports inputs some others a b = one_file_reading ports (bytes_of inputs 0) some others a.is b.is

one_bad_capture : (format : Format) (inputs : List (List ℕ)) (p q : ℕ) (c d : Cause) → HasBadCapture format inputs p c → HasBadCapture format inputs q d → bad p c ≡ bad q d
one_bad_capture Pcap inputs p q c d a b = one_bad inputs p q c d a b
one_bad_capture Pcapng inputs p q c d a b = absurd a

one_bad_file : (format : Format) (ports : ℕ) (inputs : List (List ℕ)) (c d : FileCause) → HasBadFile format ports inputs c → HasBadFile format ports inputs d → bad_file c ≡ bad_file d
one_bad_file Pcap ports inputs c d a b = absurd a
one_bad_file Pcapng ports inputs c d a b = ap bad_file (one_file_refusal ports (bytes_of inputs 0) c d a.refused b.refused)

not_both_bad : (format : Format) (ports : ℕ) (inputs : List (List ℕ)) (p : ℕ) (c : Cause) (d : FileCause) → HasBadCapture format inputs p c → HasBadFile format ports inputs d → ⊥
not_both_bad Pcap ports inputs p c d a b = b
not_both_bad Pcapng ports inputs p c d a b = a

pub bad_not_files : (format : Format) (ports : ℕ) (inputs : List (List ℕ)) (p : ℕ) (c : Cause) (lists : List (List (List ℕ))) → HasBadCapture format inputs p c → AreFiles format ports inputs lists → ⊥
bad_not_files Pcap ports inputs p c lists a b = bad_not_captures inputs p c lists a b
bad_not_files Pcapng ports inputs p c lists a b = a

pub bad_file_not_files : (format : Format) (ports : ℕ) (inputs : List (List ℕ)) (c : FileCause) (lists : List (List (List ℕ))) → HasBadFile format ports inputs c → AreFiles format ports inputs lists → ⊥
bad_file_not_files Pcap ports inputs c lists a b = a
bad_file_not_files Pcapng ports inputs c lists a b = refused_is_no_file ports (bytes_of inputs 0) c lists a.refused b.is

-- ---- the packets

pub same_packets : (work : Work) (inputs : List (List ℕ)) (some others : List (List (List ℕ))) → AreListsOf work inputs some → AreListsOf work inputs others → some ≡ others
same_packets (Simulate layout programs wire manner order None telling format) inputs some others a b = same_files format layout.ports inputs some others a b
same_packets (Simulate layout programs wire manner order (Some number) telling format) inputs some others a b = a.1 ∙ sym b.1
same_packets (Generate number) inputs some others a b = a.1 ∙ sym b.1
same_packets (Audit layout why) inputs some others a b = absurd a

-- where nothing is read nothing is refused
pub none_bad : (format : Format) (inputs : List (List ℕ)) (p : ℕ) (c : Cause) → inputs ≡ [] → HasBadCapture format inputs p c → ⊥
none_bad Pcap inputs p c none a = omega (arith, a.known, ap length none)
none_bad Pcapng inputs p c none a = a

pub none_bad_file : (format : Format) (ports : ℕ) (inputs : List (List ℕ)) (c : FileCause) → inputs ≡ [] → HasBadFile format ports inputs c → ⊥
none_bad_file Pcap ports inputs c none a = a
none_bad_file Pcapng ports inputs c none a = omega (arith, a.known, ap length none)

pub bad_not_packets : (work : Work) (inputs : List (List ℕ)) (p : ℕ) (c : Cause) (lists : List (List (List ℕ))) → HasBadCapture (format_in work) inputs p c → AreListsOf work inputs lists → ⊥
bad_not_packets (Simulate layout programs wire manner order None telling format) inputs p c lists a b = bad_not_files format layout.ports inputs p c lists a b
bad_not_packets (Simulate layout programs wire manner order (Some number) telling format) inputs p c lists a b = none_bad format inputs p c b.0 a
bad_not_packets (Generate number) inputs p c lists a b = none_bad Pcap inputs p c b.0 a
bad_not_packets (Audit layout why) inputs p c lists a b = b

pub bad_file_not_packets : (work : Work) (inputs : List (List ℕ)) (c : FileCause) (lists : List (List (List ℕ))) → HasBadFile (format_in work) (ports_in work) inputs c → AreListsOf work inputs lists → ⊥
bad_file_not_packets (Simulate layout programs wire manner order None telling format) inputs c lists a b = bad_file_not_files format layout.ports inputs c lists a b
bad_file_not_packets (Simulate layout programs wire manner order (Some number) telling format) inputs c lists a b = none_bad_file format layout.ports inputs c b.0 a
bad_file_not_packets (Generate number) inputs c lists a b = a
bad_file_not_packets (Audit layout why) inputs c lists a b = a

-- ---- runs

module _ (format : Format) (layout : Layout) (programs : List Program) (wire : Wire) (manner : Manner) (order : ℕ) (lists : List (List (List ℕ))) (journal : Bool) (a b : Written) (s : AreTextsOf format layout programs wire manner order lists journal a) (t : AreTextsOf format layout programs wire manner order lists journal b) where
  same_history : s.ended.history ≡ t.ended.history
  same_history = one_run (setting_of layout programs wire manner lists) (frames_of layout) order s.run t.run s.ended t.ended

  same_outputs : a.outputs ≡ b.outputs
  same_outputs = s.are.sent ∙ ap (λ h. outputs_of format (sent_from layout programs lists h) (ports_of layout)) same_history ∙ sym t.are.sent

  same_report : a.report ≡ b.report
  same_report = s.are.report ∙ ap (told_of layout programs wire manner lists journal) same_history ∙ sym t.are.report

same_written : (a b : Written) → a.outputs ≡ b.outputs → a.report ≡ b.report → made a ≡ made b
same_written a b outputs report =
    ap (λ outputs. made (record { outputs = outputs; report = a.report })) outputs
    ∙ ap (λ report. made (record { outputs = b.outputs; report = report })) report

one_made : (work : Work) (lists : List (List (List ℕ))) (a b : Written) → AreTextsBy work lists a → AreTextsBy work lists b → made a ≡ made b
one_made (Simulate layout programs wire manner order number telling format) lists a b s t = same_written a b (same_outputs format layout programs wire manner order lists telling.journal a b s t) (same_report format layout programs wire manner order lists telling.journal a b s t)
one_made (Generate number) lists a b s t = same_written a b (s.0 ∙ sym t.0) (s.1 ∙ sym t.1)
one_made (Audit layout why) lists a b s t = absurd s

-- one round, of which one thing is told
same_stall : (s : Setting) (frames : List Frame) (order : ℕ) (telling : Telling) (r q : ℕ) (a b : List ℕ) → IsStall s frames order r telling a → IsStall s frames order q telling b → stalled r a ≡ stalled q b
same_stall s frames order telling r q a b x y =
    let rounds : r ≡ q = one_stalled_round s frames order r q x.stalled y.stalled in
    let history : x.stalled.past.history ≡ y.stalled.past.history =
    one_history s frames order (q + 1) x.stalled.past.history y.stalled.past.history
    (subst (λ (n : ℕ). IsRoundHistory s frames order (n + 1) x.stalled.past.history) rounds x.stalled.past.is) y.stalled.past.is in
    let told : a ≡ b = x.tells ∙ ap (told_of_stall telling s frames) history ∙ sym y.tells in
    ap (λ n. stalled n a) rounds ∙ ap (λ t. stalled q t) told

one_stall : (work : Work) (lists : List (List (List ℕ))) (r q : ℕ) (a b : List ℕ) → IsStalledBy work lists r a → IsStalledBy work lists q b → stalled r a ≡ stalled q b
one_stall (Simulate layout programs wire manner order number telling format) lists r q a b x y = same_stall (setting_of layout programs wire manner lists) (frames_of layout) order telling r q a b x y
one_stall (Generate number) lists r q a b x y = absurd x
one_stall (Audit layout why) lists r q a b x y = absurd x

no_texts_and_stall : (work : Work) (lists : List (List (List ℕ))) (texts : Written) (r : ℕ) (told : List ℕ) → AreTextsBy work lists texts → IsStalledBy work lists r told → ⊥
no_texts_and_stall (Simulate layout programs wire manner order number telling format) lists texts r told t x = ends_or_stalls (setting_of layout programs wire manner lists) (frames_of layout) order r t.run t.ended x.stalled
no_texts_and_stall (Generate number) lists texts r told t x = x
no_texts_and_stall (Audit layout why) lists texts r told t x = x

pub none_some : {A : Type 0} (excess : Option Excess) (e : Excess) → excess ≡ Some e → excess ≡ None → A
none_some excess e is none = let no = sym is ∙ none in absurd cc

module _ (work : Work) where
  one_of : (lists : List (List (List ℕ))) (a b : Outcome) → IsOutcomeOf work lists a → IsOutcomeOf work lists b → a ≡ b
  one_of lists (long p) b x y = absurd x
  one_of lists (bad p c) b x y = absurd x
  one_of lists (bad_file c) b x y = absurd x
  one_of lists (passed e) (long p) x y = absurd y
  one_of lists (passed e) (bad p c) x y = absurd y
  one_of lists (passed e) (bad_file c) x y = absurd y
  one_of lists (passed e) (passed f) x y = ap passed (same_Some e f (sym x ∙ y))
  one_of lists (passed e) (stalled r told) x y = none_some (excess_of lists) e x y.0
  one_of lists (passed e) (made t) x y = none_some (excess_of lists) e x y.0
  one_of lists (passed e) (illegal l) x y = absurd y
  one_of lists (stalled r told) (long p) x y = absurd y
  one_of lists (stalled r told) (bad p c) x y = absurd y
  one_of lists (stalled r told) (bad_file c) x y = absurd y
  one_of lists (stalled r told) (passed e) x y = none_some (excess_of lists) e y x.0
  one_of lists (stalled r told) (stalled q other) x y = one_stall work lists r q told other x.1 y.1
  one_of lists (stalled r told) (made t) x y = absurd (no_texts_and_stall work lists t r told y.1 x.1)
  one_of lists (stalled r told) (illegal l) x y = absurd y
  one_of lists (made t) (long p) x y = absurd y
  one_of lists (made t) (bad p c) x y = absurd y
  one_of lists (made t) (bad_file c) x y = absurd y
  one_of lists (made t) (passed e) x y = none_some (excess_of lists) e y x.0
  one_of lists (made t) (stalled r told) x y = absurd (no_texts_and_stall work lists t r told x.1 y.1)
  one_of lists (made t) (made u) x y = one_made work lists t u x.1 y.1
  one_of lists (made t) (illegal l) x y = absurd y
  one_of lists (illegal l) b x y = absurd x

  one_in : (inputs : List (List ℕ)) (a b : Outcome) → IsOutcomeIn work inputs a → IsOutcomeIn work inputs b → a ≡ b
  one_in inputs a b x y = one_of y.0 a b (subst (λ lists. IsOutcomeOf work lists a) (same_packets work inputs x.0 y.0 x.1 y.1) x.2) y.2

-- ---- the outcome

-- a journal's verdict comes to one thing
same_entries : (n m : ℕ) → ◌≡◌ {A = Verdicts} (Legal n) (Legal m) → n ≡ m
same_entries n m e = cc

same_line : (n m : ℕ) → ◌≡◌ {A = Verdicts} (NotLegal n) (NotLegal m) → n ≡ m
same_line n m e = cc

not_both : (n m : ℕ) → ◌≡◌ {A = Verdicts} (Legal n) (NotLegal m) → ⊥
not_both n m e = cc

one_audited : (layout : Layout) (text : List ℕ) (a b : Outcome) → IsAudited layout text a → IsAudited layout text b → a ≡ b
one_audited layout text (long p) b x y = absurd x
one_audited layout text (bad p c) b x y = absurd x
one_audited layout text (bad_file c) b x y = absurd x
one_audited layout text (passed e) b x y = absurd x
one_audited layout text (stalled r told) b x y = absurd x
one_audited layout text (made t) (long p) x y = absurd y
one_audited layout text (made t) (bad p c) x y = absurd y
one_audited layout text (made t) (bad_file c) x y = absurd y
one_audited layout text (made t) (passed e) x y = absurd y
one_audited layout text (made t) (stalled r told) x y = absurd y
one_audited layout text (made t) (made u) x y =
    let counts : x.0 ≡ y.0 = same_entries x.0 y.0 (one-verdict (regular_of layout) text (Legal x.0) (Legal y.0) x.1 y.1) in
    ap made (x.2 ∙ ap (λ n. record { outputs = []; report = legal_text n }) counts ∙ sym y.2)
one_audited layout text (made t) (illegal l) x y = absurd (not_both x.0 l (one-verdict (regular_of layout) text (Legal x.0) (NotLegal l) x.1 y))
one_audited layout text (illegal l) (long p) x y = absurd y
one_audited layout text (illegal l) (bad p c) x y = absurd y
one_audited layout text (illegal l) (bad_file c) x y = absurd y
one_audited layout text (illegal l) (passed e) x y = absurd y
one_audited layout text (illegal l) (stalled r told) x y = absurd y
one_audited layout text (illegal l) (made t) x y = absurd (not_both y.0 l (one-verdict (regular_of layout) text (Legal y.0) (NotLegal l) y.1 x))
one_audited layout text (illegal l) (illegal m) x y = ap illegal (same_line l m (one-verdict (regular_of layout) text (NotLegal l) (NotLegal m) x y))

-- short inputs come to something
data Later (work : Work) (inputs : List (List ℕ)) (outcome : Outcome) : Type 0 where
  is_bad : (port : ℕ) (cause : Cause) → outcome ≡ bad port cause → HasBadCapture (format_in work) inputs port cause → IsOnPackets work → Later work inputs outcome
  is_bad_file : (cause : FileCause) → outcome ≡ bad_file cause → HasBadFile (format_in work) (ports_in work) inputs cause → Later work inputs outcome
  is_in : IsOutcomeIn work inputs outcome → Later work inputs outcome
  is_found : (layout : Layout) (why : Bool) → work ≡ Audit layout why → IsAudited layout (bytes_of inputs 0) outcome → Later work inputs outcome

made_later : (work : Work) (inputs : List (List ℕ)) (t : Written) → AreMadeOf work inputs t → Later work inputs (made t)
made_later (Simulate layout programs wire manner order number telling format) inputs t h = is_in h
made_later (Generate number) inputs t h = is_in h
made_later (Audit layout why) inputs t h = is_found layout why refl h

illegal_later : (work : Work) (inputs : List (List ℕ)) (line : ℕ) → IsIllegalIn work inputs line → Later work inputs (illegal line)
illegal_later (Simulate layout programs wire manner order number telling format) inputs line h = absurd h
illegal_later (Generate number) inputs line h = absurd h
illegal_later (Audit layout why) inputs line h = is_found layout why refl h

later : (work : Work) (inputs : List (List ℕ)) (outcome : Outcome) → IsOutcome work inputs outcome
    → ((p : ℕ) × (outcome ≡ long p) × IsTooLong (most_of work) inputs p) ⊎ (AreShort (most_of work) inputs (length inputs) × Later work inputs outcome)
later work inputs (long p) h = inl (p, refl, h)
later work inputs (bad p c) h = inr (h.0, is_bad p c refl h.1 h.2)
later work inputs (bad_file c) h = inr (h.0, is_bad_file c refl h.1)
later work inputs (passed e) h = inr (h.0, is_in h.1)
later work inputs (stalled r told) h = inr (h.0, is_in h.1)
later work inputs (made t) h = inr (h.0, made_later work inputs t h.1)
later work inputs (illegal l) h = inr (h.0, illegal_later work inputs l h.1)

-- what is told of a journal isn't told of packets
found_not_in : (work : Work) (inputs : List (List ℕ)) (layout : Layout) (why : Bool) (outcome : Outcome) → work ≡ Audit layout why → IsOutcomeIn work inputs outcome → ⊥
found_not_in work inputs layout why outcome is h = subst (λ w. AreListsOf w inputs h.0) is h.1

same_layout : (layout other : Layout) (why too : Bool) → Audit layout why ≡ Audit other too → layout ≡ other
same_layout layout other why too e = cc

one_later : (work : Work) (inputs : List (List ℕ)) (a b : Outcome) → Later work inputs a → Later work inputs b → a ≡ b
one_later work inputs a b (is_bad p c e x on) (is_bad q d f y too) = e ∙ one_bad_capture (format_in work) inputs p q c d x y ∙ sym f
one_later work inputs a b (is_bad p c e x on) (is_bad_file d f y) = absurd (not_both_bad (format_in work) (ports_in work) inputs p c d x y)
one_later work inputs a b (is_bad_file c e x) (is_bad q d f y too) = absurd (not_both_bad (format_in work) (ports_in work) inputs q d c y x)
one_later work inputs a b (is_bad_file c e x) (is_bad_file d f y) = e ∙ one_bad_file (format_in work) (ports_in work) inputs c d x y ∙ sym f
one_later work inputs a b (is_bad_file c e x) (is_in y) = absurd (bad_file_not_packets work inputs c y.0 x y.1)
one_later work inputs a b (is_in x) (is_bad_file d f y) = absurd (bad_file_not_packets work inputs d x.0 y x.1)
one_later work inputs a b (is_bad p c e x on) (is_in y) = absurd (bad_not_packets work inputs p c y.0 x y.1)
one_later work inputs a b (is_in x) (is_bad q d f y too) = absurd (bad_not_packets work inputs q d x.0 y x.1)
one_later work inputs a b (is_in x) (is_in y) = one_in work inputs a b x y
one_later work inputs a b (is_bad p c e x on) (is_found l why is y) = absurd (subst IsOnPackets is on)
one_later work inputs a b (is_found l why is x) (is_bad q d f y too) = absurd (subst IsOnPackets is too)
one_later work inputs a b (is_bad_file c e x) (is_found l why is y) = absurd (subst (λ w. HasBadFile (format_in w) (ports_in w) inputs c) is x)
one_later work inputs a b (is_found l why is x) (is_bad_file d f y) = absurd (subst (λ w. HasBadFile (format_in w) (ports_in w) inputs d) is y)
one_later work inputs a b (is_in x) (is_found l why is y) = absurd (found_not_in work inputs l why a is x)
one_later work inputs a b (is_found l why is x) (is_in y) = absurd (found_not_in work inputs l why b is y)
one_later work inputs a b (is_found l why is x) (is_found m other too y) =
    one_audited m (bytes_of inputs 0) a b (subst (λ k. IsAudited k (bytes_of inputs 0) a) (same_layout l m why other (sym is ∙ too)) x) y

pub one_outcome : OneOutcome
one_outcome work inputs a b x y = ⊎_elim
    (λ xl. ⊎_elim
    (λ yl. xl.1 ∙ ap long (one_long (most_of work) inputs xl.0 yl.0 xl.2 yl.2) ∙ sym yl.1)
    (λ ys. absurd (long_not_short (most_of work) inputs xl.0 xl.2 ys.0))
    (later work inputs b y))
    (λ xs. ⊎_elim
    (λ yl. absurd (long_not_short (most_of work) inputs yl.0 yl.2 xs.0))
    (λ ys. one_later work inputs a b xs.1 ys.1)
    (later work inputs b y))
    (later work inputs a x)
