-- What a command answers for inputs whose bytes are told.
use Rattle.std.proofs.Common.{◌≡◌, ℕ, ◌<◌, ◌≤◌, List, [], length, get_or, refl, sym, ap, ◌∙◌, subst, arith, Some, None, Option}
use Rattle.std.specs.Prelude.{IfSome}
use Rattle.xsk_io.specs.declared.bay.Kind.TheVariants.{Open, Read, Write}
use Rattle.xsk_io.specs.declared.bay.Stream.TheVariants.{Input, Output, Report}
use Rattle.xsk_pcap.specs.declared.reading.BadCapture.{BadCapture as Cause}
use Rattle.xsk_cli.specs.Cause.{IsCaused}
use Rattle.xsk_cli.specs.Ends.{ComesOf, EndsBy, Ends, AreTold, Answers, AreTaken, NoneRose, IsComplete}
use Rattle.xsk_cli.specs.Judged.{bytes_of, excess_of}
use Rattle.xsk_cli.specs.Outcome.{Written, Outcome, long, bad, passed, stalled, made, illegal, made_lists, IsOutcome, IsOutcomeIn, bad_file}
use Rattle.xsk_pcapng.specs.declared.reading.BadPcapng.{BadPcapng as FileCause}
use Rattle.xsk_io.specs.Bay.{Moment}
use Rattle.xsk_cli.specs.Streams.{Reach, IsTold}
use Rattle.xsk_cli.specs.Words.{Plan, fault_in, most_of}
use Rattle.xsk_cli.specs.declared.words.Work.{Work}
use Rattle.xsk_cli.specs.declared.words.Work.TheVariants.{Simulate, Generate, Audit}
use Rattle.xsk_cli.specs.declared.status.Excess.{Excess}
use Rattle.xsk_cli.specs.declared.status.Excess.TheVariants.{Input as TooLong, Packets, Bytes}
use Rattle.xsk_cli.specs.declared.status.Status.{Status}
use Rattle.xsk_cli.specs.declared.status.Status.TheVariants.{Done, Usage, BadCapture, ReadFault, WriteFault, OpenFault, Refused, Stalled, TooMuch, OutOfMemory, NotLegal, BadPcapng}
use Rattle.xsk_cli.proofs.Ports.{same_lists}
use Rattle.xsk_cli.proofs.Making.{few_ports, made_within}
use Rattle.xsk_cli.specs.declared.format.Format.TheVariants.{Pcap}
use Rattle.xsk_cli.proofs.Unique.{one_outcome, same_files, bad_not_files, bad_file_not_files, none_bad, none_bad_file}

told_is : (left : Option (List ℕ)) (bytes text : List ℕ) → left ≡ Some bytes → IsTold left text → bytes ≡ text
told_is left bytes text is h = subst (λ l. IsTold l text) is h

module _ (plan : Plan) (old new : Moment) (inputs : List (List ℕ)) (told : AreTold plan inputs old) where
  -- all inputs were read
  pub same_inputs_by : (Comes : List (List ℕ) → Written → Moment → Status → Type 0) (status : Status) → (ends : EndsBy Comes plan old new status) → ends.reach.ends ≡ length plan.inputs → ends.inputs ≡ inputs
  same_inputs_by Comes status ends all =
      same_lists [] ends.inputs inputs (ends.count ∙ all ∙ sym told.count)
      (λ i h.
      let below : i < ends.reach.ends = omega (arith, h, ends.count) in
      let known : i < length inputs = omega (arith, below, all, told.count) in
      sym (told_is (old.left (Input i)) (bytes_of inputs i) (get_or ends.inputs i []) (told.each i known) (ends.reads.all i below)))

  same_inputs : (status : Status) → (ends : Ends plan old new status) → ends.reach.ends ≡ length plan.inputs → ends.inputs ≡ inputs
  same_inputs status ends all = same_inputs_by (ComesOf plan.work) status ends all

  same_outcome : (status : Status) (mine outcome : Outcome) → (ends : Ends plan old new status) → ends.reach.ends ≡ length plan.inputs → IsOutcome plan.work ends.inputs mine → IsOutcome plan.work inputs outcome → outcome ≡ mine
  same_outcome status mine outcome ends all is other =
      one_outcome plan.work inputs outcome mine other (subst (λ i. IsOutcome plan.work i mine) (same_inputs status ends all) is)

  -- an input before the one that is too long
  read_short : (port : ℕ) → (ends : Ends plan old new (TooMuch (TooLong port))) → (i : ℕ) → i < port → length (bytes_of inputs i) ≤ most_of plan.work
  read_short port ends i h =
      let below : i < ends.reach.ends = omega (arith, h, ap (λ (r : Reach). r.ends) ends.reaches.1) in
      let known : i < length inputs = omega (arith, h, ends.reaches.0, told.count) in
      omega (
        arith,
        ap length (told_is (old.left (Input i)) (bytes_of inputs i) (get_or ends.inputs i []) (told.each i known) (ends.reads.all i below)),
        ends.short i below,
      )

  too_long : (port : ℕ) → (ends : Ends plan old new (TooMuch (TooLong port))) → IsOutcome plan.work inputs (long port)
  too_long port ends =
      let known : port < length inputs = omega (arith, ends.reaches.0, told.count) in
      record {
        known = known;
        long = subst (λ l. IfSome l (λ b. most_of plan.work < length b)) (told.each port known) ends.comes;
        before = read_short port ends;
      }

  reached : (status : Status) (r : Reach) → (ends : Ends plan old new status) → ends.reach ≡ r → ends.reach.ends ≡ r.ends
  reached status r ends is = ap (λ (x : Reach). x.ends) is

  pub answered : (status : Status) (outcome : Outcome) → Ends plan old new status → (status ≡ Usage → ⊥) → IsOutcome plan.work inputs outcome → Answers plan.work outcome status
  answered Done outcome ends words h = (ends.texts, same_outcome Done (made ends.texts) outcome ends (reached Done _ ends ends.reaches) ends.comes h)
  answered Usage outcome ends words h = absurd (words refl)
  answered (BadCapture port cause) outcome ends words h =
      same_outcome (BadCapture port cause) (bad port cause) outcome ends (reached (BadCapture port cause) _ ends ends.reaches) ends.comes h
  answered (ReadFault port) outcome ends words h = tt
  answered (WriteFault (Input port)) outcome ends words h = absurd ends.reaches
  answered (WriteFault (Output port)) outcome ends words h =
      (ends.texts, same_outcome (WriteFault (Output port)) (made ends.texts) outcome ends (reached (WriteFault (Output port)) _ ends ends.reaches.1) ends.comes h)
  answered (WriteFault Report) outcome ends words h =
      (ends.texts, same_outcome (WriteFault Report) (made ends.texts) outcome ends (reached (WriteFault Report) _ ends ends.reaches) ends.comes h)
  answered (OpenFault (Input port)) outcome ends words h = tt
  answered (OpenFault (Output port)) outcome ends words h =
      (ends.texts, same_outcome (OpenFault (Output port)) (made ends.texts) outcome ends (reached (OpenFault (Output port)) _ ends ends.reaches.1) ends.comes h)
  answered (OpenFault Report) outcome ends words h = absurd ends.reaches
  answered (Refused unlawful) outcome ends words h = ends.comes
  answered (Stalled round) outcome ends words h =
      (ends.texts.report, same_outcome (Stalled round) (stalled round ends.texts.report) outcome ends (reached (Stalled round) _ ends ends.reaches) ends.comes h)
  answered (TooMuch (TooLong port)) outcome ends words h = one_outcome plan.work inputs outcome (long port) h (too_long port ends)
  answered (TooMuch (Packets n)) outcome ends words h =
      same_outcome (TooMuch (Packets n)) (passed (Packets n)) outcome ends (reached (TooMuch (Packets n)) _ ends ends.reaches) ends.comes h
  answered (TooMuch (Bytes n)) outcome ends words h =
      same_outcome (TooMuch (Bytes n)) (passed (Bytes n)) outcome ends (reached (TooMuch (Bytes n)) _ ends ends.reaches) ends.comes h
  answered OutOfMemory outcome ends words h = tt
  answered (NotLegal line) outcome ends words h = same_outcome (NotLegal line) (illegal line) outcome ends (reached (NotLegal line) _ ends ends.reaches) ends.comes.0 h
  answered (BadPcapng cause) outcome ends words h =
      same_outcome (BadPcapng cause) (bad_file cause) outcome ends (reached (BadPcapng cause) _ ends ends.reaches) ends.comes h

  -- ---- completeness

  not_bad : (work : Work) → AreTaken work inputs → (port : ℕ) (cause : Cause) → IsOutcome work inputs (bad port cause) → ⊥
  not_bad (Simulate layout programs wire manner order None telling format) taken port cause h = bad_not_files format layout.ports inputs port cause taken.1.0 h.1 taken.1.1
  not_bad (Simulate layout programs wire manner order (Some number) telling format) taken port cause h = none_bad format inputs port cause taken h.1
  not_bad (Generate number) taken port cause h = none_bad Pcap inputs port cause taken h.1
  not_bad (Audit layout why) taken port cause h = h.2

  not_bad_file : (work : Work) → AreTaken work inputs → (cause : FileCause) → IsOutcome work inputs (bad_file cause) → ⊥
  not_bad_file (Simulate layout programs wire manner order None telling format) taken cause h = bad_file_not_files format layout.ports inputs cause taken.1.0 h.1 taken.1.1
  not_bad_file (Simulate layout programs wire manner order (Some number) telling format) taken cause h = none_bad_file format layout.ports inputs cause taken h.1
  not_bad_file (Generate number) taken cause h = h.1
  not_bad_file (Audit layout why) taken cause h = h.1

  none_passed : (lists : List (List (List ℕ))) (excess : Excess) → excess_of lists ≡ Some excess → excess_of lists ≡ None → ⊥
  none_passed lists excess is none = let no = sym is ∙ none in absurd cc

  made_not_passed : (lists : List (List (List ℕ))) (number ports : ℕ) (excess : Excess) → ports ≤ 4 → lists ≡ made_lists number ports → excess_of lists ≡ Some excess → ⊥
  made_not_passed lists number ports excess few are is = none_passed lists excess is (ap excess_of are ∙ made_within number ports few)

  not_passed : (work : Work) → fault_in work ≡ None → AreTaken work inputs → (excess : Excess) → IsOutcomeIn work inputs (passed excess) → ⊥
  not_passed (Simulate layout programs wire manner order None telling format) accepted taken excess h =
      none_passed h.0 excess h.2 (ap excess_of (same_files format layout.ports inputs h.0 taken.1.0 h.1 taken.1.1) ∙ taken.1.2)
  not_passed (Simulate layout programs wire manner order (Some number) telling format) accepted taken excess h = made_not_passed h.0 number layout.ports excess (few_ports layout accepted) h.1.1 h.2
  not_passed (Generate number) accepted taken excess h = made_not_passed h.0 number 1 excess (omega arith) h.1.1 h.2
  not_passed (Audit layout why) accepted taken excess h = h.1

  all_short : (work : Work) → AreTaken work inputs → (port : ℕ) → port < length inputs → length (bytes_of inputs port) ≤ most_of work
  all_short (Simulate layout programs wire manner order None telling format) taken port known = taken.0 port known
  all_short (Simulate layout programs wire manner order (Some number) telling format) taken port known = absurd (omega (arith, known, ap length taken))
  all_short (Generate number) taken port known = absurd (omega (arith, known, ap length taken))
  all_short (Audit layout why) taken port known = taken port known

  mine : (status : Status) (outcome : Outcome) → (ends : Ends plan old new status) → ends.reach.ends ≡ length plan.inputs → IsOutcome plan.work ends.inputs outcome → IsOutcome plan.work inputs outcome
  mine status outcome ends all is = subst (λ i. IsOutcome plan.work i outcome) (same_inputs status ends all) is

  pub completes : (status : Status) → Ends plan old new status → (status ≡ Usage → ⊥) → fault_in plan.work ≡ None → AreTaken plan.work inputs → NoneRose old.faults new.faults → IsCaused old.faults new.faults status → IsComplete status
  completes Done ends words accepted taken none caused = tt
  completes Usage ends words accepted taken none caused = absurd (words refl)
  completes (BadCapture port cause) ends words accepted taken none caused =
      not_bad plan.work taken port cause (mine (BadCapture port cause) (bad port cause) ends (reached (BadCapture port cause) _ ends ends.reaches) ends.comes)
  completes (ReadFault port) ends words accepted taken none caused = none Read (Input port) caused
  completes (WriteFault stream) ends words accepted taken none caused = none Write stream caused
  completes (OpenFault stream) ends words accepted taken none caused = none Open stream caused
  completes (Refused unlawful) ends words accepted taken none caused = let no = sym ends.comes ∙ accepted in absurd cc
  completes (Stalled round) ends words accepted taken none caused = tt
  completes (TooMuch (TooLong port)) ends words accepted taken none caused =
      let long = too_long port ends in
      omega (arith, long.long, all_short plan.work taken port long.known)
  completes (TooMuch (Packets n)) ends words accepted taken none caused =
      not_passed plan.work accepted taken (Packets n) (mine (TooMuch (Packets n)) (passed (Packets n)) ends (reached (TooMuch (Packets n)) _ ends ends.reaches) ends.comes).1
  completes (TooMuch (Bytes n)) ends words accepted taken none caused =
      not_passed plan.work accepted taken (Bytes n) (mine (TooMuch (Bytes n)) (passed (Bytes n)) ends (reached (TooMuch (Bytes n)) _ ends ends.reaches) ends.comes).1
  completes OutOfMemory ends words accepted taken none caused = tt
  completes (NotLegal line) ends words accepted taken none caused = tt
  completes (BadPcapng cause) ends words accepted taken none caused =
      not_bad_file plan.work taken cause (mine (BadPcapng cause) (bad_file cause) ends (reached (BadPcapng cause) _ ends ends.reaches) ends.comes)
