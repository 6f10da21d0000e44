use Rattle.std.proofs.Common.{rules, ◌≡◌, ◌≤◌, ◌∙◌, map, length, List, Some, None, ℕ, subst, arith}
use Rattle.std.proofs.lemmas.List.{length-map}
use Rattle.xsk_umem.specs.PacketList.{PacketList}
use Rattle.xsk_cli.specs.Judged.{AreShort, bytes_in, bytes_of, excess_of}
use Rattle.xsk_cli.specs.Format.{most_input}
use Rattle.xsk_cli.specs.Steps.{IsBeforeRun, IsFileRefusal, IsUntaken, lists_in}
use Rattle.xsk_cli.specs.declared.format.Format.TheVariants.{Pcapng}
use Rattle.xsk_cli.specs.declared.failure.RunFailure.{RunFailure}
use Rattle.xsk_cli.specs.declared.failure.RunFailure.TheVariants.{BadCapture as Bad, TooMuch as Excessive, Stalled as Stalls, Explained, OutOfMemory as NoMemory, NotLegal as Breaks, Reasoned, BadPcapng as BadFile}
use Rattle.xsk_cli.proofs.Counting.{err_is}
use Rattle.xsk_cli.proofs.Filing.{count_file, file_small}
use Rattle.xsk_cli.proofs.Judging.{short_all}
use Rattle.xsk_cli.proofs.files.take_file.Goals as goal

-- why the bytes of the one file give no packets is why it isn't taken, before a run
file_untaken : (ports : ℕ) (inputs : List (List ℕ)) (failure : RunFailure) → length inputs ≡ 1 → AreShort (most_input Pcapng) inputs (length inputs) → IsFileRefusal ports (bytes_of inputs 0) failure
    → IsUntaken ports inputs failure × IsBeforeRun failure
file_untaken ports inputs (BadFile cause) one short h = ((short, record { known = omega (arith, one); refused = h.0; check = h.1 }), tt)
file_untaken ports inputs NoMemory one short h = (tt, tt)
file_untaken ports inputs (Bad at cause) one short h = absurd h
file_untaken ports inputs (Excessive excess) one short h = absurd h
file_untaken ports inputs (Stalls round) one short h = absurd h
file_untaken ports inputs (Explained round text) one short h = absurd h
file_untaken ports inputs (Breaks line) one short h = absurd h
file_untaken ports inputs (Reasoned line text) one short h = absurd h

pub check_limits-requires-clause-few : goal.check_limits-requires-clause-few
check_limits-requires-clause-few c =
    let bytes = bytes_of (map (λ bytes. bytes.items) c.args.inputs.items) 0 in
    rw c.as_slice.ensures.value (omega (arith, count_file c.args.ports bytes c.in_ok-lists.lists.items c.in_ok-lists.ensures.found, c.requires.few))

pub check_limits-requires-clause-small : goal.check_limits-requires-clause-small
check_limits-requires-clause-small c =
    let bytes = bytes_of (map (λ bytes. bytes.items) c.args.inputs.items) 0 in
    let short : length bytes ≤ 67108864 = c.requires.short 0 (omega (arith, c.requires.one)) in
    let small : bytes_in (lists_in c.in_ok-lists.lists.items) ≤ 268435456 =
    file_small c.args.ports bytes (lists_in c.in_ok-lists.lists.items) c.in_ok-lists.ensures.found c.requires.few short in
    rw c.as_slice.ensures.value (omega (arith, small))

pub returns-in_err-lists-clause-failed : goal.returns-in_err-lists-clause-failed
returns-in_err-lists-clause-failed c =
    let inputs : List (List ℕ) = map (λ bytes. bytes.items) c.args.inputs.items in
    let one : length inputs ≡ 1 = length-map c.args.inputs.items (λ bytes. bytes.items) ∙ c.requires.one in
    let short : AreShort 67108864 inputs (length inputs) = short_all 67108864 (λ bytes. bytes.items) c.args.inputs.items c.requires.short in
    err_is (IsUntaken c.args.ports inputs) c.from_residual.result c.in_err-lists.field-0.0 (search rules) (file_untaken c.args.ports inputs c.in_err-lists.field-0.0 one short c.in_err-lists.ensures.failed).0

pub returns-in_err-lists-clause-no_run : goal.returns-in_err-lists-clause-no_run
returns-in_err-lists-clause-no_run c =
    let inputs : List (List ℕ) = map (λ bytes. bytes.items) c.args.inputs.items in
    let one : length inputs ≡ 1 = length-map c.args.inputs.items (λ bytes. bytes.items) ∙ c.requires.one in
    let short : AreShort 67108864 inputs (length inputs) = short_all 67108864 (λ bytes. bytes.items) c.args.inputs.items c.requires.short in
    err_is IsBeforeRun c.from_residual.result c.in_err-lists.field-0.0 (search rules) (file_untaken c.args.ports inputs c.in_err-lists.field-0.0 one short c.in_err-lists.ensures.failed).1

pub returns-in-Ok-clause-taken : goal.returns-in-Ok-clause-taken
returns-in-Ok-clause-taken c = record { one = length-map c.args.inputs.items (λ bytes. bytes.items) ∙ c.requires.one; is = c.in_ok-lists.ensures.found }

pub returns-in-Ok-clause-within : goal.returns-in-Ok-clause-within
returns-in-Ok-clause-within c = subst (λ (lists : List PacketList). excess_of (lists_in lists) ≡ None) c.as_slice.ensures.value c.in-Ok.ensures.within

pub returns-in-Ok-clause-count : goal.returns-in-Ok-clause-count
returns-in-Ok-clause-count c =
    let bytes = bytes_of (map (λ bytes. bytes.items) c.args.inputs.items) 0 in
    count_file c.args.ports bytes c.in_ok-lists.lists.items c.in_ok-lists.ensures.found

pub returns-in-Ok-clause-listed : goal.returns-in-Ok-clause-listed
returns-in-Ok-clause-listed c = c.in_ok-lists.ensures.listed

pub returns-in-Err-clause-failed : goal.returns-in-Err-clause-failed
returns-in-Err-clause-failed c =
    let inputs : List (List ℕ) = map (λ bytes. bytes.items) c.args.inputs.items in (
      short_all 67108864 (λ bytes. bytes.items) c.args.inputs.items c.requires.short,
      (
        lists_in c.in_ok-lists.lists.items,
        record { one = length-map c.args.inputs.items (λ bytes. bytes.items) ∙ c.requires.one; is = c.in_ok-lists.ensures.found },
        subst (λ (lists : List PacketList). excess_of (lists_in lists) ≡ Some c.in-Err.excess) c.as_slice.ensures.value c.in-Err.ensures.excess,
      ),
    )
