-- What words ask for.
use Rattle.std.proofs.Common.{◌≡◌, ℕ, ◌+◌, ◌*◌, ◌<◌, ◌≤◌, Bool, cond, true, false, not, eqb, leb, eq-eqb, ◌||◌, ◌&&◌, refl, ap, ◌∙◌, arith, eqb-true, inl, inr, List, [], ◌∷◌, length, map, codes, Option, None, Some, is_some, take, drop, subst, sym}
use Rattle.std.specs.Prelude.{unwrap_or, option_and_then}
use Rattle.std.proofs.lemmas.Bool.{and_parts, leb-true}
use Rattle.std.proofs.lemmas.Bool.Decides.{nat_tests}
use Rattle.xsk_turns.specs.declared.manner.Manner.{Manner}
use Rattle.xsk_args.specs.Meaning.{Meaning, one_value}
use Rattle.xsk_args.specs.Number.{number_in}
use Rattle.xsk_args.specs.Words.{Text}
use Rattle.xsk_args.specs.declared.program.Program.{Program}
use Rattle.xsk_turns.specs.declared.wire.Wire.{Wire}
use Rattle.xsk_socket.specs.declared.layout.Layout.{Layout}
use Rattle.xsk_socket.specs.Fits.{IsCount}
use Rattle.xsk_socket.specs.Layout.{fault_of, usual}
use Rattle.xsk_socket.proofs.Accepted.{files_are, fits}
use Rattle.xsk_cli.specs.Format.{files_of}
use Rattle.xsk_cli.specs.declared.format.Format.{Format}
use Rattle.xsk_cli.specs.declared.format.Format.TheVariants.{Pcap, Pcapng}
use Rattle.xsk_cli.specs.Options as option
use Rattle.xsk_cli.specs.Words.{Plan, are_enough, are_made, counted, do_go_together, fault_in, go_together, suits_hands, telling_of, files_counted, files_in, format_of, has_files, is_planned, layout_by, inputs_named, manner_of, number_of, number_or, plan_by, plan_of, planned_by, ports_of, programs_of, wanted_per_port, wire_of}
use Rattle.xsk_cli.specs.Steps.{IsReady}
use Rattle.xsk_cli.proofs.Making.{few_ports}
use Rattle.xsk_cli.specs.declared.words.Telling.{Telling}
use Rattle.xsk_cli.specs.declared.words.Work.TheVariants.{Simulate}
use Rattle.std.proofs.lemmas.List.{length-drop, length-take-le}

counted_few : (n m : ℕ) → counted n ≡ m → m < 4294967295 → n ≡ m
counted_few n m is few = grind (arith, nat_tests)

-- as many files as the plan wants
pub files_named : (said : Meaning) → has_files said ≡ true → fault_of (layout_by said) ≡ None → length (files_in said) ≡ inputs_named said + files_of (format_of said) (ports_of said)
files_named said enough none = go (format_of said) (are_made said) (ports_of said) enough (few_ports (layout_by said) none) (files_are (layout_by said) none)
  where
    go : (format : Format) (made : Bool) (ports : ℕ) → are_enough format made (length (files_in said)) ≡ true → ports ≤ 4 → files_counted format (length (files_in said)) ≡ wanted_per_port format made * ports
        → length (files_in said) ≡ cond made 0 (files_of format ports) + files_of format ports
    go Pcap true ports enough few is = omega (arith, counted_few (length (files_in said)) (1 * ports) is (omega (arith, few)))
    go Pcap false ports enough few is = omega (arith, counted_few (length (files_in said)) (2 * ports) is (omega (arith, few)))
    go Pcapng true ports enough few is = eqb-true (length (files_in said)) 1 enough
    go Pcapng false ports enough few is = eqb-true (length (files_in said)) 2 enough

some_format : (format : Format) (ports : ℕ) → 0 < ports → 0 < files_of format ports
some_format Pcap ports some = some
some_format Pcapng ports some = omega arith

-- so an accepted layout has files
pub some_files : (said : Meaning) → has_files said ≡ true → fault_of (layout_by said) ≡ None → said (codes "FILE") ≡ None → ⊥
some_files said enough accepted none =
    let ports : 0 < ports_of said = omega (arith, (fits (layout_by said) accepted).ports) in
    omega (arith, files_named said enough accepted, ap (λ o. length (unwrap_or o [])) none, some_format (format_of said) (ports_of said) ports)

-- the plan that words ask for wants the files that they name
ready_by : (layout : Layout) (programs : List Program) (wire : Wire) (manner : Manner) (order : ℕ) (number : Option ℕ) (telling : Telling) (format : Format) (files : List Text) → fault_of layout ≡ None → suits_hands layout manner ≡ true
    → length files ≡ cond (is_some number) 0 (files_of format layout.ports) + files_of format layout.ports
    → IsReady (record { inputs = take (cond (is_some number) 0 (files_of format layout.ports)) files; outputs = drop (cond (is_some number) 0 (files_of format layout.ports)) files; work = Simulate layout programs wire manner order number telling format })
ready_by layout programs wire manner order None telling format files accepted suits count = record {
  accepted = accepted;
  suits = suits;
  inputs = length-take-le (files_of format layout.ports) files (omega (arith, count));
  outputs = omega (arith, length-drop (files_of format layout.ports) files, count);
}
ready_by layout programs wire manner order (Some n) telling format files accepted suits count = record {
  accepted = accepted;
  suits = suits;
  inputs = refl;
  outputs = omega (arith, count);
}

-- words that are planned have as many files, and one thread where a socket is closed
pub enough_files : (said : Meaning) → is_planned said ≡ true → has_files said ≡ true
enough_files said planned = (and_parts (has_files said) (do_go_together said) planned).0

one_hand : (hands : ℕ) → IsCount hands → leb hands 1 ≡ true → eqb hands 1 ≡ true
one_hand hands (inl one) few = eq-eqb hands 1 one
one_hand hands (inr (inl two)) few = absurd (omega (arith, two, leb-true hands 1 few))
one_hand hands (inr (inr four)) few = absurd (omega (arith, four, leb-true hands 1 few))

-- what is said under `close` and `after`, as numbers and as flags
suits_by : (close after : Option (List Text)) (hands : ℕ) → IsCount hands → go_together (is_some close) (is_some after) hands ≡ true
    → (eqb hands 1 || (not (is_some (option_and_then number_in (one_value close))) && eqb (unwrap_or (option_and_then number_in (one_value after)) 0) 0)) ≡ true
suits_by None None hands count together = or_true (eqb hands 1)
  where
    or_true : (b : Bool) → (b || true) ≡ true
    or_true true = refl
    or_true false = refl
suits_by None (Some values) hands count together = absurd (cc)
suits_by (Some values) after hands count together =
    ap (λ b. b || (not (is_some (option_and_then number_in (one_value (Some values)))) && eqb (unwrap_or (option_and_then number_in (one_value after)) 0) 0)) (one_hand hands count together)

suits_words : (said : Meaning) → is_planned said ≡ true → fault_of (layout_by said) ≡ None → suits_hands (layout_by said) (manner_of said) ≡ true
suits_words said planned accepted =
    suits_by (said option.close.0) (said option.after.0) (number_or said option.hands usual.hands) (fits (layout_by said) accepted).hands
    (and_parts (has_files said) (do_go_together said) planned).1

pub plan_ready : (said : Meaning) (plan : Plan) → is_planned said ≡ true → plan ≡ plan_by said → fault_in plan.work ≡ None → IsReady plan
plan_ready said plan planned is accepted =
    let enough = enough_files said planned in
    let none : fault_of (layout_by said) ≡ None = subst (λ (p : Plan). fault_in p.work ≡ None) is accepted in
    subst IsReady (sym is)
    (ready_by (layout_by said) (programs_of said) (wire_of said) (manner_of said) (number_or said option.order 0) (number_of said option.gen) (telling_of said) (format_of said) (files_in said) none (suits_words said planned none) (files_named said enough none))

-- the plan of words with as many files as they want, and none of others
pub has_plan : (said : Meaning) (meant : Option Meaning) → meant ≡ Some said → is_planned said ≡ true → option_and_then planned_by meant ≡ Some (plan_by said)
has_plan said meant is enough = ap (option_and_then planned_by) is ∙ ap (λ b. cond b (Some (plan_by said)) None) enough

pub has_no_plan : (said : Meaning) (meant : Option Meaning) → meant ≡ Some said → is_planned said ≡ false → option_and_then planned_by meant ≡ None
has_no_plan said meant is enough = ap (option_and_then planned_by) is ∙ ap (λ b. cond b (Some (plan_by said)) None) enough

pub no_words : {X : Type 0} (text : X → Text) (words : List X) → length words ≡ 0 → plan_of (map text words) ≡ None
no_words text [] none = refl
no_words text (word ∷ words) none = absurd (omega (arith, none))
