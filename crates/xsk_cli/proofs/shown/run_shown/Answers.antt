use Rattle.std.proofs.Common.{arith, ◌≡◌, ℕ, List, [], length, sym, ap, subst, ◌∙◌}
use Rattle.std.proofs.lemmas.List.{length-map}
use Rattle.std.proofs.lemmas.List.FromFn.{length-map-range_with_len}
use Rattle.xsk_model.specs.Config.{Config, IsRegular}
use Rattle.xsk_machine.specs.declared.figures.Figures.{Figures}
use Rattle.xsk_stats.specs.Report.{report_text}
use Rattle.xsk_socket.specs.Regular.{regular_of}
use Rattle.xsk_workers.specs.Forwarded.{HasForwarded}
use Rattle.xsk_cli.specs.Forward.{unmangled}
use Rattle.xsk_cli.specs.Outcome.{frames_of, setting_of}
use Rattle.xsk_cli.specs.Steps.{lists_in, written_in}
use Rattle.xsk_cli.proofs.Making.{few_ports}
use Rattle.xsk_socket.proofs.Accepted.{fits}
use Rattle.xsk_socket.proofs.Regularity.{regular-config}
use Rattle.xsk_cli.proofs.Running.{pairs_are, shown_in_file, shown_writable, texts_shown}
use Rattle.xsk_cli.proofs.shown.run_shown.Goals as goal

pub shown_texts-requires-clause-regular : goal.shown_texts-requires-clause-regular
shown_texts-requires-clause-regular g c = subst IsRegular (sym c.in-Ok-copy.ensures) c.in-Ok.ensures.regular

pub shown_texts-requires-clause-drivers : goal.shown_texts-requires-clause-drivers
shown_texts-requires-clause-drivers g c =
    let layout = c.args.terms.layout.now in
    ap (λ (figures : Figures). length figures.drivers) c.in-Ok-forward_lists.ensures.forwarded.figures
    ∙ length-map-range_with_len _ 0 (length (regular_of layout).pairs)
    ∙ ap (λ (k : Config). length k.pairs) (sym (c.in-Ok-copy.ensures ∙ c.in-Ok.ensures.config))

pub shown_texts-requires-clause-ports : goal.shown_texts-requires-clause-ports
shown_texts-requires-clause-ports g c = few_ports c.args.terms.layout.now c.requires.accepted

pub shown_texts-requires-clause-few : goal.shown_texts-requires-clause-few
shown_texts-requires-clause-few g c =
    let layout = c.args.terms.layout.now in
    omega (arith, (regular-config layout (fits layout c.requires.accepted)).pairs_few, pairs_are layout)

pub shown_texts-requires-clause-writable : goal.shown_texts-requires-clause-writable
shown_texts-requires-clause-writable g c port count in_ports few =
    let layout = c.args.terms.layout.now in
    let lists : List (List (List ℕ)) = lists_in c.args.lists.items in
    let known : length lists ≡ layout.ports = length-map c.args.lists.items (λ list. list.packets) ∙ c.requires.ports in
    shown_writable layout c.args.terms.programs.now c.args.terms.wire (unmangled c.args.terms.manner) lists c.requires.accepted c.in-Ok-forward_lists.shown (subst (λ ls. HasForwarded c.args.terms.layout.now.hands (setting_of c.args.terms.layout.now c.args.terms.programs.now c.args.terms.wire (unmangled c.args.terms.manner) (lists_in ls)) (frames_of c.args.terms.layout.now) c.in-Ok-forward_lists.shown) c.as_slice.ensures.value c.in-Ok-forward_lists.ensures.forwarded) c.in-Ok-forward_lists.ensures.pairs known c.requires.within
    (λ pair below. c.in-Ok-forward_lists.ensures.short pair [] below) port count in_ports few

pub shown_texts-requires-clause-file : goal.shown_texts-requires-clause-file
shown_texts-requires-clause-file g c =
    let layout = c.args.terms.layout.now in
    let lists : List (List (List ℕ)) = lists_in c.args.lists.items in
    let known : length lists ≡ layout.ports = length-map c.args.lists.items (λ list. list.packets) ∙ c.requires.ports in
    shown_in_file layout c.args.terms.programs.now c.args.terms.wire (unmangled c.args.terms.manner) lists c.requires.accepted c.in-Ok-forward_lists.shown (subst (λ ls. HasForwarded c.args.terms.layout.now.hands (setting_of c.args.terms.layout.now c.args.terms.programs.now c.args.terms.wire (unmangled c.args.terms.manner) (lists_in ls)) (frames_of c.args.terms.layout.now) c.in-Ok-forward_lists.shown) c.as_slice.ensures.value c.in-Ok-forward_lists.ensures.forwarded) c.in-Ok-forward_lists.ensures.pairs known c.requires.within
    (λ pair below. c.in-Ok-forward_lists.ensures.short pair [] below)

pub returns-in-Ok-shown_texts-clause-made : goal.returns-in-Ok-shown_texts-clause-made
returns-in-Ok-shown_texts-clause-made g c =
    let layout = c.args.terms.layout.now in (
      (subst (λ ls. HasForwarded c.args.terms.layout.now.hands (setting_of c.args.terms.layout.now c.args.terms.programs.now c.args.terms.wire (unmangled c.args.terms.manner) (lists_in ls)) (frames_of c.args.terms.layout.now) c.in-Ok-forward_lists.shown) c.as_slice.ensures.value c.in-Ok-forward_lists.ensures.forwarded),
      texts_shown layout c.args.terms.programs.now c.args.terms.wire (unmangled c.args.terms.manner) (lists_in c.args.lists.items) c.requires.accepted c.in-Ok-forward_lists.shown (subst (λ ls. HasForwarded c.args.terms.layout.now.hands (setting_of c.args.terms.layout.now c.args.terms.programs.now c.args.terms.wire (unmangled c.args.terms.manner) (lists_in ls)) (frames_of c.args.terms.layout.now) c.in-Ok-forward_lists.shown) c.as_slice.ensures.value c.in-Ok-forward_lists.ensures.forwarded) c.in-Ok-forward_lists.ensures.pairs c.args.terms.format
          (written_in c.in-Ok-forward_lists.shown.sent c.in-Ok-shown_texts.texts) c.in-Ok-shown_texts.ensures.outputs
          (c.in-Ok-shown_texts.ensures.report ∙ ap (λ (k : Config). report_text k c.in-Ok-forward_lists.shown.figures) (c.in-Ok-copy.ensures ∙ c.in-Ok.ensures.config)),
    )

pub forward_lists-requires-clause-regular : goal.forward_lists-requires-clause-regular
forward_lists-requires-clause-regular g c κs within = c.in-Ok.ensures.regular
