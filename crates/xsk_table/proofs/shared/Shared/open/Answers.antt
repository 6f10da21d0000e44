use Rattle.std.proofs.Common.{rules, ◌≡◌, ℕ, [], length, map, sym, ap, subst, ◌∙◌, arith, List, Option}
use Rattle.std.specs.Vec.{vec_items}
use Rattle.atomic_table.specs.Table.{opening}
use Rattle.xsk_umem.specs.Frame.{Frame}
use Rattle.xsk_umem.specs.Frames.{Frames}
use Rattle.xsk_model.specs.Config.{Config}
use Rattle.xsk_model.specs.Opening.{IsOpened}
use Rattle.xsk_model.proofs.Opened.{length-frames}
use Rattle.xsk_table.specs.View.{Basis, newcomer}
use Rattle.xsk_table.specs.Rule.{Rule, all_callers}
use Rattle.xsk_table.specs.Opening.{WordsOpen, AllFirst}
use Rattle.xsk_table.proofs.Deals.{new_rest}
use Rattle.xsk_table.proofs.NewTable.{opens}
use Rattle.xsk_table.proofs.shared.Shared.open.Goals as goal

pub open-requires : goal.open-requires
open-requires c =
    let k : Basis = record { config = c.args.config; first = c.args.first; frames = c.args.frames.items } in
    let key : k ≡ record { config = c.of.result.value; first = c.args.first; frames = c.of-2.result.value.items } = λ i. record { config = sym c.of.ensures i; first = c.args.first; frames = (sym c.of-2.ensures i).items } in
    let opened : IsOpened c.args.config c.args.frames.items = record { geometry = c.geometry-geometry.ensures.lawful; config = c.ports-ports.ensures.lawful; lawful = c.requires.lawful; umem = c.requires.frames } in
    let words : WordsOpen c.args.config c.args.first c.as_slice.result.now = subst (WordsOpen c.args.config c.args.first) (sym c.as_slice.ensures.value) c.in-Ok.ensures.words in
    let P : Basis × List (Option Frame) → Type 0 = λ t. Rule t.0 (opening c.as_slice.result.now t.1 (newcomer t.0 (all_callers t.0))) in
    subst P (λ i. (key i, sym c.move_out.ensures.slots i)) (opens k c.as_slice.result.now opened c.ranges.first.fits words)

pub deal-passes-requires-clause-ends : goal.deal-passes-requires-clause-ends
deal-passes-requires-clause-ends c =
    let config : c.in-Ok-open.board.setup.config ≡ c.args.config = ap (λ (t : Basis). t.config) c.in-Ok-open.ensures.setup ∙ c.of.ensures in
    let first : c.in-Ok-open.board.setup.first ≡ c.args.first = ap (λ (t : Basis). t.first) c.in-Ok-open.ensures.setup in
    let P : Config × ℕ × ℕ → Type 0 = λ t. AllFirst t.0 t.1 t.2 (map vec_items c.in-Ok.room.ends.items) in
    subst P (λ i. (sym config i, sym first i, sym c.callers-callers.ensures i)) c.in-Ok.ensures.ends

pub invariant_of-result : goal.invariant_of-result
invariant_of-result c = new_rest _ c.deal-passes.result.items c.deal-passes.ensures

pub invariant_of-shared : goal.invariant_of-shared
invariant_of-shared c =
    let k = c.in-Ok-open.board.setup in
    let frames : k.config.geometry.frames ≡ length c.args.frames.items =
    ap (λ (t : Basis). t.config.geometry.frames) c.in-Ok-open.ensures.setup ∙ ap (λ (t : Config). t.geometry.frames) c.of.ensures ∙ sym (length-frames c.args.config.geometry c.args.frames.items c.requires.frames) in
    let home : c.move_out.new.home ≡ record { items = []; limit = c.args.frames.limit } = c.move_out.ensures.home in
    record {
      config_is = search rules;
      marks_is = search rules;
      words = search rules;
      some = search rules;
      home_is = ap (λ (q : Frames). q.items) home;
      room = let limit = ap (λ (q : Frames). q.limit) home in let few = c.len.ensures.room in omega (arith, frames);
    }
