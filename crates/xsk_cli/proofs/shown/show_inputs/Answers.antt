use Rattle.std.proofs.Common.{◌≡◌, List, ℕ, map, Some, sym, subst, ◌∙◌}
use Rattle.std.proofs.lemmas.List.{length-map}
use Rattle.xsk_workers.specs.Forwarded.{OutcomeShown}
use Rattle.xsk_cli.specs.Forward.{IsShown}
use Rattle.xsk_cli.specs.Judged.{AreShort}
use Rattle.xsk_cli.specs.Steps.{lists_in, written_in}
use Rattle.xsk_cli.specs.Words.{most_of}
use Rattle.xsk_cli.proofs.Short.{short_lists}
use Rattle.xsk_cli.proofs.Showing.{none_come_shown, ran_out_shown, shown_count, written_comes}
use Rattle.xsk_cli.proofs.shown.show_inputs.Goals as goal

pub returns-in-Err-clause-unmade : goal.returns-in-Err-clause-unmade
returns-in-Err-clause-unmade g c =
    let bytes : List (List ℕ) = map (λ bytes. bytes.items) c.args.inputs.items in
    none_come_shown c.args.work.now bytes c.in-Err.failure c.in-Err.ensures.failed c.in-Err.ensures.no_run

pub make_shown-requires-clause-short : goal.make_shown-requires-clause-short
make_shown-requires-clause-short g c κs within =
    short_lists c.args.work.now (map (λ bytes. bytes.items) c.args.inputs.items) c.in-Ok.lists.items c.in-Ok.ensures.taken

pub returns-in-Ok-make_shown-clause-made : goal.returns-in-Ok-make_shown-clause-made
returns-in-Ok-make_shown-clause-made g c =
    let work = c.args.work.now in
    let bytes : List (List ℕ) = map (λ bytes. bytes.items) c.args.inputs.items in
    let o : OutcomeShown = c.in-Ok-make_shown.shown.left in
    let texts = written_in o.sent c.in-Ok-make_shown.shown.texts in
    let is : IsShown work bytes o = record {
      short = subst (AreShort (most_of work) bytes) (sym (length-map c.args.inputs.items (λ bytes. bytes.items))) c.requires.inputs.short;
      lists = lists_in c.in-Ok.lists.items;
      are = c.in-Ok.ensures.taken;
      ports = length-map c.in-Ok.lists.items (λ list. list.packets) ∙ c.in-Ok.ensures.count;
      within = c.in-Ok.ensures.within;
      shown = c.in-Ok-make_shown.ensures.made.0;
    } in
    record {
      comes = written_comes work bytes o texts (record { is = is; texts_are = c.in-Ok-make_shown.ensures.made.1 });
      count = shown_count work (lists_in c.in-Ok.lists.items) o texts c.in-Ok-make_shown.ensures.made.1;
      laid = c.in-Ok-make_shown.ensures.laid;
    }

pub returns-in-Err-make_shown-clause-unmade : goal.returns-in-Err-make_shown-clause-unmade
returns-in-Err-make_shown-clause-unmade g c =
    let work = c.args.work.now in
    let bytes : List (List ℕ) = map (λ bytes. bytes.items) c.args.inputs.items in
    let each : (o : OutcomeShown) → c.in-Err-make_shown.left ≡ Some o → IsShown work bytes o = λ o is. record {
      short = subst (AreShort (most_of work) bytes) (sym (length-map c.args.inputs.items (λ bytes. bytes.items))) c.requires.inputs.short;
      lists = lists_in c.in-Ok.lists.items;
      are = c.in-Ok.ensures.taken;
      ports = length-map c.in-Ok.lists.items (λ list. list.packets) ∙ c.in-Ok.ensures.count;
      within = c.in-Ok.ensures.within;
      shown = c.in-Err-make_shown.ensures.shown o is;
    } in
    ran_out_shown work bytes c.in-Err-make_shown.left each
