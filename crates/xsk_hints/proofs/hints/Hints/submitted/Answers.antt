use Rattle.std.proofs.Common.{◌≡◌, ap, length, ◌∙◌, rules, Bool}
use Rattle.xsk_hints.specs.Noted.{all_counted}
use Rattle.xsk_hints.proofs.Counting.{length-all_counted, noted_is, notes_submit_none, notes_submit}
use Rattle.xsk_hints.proofs.hints.Hints.submitted.Goals as goal

pub returns-then-not-is_told-clause-notes : goal.returns-then-not-is_told-clause-notes
returns-then-not-is_told-clause-notes c lines now = notes_submit_none c.args.setting.now c.args.self.now c.args.line c.args.ring c.args.entries.now lines (c.is_told.ensures.none (search rules)) now

pub returns-clause-sized : goal.returns-clause-sized
returns-clause-sized c =
    let s = c.args.setting.now in
    let lent : c.self.inside.tallies.items ≡ c.args.self.now.tallies = search rules in
    let peeks : c.self.inside.peeks.items ≡ c.args.self.now.peeks = search rules in
    record {
      tallies = ap length c.count_all.ensures ∙ length-all_counted s c.self.inside.metadata c.args.line c.args.ring c.args.entries.now c.self.inside.tallies.items ∙ ap length lent ∙ c.requires.tallies;
      peeks = ap length peeks ∙ c.requires.peeks;
    }

pub returns-clause-notes : goal.returns-clause-notes
returns-clause-notes c lines now =
    let s = c.args.setting.now in
    let told = c.is_told.ensures.told (search rules) in
    let lent : c.self.inside.tallies.items ≡ c.args.self.now.tallies = search rules in
    let peeks : c.self.inside.peeks.items ≡ c.args.self.now.peeks = search rules in
    let metadata : c.self.inside.metadata ≡ c.args.self.now.metadata = search rules in
    let tallies : c.count_all.new.tallies.items ≡ all_counted s c.args.self.now.metadata c.args.line c.args.ring c.args.entries.now c.args.self.now.tallies =
    c.count_all.ensures
    ∙ ap (all_counted s c.self.inside.metadata c.args.line c.args.ring c.args.entries.now) lent
    ∙ ap (λ (m : Bool). all_counted s m c.args.line c.args.ring c.args.entries.now c.args.self.now.tallies) metadata in
    notes_submit s c.args.self.now _ c.args.line c.args.ring c.args.entries.now lines c.requires told.0 told.1 (noted_is _ _ _ _ _ _ tallies peeks metadata) now
