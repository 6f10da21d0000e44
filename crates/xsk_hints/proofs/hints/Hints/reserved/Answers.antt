use Rattle.std.proofs.Common.{◌≡◌, ap, ◌∙◌, rules}
use Rattle.xsk_hints.specs.declared.oddity.Oddity.TheVariants.{Refused}
use Rattle.xsk_hints.specs.Noted.{counted}
use Rattle.xsk_hints.proofs.Counting.{noted_is, notes_reserve_none, notes_granted, notes_refused}
use Rattle.xsk_hints.proofs.hints.Hints.reserved.Goals as goal

pub returns-then-not-is_told-clause-notes : goal.returns-then-not-is_told-clause-notes
returns-then-not-is_told-clause-notes c n lines now = notes_reserve_none c.args.setting.now c.args.self.now c.args.line c.args.ring n c.args.answer lines (c.is_told.ensures.none (search rules)) now

pub returns-in-Granted-clause-notes : goal.returns-in-Granted-clause-notes
returns-in-Granted-clause-notes c n lines now = notes_granted c.args.setting.now c.args.self.now c.args.line c.args.ring n c.args.answer lines (search rules) now

pub returns-clause-notes : goal.returns-clause-notes
returns-clause-notes c n lines now =
    let s = c.args.setting.now in
    let told = c.is_told.ensures.told (search rules) in
    let lent : c.self.inside.tallies.items ≡ c.args.self.now.tallies = search rules in
    let tallies : c.count.new.tallies.items ≡ counted s c.args.line c.args.ring c.args.self.now.tallies Refused = c.count.ensures ∙ ap (λ ts. counted s c.args.line c.args.ring ts Refused) lent in
    let peeks : c.self.inside.peeks.items ≡ c.args.self.now.peeks = search rules in
    let metadata : c.self.inside.metadata ≡ c.args.self.now.metadata = search rules in
    notes_refused s c.args.self.now _ c.args.line c.args.ring n c.args.answer lines c.requires told.0 told.1 (search rules) (noted_is _ _ _ _ _ _ tallies peeks metadata) now
