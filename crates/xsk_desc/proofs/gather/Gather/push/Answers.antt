-- What is said of all items that were pushed follows from what this one ends and from what is kept.
use Rattle.std.proofs.Common.{◌≡◌, ap, ◌∙◌, rules}
use Rattle.std.specs.Prelude.{Some, None, Option, option_to_list, ◌++◌}
use Rattle.xsk_model.specs.Packets.{Packet, whole, bad, ended_by, group_after, packets}
use Rattle.xsk_model.proofs.PacketsLaws.{packets-push, rest-push}
use Rattle.xsk_desc.specs.Unfinished.{Unfinished}
use Rattle.xsk_desc.proofs.gather.Gather.push.Goals as goal

pub returns-in-Bad-clause-packets : goal.returns-in-Bad-clause-packets
returns-in-Bad-clause-packets c =
    let ended : ended_by c.args.geometry.now c.args.self.now.sg c.args.self.now.items c.args.item ≡ Some (bad c.replace-in-Bad.result) = search rules in
    λ pushed h. packets-push c.args.geometry.now c.args.self.now.sg pushed c.args.self.now.items c.args.item h
    ∙ ap (λ (o : Option Packet). packets c.args.geometry.now c.args.self.now.sg pushed ++ option_to_list o) ended

pub returns-in-Bad-clause-stands : goal.returns-in-Bad-clause-stands
returns-in-Bad-clause-stands c =
    let kept : group_after c.args.geometry.now c.args.self.now.sg c.args.self.now.items c.args.item ≡ c.replace-in-Bad.new.dest = search rules in
    let same : c.self.inside.sg ≡ c.args.self.now.sg = ap (λ (k : Unfinished). k.sg) c.self.view_is in
    λ pushed h. rw same (rest-push c.args.geometry.now c.args.self.now.sg pushed c.args.self.now.items c.args.item h ∙ kept)

pub returns-in-More-clause-packets : goal.returns-in-More-clause-packets
returns-in-More-clause-packets c =
    let ended : ended_by c.args.geometry.now c.args.self.now.sg c.args.self.now.items c.args.item ≡ None = search rules in
    λ pushed h. packets-push c.args.geometry.now c.args.self.now.sg pushed c.args.self.now.items c.args.item h
    ∙ ap (λ (o : Option Packet). packets c.args.geometry.now c.args.self.now.sg pushed ++ option_to_list o) ended

pub returns-in-More-clause-stands : goal.returns-in-More-clause-stands
returns-in-More-clause-stands c =
    let kept : group_after c.args.geometry.now c.args.self.now.sg c.args.self.now.items c.args.item ≡ c.push.new.self = search rules in
    let same : c.self.inside.sg ≡ c.args.self.now.sg = ap (λ (k : Unfinished). k.sg) c.self.view_is in
    λ pushed h. rw same (rest-push c.args.geometry.now c.args.self.now.sg pushed c.args.self.now.items c.args.item h ∙ kept)

pub returns-in-Whole-clause-packets : goal.returns-in-Whole-clause-packets
returns-in-Whole-clause-packets c =
    let ended : ended_by c.args.geometry.now c.args.self.now.sg c.args.self.now.items c.args.item ≡ Some (whole c.replace.result) = search rules in
    λ pushed h. packets-push c.args.geometry.now c.args.self.now.sg pushed c.args.self.now.items c.args.item h
    ∙ ap (λ (o : Option Packet). packets c.args.geometry.now c.args.self.now.sg pushed ++ option_to_list o) ended

pub returns-in-Whole-clause-stands : goal.returns-in-Whole-clause-stands
returns-in-Whole-clause-stands c =
    let kept : group_after c.args.geometry.now c.args.self.now.sg c.args.self.now.items c.args.item ≡ c.replace.new.dest = search rules in
    let same : c.self.inside.sg ≡ c.args.self.now.sg = ap (λ (k : Unfinished). k.sg) c.self.view_is in
    λ pushed h. rw same (rest-push c.args.geometry.now c.args.self.now.sg pushed c.args.self.now.items c.args.item h ∙ kept)
