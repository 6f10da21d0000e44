use Rattle.std.proofs.Common.{◌≡◌, ◌<◌, ◌≤◌, length, sym, ◌∙◌, arith}
use Rattle.xsk_model.specs.declared.call.Call.TheVariants.{Peek}
use Rattle.xsk_model.specs.declared.call.Reply.TheVariants.{Items, Empty}
use Rattle.xsk_rings.proofs.Looping.{peeks_begin, peeks_belongs, peeks_left, peeks_more, peeks_served, empty_served}
use Rattle.xsk_rings.proofs.Telling.{tells}
use Rattle.xsk_rings.proofs.serving.peek.Goals as goal

pub items-init : goal.items-init
items-init g c =
    let h = c.look_for_items-found.ensures.history in
    peeks_begin c.args.pass.now c.look_for_items-found.new.pass c.args.ring c.args.count _ _ c.requires.empty c.look_for_items-found.ensures.same.0 c.look_for_items-found.ensures.same.1 h.0 h.1 h.2 h.3 c.look_for_items-found.ensures.known

pub fetch-requires-clause-belongs : goal.fetch-requires-clause-belongs
fetch-requires-clause-belongs g c = peeks_belongs _ _ _ _ _ _ _ c.requires.may.belongs c.items.invariant

pub fetch-requires-clause-flight : goal.fetch-requires-clause-flight
fetch-requires-clause-flight g c = peeks_left _ _ _ _ _ _ c.items.invariant (let z : length c.items.items < c.look_for_items-found.result = omega arith in z)

pub items-preserved : goal.items-preserved
items-preserved g c = peeks_more _ c.items.pass c.fetch.new.self _ _ _ c.items.items c.push.new.self c.fetch.result c.items.invariant
    (let z : length c.items.items < c.look_for_items-found.result = omega arith in z) c.fetch.ensures.same.0 c.fetch.ensures.same.1 c.fetch.ensures.known c.fetch.ensures.taken c.push.ensures

pub returns-then-found-eq0-clause-told : goal.returns-then-found-eq0-clause-told
returns-then-found-eq0-clause-told g c =
    let p = c.args.pass.now in
    let l = c.look_for_items-found in
    let h = l.ensures.history in
    let zero : l.result ≡ 0 = c.if-found-eq0.true in
    tells p l.new.pass (Peek c.args.ring c.args.count) Empty c.requires.may.legal (empty_served p l.new.pass c.args.ring c.args.count l.result l.ensures.same.0 l.ensures.same.1 h.0 h.1 zero h.2 h.3)
    (λ covers. sym zero ∙ l.ensures.covered covers) l.ensures.known

pub returns-clause-told : goal.returns-clause-told
returns-clause-told g c =
    let p = c.args.pass.now in
    let l = c.look_for_items-found in
    let inv = c.items.invariant in
    let some_count : 1 ≤ l.result = omega (arith, c.if-found-eq0.false) in
    let all : l.result ≤ length c.items.items = omega arith in
    let same = inv.count_is in
    tells p c.items.pass (Peek c.args.ring c.args.count) (Items c.items.items) c.requires.may.legal (peeks_served p c.items.pass c.args.ring c.args.count l.result c.items.items inv some_count all)
    (λ covers. let full = l.ensures.covered covers in omega arith) inv.known
