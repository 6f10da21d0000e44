use Rattle.std.proofs.Common.{◌≡◌, ◌+◌, List, [], ◌∷◌, ◌++◌, inl, rules, drop, get_or, sym, subst, arith}
use Rattle.std.proofs.lemmas.List.{drop_all, get_or_default}
use Rattle.xsk_umem.specs.PacketList.{PacketList}
use Rattle.xsk_c.specs.Captures.{AreRefused}
use Rattle.xsk_c.proofs.OneMore.{Goes, goes_on, stops_on, stops_here, goes_here}
use Rattle.xsk_c.proofs.Places.{next_at}
use Rattle.xsk_c.proofs.captures.lists_of.Goals as goal

pub loop-i-preserved : goal.loop-i-preserved
loop-i-preserved c =
    let l = c.loop-i in
    let text = c.args.text.now in
    let ends = c.args.ends.now in
    let end = get_or ends l.i 0 in
    let list = c.in_ok-list.list in
    let split : drop l.i ends ≡ end ∷ drop (l.i + 1) ends = next_at ends l.i end c.loop-i-test.true (get_or_default ends l.i end 0 c.loop-i-test.true) in
    let pushed : c.push_list.new.lists.items ≡ l.lists.items ++ list ∷ [] = c.in_ok-push_list.ensures.pushed in
    record {
      short = c.in_ok-push_list.ensures.short;
      goes = subst (λ (ls : List PacketList). Goes text end (drop (l.i + 1) ends) ends ls) (sym pushed)
          (goes_on text l.begin end (drop l.i ends) (drop (l.i + 1) ends) ends l.lists.items list split c.in_ok-list.ensures.read l.invariant.goes);
      stops = stops_on text l.begin end (drop l.i ends) (drop (l.i + 1) ends) ends list split c.in_ok-list.ensures.read l.invariant.stops;
    }

pub returns-in_err-list-clause-refused : goal.returns-in_err-list-clause-refused
returns-in_err-list-clause-refused c =
    let l = c.loop-i in
    let text = c.args.text.now in
    let ends = c.args.ends.now in
    let end = get_or ends l.i 0 in
    let split : drop l.i ends ≡ end ∷ drop (l.i + 1) ends = next_at ends l.i end c.loop-i-test.true (get_or_default ends l.i end 0 c.loop-i-test.true) in
    let here : AreRefused text 0 ends c.in_err-list.field-0.0 =
    stops_here text l.begin end (drop l.i ends) (drop (l.i + 1) ends) ends c.in_err-list.field-0.0 split c.in_err-list.ensures.refused l.invariant.stops in
    search (rules, here)

pub returns-in_err-push_list-clause-refused : goal.returns-in_err-push_list-clause-refused
returns-in_err-push_list-clause-refused c =
    let l = c.loop-i in
    let text = c.args.text.now in
    let ends = c.args.ends.now in
    let end = get_or ends l.i 0 in
    let split : drop l.i ends ≡ end ∷ drop (l.i + 1) ends = next_at ends l.i end c.loop-i-test.true (get_or_default ends l.i end 0 c.loop-i-test.true) in
    let why = c.in_err-push_list.field-0.0 in
    let here : AreRefused text 0 ends why =
    stops_here text l.begin end (drop l.i ends) (drop (l.i + 1) ends) ends why split (inl c.in_err-push_list.ensures.refused) l.invariant.stops in
    search (rules, here)

pub returns-clause-read : goal.returns-clause-read
returns-clause-read c =
    let l = c.loop-i in
    let none : drop l.i c.args.ends.now ≡ [] = drop_all l.i c.args.ends.now (omega (arith, c.loop-i-test.false)) in
    goes_here c.args.text.now l.begin (drop l.i c.args.ends.now) c.args.ends.now l.lists.items none l.invariant.goes
