-- Behind the calls that fill FILL, the calls of a history are one of two parties, with the drivers as the kernel; so the applications'
-- calls are possible.
use Rattle.std.proofs.Common.{◌≡◌, List, [], ◌∷◌, ◌++◌, length, map, refl, sym, ap, ◌∙◌, subst, arith}
use Rattle.xsk_umem.specs.Frame.{Frame}
use Rattle.xsk_model.specs.Config.{Config, pool_of}
use Rattle.xsk_model.specs.Object.{State}
use Rattle.xsk_model.specs.Entry.{Entry}
use Rattle.xsk_model.specs.Opening.{IsOpened, opening}
use Rattle.xsk_model.specs.History.{GoesOn, state_after}
use Rattle.xsk_model.specs.declared.call.Reply.{Reply}
use Rattle.xsk_model.proofs.Histories.{after_all-append}
use Rattle.xsk_side.specs.Object.{Entry as SideEntry}
use Rattle.xsk_side.specs.Possible.{IsHistory as IsSideHistory, own}
use Rattle.xsk_side.proofs.Wider.{wider_kernels}
use Rattle.xsk_side.specs.declared.call.Party.TheVariants.{Program}
use Rattle.xsk_side.specs.declared.call.Call.{Call as SideCall}
use Rattle.xsk_sides.specs.Laws.{TwoParties, Journals}
use Rattle.xsk_sides.specs.Sides.{setting_of, side_call, party_of, program_calls, opened_calls, recorded, pushed, both, by_program, of_two}
use Rattle.xsk_sides.proofs.Parties.{own_both}
use Rattle.xsk_sides.proofs.Steps.{Along, along_next}
use Rattle.xsk_sides.proofs.Opening.{fills_of, first, first_legal, first_same}

opened : (c : Config) (frames : List Frame) (is : IsOpened c frames) → Along c frames [] (first c frames is)
opened c frames is = record {
  history = record { opened = is; legal = tt };
  legal = first_legal c frames is;
  same = first_same c frames is;
  has = λ w f some. absurd (omega (arith, some));
}

goes : (c : Config) (frames : List Frame) (past es : List Entry) (side : List SideEntry) → Along c frames past side → GoesOn c (state_after c frames past) past es
    → IsSideHistory (setting_of c) (both c es side)
goes c frames past [] side along rest = along.legal
goes c frames past (e ∷ es) side along rest =
    let next : Along c frames (past ++ e ∷ []) (pushed (party_of c e.who) (side_call e.call e.reply) side) =
    subst (λ (reply : Reply). Along c frames (past ++ (record { who = e.who; call = e.call; reply = reply }) ∷ []) (pushed (party_of c e.who) (side_call e.call reply) side))
    (sym rest.1) (along_next c frames past side along e.who e.call rest.0) in
    goes c frames (past ++ e ∷ []) es (pushed (party_of c e.who) (side_call e.call e.reply) side) next
    (subst (λ (s : State). GoesOn c s (past ++ e ∷ []) es) (sym (after_all-append c (opening c frames) past (e ∷ []))) rest.2)

own_map : (calls : List SideCall) → own Program (map by_program calls) ≡ calls
own_map [] = refl
own_map (call ∷ calls) = ap (λ xs. call ∷ xs) (own_map calls)

pub two_parties : TwoParties
two_parties c frames h history = (
  subst (λ (start : List SideEntry). IsSideHistory (setting_of c) (both c h start)) (fills_of c.geometry (pool_of c) 0 (length c.pairs) frames [])
      (goes c frames [] h (first c frames history.opened) (opened c frames history.opened) history.legal),
  own_both c h (map by_program (opened_calls c frames)) ∙ ap (program_calls c h) (own_map (opened_calls c frames)),
)

pub journals : Journals
journals c frames h rules history wider =
    let are : IsSideHistory (setting_of c) (of_two c frames h) × (own Program (of_two c frames h) ≡ recorded c frames h) = two_parties c frames h history in
    wider_kernels (setting_of c) rules (recorded c frames h) wider (record { history = of_two c frames h; legal = are.0; own = are.1 })
