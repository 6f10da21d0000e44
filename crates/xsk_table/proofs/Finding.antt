-- A Peek finds what its caller has seen come into the ring.
use Rattle.std.proofs.Common.{◌≡◌, ◌<◌, List, [], ◌∷◌, ◌++◌, length, refl, ap, sym, ◌∙◌, subst}
use Rattle.std.proofs.lemmas.List.{append_cancel_right}
use Rattle.xsk_umem.specs.declared.batch.Item.{Item}
use Rattle.xsk_model.specs.Rings.{consumer}
use Rattle.xsk_model.specs.Entry.{Told, Entry, own, told}
use Rattle.xsk_model.specs.Own.{peeked_of}
use Rattle.xsk_model.specs.History.{IsHistory}
use Rattle.xsk_model.specs.declared.call.Call.TheVariants.{Peek}
use Rattle.xsk_model.specs.declared.call.Reply.{Reply}
use Rattle.xsk_model.specs.declared.call.Reply.TheVariants.{Items, Empty}
use Rattle.xsk_model.proofs.Folds.{own-push_same}
use Rattle.xsk_model.proofs.Histories.{history_first}
use Rattle.xsk_model.proofs.FrameTheorems.{peek_finds}
use Rattle.xsk_table.specs.Rule.{given}
use Rattle.xsk_table.specs.Plays.{entry}
use Rattle.xsk_table.specs.Laws.{FindsWhatWasSeen}

some_items : (reply : Reply) (items : List Item) → reply ≡ Items items → reply ≡ Empty → ⊥
some_items reply items is none = cc

pub finds : FindsWhatWasSeen
finds k who r n reply v w has role less ex none =
    let c = k.config in
    let past : List Entry = v.seen ++ ex.between in
    let e = entry who (Peek r n) reply in
    let history : IsHistory c k.frames past = history_first c k.frames past (e ∷ []) (subst (IsHistory c k.frames) ex.seen ex.legal) in
    let mine : own who past ≡ own who v.seen = append_cancel_right (own who past) (own who v.seen) (told e ∷ []) (sym (own-push_same who past e refl) ∙ ap (own who) (sym ex.seen) ∙ ex.mine) in
    let all : own (consumer c r) past ≡ own who v.seen = ap (λ m. own m past) (sym role) ∙ mine in
    let more : length (peeked_of r (own (consumer c r) past)) < given k r v.seen = subst (λ (l : List Told). length (peeked_of r l) < given k r v.seen) (sym all) less in
    some_items reply _ (ex.given ∙ peek_finds c k.frames v.seen ex.between r n history has more) none
