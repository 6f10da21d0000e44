-- How many calls a pass has made.
use Rattle.std.proofs.Common.{◌≡◌, ℕ, ◌+◌, List, [], ◌∷◌, length, sym, ap, ◌∙◌, arith, length-append}
use Rattle.xsk_model.specs.Entry.{Told, with_told}
use Rattle.xsk_model.specs.declared.call.Call.{Call}
use Rattle.xsk_model.specs.declared.call.Reply.{Reply}
use Rattle.xsk_turns.specs.Statistics.{capped}
use Rattle.xsk_table.specs.Held.{Holder}
use Rattle.xsk_rings.specs.Rounds.{mine_of}
use Rattle.xsk_rings.specs.Serving.{Served}
use Rattle.xsk_rings.proofs.Telling.{may_give_served}

-- one call more is counted
pub counted_more : (p q : Holder) (call : Call) (reply : Reply) (calls more : ℕ) → calls ≡ capped (length (mine_of p)) → Served p q call reply → more ≡ capped (calls + 1) → more ≡ capped (length (mine_of q))
counted_more p q call reply calls more counted served next =
    let mine : List Told = mine_of p in
    let now : mine_of q ≡ with_told mine call reply = (may_give_served p q call reply served).1 in
    let longer : length (mine_of q) ≡ length mine + 1 = ap length now ∙ length-append mine ((record { call = call; reply = reply }) ∷ []) in
    next ∙ ap (λ n. capped (n + 1)) counted ∙ (let sum : capped (capped (length mine) + 1) ≡ capped (length mine + 1) = omega arith in sum) ∙ ap capped (sym longer)
