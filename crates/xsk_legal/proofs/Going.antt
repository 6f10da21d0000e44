-- One call more of a caller's own: what is known of it, and that the own calls and replies go on with it.
use Rattle.std.proofs.Common.{◌≡◌, ℕ, ◌≤◌, List, [], ◌∷◌, ◌++◌, sym, ap, subst, ◌∙◌, append_assoc, append-nil, arith}
use Rattle.xsk_model.specs.Config.{Config, IsConfig, HasRing}
use Rattle.xsk_model.specs.Rings.{producer, consumer}
use Rattle.xsk_model.specs.Entry.{Told, with_told, own}
use Rattle.xsk_model.specs.Own.{room_of, held_of}
use Rattle.xsk_model.specs.Legal.{IsLegal}
use Rattle.xsk_model.specs.History.{MayGive, Fits, OwnGoesOn}
use Rattle.xsk_model.specs.declared.call.Ring.{Ring}
use Rattle.xsk_model.specs.declared.call.Call.{Call}
use Rattle.xsk_model.specs.declared.call.Reply.{Reply}
use Rattle.xsk_model.proofs.OwnRuns.{history_own}
use Rattle.xsk_model.proofs.RingSizes.{size_few}
use Rattle.xsk_model.proofs.Theorems.{parts_by_own, within_size}

-- the last call of those that go on is legal, and its reply fits
pub own_last : (c : Config) (who : ℕ) (past mine : List Told) (t : Told) → OwnGoesOn c who past (mine ++ t ∷ [])
    → IsLegal c (past ++ mine) who t.call × Fits c (past ++ mine) t.call t.reply
own_last c who past [] t goes = (
  subst (λ (p : List Told). IsLegal c p who t.call) (sym (append-nil past)) goes.0,
  subst (λ (p : List Told). Fits c p t.call t.reply) (sym (append-nil past)) goes.1,
)
own_last c who past (u ∷ mine) t goes =
    subst (λ (p : List Told). IsLegal c p who t.call × Fits c p t.call t.reply) (append_assoc past (u ∷ []) mine) (own_last c who (past ++ u ∷ []) mine t goes.2)

-- a reply that the object may give
module _ (c : Config) (mine : List Told) (who : ℕ) (call : Call) (reply : Reply) (gift : MayGive c mine who call reply) where
  pub gift_goes : OwnGoesOn c who [] (with_told mine call reply)
  gift_goes = subst (λ (m : List Told). OwnGoesOn c who [] m) gift.entries (history_own c gift.frames gift.history who gift.legal)

  pub gift_legal : IsLegal c mine who call
  gift_legal = (own_last c who [] mine (record { call = call; reply = reply }) gift_goes).0

  pub gift_fits : Fits c mine call reply
  gift_fits = (own_last c who [] mine (record { call = call; reply = reply }) gift_goes).1

  pub gift_config : IsConfig c
  gift_config = gift.legal.opened.config

-- what is reserved or held fits the ring
module _ (c : Config) (mine : List Told) (who : ℕ) (call : Call) (reply : Reply) (gift : MayGive c mine who call reply) (r : Ring) (has : HasRing c r) where
  pub room_few : who ≡ producer c r → room_of r (with_told mine call reply) ≤ 2048
  room_few is =
      let same : room_of r (own (producer c r) gift.history) ≡ room_of r (with_told mine call reply) =
      ap (λ (w : ℕ). room_of r (own w gift.history)) (sym is) ∙ ap (room_of r) gift.entries in
      omega (
        arith,
        same,
        (parts_by_own c gift.frames gift.history r gift.legal has).0,
        within_size c gift.frames gift.history r gift.legal has,
        size_few c r gift.legal.opened.config has,
      )

  pub held_few : who ≡ consumer c r → held_of r (with_told mine call reply) ≤ 2048
  held_few is =
      let same : held_of r (own (consumer c r) gift.history) ≡ held_of r (with_told mine call reply) =
      ap (λ (w : ℕ). held_of r (own w gift.history)) (sym is) ∙ ap (held_of r) gift.entries in
      omega (
        arith,
        same,
        (parts_by_own c gift.frames gift.history r gift.legal has).1,
        within_size c gift.frames gift.history r gift.legal has,
        size_few c r gift.legal.opened.config has,
      )
