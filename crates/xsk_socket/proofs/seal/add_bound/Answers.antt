use Rattle.std.proofs.Common.{◌≡◌, ◌∙◌, ℕ, Bool, ◌+◌, ◌-◌, ◌++◌, List, [], ◌∷◌, cond, ap, ap₂, sym, arith, append_assoc}
use Rattle.std.specs.Prelude.{filter}
use Rattle.xsk_socket.specs.Regular.{numbered}
use Rattle.xsk_socket.specs.Sealed.{is_on}
use Rattle.xsk_socket.specs.Setup.{socket_at}
use Rattle.xsk_socket.proofs.Sealing.{filter_more}
use Rattle.xsk_socket.proofs.seal.add_bound.Goals as goal

step : (old now : List ℕ) (p : ℕ → Bool) (n : ℕ) (start : List ℕ) (here : Bool) → now ≡ old ++ cond here ((n + 1) ∷ []) [] → here ≡ p (n + 1)
    → old ≡ start ++ filter p (numbered n (λ s. s + 1)) → now ≡ start ++ filter p (numbered (n + 1) (λ s. s + 1))
step old now p n start here added is was =
    added
    ∙ ap₂ (λ xs b. xs ++ cond b ((n + 1) ∷ []) []) was is
    ∙ append_assoc start (filter p (numbered n (λ s. s + 1))) (cond (p (n + 1)) ((n + 1) ∷ []) [])
    ∙ ap (λ xs. start ++ xs) (sym (filter_more p n (λ s. s + 1)))

pub loop-index-preserved : goal.loop-index-preserved
loop-index-preserved c =
    let sockets = c.args.sockets.now in
    let i = c.loop-index.index in
    let back : i + 1 - 1 ≡ i = omega arith in
    let here : c.is_on.result ≡ is_on c.args.place.port c.args.place.queue (socket_at sockets (i + 1 - 1)).bound = rw back c.is_on.ensures in
    step c.loop-index.map.items c.add_if.new.map.items (λ v. is_on c.args.place.port c.args.place.queue (socket_at sockets (v - 1)).bound) i c.args.map.now.items c.is_on.result
    c.in_ok-add_if.ensures here c.loop-index.invariant
