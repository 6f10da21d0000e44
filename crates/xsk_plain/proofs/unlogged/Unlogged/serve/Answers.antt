use Rattle.std.proofs.Common.{◌≡◌, [], refl, ap}
use Rattle.xsk_model.specs.Asks.{joined_call, joined_reply}
use Rattle.xsk_model.specs.declared.ask.Ask.{Ask}
use Rattle.xsk_model.specs.declared.call.Call.TheVariants.{Reserve, Submit, Peek, Release, Swap, Look}
use Rattle.xsk_plain.specs.Unlogged.{unlogged_engine}
use Rattle.xsk_plain.proofs.Follows.{counted_reply, counted_state}
use Rattle.xsk_plain.proofs.unlogged.Unlogged.serve.Goals as goal

pub returns-in-Reserve-clause-reply : goal.returns-in-Reserve-clause-reply
returns-in-Reserve-clause-reply c =
    let none : c.args.items.now ≡ [] = rw c.in-Reserve.is at c.requires.items in
    counted_reply (unlogged_engine c.self.inside) c.args.self.now c.reserve.new.self _ (Reserve c.in-Reserve.ring c.in-Reserve.count) (joined_call c.args.ask c.args.items.now)
    (joined_reply c.reserve.result []) (joined_reply c.reserve.result c.args.items.now)
    c.self.view_is (ap (λ (ask : Ask). joined_call ask c.args.items.now) c.in-Reserve.is) (ap (joined_reply c.reserve.result) none) c.reserve.ensures.follows

pub returns-in-Reserve-clause-state : goal.returns-in-Reserve-clause-state
returns-in-Reserve-clause-state c =
    let none : c.args.items.now ≡ [] = rw c.in-Reserve.is at c.requires.items in
    counted_state (unlogged_engine c.self.inside) c.args.self.now c.reserve.new.self _ (Reserve c.in-Reserve.ring c.in-Reserve.count) (joined_call c.args.ask c.args.items.now)
    (joined_reply c.reserve.result []) (joined_reply c.reserve.result c.args.items.now)
    c.self.view_is (ap (λ (ask : Ask). joined_call ask c.args.items.now) c.in-Reserve.is) (ap (joined_reply c.reserve.result) none) c.reserve.ensures.follows

pub returns-in-Submit-clause-state : goal.returns-in-Submit-clause-state
returns-in-Submit-clause-state c =
    counted_state (unlogged_engine c.self.inside) c.args.self.now c.submit.new.self _ (Submit c.in-Submit.ring c.args.items.now) (joined_call c.args.ask c.args.items.now)
    (joined_reply c.submit.result c.submit.new.items) (joined_reply c.submit.result c.submit.new.items)
    c.self.view_is (ap (λ (ask : Ask). joined_call ask c.args.items.now) c.in-Submit.is) refl c.submit.ensures.follows

pub returns-in-Peek-clause-reply : goal.returns-in-Peek-clause-reply
returns-in-Peek-clause-reply c =
    counted_reply (unlogged_engine c.self.inside) c.args.self.now c.peek.new.self _ (Peek c.in-Peek.ring c.in-Peek.count) (joined_call c.args.ask c.args.items.now)
    (joined_reply c.peek.result c.peek.new.items) (joined_reply c.peek.result c.peek.new.items)
    c.self.view_is (ap (λ (ask : Ask). joined_call ask c.args.items.now) c.in-Peek.is) refl c.peek.ensures.follows

pub returns-in-Peek-clause-state : goal.returns-in-Peek-clause-state
returns-in-Peek-clause-state c =
    counted_state (unlogged_engine c.self.inside) c.args.self.now c.peek.new.self _ (Peek c.in-Peek.ring c.in-Peek.count) (joined_call c.args.ask c.args.items.now)
    (joined_reply c.peek.result c.peek.new.items) (joined_reply c.peek.result c.peek.new.items)
    c.self.view_is (ap (λ (ask : Ask). joined_call ask c.args.items.now) c.in-Peek.is) refl c.peek.ensures.follows

pub returns-in-Release-clause-state : goal.returns-in-Release-clause-state
returns-in-Release-clause-state c =
    let none : c.args.items.now ≡ [] = rw c.in-Release.is at c.requires.items in
    counted_state (unlogged_engine c.self.inside) c.args.self.now c.release.new.self _ (Release c.in-Release.ring c.in-Release.count) (joined_call c.args.ask c.args.items.now)
    (joined_reply c.release.result []) (joined_reply c.release.result c.args.items.now)
    c.self.view_is (ap (λ (ask : Ask). joined_call ask c.args.items.now) c.in-Release.is) (ap (joined_reply c.release.result) none) c.release.ensures.follows

pub returns-in-Swap-clause-reply : goal.returns-in-Swap-clause-reply
returns-in-Swap-clause-reply c =
    let none : c.args.items.now ≡ [] = rw c.in-Swap.is at c.requires.items in
    counted_reply (unlogged_engine c.self.inside) c.args.self.now c.swap.new.self _ (Swap c.in-Swap.mark c.in-Swap.value) (joined_call c.args.ask c.args.items.now)
    (joined_reply c.swap.result []) (joined_reply c.swap.result c.args.items.now)
    c.self.view_is (ap (λ (ask : Ask). joined_call ask c.args.items.now) c.in-Swap.is) (ap (joined_reply c.swap.result) none) c.swap.ensures.follows

pub returns-in-Swap-clause-state : goal.returns-in-Swap-clause-state
returns-in-Swap-clause-state c =
    let none : c.args.items.now ≡ [] = rw c.in-Swap.is at c.requires.items in
    counted_state (unlogged_engine c.self.inside) c.args.self.now c.swap.new.self _ (Swap c.in-Swap.mark c.in-Swap.value) (joined_call c.args.ask c.args.items.now)
    (joined_reply c.swap.result []) (joined_reply c.swap.result c.args.items.now)
    c.self.view_is (ap (λ (ask : Ask). joined_call ask c.args.items.now) c.in-Swap.is) (ap (joined_reply c.swap.result) none) c.swap.ensures.follows

pub returns-in-Look-clause-reply : goal.returns-in-Look-clause-reply
returns-in-Look-clause-reply c =
    let none : c.args.items.now ≡ [] = rw c.in-Look.is at c.requires.items in
    counted_reply (unlogged_engine c.self.inside) c.args.self.now _ _ (Look c.in-Look.mark) (joined_call c.args.ask c.args.items.now)
    (joined_reply c.look.result []) (joined_reply c.look.result c.args.items.now)
    c.self.view_is (ap (λ (ask : Ask). joined_call ask c.args.items.now) c.in-Look.is) (ap (joined_reply c.look.result) none) c.look.ensures.follows
