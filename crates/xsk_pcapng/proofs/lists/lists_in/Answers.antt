use Rattle.std.proofs.Common.{◌≡◌, ℕ, List, map, sym, ap, subst, ◌∙◌, Vec, Global}
use Rattle.std.specs.Prelude.{All}
use Rattle.xsk_pcapng.specs.Pcapng.{lists_of}
use Rattle.xsk_pcapng.specs.Steps.{arrival_in, IsFoundIn}
use Rattle.xsk_pcapng.specs.Written.{bare, packets_of}
use Rattle.xsk_pcapng.proofs.Listing.{packets_of-bare}
use Rattle.xsk_pcapng.proofs.lists.lists_in.Goals as goal

pub lists_over-requires-clause-within : goal.lists_over-requires-clause-within
lists_over-requires-clause-within c =
    subst (λ (text : Vec ℕ Global). All (IsFoundIn text.items) c.args.found.now) (sym c.in-Ok-new.ensures.ok) c.requires.within

pub returns-in-Ok-lists_over-clause-packets : goal.returns-in-Ok-lists_over-clause-packets
returns-in-Ok-lists_over-clause-packets c =
    let lists : List (List (List ℕ)) = lists_of c.args.ports (map (arrival_in c.args.bytes.items) c.args.found.now) in
    let are : c.in-Ok-lists_over.lists.items ≡ map bare lists =
    c.in-Ok-lists_over.ensures ∙ ap (λ (text : Vec ℕ Global). map bare (lists_of c.args.ports (map (arrival_in text.items) c.args.found.now))) c.in-Ok-new.ensures.ok in
    ap packets_of are ∙ packets_of-bare lists

pub returns-in-Ok-lists_over-clause-bare : goal.returns-in-Ok-lists_over-clause-bare
returns-in-Ok-lists_over-clause-bare c =
    let lists : List (List (List ℕ)) = lists_of c.args.ports (map (arrival_in c.args.bytes.items) c.args.found.now) in
    let are : c.in-Ok-lists_over.lists.items ≡ map bare lists =
    c.in-Ok-lists_over.ensures ∙ ap (λ (text : Vec ℕ Global). map bare (lists_of c.args.ports (map (arrival_in text.items) c.args.found.now))) c.in-Ok-new.ensures.ok in
    are ∙ ap (map bare) (sym (ap packets_of are ∙ packets_of-bare lists))
