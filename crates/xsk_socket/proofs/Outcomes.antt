-- What a further call leaves, part by part.
use Rattle.std.proofs.Common.{◌≡◌, ℕ, ◌+◌, ◌<◌, ◌≢◌, List, [], ◌∷◌, ◌++◌, length, get_or, set, refl, sym, ap, ap₂, ◌∙◌, arith, Some}
use Rattle.std.proofs.lemmas.Bool.{eq-eqb, ne_eqb}
use Rattle.xsk_socket.specs.declared.socket.RingKind.{RingKind}
use Rattle.xsk_socket.specs.declared.socket.RingKind.TheVariants.{Rx, Tx, Fill, Comp}
use Rattle.xsk_socket.specs.declared.socket.Socket.{Socket}
use Rattle.xsk_socket.specs.Regular.{numbered}
use Rattle.xsk_socket.specs.Rings.{with_ring}
use Rattle.xsk_socket.specs.Setup.{Made, no_socket, socket_of, sockets_of}
use Rattle.xsk_socket.specs.Setup.Made.{socket, ring, bind}
use Rattle.xsk_socket.proofs.Numbered.{get_or-numbered, length-numbered, numbered_more, numbered_same, set_numbered}

-- ---- a socket more

new_socket : (calls : List Made) → socket_of (socket ∷ calls) (sockets_of calls) ≡ no_socket
new_socket calls = rw (eq-eqb (sockets_of calls) (sockets_of calls) refl) refl

older_socket : (calls : List Made) (s : ℕ) → s < sockets_of calls → socket_of calls s ≡ socket_of (socket ∷ calls) s
older_socket calls s below = rw (ne_eqb s (sockets_of calls) (λ is. absurd (omega arith))) refl

pub more_sockets : (calls : List Made) (sockets : List Socket) → sockets ≡ numbered (sockets_of calls) (socket_of calls)
    → sockets ++ no_socket ∷ [] ≡ numbered (sockets_of calls + 1) (socket_of (socket ∷ calls))
more_sockets calls sockets are =
    let n = sockets_of calls in
    ap₂ (λ xs x. xs ++ x ∷ []) (are ∙ numbered_same n (socket_of calls) (socket_of (socket ∷ calls)) (older_socket calls)) (sym (new_socket calls))
    ∙ sym (numbered_more n (socket_of (socket ∷ calls)))

-- ---- a ring more

ringed : (kind : RingKind) (calls : List Made) (s size : ℕ) → socket_of (ring s kind size ∷ calls) s ≡ with_ring kind size (socket_of calls s)
ringed Rx calls s size = rw (eq-eqb s s refl) refl
ringed Tx calls s size = rw (eq-eqb s s refl) refl
ringed Fill calls s size = rw (eq-eqb s s refl) refl
ringed Comp calls s size = rw (eq-eqb s s refl) refl

unringed : (kind : RingKind) (calls : List Made) (s size i : ℕ) → i ≢ s → socket_of calls i ≡ socket_of (ring s kind size ∷ calls) i
unringed kind calls s size i apart = rw (ne_eqb s i (λ is. apart (sym is))) refl

pub more_rings : (calls : List Made) (sockets : List Socket) (kind : RingKind) (s size : ℕ) (own : Socket) → s < length sockets → get_or sockets s no_socket ≡ own
    → sockets ≡ numbered (sockets_of calls) (socket_of calls)
    → set sockets s (with_ring kind size own) ≡ numbered (sockets_of calls) (socket_of (ring s kind size ∷ calls))
more_rings calls sockets kind s size own within is are =
    let n = sockets_of calls in
    let f = socket_of calls in
    let inside : s < n = rw (are, length-numbered n f) at within in
    let own_is : f s ≡ own = sym (get_or-numbered n f s no_socket inside) ∙ ap (λ xs. get_or xs s no_socket) (sym are) ∙ is in
    ap (λ xs. set xs s (with_ring kind size own)) are
    ∙ set_numbered n f (socket_of (ring s kind size ∷ calls)) s (with_ring kind size own) inside
    (ringed kind calls s size ∙ ap (with_ring kind size) own_is) (λ i apart. unringed kind calls s size i apart)

-- ---- a bind more

bound_here : (calls : List Made) (s port queue flags : ℕ) → socket_of (bind s port queue flags ∷ calls) s
    ≡ record (socket_of calls s) { bound = Some (record { port = port; queue = queue }) }
bound_here calls s port queue flags = rw (eq-eqb s s refl) refl

unbound_there : (calls : List Made) (s port queue flags i : ℕ) → i ≢ s → socket_of calls i ≡ socket_of (bind s port queue flags ∷ calls) i
unbound_there calls s port queue flags i apart = rw (ne_eqb s i (λ is. apart (sym is))) refl

pub more_binds : (calls : List Made) (sockets : List Socket) (s port queue flags : ℕ) (own : Socket) → s < length sockets → get_or sockets s no_socket ≡ own
    → sockets ≡ numbered (sockets_of calls) (socket_of calls)
    → set sockets s (record own { bound = Some (record { port = port; queue = queue }) }) ≡ numbered (sockets_of calls) (socket_of (bind s port queue flags ∷ calls))
more_binds calls sockets s port queue flags own within is are =
    let n = sockets_of calls in
    let f = socket_of calls in
    let bound_to : Socket → Socket = λ x. record x { bound = Some (record { port = port; queue = queue }) } in
    let inside : s < n = rw (are, length-numbered n f) at within in
    let own_is : f s ≡ own = sym (get_or-numbered n f s no_socket inside) ∙ ap (λ xs. get_or xs s no_socket) (sym are) ∙ is in
    ap (λ xs. set xs s (bound_to own)) are
    ∙ set_numbered n f (socket_of (bind s port queue flags ∷ calls)) s (bound_to own) inside
    (bound_here calls s port queue flags ∙ ap bound_to own_is) (λ i apart. unbound_there calls s port queue flags i apart)

-- a socket's ring is the one that it has
pub own_rings : (calls : List Made) (sockets : List Socket) (s : ℕ) (own : Socket) → s < length sockets → get_or sockets s no_socket ≡ own
    → sockets ≡ numbered (sockets_of calls) (socket_of calls) → own ≡ socket_of calls s
own_rings calls sockets s own within is are =
    let n = sockets_of calls in
    let f = socket_of calls in
    let inside : s < n = rw (are, length-numbered n f) at within in
    sym is ∙ ap (λ xs. get_or xs s no_socket) are ∙ get_or-numbered n f s no_socket inside
