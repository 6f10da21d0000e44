-- The regular configuration of a layout is a configuration, and it is regular.
use Rattle.std.proofs.Common.{◌≡◌, ℕ, suc, ◌+◌, ◌*◌, ◌/◌, ◌%◌, ◌<◌, ◌≤◌, ◌&&◌, eqb, true, length, refl, sym, ap, ◌∙◌, subst, inl, inr, arith, Bool, []}
use Rattle.std.specs.Prelude.{EachIndex, IfSome, None, Option, Some}
use Rattle.std.proofs.lemmas.Bool.{and_parts, cases_Bool, cases_eq, eq-eqb, eqb-true}
use Rattle.std.proofs.Math.Nat.{div-lt_iff_lt-mul, mul-div_cancel, mul-div_cancel_left, mul-lt-mul_of_pos_right, mul-le-mul_right, mul_assoc, mul-zero, div-add-mod'}
use Rattle.xsk_model.specs.Config.{Config, IsConfig, IsBound, IsClosable, IsServed, IsMap, IsLawful, IsRegular, IsPairOf, IsSocketOf, pair_at, socket_at, pairs_at, pool_of, classes_of}
use Rattle.xsk_model.specs.declared.config.PairInfo.{PairInfo}
use Rattle.xsk_socket.specs.declared.layout.Layout.{Layout}
use Rattle.xsk_socket.specs.Fits.{Fits, IsCount}
use Rattle.xsk_socket.specs.Layout.{cells_in, pairs_in, sockets_in}
use Rattle.xsk_socket.specs.Regular.{cell_in, is_left_empty, map_in, numbered, pair_in, regular_of, socket_in}
use Rattle.xsk_socket.proofs.Counts.{few, few_ports, product_few, product_some, some, some_ports}
use Rattle.xsk_socket.proofs.Numbered.{all_numbered, count_one, get_or-numbered, length-numbered}

-- ---- numbers

below_div : (s k n : ℕ) → 0 < k → s < n * k → s / k < n
below_div s k n some_k within = (div-lt_iff_lt-mul {k = k} {x = s} {y = n} some_k).1 within

-- where a division leaves nothing and there is something, it gives something
pool_some : (frames n : ℕ) → 0 < n → 0 < frames → frames % n ≡ 0 → 1 ≤ frames / n
pool_some frames n some_n some_frames divides =
    elim (cases_eq (frames / n) 0) [
      | inl none ↦
          let nothing : n * (frames / n) ≡ 0 = ap (λ k. n * k) none ∙ mul-zero n in
          absurd (omega (arith, nothing))
      | inr more ↦ omega (arith, more)
    ]

-- ---- pairs

is_at : ℕ → ℕ → PairInfo → Bool
is_at port queue p = eqb p.port port && eqb p.queue queue

at_own : (l : Layout) (d : ℕ) → is_at (d / l.queues) (d % l.queues) (pair_in l d) ≡ true
unfolding is_at
at_own l d = rw (eq-eqb (d / l.queues) (d / l.queues) refl, eq-eqb (d % l.queues) (d % l.queues) refl) refl

at_alone : (l : Layout) (d i : ℕ) → 0 < l.queues → is_at (d / l.queues) (d % l.queues) (pair_in l i) ≡ true → i ≡ d
unfolding is_at
at_alone l d i some_q is =
    let both = and_parts (eqb (i / l.queues) (d / l.queues)) (eqb (i % l.queues) (d % l.queues)) is in
    let port : i / l.queues ≡ d / l.queues = eqb-true (i / l.queues) (d / l.queues) both.0 in
    let queue : i % l.queues ≡ d % l.queues = eqb-true (i % l.queues) (d % l.queues) both.1 in
    sym (div-add-mod' i l.queues) ∙ ap (λ n. n * l.queues + i % l.queues) port ∙ ap (λ n. (d / l.queues) * l.queues + n) queue ∙ div-add-mod' d l.queues

one_pair : (l : Layout) → Fits l → (d : ℕ) → d < pairs_in l → pairs_at (numbered (pairs_in l) (pair_in l)) (d / l.queues) (d % l.queues) ≡ 1
unfolding is_at
one_pair l fits d below =
    count_one (is_at (d / l.queues) (d % l.queues)) (pairs_in l) (pair_in l) d below (at_own l d)
    (λ i within is. at_alone l d i (some l.queues fits.queues) is)

bound : (l : Layout) → Fits l → (s : ℕ) → s < pairs_in l * l.sockets
    → IsBound l.ports l.queues (numbered (pairs_in l) (pair_in l)) (socket_in l s)
bound l fits s within =
    let some_q = some l.queues fits.queues in
    let pair : s / l.sockets < pairs_in l = below_div s l.sockets (pairs_in l) (some l.sockets fits.sockets) within in
    record {
      port = below_div (s / l.sockets) l.queues l.ports some_q pair;
      queue = omega (arith, some_q);
      pair = one_pair l fits (s / l.sockets) pair;
      ring = inl refl;
      rx = fits.rx;
      tx = fits.tx;
    }

served : (l : Layout) → Fits l → (d : ℕ) → d < pairs_in l → IsServed (numbered (pairs_in l * l.sockets) (socket_in l)) (pair_in l d)
served l fits d below =
    let some_s = some l.sockets fits.sockets in
    let n = pairs_in l * l.sockets in
    let s = d * l.sockets in
    let within : s < n = mul-lt-mul_of_pos_right below some_s in
    let pair : s / l.sockets ≡ d = mul-div_cancel d some_s in
    record {
      socket = (
        s,
        socket_in l s,
        rw (length-numbered n (socket_in l)) within,
        get_or-numbered n (socket_in l) s (socket_in l s) within,
        (ap (λ k. k / l.queues) pair, ap (λ k. k % l.queues) pair),
      );
      fill = fits.fill;
      comp = fits.comp;
    }

-- ---- cells

cell_least : (l : Layout) (port i : ℕ) → cell_in l port i ≤ port * cells_in l + i + 1
cell_least l port i =
    elim (cases_Bool (is_left_empty l.empty i)) [
      | inl left ↦ rw left (omega arith)
      | inr full ↦ rw full (omega arith)
    ]

cell_known : (l : Layout) (port i : ℕ) → port < l.ports → i < cells_in l → cell_in l port i ≤ pairs_in l * l.sockets
cell_known l port i below within =
    let ports : suc port * cells_in l ≤ l.ports * cells_in l = mul-le-mul_right (cells_in l) (omega arith) in
    let next : suc port * cells_in l ≡ port * cells_in l + cells_in l = grind arith in
    let all : pairs_in l * l.sockets ≡ l.ports * cells_in l = mul_assoc l.ports l.queues l.sockets in
    omega (arith, cell_least l port i, ports, next, all)

map_is : (l : Layout) → Fits l → (port : ℕ) → port < l.ports → IsMap (length (numbered (pairs_in l * l.sockets) (socket_in l))) (map_in l port)
map_is l fits port below =
    let n = pairs_in l * l.sockets in
    let cells : cells_in l ≤ 16 = product_few l.queues l.sockets 4 4 (few l.queues fits.queues) (few l.sockets fits.sockets) in
    record {
      few = rw (length-numbered (cells_in l) (cell_in l port)) (omega (arith, cells));
      known = all_numbered (λ v. v ≤ length (numbered n (socket_in l))) (cells_in l) (cell_in l port)
          (λ i within. rw (length-numbered n (socket_in l)) (cell_known l port i below within));
    }

-- with any socket to close
abbrev closing_in : Layout → Option ℕ → Config
closing_in l close = record (regular_of l) { closing = close }

config-closing : (l : Layout) (close : Option ℕ) → Fits l → IfSome close (IsClosable (regular_of l).sockets) → IsConfig (closing_in l close)
config-closing l close fits closable =
    let c = regular_of l in
    let some_q = some l.queues fits.queues in
    let some_s = some l.sockets fits.sockets in
    let pairs_are : length c.pairs ≡ pairs_in l = length-numbered (pairs_in l) (pair_in l) in
    let sockets_are : length c.sockets ≡ pairs_in l * l.sockets = length-numbered (pairs_in l * l.sockets) (socket_in l) in
    let some_pairs : 0 < pairs_in l = product_some l.ports l.queues (some_ports l.ports fits.ports) some_q in
    let few_pairs : pairs_in l ≤ 16 = product_few l.ports l.queues 4 4 (few_ports l.ports fits.ports) (few l.queues fits.queues) in
    let some_sockets : 0 < pairs_in l * l.sockets = product_some (pairs_in l) l.sockets some_pairs some_s in
    let few_sockets : pairs_in l * l.sockets ≤ 64 = product_few (pairs_in l) l.sockets 16 4 few_pairs (few l.sockets fits.sockets) in
    record {
      ports = fits.ports;
      queues = fits.queues;
      some = rw sockets_are some_sockets;
      few = rw sockets_are few_sockets;
      pairs_some = rw pairs_are some_pairs;
      pairs_few = rw pairs_are (omega (arith, few_pairs));
      bound = all_numbered (IsBound l.ports l.queues c.pairs) (pairs_in l * l.sockets) (socket_in l) (bound l fits);
      served = all_numbered (IsServed c.sockets) (pairs_in l) (pair_in l) (served l fits);
      maps = length-numbered l.ports (map_in l);
      cells = all_numbered (IsMap (length c.sockets)) l.ports (map_in l) (map_is l fits);
      closing = closable;
    }

pub open-config : (l : Layout) → Fits l → IsConfig (closing_in l None)
open-config l fits = config-closing l None fits tt

place : (l : Layout) (s : ℕ) → s < sockets_in l → IsSocketOf l.queues l.sockets s (socket_at (regular_of l).sockets s)
place l s within = rw (get_or-numbered (sockets_in l) (socket_in l) s (socket_at [] s) within) (refl, refl, refl, refl)

-- the socket that the layout closes
pub is_closable : (l : Layout) → Fits l → IfSome l.close (IsClosable (regular_of l).sockets)
is_closable l fits = go l.close fits.close
  where
    go : (close : Option ℕ) → IfSome close (λ s. s < sockets_in l) → IfSome close (IsClosable (regular_of l).sockets)
    go None within = tt
    go (Some s) within = (rw (length-numbered (sockets_in l) (socket_in l)) within, (place l s within).2, (place l s within).3)

pub regular-config : (l : Layout) → Fits l → IsConfig (regular_of l)
regular-config l fits = config-closing l l.close fits (is_closable l fits)

-- ---- regular

lawful : (l : Layout) → Fits l → IsLawful (regular_of l)
lawful l fits =
    let n : length (regular_of l).pairs ≡ pairs_in l = length-numbered (pairs_in l) (pair_in l) in
    let some_pairs : 0 < pairs_in l = product_some l.ports l.queues (some_ports l.ports fits.ports) (some l.queues fits.queues) in
    record {
      divides = rw n fits.divides;
      some = rw n (pool_some l.frames (pairs_in l) some_pairs fits.some fits.divides);
      fits = all_numbered (λ (p : PairInfo). pool_of (regular_of l) ≤ p.fill) (pairs_in l) (pair_in l) (λ d below. rw n fits.pool);
    }

classes : (l : Layout) → Fits l → classes_of (regular_of l) ≡ l.sockets
classes l fits =
    let some_pairs : 0 < pairs_in l = product_some l.ports l.queues (some_ports l.ports fits.ports) (some l.queues fits.queues) in
    rw (length-numbered (pairs_in l) (pair_in l), length-numbered (pairs_in l * l.sockets) (socket_in l)) (mul-div_cancel_left l.sockets some_pairs)

seat : (l : Layout) (d : ℕ) → d < pairs_in l → IsPairOf l.queues d (pair_at (regular_of l).pairs d)
seat l d below = rw (get_or-numbered (pairs_in l) (pair_in l) d (pair_at [] d) below) (refl, refl)

pub regular-regular : (l : Layout) → Fits l → IsRegular (regular_of l)
regular-regular l fits =
    let c = regular_of l in
    let k = classes l fits in
    let pairs_are : length c.pairs ≡ pairs_in l = length-numbered (pairs_in l) (pair_in l) in
    let sockets_are : length c.sockets ≡ pairs_in l * l.sockets = length-numbered (pairs_in l * l.sockets) (socket_in l) in
    record {
      lawful = lawful l fits;
      pairs = pairs_are;
      seats = λ d below. seat l d (rw pairs_are at below);
      classes = subst IsCount (sym k) fits.sockets;
      sockets = sockets_are ∙ ap (λ n. n * l.sockets) (sym pairs_are) ∙ ap (λ n. length c.pairs * n) (sym k);
      places = subst (λ n. EachIndex c.sockets (λ s. IsSocketOf l.queues n s (socket_at c.sockets s))) (sym k)
          (λ s within. place l s (rw sockets_are at within));
    }
