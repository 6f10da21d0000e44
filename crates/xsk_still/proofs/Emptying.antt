-- An application that stays as it is has given back all frames, so no driver of it is blocked, and each has sent all.
use Rattle.std.proofs.Common.{◌≡◌, ℕ, ◌+◌, ◌/◌, ◌<◌, ◌≤◌, Bool, true, is_some, Option, Some, None, All, List, [], ◌∷◌, ◌++◌, length, map, get_or, flat_map, refl, sym, ap, ◌∙◌, subst, ⊎_elim, arith, length-append}
use Rattle.std.proofs.lemmas.Bool.{cases_lt}
use Rattle.std.proofs.lemmas.List.{length-map}
use Rattle.std.proofs.lemmas.List.Elements.{All-head}
use Rattle.xsk_umem.specs.Frame.{Frame}
use Rattle.xsk_turns.proofs.Object.{Config, IsWhole, pool_of, batch_of, classes_of, caller_of, app_of, producer, consumer, apps_of, home_item, times, numbers, submitted, had_of}
use Rattle.xsk_turns.proofs.Calls.{Item, Told, Fill, Comp, Tx, NeedTx, Kick, Call, Submit, Swap, Look}
use Rattle.xsk_model.specs.Config.{size_of}
use Rattle.xsk_model.specs.Entry.{Entry, own}
use Rattle.xsk_model.specs.Object.{State, ring_at}
use Rattle.xsk_model.specs.declared.call.Ring.{Ring}
use Rattle.xsk_model.specs.declared.call.Mark.{Mark}
use Rattle.xsk_model.proofs.Counting.{times-append}
use Rattle.xsk_model.proofs.FrameTheorems.{frames_stay, frames_apart}
use Rattle.xsk_model.proofs.Replies.{times-piece}
use Rattle.xsk_model.proofs.Stays.{serves_itself}
use Rattle.xsk_turns.specs.AppLaw.{IsFlagged}
use Rattle.xsk_turns.specs.AppTurns.{pair_of, home_of, back_at}
use Rattle.xsk_turns.specs.AppOwned.{IsApp}
use Rattle.xsk_turns.specs.Owned.{IsSeat, Owned, of_class, socket_at_class, frame_numbers}
use Rattle.xsk_turns.specs.Turns.{seat_of}
use Rattle.xsk_turns.specs.Wakes.{IsParked, app_for, owes_on}
use Rattle.xsk_turns.specs.Mangling.{plain}
use Rattle.xsk_turns.specs.Workers.{Setting, input_of}
use Rattle.xsk_turns.proofs.AppGroups.{group_front}
use Rattle.xsk_turns.proofs.AppOwned.{AppHas, IsBackFrame, numbers-home}
use Rattle.xsk_turns.proofs.AppOwning.{has_at}
use Rattle.xsk_turns.proofs.AppPaying.{pays_at_once}
use Rattle.xsk_turns.proofs.AppPlaces.{AppSeats, app_seats, pair_below}
use Rattle.xsk_turns.proofs.AppWalk.{group}
use Rattle.xsk_turns.proofs.Legality.{times-front, first_whole}
use Rattle.xsk_turns.proofs.Owned.{HasKept, IsQuiet, quiet_done, times-kept}
use Rattle.xsk_turns.proofs.Owning.{keeps_frames}
use Rattle.xsk_turns.proofs.Places.{class_here, tx_ring}
use Rattle.xsk_laws.specs.Woken.{AreWorkerRuns}
use Rattle.xsk_still.specs.Still.{HasAmpleRoom, IsEmpty, IsFullFor, IsBlocked, HasSentAll, StaysBy}
use Rattle.xsk_still.specs.Own.{IsFree, IsPlain, HasNothingDue, Rests}
use Rattle.xsk_still.specs.Laws.{IsStretch}
use Rattle.xsk_still.proofs.Pools.{here_one, few_of_pool, home_numbers, home_length, only_homes}
use Rattle.xsk_still.proofs.Resting.{parked_rests}
use Rattle.xsk_still.proofs.Setting.{group_homes}
use Rattle.xsk_still.proofs.Standing as stand

plain_none : (call : Call) → IsPlain call → submitted call ≡ []
plain_none (Submit r items) calls = absurd calls
plain_none call calls = refl

pub free_quiet : (call : Call) → IsFree call → IsQuiet call
free_quiet (Submit r items) free = absurd free
free_quiet call free = tt

pub free_none : (call : Call) → IsFree call → submitted call ≡ []
free_none (Submit r items) free = absurd free
free_none call free = refl

some_of : (o : Option Bool) → is_some o ≡ true → (b : Bool) × (o ≡ Some b)
some_of None e = absurd (cc)
some_of (Some b) e = (b, refl)

pub none_or_some : (items : List Item) → (1 ≤ length items → ⊥) → items ≡ []
none_or_some [] h = refl
none_or_some (item ∷ items) h = absurd (h (omega arith))

module _ (s : Setting) (frames : List Frame) (past es : List Entry) (are : AreWorkerRuns s frames (past ++ es)) (ample : HasAmpleRoom s.config) (st : IsStretch s frames past es)
    (a : ℕ) (known : a < apps_of s.config) (w : stand.OpenApp s frames past es are ample st a) where
  abbrev pub c : Config
  c = s.config

  abbrev pub h : List Entry
  h = past ++ es

  abbrev pub x : State
  x = stand.x s frames past es are ample st

  abbrev pub who : ℕ
  who = caller_of c a

  abbrev pub mine : List Told
  mine = own who h

  abbrev pub d : ℕ → ℕ
  d i = pair_of c a i

  abbrev pub Open : ℕ → Type 0
  Open i = stand.OpenDriver s frames past es are ample st (d i)

  pub one : IsApp c a
  one = stand.one_app s frames past es are ample st a known

  pub seats : AppSeats c a
  seats = app_seats c a one

  pub below : (i : ℕ) → i < 2 → d i < length c.pairs
  below i side = pair_below c a one i side

  pub seat : (i : ℕ) → i < 2 → IsSeat c (d i)
  seat i side = stand.seat s frames past es are ample st (d i) (below i side)

  -- it is the application of its pairs
  pub served : (i : ℕ) → i < 2 → app_of c (Fill (d i)) ≡ who
  served i side = sym (seats.comp i side).1

  pub app_is : (i : ℕ) → i < 2 → app_for c (d i) ≡ a
  app_is i side = let e = served i side in omega (arith, e)

  pub due : HasNothingDue mine
  due = stand.app_due s frames past es are ample st a known w

  pub driver_due : (e : ℕ) → e < length c.pairs → HasNothingDue (own e h)
  driver_due e within = stand.driver_due s frames past es are ample st e within

  pub due_by : (n : ℕ) → who ≡ n → HasNothingDue (own n h)
  due_by n e = subst (λ k. HasNothingDue (own k h)) e due

  -- ---- what it has

  pub has : AppHas c w.kept (numbers (submitted w.call)) mine
  has = has_at c a mine w.kept w.call w.rest one (stand.fit s frames past es are ample st who) w.asks

  pub counts : (n : ℕ) → times n (flat_map numbers w.kept.pending) + times n (flat_map frame_numbers w.kept.back) ≡ times n (had_of mine)
  counts n = omega (arith, has.counts n, ap (λ (items : List Item). times n (numbers items)) (plain_none w.call w.plain))

  -- ---- no frame is left to give back

  pub pool_some : 1 ≤ pool_of c
  pool_some = let pool = ample.pool in omega (arith, pool)

  pool_fits : (e : ℕ) → e < length c.pairs → pool_of c ≤ size_of c (Fill e)
  pool_fits e within = are.steady.regular.lawful.fits e (record { port = 0; queue = 0; fill = 0; comp = 0 }) within

  not_full : (i : ℕ) → i < 2 → IsFullFor c x (back_at w.kept i) → ⊥
  not_full i side full =
      let frame = full.frame in
      let all = frame ∷ full.others in
      let home = home_of (pool_of c) frame in
      let some = group c frame full.others in
      let own_frames : All (IsBackFrame c.geometry) all = subst (All (IsBackFrame c.geometry)) full.first (has.frames i) in
      let first : IsBackFrame c.geometry frame = All-head (IsBackFrame c.geometry) frame full.others own_frames in
      let within : home < length c.pairs = seats.home frame.number first.own.number in
      let had : (n : ℕ) → times n (frame_numbers all) ≤ times n (had_of mine) =
      λ n.
      let piece = times-piece n frame_numbers w.kept.back i [] refl in
      let same = ap (λ (fs : List Frame). times n (frame_numbers fs)) full.first in
      omega (arith, counts n, piece, same) in
      let grouped : (n : ℕ) → times n (frame_numbers some) ≤ times n (had_of mine) =
      λ n.
      let front = times-front n (length some) all in
      let is = ap (λ (fs : List Frame). times n (frame_numbers fs)) (group_front (pool_of c) (batch_of c) frame full.others) in
      omega (arith, had n, front, is) in
      let out = (ring_at c x (Fill home)).out in
      let homes = only_homes s frames h home st.unchanged are within in
      let numbered : List ℕ = numbers out ++ frame_numbers some in
      let apart = (frames_apart c frames h are.history).1 who (Fill home) in
      let once : (n : ℕ) → times n numbered ≤ 1 = λ n. omega (arith, times-append n (numbers out) (frame_numbers some), apart n, grouped n) in
      let at_home : (n : ℕ) → 1 ≤ times n numbered → n / pool_of c ≡ home =
      λ n stands. ⊎_elim
      (λ (on : 0 < times n (numbers out)). home_numbers c home n out homes (omega (arith, on)))
      (λ (off : times n (numbers out) ≤ 0).
      home_numbers c home n (map (home_item c.geometry) some) (group_homes c home frame full.others refl)
      (omega (arith, stands, off, times-append n (numbers out) (frame_numbers some), ap (times n) (numbers-home c.geometry some))))
      (cases_lt 0 (times n (numbers out))) in
      let few = few_of_pool (pool_of c) home numbered pool_some once at_home in
      let sizes : length numbered ≡ length out + length some =
      length-append (numbers out) (frame_numbers some) ∙ ap (λ n. n + length (frame_numbers some)) (home_length c home out homes) ∙ ap (λ n. length out + n) (length-map some (λ (f : Frame). f.number)) in
      let stays = (frames_stay c frames h frame.number are.history).0 who (omega (arith, had frame.number, here_one frame.number (frame_numbers full.others))) in
      let feeds : who ≡ producer c (Fill home) = sym (serves_itself c a) ∙ stays in
      stand.has_room s frames past es are ample st (Fill home) (length some) within (due_by (producer c (Fill home)) feeds) (driver_due home within) (omega (arith, few, sizes, pool_fits home within)) full.lacks

  -- so COMPLETION is empty
  pub back_none : (i : ℕ) → i < 2 → (back_at w.kept i ≡ []) × IsEmpty c x (Comp (d i))
  back_none i side = ⊎_elim
      (λ (none : (back_at w.kept i ≡ []) × IsEmpty c x (Comp (d i))). none)
      (λ (full : IsFullFor c x (back_at w.kept i)). absurd (not_full i side full))
      (w.stays.sides i side)

  -- ---- no driver is blocked

  module _ (i : ℕ) (side : i < 2) (o : Open i) where
    pub owned : Owned c (d i) o.kept o.call (own (d i) h)
    owned = (keeps_frames s.wire c (d i) (input_of s (d i)) (own (d i) h) o.kept o.call o.rest (seat i side) (stand.goes s frames past es are ample st (d i)) o.asks).0

    has_kept : HasKept c (d i) o.kept (own (d i) h)
    has_kept = record {
      own = owned.own;
      frames = λ n. omega (arith, owned.frames n, times-kept n o.kept, ap (λ (items : List Item). times n (numbers items)) (free_none o.call o.free));
      spares = owned.spare;
      few = owned.few;
      classes = owned.classes;
      at = owned.groups;
      origins = owned.queue.origins;
      each = owned.queue.each;
      known = owned.queue.known;
      waits = λ class within.
          ap (λ (done : List (List Item)). done ++ of_class class owned.queue.origins o.kept.finished) (sym (quiet_done c (socket_at_class c (d i) class ∷ []) (own (d i) h) o.call (free_quiet o.call o.free))) ∙ owned.queue.waits class within;
    }

    not_blocked : IsBlocked (seat_of s.wire c (d i)) x o.kept → ⊥
    not_blocked blocked =
        let whole : IsWhole c.geometry c.sg blocked.packet =
        subst (λ (ps : List (List Item)). IsWhole c.geometry c.sg (get_or ps 0 [])) blocked.first (first_whole c (d i) o.kept (own (d i) h) has_kept (omega (arith, ap length blocked.first))) in
        let none : length (ring_at c x (Comp (d i))).out ≡ 0 = ap length (back_none i side).1 in
        stand.has_room s frames past es are ample st (Comp (d i)) (length blocked.packet) (below i side) (driver_due (d i) (below i side)) (due_by (consumer c (Comp (d i))) (seats.comp i side).1)
        (omega (arith, none, whole.few, ample.rings (Comp (d i)) (below i side))) blocked.lacks

    -- ---- and each has sent all

    pub rests : IsParked (d i) (own (d i) h) → is_some o.kept.parked ≡ true → (b : Bool) × Rests (seat_of s.wire c (d i)) b o.kept (own (d i) h)
    rests parked is =
        let b = some_of o.kept.parked is in
        (b.0, parked_rests s.wire c (d i) (input_of s (d i)) (own (d i) h) b.0 o.kept o.call o.rest (seat i side) (stand.fit s frames past es are ample st (d i)) o.asks b.1)

    -- it isn't owed a wake on a ring
    pub not_owed : (r : Ring) (flag : Mark) → c.wakeup ≡ true → IsFlagged c (d i) r flag → (w.call ≡ Look flag → ⊥) → owes_on (d i) r flag (own (app_of c (Fill (d i))) h) ≡ true → ⊥
    not_owed r flag on flagged other owes = ⊎_elim
        (λ (looks : w.call ≡ Look flag). other looks)
        (λ (kicks : w.call ≡ Swap (Kick (d i)) 1). let kick : IsPlain (Swap (Kick (d i)) 1) = subst IsPlain kicks w.plain in kick)
        (pays_at_once plain c a mine w.kept w.call w.rest (d i) r flag one on (stand.fit s frames past es are ample st who) w.asks flagged (subst (λ n. owes_on (d i) r flag (own n h) ≡ true) (served i side) owes))

    pub sent : (o.kept.finished ≡ []) × ((class : ℕ) → class < classes_of c → IsEmpty c x (Tx (socket_at_class c (d i) class)))
    sent = ⊎_elim
        (λ (p : IsParked (d i) (own (d i) h) × (is_some o.kept.parked ≡ true)).
        let r = (rests p.0 p.1).1 in (
          r.sent,
          λ class within.
              let t = socket_at_class c (d i) class in
              let ring = tx_ring c (d i) (seat i side) t (class_here c (d i) (seat i side) class within) in
              none_or_some (ring_at c x (Tx t)).out
              (λ waits. not_owed (Tx t) (NeedTx t) r.flagged (sym ring.1, refl) (λ looks. let look : IsPlain (Look (NeedTx t)) = subst IsPlain looks w.plain in look)
              (stand.tx_owed s frames past es are ample st (d i) (below i side) o p.0 class within (r.tx class within) waits)),
        ))
        (λ (stays : StaysBy (seat_of s.wire c (d i)) x o.kept). ⊎_elim (λ (all : HasSentAll (seat_of s.wire c (d i)) x o.kept). all) (λ (blocked : IsBlocked (seat_of s.wire c (d i)) x o.kept). absurd (not_blocked blocked)) stays.sends)
        o.stays
