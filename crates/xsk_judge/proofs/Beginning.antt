-- Before the first call a judge stands for none.
use Rattle.std.proofs.Common.{◌≡◌, ℕ, zero, suc, ◌+◌, ◌<◌, true, false, None, List, [], ◌∷◌, ◌++◌, length, map, get_or, replicate, refl, sym, ap, ◌∙◌, subst, arith, length-append}
use Rattle.std.proofs.lemmas.List.{length-map, length-replicate, get_or-replicate, get_or_append_left, get_or-append-add}
use Rattle.xsk_model.specs.declared.call.Ring.{Ring}
use Rattle.xsk_model.specs.declared.call.Ring.TheVariants.{Fill, Comp, Rx, Tx}
use Rattle.xsk_side.specs.Setting.{Setting, IsSetting, HasRing, size_of}
use Rattle.xsk_side.specs.Object.{is_made}
use Rattle.xsk_judge.specs.declared.known.End.{End}
use Rattle.xsk_judge.specs.declared.known.Whereabouts.TheVariants.{Start}
use Rattle.xsk_judge.specs.Kept.{Queue, Kept, known_in, end_at, queue_at}
use Rattle.xsk_judge.specs.First.{fill_end, tx_end, comp_queue, rx_queue}
use Rattle.xsk_judge.specs.Stands.{IsKnown, IsQueue, IsReady, StandsFor}
use Rattle.xsk_judge.proofs.Behind.{no_end, no_queue}

at_map : {X Y : Type 0} (f : X → Y) (xs : List X) (i : ℕ) (d : X) (e : Y) → i < length xs → get_or (map f xs) i e ≡ f (get_or xs i d)
at_map f [] i d e low = absurd (omega (arith, low))
at_map f (x ∷ xs) zero d e low = refl
at_map f (x ∷ xs) (suc i) d e low = at_map f xs i d e (omega (arith, low))

first_of_both : {X A B : Type 0} (f : A → X) (g : B → X) (as_ : List A) (bs : List B) (i : ℕ) (d : A) (e : X) → i < length as_ → get_or (map f as_ ++ map g bs) i e ≡ f (get_or as_ i d)
first_of_both f g as_ bs i d e low = get_or_append_left (map f as_) (map g bs) e i (omega (arith, low, length-map as_ f)) ∙ at_map f as_ i d e low

second_of_both : {X A B : Type 0} (f : A → X) (g : B → X) (as_ : List A) (bs : List B) (i : ℕ) (d : B) (e : X) → i < length bs → get_or (map f as_ ++ map g bs) (length as_ + i) e ≡ g (get_or bs i d)
second_of_both f g as_ bs i d e low =
    ap (λ k. get_or (map f as_ ++ map g bs) (k + i) e) (sym (length-map as_ f)) ∙ get_or-append-add (map f as_) (map g bs) i e ∙ at_map g bs i d e low

pub record IsFirst (s : Setting) (kept : Kept) : Type 0 where
  pub frames : kept.frames ≡ replicate s.geometry.frames (record { place = Start; since = 0 })
  pub ends : kept.ends ≡ map fill_end s.pairs ++ map tx_end s.sockets
  pub queues : kept.queues ≡ map comp_queue s.pairs ++ map rx_queue s.sockets
  pub strays : kept.strays ≡ replicate (length s.pairs) 0

first_end : (s : Setting) (kept : Kept) (r : Ring) → IsFirst s kept → HasRing s r → is_made r ≡ true → end_at s kept r ≡ record { room = 0; sure = size_of s r; shown = 0 }
first_end s kept (Fill d) h has made = ap (λ xs. get_or xs d no_end) h.ends ∙ first_of_both fill_end tx_end s.pairs s.sockets d (record { fill = 0; comp = 0 }) no_end has
first_end s kept (Tx k) h has made =
    ap (λ xs. get_or xs (length s.pairs + k) no_end) h.ends ∙ second_of_both fill_end tx_end s.pairs s.sockets k (record { pair = 0; rx = None; tx = None }) no_end has.0
first_end s kept (Comp d) h has made = absurd (cc)
first_end s kept (Rx k) h has made = absurd (cc)

first_queue : (s : Setting) (kept : Kept) (r : Ring) → IsFirst s kept → HasRing s r → is_made r ≡ false → queue_at s kept r ≡ record { entries = []; held = 0; first = 0; size = size_of s r; again = 0 }
first_queue s kept (Comp d) h has made = ap (λ xs. get_or xs d no_queue) h.queues ∙ first_of_both comp_queue rx_queue s.pairs s.sockets d (record { fill = 0; comp = 0 }) no_queue has
first_queue s kept (Rx k) h has made =
    ap (λ xs. get_or xs (length s.pairs + k) no_queue) h.queues ∙ second_of_both comp_queue rx_queue s.pairs s.sockets k (record { pair = 0; rx = None; tx = None }) no_queue has.0
first_queue s kept (Fill d) h has made = absurd (cc)
first_queue s kept (Tx k) h has made = absurd (cc)

pub stands_first : (s : Setting) (kept : Kept) → IsSetting s → IsFirst s kept → StandsFor s kept []
stands_first s kept setting h = record {
  possible = record { history = []; legal = setting; own = refl };
  frames = λ f low.
      let is : known_in kept.frames f ≡ record { place = Start; since = 0 } =
      ap (λ xs. known_in xs f) h.frames ∙ get_or-replicate s.geometry.frames f (record { place = Start; since = 0 }) (record { place = Start; since = 0 }) low in
      subst (λ k. IsKnown s [] f k) (sym is) (record { mine = refl; given = refl; since = refl; spot = refl });
  room = λ r has made. ap (λ (x : End). x.room) (first_end s kept r h has made);
  sure = λ r has made. ap (λ (x : End). x.sure) (first_end s kept r h has made);
  shown = λ r has made. ap (λ (x : End). x.shown) (first_end s kept r h has made);
  again = λ r has made. ap (λ (x : Queue). x.again) (first_queue s kept r h has made);
  queues = λ r has made. subst (IsQueue s [] kept.frames r) (sym (first_queue s kept r h has made))
      (record { entries = refl; held = refl; latest = λ i x low. absurd (omega (arith, low)) });
  strays = λ d low. ap (λ xs. get_or xs d 0) h.strays ∙ get_or-replicate (length s.pairs) d 0 0 low;
}

both_lengths : {X A B : Type 0} (f : A → X) (g : B → X) (as_ : List A) (bs : List B) → length (map f as_ ++ map g bs) ≡ length as_ + length bs
both_lengths f g as_ bs = omega (arith, length-append (map f as_) (map g bs), length-map as_ f, length-map bs g)

pub ready_first : (s : Setting) (kept : Kept) → IsSetting s → IsFirst s kept → IsReady s kept
ready_first s kept setting h = record {
  sized = record {
    frames = ap length h.frames ∙ length-replicate s.geometry.frames (record { place = Start; since = 0 });
    ends = ap length h.ends ∙ both_lengths fill_end tx_end s.pairs s.sockets;
    queues = ap length h.queues ∙ both_lengths comp_queue rx_queue s.pairs s.sockets;
    strays = ap length h.strays ∙ length-replicate (length s.pairs) 0;
    size = λ r has made. ap (λ (x : Queue). x.size) (first_queue s kept r h has made);
  };
  lines = [];
  stands = stands_first s kept setting h;
}
