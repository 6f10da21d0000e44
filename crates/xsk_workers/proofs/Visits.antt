-- What came of visits to the lanes of a share, one more at a time.
use Rattle.std.proofs.Common.{◌≡◌, ◌⊎◌, inl, inr, ⊎_elim, ℕ, ◌+◌, ◌<◌, ◌≤◌, refl, sym, subst, ◌∙◌, arith}
use Rattle.std.proofs.lemmas.Bool.{cases_lt}
use Rattle.xsk_lock.specs.Held.{Face}
use Rattle.xsk_shared_ends.specs.declared.visiting.Step.{Step}
use Rattle.xsk_shared_ends.specs.declared.visiting.Step.TheVariants as step
use Rattle.xsk_workers.specs.declared.came.Came.{Came}
use Rattle.xsk_workers.specs.declared.came.Came.TheVariants.{Idle, Full, Moved}
use Rattle.xsk_workers.specs.declared.hands.Share.{Share}
use Rattle.xsk_workers.specs.Visits.{came_of, together, Has, CameOf, WereVisited, WereEmpty}

-- what came of some is no less together with more
kept_first : (one came more : Came) → together one came ≡ came → together one (together came more) ≡ together came more
kept_first Idle came more is = refl
kept_first Full Idle more is = absurd (cc)
kept_first Full Full Idle is = refl
kept_first Full Full Full is = refl
kept_first Full Full Moved is = refl
kept_first Full Moved more is = refl
kept_first Moved Idle more is = absurd (cc)
kept_first Moved Full more is = absurd (cc)
kept_first Moved Moved more is = refl

kept_last : (came more : Came) → together more (together came more) ≡ together came more
kept_last Idle Idle = refl
kept_last Idle Full = refl
kept_last Idle Moved = refl
kept_last Full Idle = refl
kept_last Full Full = refl
kept_last Full Moved = refl
kept_last Moved Idle = refl
kept_last Moved Full = refl
kept_last Moved Moved = refl

-- and where it is no longer Idle it is what came of those or of these
either : (came more : Came) → (together came more ≡ Idle → ⊥) → ((came ≡ Idle → ⊥) × (came ≡ together came more)) ⊎ (more ≡ together came more)
either Idle more some = inr refl
either Full Idle some = inl ((λ is. absurd (cc)), refl)
either Full Full some = inr refl
either Full Moved some = inr refl
either Moved more some = inl ((λ is. absurd (cc)), refl)

idle_alone : (one : Step) → together (came_of one) Idle ≡ Idle → one ≡ step.Idle
idle_alone step.Idle is = refl
idle_alone (step.Full free) is = absurd (cc)
idle_alone step.Moved is = absurd (cc)

lt_or_eq : (lane lanes : ℕ) → lane < lanes + 1 → (lane < lanes) ⊎ (lane ≡ lanes)
lt_or_eq lane lanes below = ⊎_elim (λ (less : lane < lanes). inl less) (λ (more : lanes ≤ lane). inr (omega (arith, more, below))) (cases_lt lane lanes)

module _ {T N : Type 0} (name : T → N) (lock : Face N) (LaneCame : ℕ → T → T → Step → Type 0) (share : Share) where
  abbrev Were : ℕ → Came → Type 0
  Were lanes came = WereVisited name lock LaneCame share lanes came

  pub none_visited : Were 0 Idle
  none_visited = record { each = λ lane below has. absurd (omega (arith, below)); some = λ some. absurd (some refl) }

  -- the next lane is another hand's
  pub passed_by : (lanes : ℕ) (came : Came) → (Has share lanes → ⊥) → Were lanes came → Were (lanes + 1) came
  passed_by lanes came others were = record {
    each = λ lane below has. were.each lane (here lane below has) has;
    some = λ some. let it = were.some some in (it.0, omega (arith, it.1), it.2, it.3, it.4, it.5);
  }
    where
      here : (lane : ℕ) → lane < lanes + 1 → Has share lane → lane < lanes
      here lane below has = ⊎_elim (λ (less : lane < lanes). less) (λ (same : lane ≡ lanes). absurd (others (subst (Has share) same has))) (lt_or_eq lane lanes below)

  -- or is visited
  pub one_visited : (lanes : ℕ) (came : Came) (one : Step) → Has share lanes → CameOf name lock (LaneCame lanes) one → Were lanes came → Were (lanes + 1) (together came (came_of one))
  one_visited lanes came one has made were = record {
    each = λ lane below mine. ⊎_elim
        (λ (less : lane < lanes). let it = were.each lane less mine in (it.0, it.1, kept_first (came_of it.0) came (came_of one) it.2))
        (λ (same : lane ≡ lanes). (one, subst (λ (n : ℕ). CameOf name lock (LaneCame n) one) (sym same) made, kept_last came (came_of one)))
        (lt_or_eq lane lanes below);
    some = λ some. ⊎_elim
        (λ (old : (came ≡ Idle → ⊥) × (came ≡ together came (came_of one))). let it = were.some old.0 in (it.0, omega (arith, it.1), it.2, it.3, it.4, it.5 ∙ old.1))
        (λ (new : came_of one ≡ together came (came_of one)). (lanes, omega (arith), has, one, made, new))
        (either came (came_of one) some);
  }

  -- where nothing came of all of them, each was found empty
  pub all_empty : (lanes : ℕ) → Were lanes Idle → WereEmpty name lock LaneCame share lanes
  all_empty lanes were lane below has =
      let it = were.each lane below has in
      subst (λ (one : Step). CameOf name lock (LaneCame lane) one) (idle_alone it.0 it.2) it.1
