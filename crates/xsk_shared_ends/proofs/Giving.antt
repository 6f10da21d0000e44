-- A visit to a side, call by call.
use Rattle.std.proofs.Common.{◌≡◌, ℕ, zero, ◌<◌, ◌≤◌, List, [], ◌∷◌, length, length-drop, map, take, drop, refl, sym, ap, ◌∙◌, subst, arith}
use Rattle.xsk_umem.specs.Frame.{Frame}
use Rattle.xsk_umem.specs.Geometry.{Geometry}
use Rattle.xsk_umem.specs.declared.batch.Item.{Item}
use Rattle.xsk_model.specs.Config.{Config, batch_of, pool_of}
use Rattle.xsk_model.specs.Opening.{home_item}
use Rattle.xsk_model.specs.declared.call.Call.TheVariants.{Reserve, Submit, Peek, Release}
use Rattle.xsk_model.specs.declared.call.Mark.TheVariants.{NeedFill}
use Rattle.xsk_model.specs.declared.call.Reply.{Reply}
use Rattle.xsk_model.specs.declared.call.Reply.TheVariants.{Granted, Full}
use Rattle.xsk_model.specs.declared.call.Ring.TheVariants.{Fill, Comp}
use Rattle.xsk_turns.specs.Script.{Script, ask, again, items_or_empty, on_submitted, on_released}
use Rattle.xsk_turns.specs.Turns.{frames_in}
use Rattle.xsk_turns.specs.AppTurns.{AppKept, pair_of, back_at, with_back, wake, give_back, complete_side}
use Rattle.xsk_turns.proofs.AppGroups.{with_back-again, with_back-same, group_some}
use Rattle.xsk_turns.proofs.Places.{batch_some}
use Rattle.xsk_table.specs.Held.{Holder}
use Rattle.xsk_app.specs.Ways.{IsGroup}
use Rattle.xsk_app.specs.Stands.{by_reply}
use Rattle.xsk_app.proofs.TurnLemmas.{give_back_some, give_back_granted, give_back_kept, group_moved, none_back}
use Rattle.xsk_shared_ends.specs.Standing.{Origin, At, IsSamePass, VisitsSide, GivesBack, Wakes, next}
use Rattle.xsk_shared_ends.specs.declared.visiting.Step.{Step}
use Rattle.xsk_shared_ends.specs.declared.visiting.Step.TheVariants.{Moved}

full_back : (c : Config) (side : ℕ) (back : List Frame) (kept : AppKept) (next : AppKept → Script AppKept) (free home count : ℕ) → IsGroup (pool_of c) (batch_of c) back home count
    → by_reply (give_back c side zero back kept next) (Full free) ≡ next (with_back kept side back)
full_back c side [] kept next free home count h = absurd h
full_back c side (frame ∷ frames) kept next free home count h = refl

module _ (o : Origin) (side : ℕ) (k : AppKept) (back : List Frame) where
  -- what is left once places were asked for
  abbrev pub on_fill : Reply → Script AppKept
  on_fill = by_reply (give_back o.config side zero back k next)

  pub asks_fill : (p : Holder) (home count : ℕ) → IsGroup (pool_of o.config) (batch_of o.config) back home count → At o p (give_back o.config side zero back k next) Moved
      → At o p (ask (with_back k side back) (Reserve (Fill home) count) on_fill) Moved
  asks_fill p home count group at = subst (λ s. At o p s Moved) (give_back_some o.config side back k next home count group) at

  pub stays_back : (p : Holder) (home count free : ℕ) (came : Step) → IsGroup (pool_of o.config) (batch_of o.config) back home count → At o p (on_fill (Full free)) came
      → At o p (again (with_back k side back)) came
  stays_back p home count free came group at = subst (λ s. At o p s came) (full_back o.config side back k next free home count group) at

  -- the first group goes back, and then those behind it
  abbrev pub given : ℕ → ℕ → Script AppKept
  given home count =
      wake o.config (NeedFill home) home (with_back k side (drop count back)) (give_back o.config side zero (drop count back) (with_back k side (drop count back)) next)

  pub submits_fill : (p : Holder) (home count : ℕ) (items : List Item) → IsGroup (pool_of o.config) (batch_of o.config) back home count
      → items ≡ map (home_item o.config.geometry) (take count back) → At o p (on_fill Granted) Moved
      → At o p (ask (with_back k side (drop count back)) (Submit (Fill home) items) (on_submitted (given home count))) Moved
  submits_fill p home count items group e at =
      let some : 1 ≤ batch_of o.config = batch_some o.config at.begins.one.config in
      let there = subst (λ s. At o p s Moved) (give_back_granted o.config side back k next home count group some) at in
      subst (λ xs. At o p (ask (with_back k side (drop count back)) (Submit (Fill home) xs) (on_submitted (given home count))) Moved) (sym e) there

pub none_left : (o : Origin) (side : ℕ) (k : AppKept) (back : List Frame) (p : Holder) (came : Step) → back ≡ [] → At o p (give_back o.config side zero back k next) came
    → At o p (again (with_back k side back)) came
none_left o side k back p came e at = subst (λ s. At o p s came) (none_back o.config side back k next e) at

pub kept_again : (o : Origin) (side : ℕ) (k : AppKept) (xs ys : List Frame) (p : Holder) (came : Step) → At o p (again (with_back (with_back k side xs) side ys)) came → At o p (again (with_back k side ys)) came
kept_again o side k xs ys p came at = subst (λ kept. At o p (again kept) came) (with_back-again k side xs ys) at

module _ (o : Origin) (side : ℕ) (k : AppKept) where
  -- what is left once the side's COMPLETION ring was peeked, and the frames of its items are kept
  abbrev pub on_comp : Reply → Script AppKept
  on_comp = items_or_empty (complete_side o.config o.app side k next) (again k)

  pub asks_comp : (p : Holder) (pair batch : ℕ) → pair ≡ pair_of o.config o.app side → batch ≡ batch_of o.config
      → At o p (ask k (Peek (Comp (pair_of o.config o.app side)) (batch_of o.config)) on_comp) Moved → At o p (ask k (Peek (Comp pair) batch) on_comp) Moved
  asks_comp p pair batch e f at =
      subst (λ (t : ℕ). At o p (ask k (Peek (Comp t) batch) on_comp) Moved) (sym e) (subst (λ (m : ℕ). At o p (ask k (Peek (Comp (pair_of o.config o.app side)) m) on_comp) Moved) (sym f) at)

  pub releases_comp : (p : Holder) (pair n : ℕ) (items : List Item) → pair ≡ pair_of o.config o.app side → n ≡ length items → At o p (complete_side o.config o.app side k next items) Moved
      → At o p (ask (with_back k side (frames_in items)) (Release (Comp pair) n) (on_released (give_back o.config side zero (frames_in items) (with_back k side (frames_in items)) next))) Moved
  releases_comp p pair n items e f at =
      let rest = on_released (give_back o.config side zero (frames_in items) (with_back k side (frames_in items)) next) in
      subst (λ (t : ℕ). At o p (ask (with_back k side (frames_in items)) (Release (Comp t) n) rest) Moved) (sym e)
      (subst (λ (m : ℕ). At o p (ask (with_back k side (frames_in items)) (Release (Comp (pair_of o.config o.app side)) m) rest) Moved) (sym f) at)

  -- nothing was completed
  pub stays_none : (p : Holder) (back : List Frame) (came : Step) → back ≡ back_at k side → At o p (again k) came → At o p (again (with_back k side back)) came
  stays_none p back came e at = subst (λ kept. At o p (again kept) came) (sym (with_back-same k side) ∙ ap (with_back k side) (sym e)) at

-- ---- by the side

module _ (c : Config) (pair : ℕ) (o : Origin) (side : ℕ) (k : AppKept) where
  -- a visit where frames are left, and where none is
  pub side_full : (frames : List Frame) (p : Holder) → (frames ≡ [] → ⊥) → VisitsSide c pair o side k frames p → GivesBack c o side k frames p
  side_full [] p some v = absurd (some refl)
  side_full (frame ∷ frames) p some v = record { config = v.config; at = v.at }

  pub side_peeks : (frames : List Frame) (p : Holder) (batch : ℕ) → frames ≡ [] → batch ≡ batch_of c → VisitsSide c pair o side k frames p → At o p (ask k (Peek (Comp pair) batch) (on_comp o side k)) Moved
  side_peeks [] p batch none few v = asks_comp o side k p pair batch v.pair_is (few ∙ ap batch_of v.config) v.at
  side_peeks (frame ∷ frames) p batch none few v = absurd (cc)

  pub side_stays : (frames : List Frame) (p q : Holder) (came : Step) → VisitsSide c pair o side k frames p → At o q (again k) came → At o q (again (with_back k side frames)) came
  side_stays frames p q came v at = stays_none o side k q frames came v.frames_are at

-- ---- the groups

-- a group by what is read of the configuration
pub group_of : (c : Config) (o : Origin) (pool batch home count : ℕ) (back : List Frame) → c ≡ o.config → pool ≡ pool_of c → batch ≡ batch_of c → IsGroup pool batch back home count
    → IsGroup (pool_of o.config) (batch_of o.config) back home count
group_of c o pool batch home count back same e f group = group_moved pool batch (pool_of o.config) (batch_of o.config) back back home count group (e ∙ ap pool_of same) (f ∙ ap batch_of same) refl

-- there are homes, and a batch has a frame
pub has_pool : (o : Origin) (p : Holder) (script : Script AppKept) (came : Step) → At o p script came → 0 < pool_of o.config
has_pool o p script came at = at.begins.one.regular.lawful.some

-- what holds before each group
pub record Gives (c : Config) (old : Holder) (was : List Frame) (now : Holder) (back : List Frame) (items : List Item) : Type 0 where
  pub same : IsSamePass old now
  pub empty : items ≡ []
  pub goes_on : (o : Origin) (side : ℕ) (k : AppKept) → GivesBack c o side k was old → GivesBack c o side k back now

pub gives_first : (c : Config) (old : Holder) (was : List Frame) (items : List Item) → items ≡ [] → Gives c old was old was items
gives_first c old was items e = record { same = record { table = refl; setup = refl; who = refl }; empty = e; goes_on = λ o side k h. h }

pub same_on : (p q r : Holder) → IsSamePass p q → IsSamePass q r → IsSamePass p r
same_on p q r h k = record { table = k.table ∙ h.table; setup = k.setup ∙ h.setup; who = k.who ∙ h.who }

-- fewer are left
pub fewer : (c : Config) (o : Origin) (p : Holder) (script : Script AppKept) (came : Step) (back : List Frame) (home count : ℕ) → At o p script came → IsGroup (pool_of o.config) (batch_of o.config) back home count
    → length (drop count back) < length back
fewer c o p script came [] home count at h = absurd h
fewer c o p script came (frame ∷ frames) home count at h =
    let some : 1 ≤ count = omega (arith, h.1, group_some (pool_of o.config) (batch_of o.config) frame frames (batch_some o.config at.begins.one.config)) in
    omega (arith, length-drop count (frame ∷ frames), some)

-- the same with the frames that are kept
pub gives_left : (c : Config) (o : Origin) (side : ℕ) (k : AppKept) (xs : List Frame) (p : Holder) → c ≡ o.config → At o p (give_back o.config side zero xs (with_back k side xs) next) Moved → GivesBack c o side k xs p
gives_left c o side k xs p same at = record { config = same; at = subst (λ s. At o p s Moved) (give_back_kept o.config side zero xs k xs next) at }

-- one group after the other
module _ (c : Config) (o : Origin) (side : ℕ) (k : AppKept) (back : List Frame) (home count : ℕ) (group : IsGroup (pool_of o.config) (batch_of o.config) back home count) where
  pub asks_group : (p : Holder) → GivesBack c o side k back p → At o p (ask (with_back k side back) (Reserve (Fill home) count) (on_fill o side k back)) Moved
  asks_group p h = asks_fill o side k back p home count group h.at

  pub puts_group : (g : Geometry) (items : List Item) (q : Holder) → c ≡ o.config → g ≡ c.geometry → items ≡ map (home_item g) (take count back) → At o q (on_fill o side k back Granted) Moved
      → At o q (ask (with_back k side (drop count back)) (Submit (Fill home) items) (on_submitted (given o side k back home count))) Moved
  puts_group g items q same e f at =
      submits_fill o side k back q home count items group (f ∙ ap (λ x. map (home_item x) (take count back)) (e ∙ ap (λ (x : Config). x.geometry) same)) at

  pub wakes_group : (q : Holder) → c ≡ o.config → At o q (given o side k back home count) Moved
      → Wakes c o (NeedFill home) home (with_back k side (drop count back)) (give_back o.config side zero (drop count back) (with_back k side (drop count back)) next) Moved q
  wakes_group q same at = record { config = same; at = at }

pub side_gives : (c : Config) (pair : ℕ) (o : Origin) (side : ℕ) (k : AppKept) (frames back : List Frame) (got : List Item) (p q : Holder) → back ≡ frames_in got → VisitsSide c pair o side k frames p
    → At o q (give_back o.config side zero (frames_in got) (with_back k side (frames_in got)) next) Moved → GivesBack c o side (with_back k side (frames_in got)) back q
side_gives c pair o side k frames back got p q same v at =
    subst (λ fs. GivesBack c o side (with_back k side (frames_in got)) fs q) (sym same) (record { config = v.config; at = at })
