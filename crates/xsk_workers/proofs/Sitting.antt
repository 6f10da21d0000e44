-- An application by several hands stays where it sits.
use Rattle.std.proofs.Common.{◌≡◌, ℕ, List, false, sym, ap, subst, ◌∙◌}
use Rattle.atomic_table.specs.Seated.{TableId}
use Rattle.xsk_model.specs.Rings.{caller_of}
use Rattle.xsk_model.specs.Config.{Config}
use Rattle.xsk_turns.specs.AppSplit.{IsWholeSplitRun}
use Rattle.xsk_turns.specs.AppTurns.{lanes_of}
use Rattle.xsk_turns.specs.Workers.{Setting}
use Rattle.xsk_table.specs.View.{Basis}
use Rattle.xsk_table.specs.Held.{Board, Holder, Belongs}
use Rattle.xsk_rings.specs.Rounds.{mine_of}
use Rattle.xsk_shared_ends.specs.Shown.{EndsShown, AreEnds, name_of}
use Rattle.xsk_shared_ends.specs.Last.{LastShown, StaysLast, shown_of_ends}
use Rattle.xsk_workers.specs.Crew.{Seat, IsSeatOn}
use Rattle.xsk_workers.specs.Shown.{seat_with}
use Rattle.xsk_workers.specs.Hands.{IsNameOn, lanes_named, TeamShown, team_seat, named_seat, GoesWith, AreSides, IsTeam, TeamHasRun}

-- ends on a table belong to it, and have the lanes that their name tells
pub named_belongs : (b : Board) (e : EndsShown) → IsNameOn b (name_of e) → Belongs b e.pass
named_belongs b e on = record { table = on.0; setup = on.1 }

pub named_lanes : (e : EndsShown) → AreEnds e → lanes_named (name_of e) ≡ lanes_of e.config
named_lanes e ends = ap lanes_of ends.config

-- a team by its parts
abbrev pub team_with : Setting → LastShown → TeamShown
team_with s l = record { setting = s; last = l }

-- the pass of a seat on a table belongs to it too
pub seat_belongs : (b : Board) (t : TeamShown) → IsSeatOn b (team_seat t) → Belongs b t.last.pass
seat_belongs b t on = record { table = on.0; setup = on.1 }

-- a seat of several hands by its parts
abbrev seat_by : Setting → TableId → Basis → ℕ → Seat
seat_by s table setup who = record { setting = s; table = table; setup = setup; who = who; alone = false }

-- a pass of the same caller on the same table has the same seat
same_pass : (s : Setting) (p q : Holder) → q.table ≡ p.table → q.view.setup ≡ p.view.setup → q.who ≡ p.who → seat_with s q false ≡ seat_with s p false
same_pass s p q table setup who =
    ap (λ (x : TableId). seat_by s x q.view.setup q.who) table
    ∙ ap (λ (x : Basis). seat_by s p.table x q.who) setup
    ∙ ap (λ (x : ℕ). seat_by s p.table p.view.setup x) who

pub seat_stays : (s : Setting) (old new : LastShown) → StaysLast old new → team_seat (team_with s new) ≡ team_seat (team_with s old)
seat_stays s old new stays = same_pass s old.pass new.pass stays.table stays.setup stays.who

pub team_stays : (s : Setting) (old new : LastShown) → StaysLast old new → IsTeam (team_with s old) → IsTeam (team_with s new)
team_stays s old new stays team = record {
  config = stays.config ∙ team.config;
  setup = ap (λ (x : Basis). x.config) stays.setup ∙ team.setup;
  caller = stays.who ∙ team.caller ∙ ap (caller_of s.config) (sym stays.app);
}

-- where its last hand has ended, what it made is a whole split run
pub team_has_run : (s : Setting) (old new : LastShown) → StaysLast old new → IsTeam (team_with s old) → IsWholeSplitRun new.config new.app (mine_of new.pass) → TeamHasRun (team_with s new)
team_has_run s old new stays team whole =
    let now : IsTeam (team_with s new) = team_stays s old new stays team in
    record { team = now; whole = subst (λ (c : Config). IsWholeSplitRun c new.app (mine_of new.pass)) now.config whole }

-- ends of a setting's table are an application of its
pub ends_are_team : (s : Setting) (e : EndsShown) → AreEnds e → e.pass.view.setup.config ≡ s.config → IsTeam (team_with s (shown_of_ends e))
ends_are_team s e ends setup =
    let config : e.config ≡ s.config = sym ends.config ∙ setup in
    record { config = config; setup = setup; caller = ends.caller ∙ ap (λ (c : Config). caller_of c e.app) config }

-- ends that were taken out of a team, with its plan, sit where it did
pub opened_seat : (own : Setting) (e : EndsShown) (t : TeamShown) → shown_of_ends e ≡ t.last → own ≡ t.setting → named_seat own (name_of e) ≡ team_seat t
opened_seat own e t same setting =
    ap (λ (s : Setting). seat_with s e.pass false) setting ∙ ap (λ (l : LastShown). seat_with t.setting l.pass false) same

pub opened_on : (b : Board) (e : EndsShown) (t : TeamShown) → shown_of_ends e ≡ t.last → IsSeatOn b (team_seat t) → IsNameOn b (name_of e)
opened_on b e t same on = (ap (λ (l : LastShown). l.pass.table) same ∙ on.0, ap (λ (l : LastShown). l.pass.view.setup) same ∙ on.1)

-- and go with what the team has beside them
pub opened_goes : (s : Setting) (who : ℕ) (pairs : List ℕ) (e : EndsShown) (l : LastShown) → shown_of_ends e ≡ l → IsTeam (team_with s l) → who ≡ l.pass.who → AreSides s.config who pairs → GoesWith s who pairs (name_of e)
opened_goes s who pairs e l same team caller sides = (caller ∙ sym (ap (λ (x : LastShown). x.pass.who) same), ap (λ (x : LastShown). x.pass.view.setup.config) same ∙ team.setup, sides)
