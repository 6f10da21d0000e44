-- Which lines are the journal of a legal history.
use Rattle.std.specs.Prelude.{◌≡◌, ◌≢◌, ℕ, ◌+◌, ◌^◌, ◌<◌, ◌≤◌, Bool, true, false, Some, List, [], ◌∷◌, ◌++◌, codes, length, map, take}
use Rattle.std.specs.Fmt.{decimal}
use Rattle.xsk_umem.specs.Frame.{Frame}
use Rattle.xsk_model.specs.Config.{Config}
use Rattle.xsk_model.specs.Entry.{Entry, own}
use Rattle.xsk_model.specs.Legal.{IsLegal}
use Rattle.xsk_model.specs.History.{IsHistory}
use Rattle.xsk_log.specs.Line.{line_of}
use Rattle.xsk_audit.specs.Lines.{lines_of, journal_of, report_of}
use Rattle.xsk_audit.specs.Reading.{line_at, read_call}
use Rattle.xsk_audit.specs.declared.auditing.Verdicts.{Verdicts}
use Rattle.xsk_audit.specs.declared.auditing.Verdicts.TheVariants.{Legal, NotLegal}

-- an entry with its round
pub record Timed : Type 0 where
  pub round : ℕ
  pub entry : Entry

abbrev pub entries : List Timed → List Entry
entries timed = map (λ (t : Timed). t.entry) timed

-- the line of an entry, where the configuration has so many pairs: the round stands before the line of `xsk_log`
abbrev pub journal_line : ℕ → Timed → List ℕ
journal_line pairs t = decimal t.round ++ codes " " ++ line_of pairs t.entry

-- rounds are below 2^64 and never fall
abbrev pub NeverFalls : ℕ → List Timed → Type 0
NeverFalls least [] = Unit {0}
NeverFalls least (t ∷ timed) = (least ≤ t.round) × (t.round < 2 ^ 64) × NeverFalls t.round timed

-- The lines are the journal of a legal history from the opening with these frames, whatever bodies its calls submit: a
-- line tells no body.
pub record TellHistory (c : Config) (frames : List Frame) (journal : List (List ℕ)) : Type 0 where
  pub timed : List Timed
  pub legal : IsHistory c frames (entries timed)
  pub rounds : NeverFalls 0 timed
  pub told : journal ≡ map (journal_line (length c.pairs)) timed

-- the last round, or the one before all
unfoldable pub last_of : ℕ → List Timed → ℕ
last_of least [] = least
last_of least (t ∷ timed) = last_of t.round timed

-- the lines are the journal of a legal history, whatever bodies are handed in
abbrev pub AreLegal : Config → List (List ℕ) → Type 0
AreLegal c journal = (frames : List Frame) × TellHistory c frames journal

-- ---- one line after another

-- the first line of some is that of the first entry, in a round that isn't less
pub record IsPassed (pairs : ℕ) (old new : List Entry) (least : ℕ) (lines : List (List ℕ)) (round : ℕ) (later : List (List ℕ)) : Type 0 where
  pub entry : Entry
  pub entries_are : old ≡ entry ∷ new
  pub lines_are : lines ≡ journal_line pairs (record { round = round; entry = entry }) ∷ later
  pub least_is : least ≤ round
  pub fits : round < 2 ^ 64

-- the first line of some isn't that of the first entry, in any round that isn't less
abbrev pub IsMissed : ℕ → List Entry → ℕ → List (List ℕ) → Type 0
IsMissed pairs log least lines = (round : ℕ) (entry : Entry) (rest : List Entry) (later : List (List ℕ)) → log ≡ entry ∷ rest → least ≤ round → round < 2 ^ 64
    → lines ≢ journal_line pairs (record { round = round; entry = entry }) ∷ later

-- So many lines are those of the first entries of a log, in
-- rounds that never fall, and whether these are all lines.
pub record AreSame (pairs : ℕ) (log : List Entry) (lines : List (List ℕ)) (same : ℕ) (whole : Bool) : Type 0 where
  pub timed : List Timed
  pub later : List Entry
  pub left : List (List ℕ)
  pub log_is : log ≡ entries timed ++ later
  pub lines_are : lines ≡ map (journal_line pairs) timed ++ left
  pub rounds : NeverFalls 0 timed
  pub count : same ≡ length timed
  pub ends : whole ≡ true → left ≡ []
  pub goes_on : whole ≡ false → left ≢ []
  pub misses : whole ≡ false → IsMissed pairs later (last_of 0 timed) left

-- ---- calls that were made

-- a line tells an entry but for its reply
abbrev pub Tells : ℕ → List ℕ → Entry → Type 0
Tells pairs line e = (round : ℕ) × (line_at pairs line ≡ Some (record { round = round; who = e.who; call = read_call e.call }))

-- so does each of some lines
abbrev pub AreTold : ℕ → List (List ℕ) → List Entry → Type 0
AreTold pairs [] [] = Unit {0}
AreTold pairs [] (e ∷ es) = ⊥
AreTold pairs (line ∷ lines) [] = ⊥
AreTold pairs (line ∷ lines) (e ∷ es) = Tells pairs line e × AreTold pairs lines es

-- the line is that of no call that is legal after a history
abbrev pub IsStuck : Config → List Entry → List ℕ → Type 0
IsStuck c h line = (t : Timed) → t.round < 2 ^ 64 → IsLegal c (own t.entry.who h) t.entry.who t.entry.call → line ≢ journal_line (length c.pairs) t

-- so is the first of some lines, if there is one
abbrev pub StopsAt : Config → List Entry → List (List ℕ) → Type 0
StopsAt c h [] = Unit {0}
StopsAt c h (line ∷ lines) = IsStuck c h line

-- a history has the calls of the first lines, up to one whose call can't be read or isn't legal
pub record AreMade (c : Config) (h : List Entry) (lines : List (List ℕ)) : Type 0 where
  pub made : List (List ℕ)
  pub left : List (List ℕ)
  pub lines_are : lines ≡ made ++ left
  pub told : AreTold (length c.pairs) made h
  pub stops : StopsAt c h left

-- ---- verdicts

-- so many lines are the journal of a legal history, and with the next line they are none
pub record EndsAt (c : Config) (journal : List (List ℕ)) (n : ℕ) : Type 0 where
  pub within : n < length journal
  pub legal : AreLegal c (take n journal)
  pub next : AreLegal c (take (n + 1) journal) → ⊥

-- What is found legal is the journal of a legal history, of so many entries. What is found not legal isn't, and the line,
-- counted from the front of the text, is the first that can't follow those before it.
abbrev pub IsVerdict : Config → List ℕ → Verdicts → Type 0
IsVerdict c text (Legal count) = AreLegal c (journal_of (lines_of text)) × (count ≡ length (journal_of (lines_of text)))
IsVerdict c text (NotLegal line) = (n : ℕ) × (line ≡ length (report_of (lines_of text)) + n + 1) × EndsAt c (journal_of (lines_of text)) n

-- a text has one verdict at most
abbrev pub OneVerdict : Type 0
OneVerdict = (c : Config) (text : List ℕ) (verdict other : Verdicts) → IsVerdict c text verdict → IsVerdict c text other → verdict ≡ other
