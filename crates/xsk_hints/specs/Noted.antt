-- What is kept of the calls, and what it stands for. The form is this project's own.
use Rattle.std.specs.Prelude.{◌≡◌, ℕ, ◌+◌, ◌*◌, ◌<◌, Bool, true, Option, Some, None, List, [], ◌∷◌, length}
use Rattle.std.specs.List.{slice_index_or, slice_set}
use Rattle.xsk_umem.specs.declared.batch.XdpDesc.{XdpDesc}
use Rattle.xsk_model.specs.declared.call.Ring.{Ring}
use Rattle.xsk_model.specs.declared.call.Ring.TheVariants.{Fill, Comp, Rx, Tx}
use Rattle.xsk_side.specs.Setting.{Setting, HasRing}
use Rattle.xsk_side.specs.Object.{is_made}
use Rattle.xsk_judge.specs.Kept.{place}
use Rattle.xsk_judge.specs.Stands.{Line}
use Rattle.xsk_hints.specs.declared.oddity.Oddity.{Oddity}
use Rattle.xsk_hints.specs.declared.tally.Tally.{Tally}
use Rattle.xsk_hints.specs.Facts.{code, oddity_of, met, last_peek}
use Rattle.xsk_hints.specs.Tallies.{tally_of, no_tally, with_line}

-- of FILL by pair and TX by socket a tally for each oddity; by pair the line of the last Peek on COMPLETION; and whether the UMEM has room
-- for TX metadata
pub record Noted : Type 0 where
  pub tallies : List Tally
  pub peeks : List ℕ
  pub metadata : Bool

abbrev pub index : Setting → Ring → Oddity → ℕ
index s r o = place s r * 6 + code o

abbrev pub odd_in : Setting → List Tally → Ring → Oddity → Tally
odd_in s tallies r o = slice_index_or tallies (index s r o) no_tally

abbrev pub peek_in : List ℕ → ℕ → ℕ
peek_in peeks d = slice_index_or peeks d 0

pub record IsSized (s : Setting) (noted : Noted) : Type 0 where
  pub tallies : length noted.tallies ≡ (length s.pairs + length s.sockets) * 6
  pub peeks : length noted.peeks ≡ length s.pairs

-- it is what these calls leave
pub record Notes (s : Setting) (noted : Noted) (lines : List Line) : Type 0 where
  pub odd : (r : Ring) → HasRing s r → is_made r ≡ true → (o : Oddity) → odd_in s noted.tallies r o ≡ tally_of (met s noted.metadata r o lines)
  pub peeked : (d : ℕ) → d < length s.pairs → peek_in noted.peeks d ≡ last_peek (Comp d) lines

-- ---- one call

abbrev pub counted : Setting → ℕ → Ring → List Tally → Oddity → List Tally
counted s line r tallies o = slice_set tallies (index s r o) (with_line line (odd_in s tallies r o))

abbrev pub counted_if : Setting → ℕ → Ring → List Tally → Option Oddity → List Tally
counted_if s line r tallies None = tallies
counted_if s line r tallies (Some o) = counted s line r tallies o

abbrev pub all_counted : Setting → Bool → ℕ → Ring → List XdpDesc → List Tally → List Tally
all_counted s metadata line r [] tallies = tallies
all_counted s metadata line r (entry ∷ entries) tallies =
    all_counted s metadata line r entries (counted_if s line r tallies (oddity_of s metadata r entry))

abbrev pub peeked_on : ℕ → Ring → List ℕ → List ℕ
peeked_on line (Fill d) peeks = peeks
peeked_on line (Comp d) peeks = slice_set peeks d line
peeked_on line (Rx k) peeks = peeks
peeked_on line (Tx k) peeks = peeks
