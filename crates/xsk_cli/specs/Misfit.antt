-- What is told of a journal that isn't legal, behind the line of that.
use Rattle.std.specs.Prelude.{◌≡◌, ℕ, Bool, true, false, List, [], ◌++◌}
use Rattle.xsk_plain.specs.Engine.{Engine}
use Rattle.xsk_socket.specs.declared.layout.Layout.{Layout}
use Rattle.xsk_socket.specs.Regular.{regular_of}
use Rattle.xsk_audit.specs.Why.{IsMisfit}
use Rattle.xsk_audit.specs.declared.why.Misfit.{Misfit}
use Rattle.xsk_why.specs.Held.{callers_text}
use Rattle.xsk_why.specs.Rings.{rings_text}
use Rattle.xsk_cli.specs.Judged.{bytes_of}
use Rattle.xsk_cli.specs.declared.words.Work.{Work}
use Rattle.xsk_cli.specs.declared.words.Work.TheVariants.{Simulate, Generate, Audit}

-- why a line can't follow those before it, for the layout's configuration, and behind that what stands in the rings of the object there,
-- and which frames each caller has
pub record IsReasoned (layout : Layout) (text : List ℕ) (line : ℕ) (told : List ℕ) : Type 0 where
  pub object : Engine
  pub config : object.config ≡ regular_of layout
  pub misfit : Misfit
  pub line_is : misfit.line ≡ line
  pub reason : List ℕ
  pub why : IsMisfit object text misfit reason
  pub told_is : told ≡ reason ++ (rings_text object.config object.rings ++ callers_text object.config object.log)

-- where that was asked for
abbrev pub TellsMisfit : Bool → Layout → List ℕ → ℕ → List ℕ → Type 0
TellsMisfit true layout text line told = IsReasoned layout text line told
TellsMisfit false layout text line told = told ≡ []

-- of the journal that this work audits
abbrev pub IsToldOf : Work → List (List ℕ) → ℕ → List ℕ → Type 0
IsToldOf (Simulate layout programs wire manner order number telling format) inputs line told = ⊥
IsToldOf (Generate number) inputs line told = ⊥
IsToldOf (Audit layout why) inputs line told = TellsMisfit why layout (bytes_of inputs 0) line told
