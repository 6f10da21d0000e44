-- What is told of an object after its calls: what each caller waits for, what stands in each ring, with its frames, and the frames of
-- each caller. It is a function of the configuration, of the calls, and of the rings that they left.
use Rattle.std.specs.Prelude.{ℕ, List, ◌++◌, length}
use Rattle.xsk_model.specs.Config.{Config, callers_of}
use Rattle.xsk_model.specs.Entry.{Entry}
use Rattle.xsk_plain.specs.Engine.{Part}
use Rattle.xsk_why.specs.Held.{callers_text}
use Rattle.xsk_why.specs.Rings.{rings_text}
use Rattle.xsk_why.specs.Waiting.{waits_of, waits_text}

abbrev pub why_text : Config → List Part → List Entry → List ℕ
why_text c rings h = waits_text (callers_of c) (waits_of (length c.pairs) h) ++ rings_text c rings ++ callers_text c h
