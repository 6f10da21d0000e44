use Rattle.std.proofs.Common.{◌≡◌, length, IsUtf8}
use Rattle.xsk_args.specs.Program.{between_commas, programs_in}
use Rattle.xsk_args.proofs.Listing.{listed_with}
use Rattle.xsk_args.proofs.program_list.parse_programs.Given as goal

abbrev pub invariant-loop-first : goal.invariant-loop-first
invariant-loop-first l = (programs_in l.text ≡ listed_with l.programs (between_commas l.rest)) × IsUtf8 l.rest

abbrev pub decreases-loop-first : goal.decreases-loop-first
decreases-loop-first l = length l.rest
