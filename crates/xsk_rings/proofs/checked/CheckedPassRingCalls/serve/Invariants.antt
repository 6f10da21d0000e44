use Rattle.xsk_rings.proofs.checked.CheckedPassRingCalls.serve.Given as goal

abbrev pub ghosts-serve_uncounted : goal.ghosts-serve_uncounted
ghosts-serve_uncounted a = record { name = a.blank.name; parts = a.blank.parts }
