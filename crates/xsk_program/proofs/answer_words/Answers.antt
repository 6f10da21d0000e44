use Rattle.std.proofs.Common.{map, string_bytes, sym, ◌∙◌}
use Rattle.xsk_program.proofs.answer_words.Goals as goal

pub returns-then-is_check : goal.returns-then-is_check
returns-then-is_check g c = (sym c.is_check.ensures ∙ c.if-is_check.true, c.run_check.ensures)

pub returns : goal.returns
returns g c = (
  sym c.is_check.ensures ∙ c.if-is_check.false,
  record {
    plain = c.run.ensures.plain;
    goes_on = c.run.ensures.goes_on;
    finishes = c.run.ensures.finishes;
    no_threads = c.run.ensures.no_threads;
    threads = c.run.ensures.threads;
  },
)
