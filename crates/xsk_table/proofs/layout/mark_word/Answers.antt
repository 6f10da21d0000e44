use Rattle.std.proofs.Common.{arith}
use Rattle.xsk_table.proofs.Rows.{few_words}
use Rattle.xsk_table.proofs.layout.mark_word.Goals as goal

pub overflow_mul-result : goal.overflow_mul-result
overflow_mul-result c = let few = (few_words c.args.config.now c.marks_base.ensures.lawful).1 in omega (arith, c.mark_place.ensures.within)

pub overflow_add-result : goal.overflow_add-result
overflow_add-result c = let few = (few_words c.args.config.now c.marks_base.ensures.lawful).1 in omega (arith, c.mark_place.ensures.within, c.marks_base.ensures.few)

pub overflow_add-result-2 : goal.overflow_add-result-2
overflow_add-result-2 c = let few = (few_words c.args.config.now c.marks_base.ensures.lawful).1 in omega (arith, c.mark_place.ensures.within, c.marks_base.ensures.few)
