use Rattle.xsk_checking.proofs.Answering.{nothing-behind, told-alone, told-hints}
use Rattle.xsk_checking.proofs.told.ended_text.Goals as goal

pub returns-in_default-clause-told : goal.returns-in_default-clause-told
returns-in_default-clause-told c = λ bytes stands is.
    told-alone bytes c.args.verdict c.in_ok-text.text.items (nothing-behind bytes c.args.verdict c.in_default.not-Possible) c.in_ok-text.ensures

pub returns-clause-told : goal.returns-clause-told
returns-clause-told c = λ bytes stands is.
    told-hints bytes c.args.verdict c.in-Possible.calls c.in_ok-text.text.items c.append_hints.new.text.items c.in-Possible.is c.in_ok-text.ensures is
    (λ possible. c.in_ok-append_hints.ensures bytes c.in-Possible.calls stands possible)
