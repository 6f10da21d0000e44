use Rattle.std.proofs.Common.{rules, ◌++◌, ◌∷◌, [], ℕ, List, length, sym, ap, subst, ◌∙◌, arith, append_assoc}
use Rattle.xsk_model.specs.Asks.{joined_call}
use Rattle.xsk_model.specs.Config.{Config}
use Rattle.xsk_audit.specs.Lines.{lines_of}
use Rattle.xsk_audit.specs.Reading.{Said}
use Rattle.xsk_audit.specs.Telling.{AreTold, StopsAt}
use Rattle.xsk_audit.proofs.Cuts.{no-lines}
use Rattle.xsk_audit.proofs.Making.{line-says, was-made, wasnt-made}
use Rattle.xsk_audit.proofs.Misses.{none-short, stuck-unread, stuck-illegal, told-push, tells-made}
use Rattle.xsk_audit.proofs.playing.play_lines.Goals as goal

pub returns-then-is_empty-clause-played : goal.returns-then-is_empty-clause-played
returns-then-is_empty-clause-played c =
    let l = c.loop-line.invariant in
    let none = no-lines c.loop-line.rest.now c.is_empty.result c.is_empty.ensures c.if-is_empty.true in
    record {
      frames = l.frames;
      history = l.history;
      run = l.playing.run;
      made = record {
        made = l.made;
        left = lines_of c.loop-line.rest.now;
        lines_are = l.lines;
        told = l.says;
        stops = subst (StopsAt c.loop-line.checked.config l.history) (sym none) tt;
      };
    }

pub returns-in_default-clause-played : goal.returns-in_default-clause-played
returns-in_default-clause-played c =
    let l = c.loop-line.invariant in
    let line = c.first_line.result.0.now in
    let count = ap length c.pairs.ensures.value ∙ ap (λ (k : Config). length k.pairs) (c.config.ensures ∙ sym l.config) in
    record {
      frames = l.frames;
      history = l.history;
      run = l.playing.run;
      made = record {
        made = l.made;
        left = line ∷ lines_of c.first_line.result.1.now;
        lines_are = l.lines ∙ ap (λ (ls : List (List ℕ)). l.made ++ ls) c.first_line.ensures.line;
        told = l.says;
        stops = stuck-unread c.loop-line.checked.config l.history line _ l.playing.run.legal.opened.config count c.in_default.ensures.said;
      };
    }

pub make-requires-clause-told : goal.make-requires-clause-told
make-requires-clause-told c =
    let r = c.in-Some.reading in
    line-says _ c.first_line.result.0.now (record { round = r.round; who = r.who; call = joined_call r.ask c.read_line.new.items }) c.in-Some.ensures.said

pub returns-then-not-branch-clause-played : goal.returns-then-not-branch-clause-played
returns-then-not-branch-clause-played c =
    let l = c.loop-line.invariant in
    let line = c.first_line.result.0.now in
    let r = c.in-Some.reading in
    let said : Said = record { round = r.round; who = r.who; call = joined_call r.ask c.read_line.new.items } in
    let made = c.in_ok-make.ensures in
    let none = wasnt-made c.make.new.checked c.make.new.shelf l.frames l.history r.who said.call c.in_ok-make.field-0 (made.made l.frames l.history l.playing) (search rules) in
    let count = ap length c.pairs.ensures.value ∙ ap (λ (k : Config). length k.pairs) (c.config.ensures ∙ sym l.config ∙ sym made.config) in
    record {
      frames = l.frames;
      history = l.history;
      run = none.0;
      made = record {
        made = l.made;
        left = line ∷ lines_of c.first_line.result.1.now;
        lines_are = l.lines ∙ ap (λ (ls : List (List ℕ)). l.made ++ ls) c.first_line.ensures.line;
        told = subst (λ (k : Config). AreTold (length k.pairs) l.made l.history) (sym made.config) l.says;
        stops = stuck-illegal c.make.new.checked.config l.history line _ said none.0.legal.opened.config count c.in-Some.ensures.said none.1;
      };
    }

pub loop-line-preserved : goal.loop-line-preserved
loop-line-preserved c =
    let l = c.loop-line.invariant in
    let line = c.first_line.result.0.now in
    let r = c.in-Some.reading in
    let said : Said = record { round = r.round; who = r.who; call = joined_call r.ask c.read_line.new.items } in
    let made = c.in_ok-make.ensures in
    let m = was-made c.make.new.checked c.make.new.shelf l.frames l.history r.who said.call c.in_ok-make.field-0 (made.made l.frames l.history l.playing) (search rules) in
    let count = ap length c.pairs.ensures.value ∙ ap (λ (k : Config). length k.pairs) (c.config.ensures ∙ sym l.config ∙ sym made.config) in
    record {
      config = made.config ∙ l.config;
      frames = l.frames;
      history = l.history ++ m.entry ∷ [];
      made = l.made ++ line ∷ [];
      playing = m.playing;
      lines = l.lines ∙ ap (λ (ls : List (List ℕ)). l.made ++ ls) c.first_line.ensures.line ∙ sym (append_assoc l.made (line ∷ []) (lines_of c.first_line.result.1.now));
      says = told-push (length c.make.new.checked.config.pairs) l.made l.history line m.entry
          (subst (λ (k : Config). AreTold (length k.pairs) l.made l.history) (sym made.config) l.says)
          (tells-made _ (length c.make.new.checked.config.pairs) line said m.entry count c.in-Some.ensures.said m.caller m.told);
      short = omega (arith, l.short, c.first_line.ensures.shorter);
      none_told = c.empty.ensures;
      none_left = c.in_ok-make.ensures.empty (search rules);
    }

pub returns-clause-played : goal.returns-clause-played
returns-clause-played c =
    let l = c.loop-line.invariant in
    let none = none-short c.loop-line.rest.now (omega (arith, l.short, c.loop-line-test.false, c.loop-line.auto._line-end)) in
    record {
      frames = l.frames;
      history = l.history;
      run = l.playing.run;
      made = record {
        made = l.made;
        left = lines_of c.loop-line.rest.now;
        lines_are = l.lines;
        told = l.says;
        stops = subst (StopsAt c.loop-line.checked.config l.history) (sym none) tt;
      };
    }
