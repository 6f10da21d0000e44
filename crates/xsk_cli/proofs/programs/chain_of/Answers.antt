use Rattle.std.proofs.Common.{rules, ◌≡◌, ◌∙◌, ◌+◌, ◌++◌, suc, [], ◌∷◌, map, take, slice_index_or, sym, ap, arith}
use Rattle.std.proofs.lemmas.List.{map-append}
use Rattle.std.proofs.Math.Seq.{take-suc}
use Rattle.xsk_prog.specs.Chain.{rules_of}
use Rattle.xsk_args.specs.declared.program.Program.TheVariants.{Redirect}
use Rattle.xsk_cli.specs.Outcome.{rule_by}
use Rattle.xsk_cli.proofs.programs.chain_of.Goals as goal

pub loop-program-preserved : goal.loop-program-preserved
loop-program-preserved g c =
    let l = c.loop-program in
    let made = c.requires.attaches c.rule_of.result c.attach.result c.rule_of.ensures.sockets c.attach.ensures in
    let programs = c.args.programs.now in
    let next : suc l.program-index ≡ l.program-index + 1 = omega arith in
    let cut : take (l.program-index + 1) programs ≡ take l.program-index programs ++ slice_index_or programs l.program-index Redirect ∷ [] =
    ap (λ k. take k programs) (sym next) ∙ take-suc programs l.program-index Redirect (search rules) in (
      c.in-Ok.ensures.obeys l.invariant.0 made.1,
      ap rules_of c.in-Ok.ensures.pushed.0 ∙ map-append (λ program. program.rule) l.chain (c.attach.result ∷ [])
          ∙ ap (λ rs. rs ++ c.attach.result.rule ∷ []) l.invariant.1
          ∙ ap (λ r. map (rule_by c.args.sockets) (take l.program-index programs) ++ r ∷ []) (made.0 ∙ c.rule_of.ensures.rule)
          ∙ sym (map-append (rule_by c.args.sockets) (take l.program-index programs) (slice_index_or programs l.program-index Redirect ∷ []))
          ∙ ap (map (rule_by c.args.sockets)) (sym cut),
    )
