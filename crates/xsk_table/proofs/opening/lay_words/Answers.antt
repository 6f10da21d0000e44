use Rattle.std.proofs.Common.{◌≡◌, ◌<◌, ◌∙◌, ap, sym, subst, arith, length, List, ℕ}
use Rattle.xsk_table.specs.Opening.{WordsOpen, IsOfFill, IsOfCell, SparesBelow}
use Rattle.xsk_table.proofs.Laying.{spares_below, filled_more, celled_more, words_open, written_back}
use Rattle.xsk_table.proofs.opening.lay_words.Goals as goal

pub loop-pair-preserved : goal.loop-pair-preserved
loop-pair-preserved c = (
  spares_below c.args.config.now IsOfFill c.loop-pair.pair _ c.loop-pair.row _ c.lay_pool.ensures.spares c.loop-pair.invariant.0,
  filled_more c.args.config.now c.args.first c.loop-pair.pair c.loop-pair.row _ c.pairs-pair-end.ensures.lawful (subst (λ l. c.loop-pair.pair < length l) c.pairs-pair-end.ensures.value c.loop-pair-test.true) c.lay_pool.ensures.spares c.lay_pool.ensures.laid c.loop-pair.invariant.1,
)

pub loop-port-preserved : goal.loop-port-preserved
loop-port-preserved c = (
  spares_below c.args.config.now IsOfCell c.loop-port.port _ c.loop-port.row _ c.lay_cells.ensures.spares c.loop-port.invariant.0,
  celled_more c.args.config.now c.loop-port.port c.loop-port.row _ (subst (λ n. c.loop-port.port < n) c.ports-port-end.ensures.value c.loop-port-test.true) c.lay_cells.ensures.spares c.lay_cells.ensures.laid c.loop-port.invariant.1,
)

pub returns : goal.returns
returns c =
    let row = c.loop-port.row in
    let pairs_end = ap length c.pairs-pair-end.ensures.value in
    let all_pairs : c.loop-pair.pair ≡ length c.args.config.now.pairs = omega (arith, c.loop-pair.auto.pair-end, c.loop-pair-test.false, pairs_end) in
    let all_ports : c.loop-port.port ≡ c.args.config.now.ports = omega (arith, c.loop-port.auto.port-end, c.loop-port-test.false, c.ports-port-end.ensures.value) in
    let pairs : SparesBelow c.args.config.now IsOfFill (length c.args.config.now.pairs) c.in_ok-words.words.items c.loop-pair.row =
    let P : ℕ × List ℕ → Type 0 = λ t. SparesBelow c.args.config.now IsOfFill t.0 t.1 c.loop-pair.row in
    subst P (λ i. (all_pairs i, c.as_mut_slice-row.ensures.value i)) c.loop-pair.invariant.0 in
    let len : c.in_ok-words.words.len ≡ length row = c.in_ok-words.words.ok.0 ∙ sym (c.loop-port.invariant.0.0 ∙ pairs.0) in
    let whole = words_open c.args.config.now c.args.first c.in_ok-words.words.items c.loop-pair.row row c.pairs-pair-end.ensures.lawful c.ranges.first.fits c.in_ok-words.ensures pairs
    (λ d lt. c.loop-pair.invariant.1 d (omega arith))
    (subst (λ n. SparesBelow c.args.config.now IsOfCell n c.loop-pair.row row) all_ports c.loop-port.invariant.0)
    (λ p lt. c.loop-port.invariant.1 p (omega arith)) in
    subst (WordsOpen c.args.config.now c.args.first) (sym (written_back row _ _ len)) whole
