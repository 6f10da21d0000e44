use Rattle.std.proofs.Common.{arith, ◌≡◌, ◌++◌, ◌∙◌, take}
use Rattle.std.proofs.lemmas.Grind.{common_steps}
use Rattle.xsk_io.specs.declared.bay.Kind.TheVariants.{Read}
use Rattle.xsk_io.proofs.Steps.{Same-then, SameBut-then, CountsOnly-then, prepend_known-then}
use Rattle.xsk_io.proofs.whole.read_whole.Goals as goal

-- the piece that found no room has been read too
pub returns-in_err-extend_from_slice-clause-taken : goal.returns-in_err-extend_from_slice-clause-taken
returns-in_err-extend_from_slice-clause-taken g c = (
  c.loop-stream.bytes.items ++ take c.in_ok-count.count c.read.new.buf,
  prepend_known-then _ _ _ c.loop-stream.bytes.items (take c.in_ok-count.count c.read.new.buf) c.loop-stream.invariant.1 c.in_ok-count.ensures.bytes,
)

pub returns-in_err-count-clause-left_others : goal.returns-in_err-count-clause-left_others
returns-in_err-count-clause-left_others g c = SameBut-then c.args.stream _ _ _ c.loop-stream.invariant.2 c.in_err-count.ensures.left_others

pub returns-in_err-count-clause-opened : goal.returns-in_err-count-clause-opened
returns-in_err-count-clause-opened g c = Same-then _ _ _ c.loop-stream.invariant.3 c.in_err-count.ensures.opened

pub returns-in_err-count-clause-names : goal.returns-in_err-count-clause-names
returns-in_err-count-clause-names g c = Same-then _ _ _ c.loop-stream.invariant.4 c.in_err-count.ensures.names

pub returns-in_err-count-clause-held : goal.returns-in_err-count-clause-held
returns-in_err-count-clause-held g c = Same-then _ _ _ c.loop-stream.invariant.5 c.in_err-count.ensures.held

pub returns-in_err-count-clause-offers : goal.returns-in_err-count-clause-offers
returns-in_err-count-clause-offers g c = Same-then _ _ _ c.loop-stream.invariant.6 c.in_err-count.ensures.offers

pub returns-in_err-count-clause-counts : goal.returns-in_err-count-clause-counts
returns-in_err-count-clause-counts g c = CountsOnly-then Read c.args.stream _ _ _ c.loop-stream.invariant.8 c.in_err-count.ensures.counts

pub returns-in_err-extend_from_slice-clause-left_others : goal.returns-in_err-extend_from_slice-clause-left_others
returns-in_err-extend_from_slice-clause-left_others g c = SameBut-then c.args.stream _ _ _ c.loop-stream.invariant.2 c.in_ok-count.ensures.left_others

pub returns-in_err-extend_from_slice-clause-opened : goal.returns-in_err-extend_from_slice-clause-opened
returns-in_err-extend_from_slice-clause-opened g c = Same-then _ _ _ c.loop-stream.invariant.3 c.in_ok-count.ensures.opened

pub returns-in_err-extend_from_slice-clause-names : goal.returns-in_err-extend_from_slice-clause-names
returns-in_err-extend_from_slice-clause-names g c = Same-then _ _ _ c.loop-stream.invariant.4 c.in_ok-count.ensures.names

pub returns-in_err-extend_from_slice-clause-held : goal.returns-in_err-extend_from_slice-clause-held
returns-in_err-extend_from_slice-clause-held g c = Same-then _ _ _ c.loop-stream.invariant.5 c.in_ok-count.ensures.held

pub returns-in_err-extend_from_slice-clause-offers : goal.returns-in_err-extend_from_slice-clause-offers
returns-in_err-extend_from_slice-clause-offers g c = Same-then _ _ _ c.loop-stream.invariant.6 c.in_ok-count.ensures.offers

pub returns-in_err-extend_from_slice-clause-counts : goal.returns-in_err-extend_from_slice-clause-counts
returns-in_err-extend_from_slice-clause-counts g c = CountsOnly-then Read c.args.stream _ _ _ c.loop-stream.invariant.8 c.in_ok-count.ensures.counts

pub loop-stream-preserved : goal.loop-stream-preserved
loop-stream-preserved g c = (
  c.loop-stream.invariant.0,
  let same : c.deref.result.now ≡ c.read.new.buf = grind (arith, common_steps) in
      rw (c.in_ok-extend_from_slice.ensures.items, same) (prepend_known-then _ _ _ c.loop-stream.bytes.items (take c.in_ok-count.count c.read.new.buf) c.loop-stream.invariant.1 c.in_ok-count.ensures.bytes),
  SameBut-then c.args.stream _ _ _ c.loop-stream.invariant.2 c.in_ok-count.ensures.left_others,
  Same-then _ _ _ c.loop-stream.invariant.3 c.in_ok-count.ensures.opened,
  Same-then _ _ _ c.loop-stream.invariant.4 c.in_ok-count.ensures.names,
  Same-then _ _ _ c.loop-stream.invariant.5 c.in_ok-count.ensures.held,
  Same-then _ _ _ c.loop-stream.invariant.6 c.in_ok-count.ensures.offers,
  c.in_ok-count.ensures.no_fault ∙ c.loop-stream.invariant.7,
  CountsOnly-then Read c.args.stream _ _ _ c.loop-stream.invariant.8 c.in_ok-count.ensures.counts,
)
