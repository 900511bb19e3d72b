use Rattle.std.proofs.Common.{arith}
use Rattle.guest_gen.specs.Frames.{fde, fdes}
use Rattle.guest_gen.proofs.Loops.{put_all, put_more}
use Rattle.guest_gen.proofs.frames.put_fdes.Goals as goal

pub loop-number-preserved : goal.loop-number-preserved
loop-number-preserved c = (let test = c.loop-number-test.true in record { bytes = put_more fde _ _ _ c.loop-number.number c.loop-number.invariant.bytes c.in_ok-put_fde.ensures; few = omega (arith, test) })

pub returns : goal.returns
unfolding fdes
returns c = put_all fde _ _ c.loop-number.number c.args.count c.loop-number.invariant.bytes c.loop-number.invariant.few c.loop-number-test.false
