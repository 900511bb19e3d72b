use Rattle.std.proofs.Common.{arith}
use Rattle.guest_gen.specs.File.{function_name, name_bytes}
use Rattle.guest_gen.specs.private.Names.{function_names}
use Rattle.guest_gen.proofs.Loops.{put_all, put_more}
use Rattle.guest_gen.proofs.symbols.put_function_names.Goals as goal

pub loop-number-preserved : goal.loop-number-preserved
loop-number-preserved c = (let test = c.loop-number-test.true in record { bytes = put_more (λ i. name_bytes (function_name i)) _ _ _ c.loop-number.number c.loop-number.invariant.bytes c.in_ok-put_function_name.ensures; few = omega (arith, test) })

pub returns : goal.returns
unfolding function_names
returns c = put_all (λ i. name_bytes (function_name i)) _ _ c.loop-number.number c.args.count c.loop-number.invariant.bytes c.loop-number.invariant.few c.loop-number-test.false
