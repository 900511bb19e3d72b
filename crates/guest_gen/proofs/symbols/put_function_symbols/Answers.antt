use Rattle.std.proofs.Common.{arith}
use Rattle.guest_gen.specs.private.Names.{function_symbols, short_symbol}
use Rattle.guest_gen.proofs.Loops.{put_all, put_more}
use Rattle.guest_gen.proofs.symbols.put_function_symbols.Goals as goal

pub loop-number-preserved : goal.loop-number-preserved
loop-number-preserved c = (let test = c.loop-number-test.true in record { bytes = put_more short_symbol _ _ _ c.loop-number.number c.loop-number.invariant.bytes c.in_ok-put_function_symbol.ensures; few = omega (arith, test) })

pub returns : goal.returns
unfolding function_symbols
returns c = put_all short_symbol _ _ c.loop-number.number c.args.count c.loop-number.invariant.bytes c.loop-number.invariant.few c.loop-number-test.false
