use Rattle.std.proofs.Common.{◌++◌, ℕ, List, ap, ◌∙◌, arith}
use Rattle.struct_listing.proofs.SymbolLines.{function_fits, symbol_more, all_symbols}
use Rattle.struct_listing.proofs.symbols.put_symbols.Goals as goal

pub put_symbol-requires : goal.put_symbol-requires
put_symbol-requires c =
    function_fits c.args.image.now c.functions-functions.result.now c.loop-function.function-index _ c.segments.ensures.loaded c.functions-functions.ensures c.loop-function-test.true

pub loop-function-preserved : goal.loop-function-preserved
loop-function-preserved c =
    symbol_more c.args.structure.now c.in_ok-ranges.ranges c.functions-functions.result.now c.loop-function.function-index _ c.args.out.now.items c.loop-function.out.items c.put_symbol.new.out.items
    c.in_ok-ranges.ensures c.loop-function-test.true c.loop-function.invariant c.in_ok-put_symbol.ensures

pub returns : goal.returns
returns c =
    c.loop-function.invariant
    ∙ ap (λ (l : List ℕ). c.args.out.now.items ++ l) (all_symbols c.args.structure.now c.args.image.now c.functions-functions.result.now c.loop-function.function-index c.functions-functions.ensures (omega arith))
