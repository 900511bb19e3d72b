use Rattle.std.proofs.Common.{map, ◌+◌, ◌*◌, ◌<◌, ◌^◌, ◌≡◌, ap, refl, sym, ◌∙◌, arith}
use Rattle.std.proofs.lemmas.List.{map_push}
use Rattle.std.proofs.lemmas.List.Elements.{All-push}
use Rattle.elf_image.specs.declared.header.Symbol.{Symbol}
use Rattle.elf_image.specs.Image.{symbol_view, FunctionSymbol}
use Rattle.elf_image.specs.Headers.{symbol_entry, is_function, function_symbol}
use Rattle.elf_image.proofs.Tables.{kept_more, left_more}
use Rattle.elf_image.proofs.symbol.functions_of.Goals as goal
use Rattle.elf_image.proofs.symbol.functions_of.Goals.{then-is_function+in_ok-push, else-is_function}

ends_low : (f : FunctionSymbol) (s : Symbol) → f.start ≡ s.st_value → f.size ≡ s.st_size → s.st_value + s.st_size < 2 ^ 32 → f.start + f.size < 2 ^ 32
ends_low f s start size lt = omega arith

pub loop-k-preserved : goal.loop-k-preserved
loop-k-preserved c =
    elim c.if-is_function.branch [
      | then-is_function+in_ok-push w ↦ rw w.all-is (record {
        functions = kept_more (is_function c.args.loaded.now) symbol_view (function_symbol c.args.file.now c.args.table.now) (λ k. symbol_entry c.args.file.now (c.args.table.now.sh_offset + 16 * k)) c.loop-k.k _ _ w.function_symbol.result c.symbol_entry-symbol.result
            c.loop-k.invariant.functions c.symbol_entry-symbol.ensures (sym c.is_function.ensures.function ∙ w.if-is_function.true) w.in_ok-push.ensures.items w.function_symbol.ensures;
        fit = rw (w.in_ok-push.ensures.items, map_push symbol_view c.loop-k.all.items w.function_symbol.result)
            (All-push (λ f. f.start + f.size < 2 ^ 32) (map symbol_view c.loop-k.all.items) (symbol_view w.function_symbol.result) c.loop-k.invariant.fit
            (ends_low (symbol_view w.function_symbol.result) c.symbol_entry-symbol.result (ap (λ (f : FunctionSymbol). f.start) w.function_symbol.ensures) (ap (λ (f : FunctionSymbol). f.size) w.function_symbol.ensures) (w.if-is_function.ensures.fits refl)));
        few = let le = c.loop-k.invariant.few in let len = w.in_ok-push.ensures.len in omega arith;
      })
      | else-is_function w ↦ rw w.all-is (record {
        functions = left_more (is_function c.args.loaded.now) symbol_view (function_symbol c.args.file.now c.args.table.now) (λ k. symbol_entry c.args.file.now (c.args.table.now.sh_offset + 16 * k)) c.loop-k.k _ c.symbol_entry-symbol.result
            c.loop-k.invariant.functions c.symbol_entry-symbol.ensures (sym c.is_function.ensures.function ∙ w.if-is_function.false);
        fit = c.loop-k.invariant.fit;
        few = let le = c.loop-k.invariant.few in omega arith;
      })
    ]
