use Rattle.std.proofs.Common.{◌+◌, ◌*◌, ◌/◌, ◌&&◌, ◌∙◌, sym, refl}
use Rattle.std.specs.Prelude.{is_none}
use Rattle.elf_image.specs.Fields.{string_in}
use Rattle.elf_image.specs.Headers.{symbol_entry, is_function}
use Rattle.elf_image.specs.Refusals.{function_with_unterminated_name}
use Rattle.elf_image.proofs.Tables.{found_at, none_more}
use Rattle.elf_image.proofs.symbol.function_with_unterminated_name.Goals as goal

pub loop-k-preserved : goal.loop-k-preserved
loop-k-preserved c =
    none_more (λ s. is_function c.args.loaded.now s && is_none (string_in c.args.names.now s.st_name)) (λ k. symbol_entry c.args.file.now (c.args.table.now.sh_offset + 16 * k)) c.loop-k.k c.symbol_entry-symbol.result
    c.loop-k.invariant c.symbol_entry-symbol.ensures (sym c.has_unterminated_function_name.ensures ∙ c.if-has_unterminated_function_name.false)

pub returns-then-has_unterminated_function_name : goal.returns-then-has_unterminated_function_name
unfolding function_with_unterminated_name
returns-then-has_unterminated_function_name c =
    let found = found_at (λ s. is_function c.args.loaded.now s && is_none (string_in c.args.names.now s.st_name)) (λ k. symbol_entry c.args.file.now (c.args.table.now.sh_offset + 16 * k)) c.loop-k.k (c.args.table.now.sh_size / 16) c.symbol_entry-symbol.result
    c.loop-k.invariant c.loop-k-test.true c.symbol_entry-symbol.ensures (sym c.has_unterminated_function_name.ensures ∙ c.if-has_unterminated_function_name.true) in
    rw (← c.requires.loaded, ← c.requires.names, found) refl
