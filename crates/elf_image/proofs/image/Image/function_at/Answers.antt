use Rattle.std.proofs.Common.{◌+◌, ◌<◌, ◌^◌, sym}
use Rattle.elf_image.specs.Image.{symbol_view, in_function, FunctionSymbol}
use Rattle.elf_image.proofs.Tables.{find_map, found_of_all}
use Rattle.elf_image.proofs.image.Image.function_at.Goals as goal

pub returns-clause-function : goal.returns-clause-function
returns-clause-function c =
    rw (c.copied.ensures, c.first.ensures, ← c.self.view_is) (sym (find_map (in_function c.args.pc) symbol_view c.self.inside.functions))

pub returns-clause-low : goal.returns-clause-low
returns-clause-low c =
    rw (c.copied.ensures, c.first.ensures)
    (found_of_all (λ (f : FunctionSymbol). f.start + f.size < 2 ^ 32) symbol_view (λ f. in_function c.args.pc (symbol_view f)) c.self.inside.functions c.self.invariant.low)
