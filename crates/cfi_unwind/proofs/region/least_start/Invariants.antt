use Rattle.std.proofs.Common.{◌≡◌, ◌++◌, ℕ, List, map, take}
use Rattle.elf_image.specs.Image.{symbol_view}
use Rattle.cfi_table.specs.Frames.{least_above}
use Rattle.cfi_unwind.proofs.region.least_start.Given as goal

abbrev pub invariant-loop-function : goal.invariant-loop-function
invariant-loop-function l = (before : List ℕ) → l.fn.least ≡ least_above l.low before → l.result ≡ least_above l.low (before ++ map (λ f. f.start) (map symbol_view (take l.function-index l.functions)))
