use Rattle.std.proofs.Common.{◌≡◌, ℕ, ◌+◌, ◌-◌, length}
use Rattle.rv_memory.specs.private.Pages.{page_at}
use Rattle.rv_memory.proofs.pages.lengthen_block.Given as goal

abbrev pub invariant-loop-block : goal.invariant-loop-block
invariant-loop-block l = (i : ℕ) → page_at l.block i ≡ page_at l.initial.block i

abbrev pub decreases-loop-block : goal.decreases-loop-block
decreases-loop-block l = l.index + 1 - length l.block
