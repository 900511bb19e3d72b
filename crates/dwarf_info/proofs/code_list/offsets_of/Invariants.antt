use Rattle.std.proofs.Common.{ℕ, List}
use Rattle.std.specs.List.{All}
use Rattle.dwarf_info.specs.private.CodeLists.{IsFirst, AreCodes}
use Rattle.dwarf_info.proofs.code_list.offsets_of.Given as goal

abbrev pub invariant-loop-c : goal.invariant-loop-c
invariant-loop-c l = (section : List ℕ) (start : ℕ) → AreCodes section start l.codes → All (IsFirst section start) l.offsets.items
