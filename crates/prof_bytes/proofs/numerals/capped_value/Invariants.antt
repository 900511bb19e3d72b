use Rattle.std.proofs.Common.{◌≡◌, ◌^◌, min, take}
use Rattle.prof_bytes.specs.Numerals.{decimal_value}
use Rattle.prof_bytes.proofs.numerals.capped_value.Given as goal

abbrev pub invariant-loop-byte : goal.invariant-loop-byte
invariant-loop-byte l = l.value ≡ min (decimal_value (take l.byte-index l.word)) (2 ^ 40)
