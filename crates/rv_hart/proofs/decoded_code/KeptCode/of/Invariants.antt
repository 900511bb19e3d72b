use Rattle.rv_hart.specs.private.Decoding.{AreCode}
use Rattle.rv_hart.proofs.decoded_code.KeptCode.of.Given as goal

abbrev pub invariant-loop-region : goal.invariant-loop-region
invariant-loop-region l = AreCode l.memory l.codes.items
