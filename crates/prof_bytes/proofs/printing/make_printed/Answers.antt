use Rattle.std.proofs.Common.{◌≡◌, ℕ, ◌+◌, ◌<◌, ◌==◌, ◌||◌, nat_lt, cond, List, ◌++◌, length, get_or, set, take, drop, ap, subst, arith}
use Rattle.std.proofs.lemmas.List.{get_or_default}
use Rattle.std.proofs.lemmas.List.Edits.{map_over_more}
use Rattle.prof_bytes.specs.Printing.{printed}
use Rattle.prof_bytes.proofs.printing.make_printed.Goals as goal

pub loop-byte-preserved : goal.loop-byte-preserved
loop-byte-preserved c =
    let old : List ℕ = c.args.name.now in
    let at = c.loop-byte.byte-index in
    let before = c.loop-byte-test.true in
    let long = c.loop-byte.auto.name in
    let inside : at < length c.loop-byte.name = omega (arith, before, long) in
    subst (λ (byte : ℕ). set c.loop-byte.name at byte ≡ printed (take (at + 1) old) ++ drop (at + 1) old) (ap (λ (l : List ℕ). get_or l 0 0) c.printed_byte.ensures)
    (map_over_more (λ (b : ℕ). cond (nat_lt b 32 || b == 127) 63 b) old c.loop-byte.name at (get_or c.loop-byte.name at 0) before c.loop-byte.invariant (get_or_default c.loop-byte.name at 0 (get_or c.loop-byte.name at 0) inside))
