use Rattle.std.proofs.Common.{arith}
use Rattle.dwarf_forms.proofs.FixedFronts.{front_ahead}
use Rattle.dwarf_forms.proofs.fronts.front_before.Goals as goal

pub returns-then-front-count : goal.returns-then-front-count
returns-then-front-count c = λ specs whole back le.
    let a = c.in-Some.ensures in
    let b = c.in-Some-checked_sub.ensures in
    front_ahead specs c.args.whole c.args.back c.args.count c.in-Some.front c.in-Some-checked_sub.bytes whole back le c.if-front-count.true (omega arith) (omega arith)
