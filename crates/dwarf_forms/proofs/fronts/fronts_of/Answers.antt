use Rattle.std.proofs.Common.{refl, pos}
use Rattle.dwarf_forms.specs.declared.declaration.Spec.{Spec}
use Rattle.dwarf_forms.proofs.FixedFronts.{next_front}
use Rattle.dwarf_forms.proofs.fronts.fronts_of.Goals as goal

pub loop-behind-preserved : goal.loop-behind-preserved
loop-behind-preserved c =
    let d : Spec = record { attribute = 0; form = 0; implicit = pos 0 } in
    next_front c.args.specs.now c.loop-behind.fronts.items c.push-in-loop-behind.new.self.items c.loop-behind.front c.with_first-front.result c.loop-behind.behind d
    c.loop-behind-test.true c.loop-behind.invariant c.in_ok-push-2.ensures.items (λ others is. c.with_first-front.ensures _ others refl is)
