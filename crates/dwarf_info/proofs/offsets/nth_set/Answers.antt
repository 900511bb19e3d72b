use Rattle.std.proofs.Common.{◌≡◌, ◌∙◌, ◌+◌, ◌∷◌, [], arith, length, ap}
use Rattle.std.specs.Prelude.{slice_get}
use Rattle.std.proofs.lemmas.Grind.{common_steps}
use Rattle.dwarf_info.specs.private.Starts.{set_from}
use Rattle.dwarf_info.proofs.SetFlags.{set_here, set_later, unset, no_flag}
use Rattle.dwarf_info.proofs.offsets.nth_set.Goals.{then-flag+else-left-eq0, else-flag}
use Rattle.dwarf_info.proofs.offsets.nth_set.Goals as goal

pub returns-then-left-eq0 : goal.returns-then-left-eq0
returns-then-left-eq0 c =
    let split : c.loop-flag.rest.now ≡ c.in-Some.flag.now ∷ c.in-Some.others.now = grind (arith, common_steps) in
    set_here c.loop-flag.offset c.loop-flag.left c.in-Some.flag.now c.loop-flag.rest.now c.in-Some.others.now split c.if-flag.true c.if-left-eq0.true ∙ c.loop-flag.invariant.found

pub loop-flag-preserved : goal.loop-flag-preserved
loop-flag-preserved c =
    let split : c.loop-flag.rest.now ≡ c.in-Some.flag.now ∷ c.in-Some.others.now = grind (arith, common_steps) in
    let long = ap length split in
    let so_far = c.loop-flag.invariant.offset in
    record {
      offset = omega arith;
      found =
          elim c.if-flag.branch [
            | then-flag+else-left-eq0 w ↦
                ap (slice_get (set_from (c.loop-flag.offset + 1) c.in-Some.others.now)) w.left-is
                ∙ set_later c.loop-flag.offset c.loop-flag.left c.in-Some.flag.now c.loop-flag.rest.now c.in-Some.others.now split w.if-flag.true w.if-left-eq0.false ∙ c.loop-flag.invariant.found
            | else-flag w ↦
                ap (slice_get (set_from (c.loop-flag.offset + 1) c.in-Some.others.now)) w.left-is
                ∙ unset c.loop-flag.offset c.loop-flag.left c.in-Some.flag.now c.loop-flag.rest.now c.in-Some.others.now split w.if-flag.false ∙ c.loop-flag.invariant.found
          ];
    }

pub returns : goal.returns
returns c =
    let none : c.loop-flag.rest.now ≡ [] = grind (arith, common_steps) in
    no_flag c.loop-flag.offset c.loop-flag.left c.loop-flag.rest.now none ∙ c.loop-flag.invariant.found
