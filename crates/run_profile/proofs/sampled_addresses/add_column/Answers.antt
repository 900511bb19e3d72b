use Rattle.std.proofs.Common.{◌<◌, length, sym, ◌∙◌, arith}
use Rattle.thread_cct.specs.Adding.{of_column}
use Rattle.run_profile.proofs.Gathered.{one_added, one_passed}
use Rattle.run_profile.proofs.sampled_addresses.add_column.Goals as goal
use Rattle.run_profile.proofs.sampled_addresses.add_column.Goals.{then-not-is_over+in_ok-counted+in_ok-add, else-not-is_over}

pub loop-index-preserved : goal.loop-index-preserved
loop-index-preserved c =
    let column = of_column c.args.ccts.now c.args.column in
    let i = c.loop-index.index in
    let within : i < length column = (let many = c.len-index-end.ensures in let test = c.loop-index-test.true in omega (arith, many, test)) in
    elim c.if-not-is_over.branch [
      | then-not-is_over+in_ok-counted+in_ok-add w ↦
          w.addresses-is ∙ w.in_ok-add.ensures
          ∙ one_added c.args.addresses.now c.loop-index.addresses column i w.in_ok-counted.counted within c.loop-index.invariant w.in_ok-counted.ensures
      | else-not-is_over w ↦
          w.addresses-is
          ∙ one_passed c.args.addresses.now c.loop-index.addresses column i within c.loop-index.invariant (sym c.is_over.ensures ∙ w.if-not-is_over.false) c.full_addresses_stay.ensures
    ]
