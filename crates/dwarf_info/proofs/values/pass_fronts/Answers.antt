use Rattle.std.proofs.Common.{rules, ◌≡◌, Err, refl, pos, take, arith}
use Rattle.dwarf_forms.specs.Values.{form_value}
use Rattle.dwarf_info.specs.Values.{passed_from}
use Rattle.dwarf_info.proofs.PassedBefore.{front_end, bad_front, all_passed, front_last, one_step, bad_value}
use Rattle.dwarf_info.proofs.values.pass_fronts.Goals as goal

pub loop-at-init : goal.loop-at-init
loop-at-init g c = record { within = omega arith; left = refl }

pub loop-at-smaller : goal.loop-at-smaller
loop-at-smaller g c =
    let end = front_end c.args.specs.now c.args.index c.loop-at.at c.fixed_front-front.result c.fixed_front-front.ensures c.loop-at.invariant.within in
    let more = c.loop-at-test.true in
    omega arith

pub returns-in_err-pass_bytes : goal.returns-in_err-pass_bytes
returns-in_err-pass_bytes g c =
    let failed : passed_from c.args.unknown (take c.args.index c.args.specs.now) c.args.reader.now ≡ Err c.in_err-pass_bytes.field-0.0 =
    bad_front c.args.unknown c.in_err-pass_bytes.field-0.0 c.args.specs.now c.args.index c.loop-at.at c.fixed_front-front.result c.loop-at.reader (passed_from c.args.unknown (take c.args.index c.args.specs.now) c.args.reader.now)
    c.fixed_front-front.ensures c.in_err-pass_bytes.ensures c.loop-at.invariant.left in
    search rules

pub returns-then-at-index : goal.returns-then-at-index
returns-then-at-index g c =
    front_last c.args.unknown c.args.specs.now c.args.index c.loop-at.at c.fixed_front-front.result c.in_ok-pass_bytes.field-0 c.loop-at.reader c.pass_bytes.new.reader (passed_from c.args.unknown (take c.args.index c.args.specs.now) c.args.reader.now)
    c.fixed_front-front.ensures c.in_ok-pass_bytes.ensures c.if-at-index.true c.loop-at.invariant.left

pub returns-in_err-one_value : goal.returns-in_err-one_value
returns-in_err-one_value g c =
    let failed : passed_from c.args.unknown (take c.args.index c.args.specs.now) c.args.reader.now ≡ Err c.in_err-one_value.field-0.0 =
    bad_value c.args.unknown c.in_err-one_value.field-0.0 c.args.specs.now c.args.index c.loop-at.at c.fixed_front-front.result c.in_ok-pass_bytes.field-0 (record { attribute = 0; form = 0; implicit = pos 0 }) c.loop-at.reader c.pass_bytes.new.reader
    (passed_from c.args.unknown (take c.args.index c.args.specs.now) c.args.reader.now)
    c.fixed_front-front.ensures c.in_ok-pass_bytes.ensures
    (let end = front_end c.args.specs.now c.args.index c.loop-at.at c.fixed_front-front.result c.fixed_front-front.ensures c.loop-at.invariant.within in let e = c.if-at-index.false in omega arith) c.requires (rw c.as_slice.ensures at c.in_err-one_value.ensures.value) c.loop-at.invariant.left in
    search rules

pub loop-at-preserved : goal.loop-at-preserved
loop-at-preserved g c =
    let end = front_end c.args.specs.now c.args.index c.loop-at.at c.fixed_front-front.result c.fixed_front-front.ensures c.loop-at.invariant.within in
    let other = c.if-at-index.false in
    record {
      within = omega arith;
      left = one_step c.args.unknown c.args.specs.now c.args.index c.loop-at.at c.fixed_front-front.result c.in_ok-pass_bytes.field-0 (record { attribute = 0; form = 0; implicit = pos 0 }) (form_value c.in_ok-one_value.field-0) c.loop-at.reader c.pass_bytes.new.reader c.one_value.new.reader
          (passed_from c.args.unknown (take c.args.index c.args.specs.now) c.args.reader.now)
          c.fixed_front-front.ensures c.in_ok-pass_bytes.ensures (omega arith) c.requires (rw c.as_slice.ensures at c.in_ok-one_value.ensures.value) c.loop-at.invariant.left;
    }

pub returns : goal.returns
returns g c = all_passed c.args.unknown c.args.specs.now c.args.index c.loop-at.at c.loop-at.reader (passed_from c.args.unknown (take c.args.index c.args.specs.now) c.args.reader.now) c.loop-at-test.false c.loop-at.invariant.left
