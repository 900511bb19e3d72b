use Rattle.std.proofs.Common.{◌≡◌, ℕ, [], ◌∷◌, ◌++◌, Some, ap, ap₂, ◌∙◌, arith}
use Rattle.cfi_table.specs.declared.fault.FrameFault.{FrameFault}
use Rattle.prof_bytes.specs.Fields.{Input}
use Rattle.cfi_table.specs.Rules.{fault_here}
use Rattle.cfi_table.proofs.Chains.{marked, entry_between, part_read, part_fault, shorter, passes_over, goes_on, stops, ends_zero, ends}
use Rattle.cfi_table.proofs.extent.all_extents.Goals as goal

marked_is : (input before : Input FrameFault) (n : ℕ) → before ≡ record input { missing = record { offset = n } } → n ≡ input.at.offset → before ≡ marked input
marked_is input before n e is = e ∙ ap (λ (k : ℕ). record input { missing = record { offset = k } }) is

pub returns-in_default-clause-extents : goal.returns-in_default-clause-extents
returns-in_default-clause-extents c =
    let here = marked_is c.loop-reader.reader c.set_missing.new.self c.offset.result c.set_missing.ensures c.offset.ensures.stands in
    let is = part_fault c.loop-reader.reader c.set_missing.new.self c.part.new.self c.in_default.field-0 c.part.result here c.part.ensures c.in_default.is in
    ap (λ (n : ℕ). (c.loop-reader.extents.items, Some (record { offset = n }))) c.offset.ensures.stands
    ∙ stops c.args.zero_length c.args.section.now c.loop-reader.reader (fault_here c.loop-reader.reader) c.loop-reader.extents.items (let lt = c.loop-reader-test.true in omega arith) is c.loop-reader.invariant

pub loop-reader-preserved-in-Continue-1 : goal.loop-reader-preserved-in-Continue-1
loop-reader-preserved-in-Continue-1 c =
    let here = marked_is c.loop-reader.reader c.set_missing.new.self c.offset.result c.set_missing.ensures c.offset.ensures.stands in
    let is = part_read c.loop-reader.reader c.set_missing.new.self c.in-Ok.body c.part.new.self c.part.result here c.part.ensures c.in-Ok.is in
    let pushed : c.push.new.self.items ≡ c.loop-reader.extents.items ++ entry_between c.loop-reader.reader c.part.new.self ∷ [] =
    c.in_ok-push.ensures.items ∙ ap₂ (λ (a b : ℕ). c.loop-reader.extents.items ++ record { offset = a; end = b } ∷ []) c.offset.ensures.stands c.offset-then-left-gt0.ensures.stands in
    goes_on c.args.zero_length c.args.section.now c.loop-reader.reader c.in-Ok.body c.part.new.self c.loop-reader.extents.items c.push.new.self.items (let lt = c.loop-reader-test.true in omega arith) is
    (let some = c.if-left-gt0.true in let count = c.left-in-loop-reader.ensures in omega arith) pushed c.loop-reader.invariant

pub returns-in-EndsList-clause-extents : goal.returns-in-EndsList-clause-extents
returns-in-EndsList-clause-extents c =
    let here = marked_is c.loop-reader.reader c.set_missing.new.self c.offset.result c.set_missing.ensures c.offset.ensures.stands in
    let is = part_read c.loop-reader.reader c.set_missing.new.self c.in-Ok.body c.part.new.self c.part.result here c.part.ensures c.in-Ok.is in
    ends_zero c.args.zero_length c.args.section.now c.loop-reader.reader c.in-Ok.body c.part.new.self c.loop-reader.extents.items c.in-EndsList.is (let lt = c.loop-reader-test.true in omega arith) is
    (let none = c.if-left-gt0.false in let count = c.left-in-loop-reader.ensures in omega arith) c.loop-reader.invariant

pub loop-reader-smaller : goal.loop-reader-smaller
loop-reader-smaller c =
    let here = marked_is c.loop-reader.reader c.set_missing.new.self c.offset.result c.set_missing.ensures c.offset.ensures.stands in
    shorter c.loop-reader.reader c.in-Ok.body c.part.new.self (let lt = c.loop-reader-test.true in omega arith)
    (part_read c.loop-reader.reader c.set_missing.new.self c.in-Ok.body c.part.new.self c.part.result here c.part.ensures c.in-Ok.is)

pub loop-reader-preserved : goal.loop-reader-preserved
loop-reader-preserved c =
    let here = marked_is c.loop-reader.reader c.set_missing.new.self c.offset.result c.set_missing.ensures c.offset.ensures.stands in
    let is = part_read c.loop-reader.reader c.set_missing.new.self c.in-Ok.body c.part.new.self c.part.result here c.part.ensures c.in-Ok.is in
    passes_over c.args.zero_length c.args.section.now c.loop-reader.reader c.in-Ok.body c.part.new.self c.loop-reader.extents.items c.in_default-zero_length.not-EndsList (let lt = c.loop-reader-test.true in omega arith) is
    (let none = c.if-left-gt0.false in let count = c.left-in-loop-reader.ensures in omega arith) c.loop-reader.invariant

pub returns-clause-extents : goal.returns-clause-extents
returns-clause-extents c = ends c.args.zero_length c.args.section.now c.loop-reader.reader c.loop-reader.extents.items (let none = c.loop-reader-test.false in omega arith) c.loop-reader.invariant
