use Rattle.std.proofs.Common.{◌<◌, length, refl, arith}
use Rattle.std.specs.Vec.{with_item}
use Rattle.cfi_table.specs.Frames.{descriptions, rules_at}
use Rattle.cfi_unwind.specs.declared.index.Index.{Index}
use Rattle.cfi_unwind.proofs.Indexing.{grows_one}
use Rattle.cfi_unwind.proofs.index.Index.add_others_from.Goals as goal
use Rattle.cfi_unwind.proofs.index.Index.add_others_from.Goals.{then-index+in_ok-pc+in_ok-id, else-index}

pub loop-number-preserved : goal.loop-number-preserved
loop-number-preserved c = elim c.if-index.branch [
  | then-index+in_ok-pc+in_ok-id w ↦
      let after : Index = record { first = c.loop-number.self.first; ids = with_item c.loop-number.self.ids c.loop-number.number w.in_ok-id.id; unwind_rules = w.id_at_address.new.unwind_rules } in
      let lt : c.loop-number.number < length c.loop-number.self.ids.items = (let below = c.loop-number-test.true in let within = c.requires.within in let many = c.loop-number.invariant.as_many in omega arith) in
      let few = w.in_ok-id.ensures.few in
      let grows = grows_one (rules_at (descriptions c.args.table.now)) c.args.self.now c.loop-number.self after c.loop-number.number w.in_ok-pc.pc w.in_ok-id.id c.loop-number.latest.id w.id_at_address.new.latest.id c.loop-number.latest.rules w.id_at_address.new.latest.rules
      lt c.loop-number.invariant.as_many c.loop-number.invariant.keeps c.loop-number.invariant.latest refl refl w.in_ok-id.ensures.keeps few w.in_ok-pc.ensures w.in_ok-id.ensures.id w.in_ok-id.ensures.latest in
      rw (w.self-is, w.latest-is) (record { as_many = grows.as_many; few = few; keeps = grows.keeps; latest = grows.latest })
  | else-index w ↦ rw (w.self-is, w.latest-is) c.loop-number.invariant
]
