use Rattle.std.proofs.Common.{◌≡◌, ◌<◌, ◌≤◌, ◌^◌, length}
use Rattle.cfi_table.specs.Frames.{descriptions, rules_at}
use Rattle.cfi_unwind.specs.private.Index.{IsAt, IsIndexOf, KeepsIndex}
use Rattle.cfi_unwind.proofs.index.Index.add_others_from.Given as goal

abbrev pub invariant-loop-number : goal.invariant-loop-number
invariant-loop-number l = record {
  as_many : length l.self.ids.items ≡ length l.initial.self.ids.items;
  few : length l.self.unwind_rules.items ≤ 2 ^ 20;
  keeps : KeepsIndex (rules_at (descriptions l.table)) l.initial.self l.self;
  latest : IsIndexOf (rules_at (descriptions l.table)) l.initial.self → 0 < length l.self.ids.items → IsAt l.self.unwind_rules.items l.latest.id l.latest.rules;
}
