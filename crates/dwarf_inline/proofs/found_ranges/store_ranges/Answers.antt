use Rattle.std.proofs.Common.{◌≡◌, ◌+◌, refl, length, arith}
use Rattle.dwarf_inline.specs.declared.found_ranges.FoundRanges.{FoundRanges}
use Rattle.dwarf_inline.specs.private.Found.{first_source}
use Rattle.dwarf_inline.proofs.FoundRanges.{kept_new, unkept_new}
use Rattle.dwarf_inline.proofs.found_ranges.store_ranges.Goals as goal

pub returns-then-own-saturating_sub-clause-stored : goal.returns-then-own-saturating_sub-clause-stored
returns-then-own-saturating_sub-clause-stored c = λ sections segments gives.
    let f : FoundRanges = record { at = c.len-at.result; count = length c.args.own.now; first = c.first_start-first.result } in
    let at : c.len-at.result ≡ length c.args.ranges.now.items = (let is = c.len-at.ensures in omega arith) in
    rw c.in_ok-extend_from_slice.ensures.items (kept_new sections segments c.args.ranges.now.items c.args.own.now c.args.sources.now.items f at c.if-at.true refl c.first_start-first.ensures c.requires.count)

pub returns-clause-stored : goal.returns-clause-stored
returns-clause-stored c = λ sections segments gives.
    let f : FoundRanges = record { at = 2147483648 + c.len.result; count = length c.args.own.now; first = c.first_start-first.result } in
    let at : 2147483648 + c.len.result ≡ first_source + length c.args.sources.now.items = (let is = c.len.ensures in omega arith) in
    rw c.in_ok-push.ensures.items (unkept_new sections segments c.args.ranges.now.items c.args.own.now c.args.sources.now.items c.args.source f gives at refl c.first_start-first.ensures c.requires.count)
