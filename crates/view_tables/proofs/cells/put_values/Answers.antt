use Rattle.std.proofs.Common.{◌≡◌, List, ℕ, ◌+◌, ◌*◌, ◌/◌, ◌%◌, ◌++◌, length, set, ap, arith, ◌∙◌}
use Rattle.std.proofs.lemmas.List.{length-set}
use Rattle.view_tables.proofs.Filled.{values_filled}
use Rattle.view_tables.proofs.CellWidths.{short_value, short_whole}
use Rattle.view_tables.proofs.cells.put_values.Goals as goal

pub write_digits-requires : goal.write_digits-requires
write_digits-requires c =
    let first = c.requires.first in
    let small = c.requires.small in
    let short = short_value c.args.first (omega (arith, first, small)) in
    (omega (arith, short), omega arith)

pub write_digits-requires-2 : goal.write_digits-requires-2
write_digits-requires-2 c = let short = short_whole c.args.first c.args.total c.requires.first in (omega (arith, short), omega arith)

pub write_digits-requires-3 : goal.write_digits-requires-3
write_digits-requires-3 c =
    let third = c.requires.third in
    let small = c.requires.small in
    let short = short_value c.args.third (omega (arith, third, small)) in
    let text : List ℕ = c.write_digits-2.new.buf in
    let long : length (set (set text 21 46) 22 (48 + c.args.first * 1000 / c.args.total % 10)) ≡ length text = length-set (set text 21 46) 22 _ ∙ length-set text 21 46 in
    (omega (arith, short), omega (arith, long))

pub returns : goal.returns
returns c =
    c.in_ok-extend_from_slice.ensures.items ∙ ap (λ (l : List ℕ). c.args.out.now.items ++ l)
    (values_filled c.write_digits.new.buf c.write_digits-2.new.buf c.write_digits-3.new.buf c.write_digits.result c.write_digits-2.result c.write_digits-3.result c.args.first c.args.total c.args.third c.requires.small c.requires.first c.requires.third
    c.write_digits.ensures.start c.write_digits.ensures.written c.write_digits.ensures.before
    c.write_digits-2.ensures.start c.write_digits-2.ensures.written c.write_digits-2.ensures.before
    c.write_digits-3.ensures.start c.write_digits-3.ensures.written c.write_digits-3.ensures.before)
