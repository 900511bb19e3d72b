use Rattle.std.proofs.Common.{◌≡◌, ◌-◌, length, map, sym, ap, ◌∙◌, arith, append-nil}
use Rattle.std.proofs.lemmas.List.{get_or_default, length-map}
use Rattle.view_tables.specs.declared.groups.item.ItemRef.TheVariants.{SourceLine}
use Rattle.view_tables.specs.declared.groups.item.RowRef.{RowRef}
use Rattle.view_tables.specs.private.groups.Occurrences.{item_seen, items_seen, row_seen}
use Rattle.view_tables.proofs.grouping.ViewTexts.{view_all, view_more}
use Rattle.view_tables.proofs.groups.view.+put_rows.Goals as goal

abbrev some_row : RowRef
some_row = record { inclusive = record { 0 = 0 }; item = SourceLine 0; exclusive = 0 }

pub loop-row-init : goal.loop-row-init
loop-row-init t c = sym (append-nil c.args.out.now.items)

pub put_view_row-requires-clause-some : goal.put_view_row-requires-clause-some
put_view_row-requires-clause-some t c =
    let before = c.loop-row-test.true in
    let long : length c.deref-row-items.result.now ≡ length c.in_ok-level.level.rows.items = ap length c.deref-row-items.ensures.value in
    let within = c.in_ok-level.ensures.within c.loop-row.row-index some_row (omega (arith, before, long)) in
    omega (arith, within.0, within.1, c.requires.total)

pub loop-row-preserved : goal.loop-row-preserved
loop-row-preserved t c =
    view_more c.args.view c.args.content.now c.args.out.now.items c.loop-row.out.items c.put_view_row.new.out.items c.put_rows.new.out.items (c.args.levels - 1) c.args.total (length c.args.chain.now)
    (items_seen c.args.chain.now) (items_seen c.as_slice-in-loop-row.result.now) c.deref-row-items.result.now c.loop-row.row-index _
    c.loop-row-test.true (get_or_default _ _ _ _ c.loop-row-test.true) c.requires.total (sym (length-map c.args.chain.now item_seen)) c.loop-row.invariant c.in_ok-put_view_row.ensures
    (ap items_seen c.as_slice-in-loop-row.ensures.value ∙ c.in_ok-next.ensures.chain) c.in_ok-put_rows.ensures

pub returns : goal.returns
returns t c =
    let past = c.loop-row-test.false in
    view_all c.args.view c.args.content.now c.args.out.now.items c.loop-row.out.items c.args.levels (items_seen c.args.chain.now) c.deref-row-items.result.now c.loop-row.row-index
    c.if-levels-eq0.false (omega arith) (ap (map row_seen) c.deref-row-items.ensures.value ∙ c.in_ok-level.ensures.rows) c.loop-row.invariant
