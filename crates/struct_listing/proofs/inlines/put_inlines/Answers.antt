use Rattle.std.proofs.Common.{◌≡◌, ◌-◌, ◌∙◌, ◌++◌, ℕ, List, get_or, ap, arith}
use Rattle.std.proofs.lemmas.Option.{slice_get_within}
use Rattle.struct_listing.specs.Listing.{inlined_level}
use Rattle.struct_listing.specs.declared.listed.ListedInline.{ListedInline}
use Rattle.struct_listing.specs.private.Parts.{scopes_of}
use Rattle.struct_listing.proofs.InlineLines.{IsListedAt, all_lines, level_of, line_more, one_listed}
use Rattle.struct_listing.proofs.inlines.put_inlines.Goals as goal

abbrev nothing : ListedInline
nothing = record { number = 0; depth = 0 }

pub overflow_sub-level : goal.overflow_sub-level
overflow_sub-level c =
    let s = c.args.program.structure.now in
    let below : List ListedInline = c.listed_below-below.result.now in
    let l : ListedInline = get_or below c.loop-inline.inline-index nothing in
    let known : IsListedAt s c.args.subprogram c.args.item c.loop-inline.inline-index l =
    one_listed s c.args.subprogram c.args.item below c.loop-inline.inline-index nothing (c.listed_below-below.ensures s c.requires.listed) c.loop-inline-test.true in
    let deep = level_of s c.args.subprogram c.args.item c.loop-inline.inline-index l c.args.ends.now known c.requires.open in
    omega (arith, c.count_open.ensures)

pub subroutine-callee-requires : goal.subroutine-callee-requires
subroutine-callee-requires c =
    let s = c.args.program.structure.now in
    let below : List ListedInline = c.listed_below-below.result.now in
    let l : ListedInline = get_or below c.loop-inline.inline-index nothing in
    let known : IsListedAt s c.args.subprogram c.args.item c.loop-inline.inline-index l =
    one_listed s c.args.subprogram c.args.item below c.loop-inline.inline-index nothing (c.listed_below-below.ensures s c.requires.listed) c.loop-inline-test.true in
    slice_get_within s.items l.number known.callee known.there

pub loop-inline-preserved : goal.loop-inline-preserved
loop-inline-preserved c =
    let s = c.args.program.structure.now in
    let below : List ListedInline = c.listed_below-below.result.now in
    let l : ListedInline = get_or below c.loop-inline.inline-index nothing in
    let known : IsListedAt s c.args.subprogram c.args.item c.loop-inline.inline-index l =
    one_listed s c.args.subprogram c.args.item below c.loop-inline.inline-index nothing (c.listed_below-below.ensures s c.requires.listed) c.loop-inline-test.true in
    let deep = level_of s c.args.subprogram c.args.item c.loop-inline.inline-index l c.args.ends.now known c.requires.open in
    let level : l.depth - c.count_open.result ≡ inlined_level s c.args.subprogram l.number = omega (arith, c.count_open.ensures) in
    line_more (scopes_of c.args.program) c.args.subprogram c.args.item c.loop-inline.inline-index (l.depth - c.count_open.result) l c.subroutine-callee.result c.args.out.now.items c.loop-inline.out.items
    c.put_inline.new.out.items known c.subroutine-callee.ensures level c.loop-inline.invariant c.in_ok-put_inline.ensures

pub returns : goal.returns
returns c =
    c.loop-inline.invariant
    ∙ ap (λ (lines : List ℕ). c.args.out.now.items ++ lines)
    (all_lines (scopes_of c.args.program) c.args.subprogram c.args.item c.listed_below-below.result.now c.loop-inline.inline-index
    (c.listed_below-below.ensures c.args.program.structure.now c.requires.listed) (omega arith))
