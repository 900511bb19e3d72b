use Rattle.std.proofs.Common.{◌≡◌, ◌<◌, ℕ, ◌+◌, List, length, take, get_or, sym, ap, ◌∙◌, arith}
use Rattle.dwarf_inline.specs.declared.details.Detail.{Detail}
use Rattle.dwarf_inline.specs.private.ShortDetails.{ShortDetail, count_ranges, whole}
use Rattle.dwarf_inline.proofs.ShortDetails.{wholes_at, wholes_long}
use Rattle.dwarf_inline.proofs.short_details.Details.get.Goals as goal

pub returns : goal.returns
returns c =
    let list : List ShortDetail = c.self.inside.list.items in
    let short : ShortDetail = c.index-detail.result.now in
    let d : Detail = whole c.ranges_before.result short in
    let lt : c.args.at < length list = (let r = c.requires in omega (arith, ap length c.self.view_is, wholes_long 0 list)) in
    let first : 0 + count_ranges (take c.args.at list) ≡ c.ranges_before.result =
    omega (arith, c.ranges_before.ensures ∙ ap (λ (ds : List ShortDetail). count_ranges (take c.args.at ds)) c.as_slice.ensures.value) in
    rw (c.call.ensures, c.range_count.ensures, c.at.ensures) (sym (ap (λ (ds : List Detail). get_or ds c.args.at d) (sym c.self.view_is) ∙ wholes_at 0 list c.args.at short d lt
    ∙ ap (λ (s : ShortDetail). whole (0 + count_ranges (take c.args.at list)) s) (sym c.index-detail.ensures)
    ∙ ap (λ (n : ℕ). whole n short) first))

pub index-detail-requires : goal.index-detail-requires
index-detail-requires c =
    let long = c.self.inside.list.ok.0 in
    let r = c.requires in
    omega (arith, ap length c.self.view_is, wholes_long 0 c.self.inside.list.items)

pub ranges_before-requires-clause-here : goal.ranges_before-requires-clause-here
ranges_before-requires-clause-here c =
    let r = c.requires in
    omega (arith, ap length c.self.view_is, wholes_long 0 c.self.inside.list.items, ap length c.as_slice.ensures.value)
