use Rattle.std.proofs.Common.{◌≡◌, ℕ, ◌+◌, List, [], ◌∷◌, ◌++◌, sym, ap, ◌∙◌, arith}
use Rattle.std.specs.Prelude.{sum_by}
use Rattle.dwarf_inline.specs.declared.details.Detail.{Detail}
use Rattle.dwarf_inline.specs.private.ShortDetails.{ShortDetail, count_ranges, whole, wholes}
use Rattle.dwarf_inline.proofs.ShortDetails.{wholes_count, wholes_more}
use Rattle.dwarf_inline.proofs.short_details.Details.push.Goals as goal

pub push_short-requires-clause-first : goal.push_short-requires-clause-first
push_short-requires-clause-first c =
    c.requires.first ∙ ap (λ (ds : List Detail). sum_by (λ d. d.range_count) ds) (sym c.self.view_is) ∙ wholes_count 0 c.self.inside.list.items

pub returns : goal.returns
returns c =
    let list : List ShortDetail = c.self.inside.list.items in
    let short : ShortDetail = c.new-short.result in
    let first : c.args.detail.first_range ≡ count_ranges list =
    c.requires.first ∙ ap (λ (ds : List Detail). sum_by (λ d. d.range_count) ds) (sym c.self.view_is) ∙ wholes_count 0 list in
    let here : 0 + count_ranges list ≡ c.args.detail.first_range = omega arith in
    ap (wholes 0) c.in_ok-push_short.ensures.pushed ∙ wholes_more 0 list short
    ∙ ap (λ (ds : List Detail). ds ++ whole (0 + count_ranges list) short ∷ []) c.self.view_is
    ∙ ap (λ (m : ℕ). c.args.self.now ++ whole m short ∷ []) here
    ∙ ap (λ (s : ShortDetail). c.args.self.now ++ whole c.args.detail.first_range s ∷ []) c.new-short.ensures
