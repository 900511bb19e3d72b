use Rattle.std.proofs.Common.{◌≡◌, ◌<◌, List, [], length, sum_by, subst, sym, ap, ◌∙◌, arith}
use Rattle.std.proofs.lemmas.List.{get_or_default}
use Rattle.scope_types.specs.declared.frame.Counted.{Counted}
use Rattle.thread_cct.specs.Adding.{of_column}
use Rattle.thread_cct.proofs.Counts.{samples_more, samples_small}
use Rattle.thread_cct.proofs.Paths.{count_of}
use Rattle.thread_cct.proofs.Tables.{Tables, few_paths, own_few}
use Rattle.thread_cct.proofs.ccts.Ccts.samples.Goals as goal

pub len-index-end-requires : goal.len-index-end-requires
len-index-end-requires c =
    let tables : Tables = c.self.inside.tables.items in
    let own : c.args.column < length tables = subst (λ (t : Tables). c.args.column < length t) (sym c.self.view_is) c.requires in
    let few = few_paths tables c.self.inside.frames c.args.column c.self.invariant own in
    let is : length c.index-table.result.now ≡ length (of_column tables c.args.column) = ap (λ (l : List Counted). length l) (c.index-table.ensures ∙ get_or_default tables c.args.column c.index-table.result.now [] own) in
    omega (arith, few, is)

pub overflow_add-samples : goal.overflow_add-samples
overflow_add-samples c =
    let tables : Tables = c.self.inside.tables.items in
    let own : c.args.column < length tables = subst (λ (t : Tables). c.args.column < length t) (sym c.self.view_is) c.requires in
    let is : sum_by count_of c.index-table.result.now ≡ sum_by count_of (of_column tables c.args.column) = ap (sum_by count_of) (c.index-table.ensures ∙ get_or_default tables c.args.column c.index-table.result.now [] own) in
    let few = own_few tables c.args.column own in
    let limit = c.self.invariant.samples in
    let inside : c.loop-index.index < length c.index-table.result.now = omega (arith, c.loop-index-test.true, c.len-index-end.ensures) in
    let small = samples_small c.index-table.result.now c.loop-index.index _ inside c.count.ensures.1 in
    let so_far = c.loop-index.invariant in
    let same = c.from-samples.ensures in
    omega (arith, is, few, limit, small, so_far, same)

pub loop-index-preserved : goal.loop-index-preserved
loop-index-preserved c =
    let inside : c.loop-index.index < length c.index-table.result.now = omega (arith, c.loop-index-test.true, c.len-index-end.ensures) in
    let more = samples_more c.index-table.result.now c.loop-index.index _ inside c.count.ensures.1 in
    omega (arith, c.loop-index.invariant, c.from-samples.ensures, more)
