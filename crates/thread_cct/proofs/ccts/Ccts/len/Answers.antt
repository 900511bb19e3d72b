use Rattle.std.proofs.Common.{◌≡◌, ◌<◌, List, [], length, subst, sym, ap, ◌∙◌, arith}
use Rattle.std.proofs.lemmas.List.{get_or_default}
use Rattle.scope_types.specs.declared.frame.Counted.{Counted}
use Rattle.thread_cct.specs.Adding.{of_column}
use Rattle.thread_cct.proofs.Tables.{Tables, few_paths}
use Rattle.thread_cct.proofs.ccts.Ccts.len.Goals as goal

pub len-requires : goal.len-requires
len-requires c =
    let tables : Tables = c.self.inside.tables.items in
    let own : c.args.column < length tables = subst (λ (t : Tables). c.args.column < length t) (sym c.self.view_is) c.requires in
    let few = few_paths tables c.self.inside.frames c.args.column c.self.invariant own in
    let is : length c.index.result.now ≡ length (of_column tables c.args.column) = ap (λ (l : List Counted). length l) (c.index.ensures ∙ get_or_default tables c.args.column c.index.result.now [] own) in
    omega (arith, few, is)

pub overflow_cast-result : goal.overflow_cast-result
overflow_cast-result c =
    let tables : Tables = c.self.inside.tables.items in
    let own : c.args.column < length tables = subst (λ (t : Tables). c.args.column < length t) (sym c.self.view_is) c.requires in
    let few = few_paths tables c.self.inside.frames c.args.column c.self.invariant own in
    let is : c.len.result ≡ length (of_column tables c.args.column) = c.len.ensures ∙ ap length (c.index.ensures ∙ get_or_default tables c.args.column c.index.result.now [] own) in
    omega (arith, few, is)
