use Rattle.std.proofs.Common.{rules, ◌≡◌, ◌∙◌, ◌<◌, ltb, Some, Option, length, sym, ap, arith}
use Rattle.std.specs.Prelude.{slice_get}
use Rattle.std.proofs.lemmas.List.Sorted.{IsPartitionPoint-from_clause, IsPartitionedBy-ltb}
use Rattle.std.proofs.lemmas.Bool.{ltb-true, ltb-false}
use Rattle.std.proofs.lemmas.Option.{same_Some, slice_get-get_or, slice_get_within}
use Rattle.elf_image.specs.declared.part.Function.{Function}
use Rattle.scope_find.proofs.SymbolsFound.{start_found, start_missing}
use Rattle.scope_find.proofs.names.starting.Goals as goal
use Rattle.scope_find.proofs.names.starting.Goals.{in_default-via-in-Some+else-function-start, in_default-via-in_default}

abbrev some_function : Function → Option Function
some_function f = Some f

pub returns-in-Some : goal.returns-in-Some
returns-in-Some c =
    let point =
    IsPartitionPoint-from_clause (λ (f : Function). ltb f.start c.args.start) c.args.starts.now c.partition_point-index.result c.partition_point-index.ensures.partitioned
    (IsPartitionedBy-ltb (λ (f : Function). f.start) c.args.starts.now c.args.start c.requires) (λ a r q k. search rules) in
    let lt : c.partition_point-index.result < length c.args.starts.now = ltb-true _ _ (sym c.in-Some.ensures.lookup.0) in
    let there : slice_get c.args.starts.now c.partition_point-index.result ≡ Some c.in-Some.function.now =
    slice_get-get_or c.args.starts.now c.partition_point-index.result c.in-Some.function.now lt ∙ ap some_function (sym c.in-Some.ensures.lookup.1) in
    sym (start_found c.args.start c.args.starts.now c.partition_point-index.result c.in-Some.function.now (λ k d l. ltb-true _ _ (point.0 k d (omega arith) l)) there c.if-function-start.true)

pub returns-in_default : goal.returns-in_default
returns-in_default c =
    let point =
    IsPartitionPoint-from_clause (λ (f : Function). ltb f.start c.args.start) c.args.starts.now c.partition_point-index.result c.partition_point-index.ensures.partitioned
    (IsPartitionedBy-ltb (λ (f : Function). f.start) c.args.starts.now c.args.start c.requires) (λ a r q k. search rules) in
    sym (start_missing c.args.start c.args.starts.now c.partition_point-index.result c.requires point (λ x is same. elim c.in_default.branch [
      | in_default-via-in-Some+else-function-start w ↦
          let lt : c.partition_point-index.result < length c.args.starts.now = ltb-true _ _ (sym w.in-Some.ensures.lookup.0) in
          let there : slice_get c.args.starts.now c.partition_point-index.result ≡ Some w.in-Some.function.now =
          slice_get-get_or c.args.starts.now c.partition_point-index.result w.in-Some.function.now lt ∙ ap some_function (sym w.in-Some.ensures.lookup.1) in
          let one : w.in-Some.function.now ≡ x = same_Some _ _ (sym there ∙ is) in
          w.if-function-start.false (ap (λ (f : Function). f.start) one ∙ same)
      | in_default-via-in_default w ↦
          let lt = slice_get_within c.args.starts.now c.partition_point-index.result x is in
          let past = ltb-false _ _ (sym w.in_default.ensures.lookup.0) in
          absurd (omega arith)
    ]))
