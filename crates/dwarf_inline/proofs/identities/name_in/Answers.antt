use Rattle.std.proofs.Common.{rules, ◌≡◌, ◌∙◌, ◌<◌, ℕ, List, ltb, Some, Option, length, sym, ap, arith}
use Rattle.std.specs.Prelude.{option_map, slice_get}
use Rattle.std.proofs.lemmas.List.Sorted.{IsPartitionPoint-from_clause, IsPartitionedBy-ltb}
use Rattle.std.proofs.lemmas.Bool.{ltb-true, ltb-false}
use Rattle.std.proofs.lemmas.Option.{same_Some, slice_get-get_or, slice_get_within}
use Rattle.dwarf_inline.specs.declared.identities.ProcName.{ProcName}
use Rattle.dwarf_inline.specs.private.Names.{Pair}
use Rattle.dwarf_inline.proofs.NameLists.{name_found, name_missing}
use Rattle.dwarf_inline.proofs.identities.name_in.Goals as goal
use Rattle.dwarf_inline.proofs.identities.name_in.Goals.{in_default-via-in-Some+else-name-identity, in_default-via-in_default}

abbrev some_text : List ℕ → Option (List ℕ)
some_text text = Some text

abbrev some_name : ProcName → Option ProcName
some_name n = Some n

pub returns-in-Some : goal.returns-in-Some
returns-in-Some c =
    let point =
    IsPartitionPoint-from_clause (λ (s : ProcName). ltb s.identity c.args.identity) c.args.names.now c.partition_point-index.result c.partition_point-index.ensures.partitioned
    (IsPartitionedBy-ltb (λ (s : ProcName). s.identity) c.args.names.now c.args.identity c.requires) (λ a r q k. search rules) in
    let lt : c.partition_point-index.result < length c.args.names.now = ltb-true _ _ (sym c.in-Some.ensures.lookup.0) in
    let there : slice_get c.args.names.now c.partition_point-index.result ≡ Some c.in-Some.name.now =
    slice_get-get_or c.args.names.now c.partition_point-index.result c.in-Some.name.now lt ∙ ap some_name (sym c.in-Some.ensures.lookup.1) in
    ap some_text c.cut.ensures
    ∙ sym (ap (λ (o : Option Pair). option_map (λ p. p.1) o)
    (name_found c.args.names.now c.args.identity c.partition_point-index.result c.in-Some.name.now c.partition_point-index.ensures.bound point there c.if-name-identity.true))

pub returns-in_default : goal.returns-in_default
returns-in_default c =
    let point =
    IsPartitionPoint-from_clause (λ (s : ProcName). ltb s.identity c.args.identity) c.args.names.now c.partition_point-index.result c.partition_point-index.ensures.partitioned
    (IsPartitionedBy-ltb (λ (s : ProcName). s.identity) c.args.names.now c.args.identity c.requires) (λ a r q k. search rules) in
    sym (ap (λ (o : Option Pair). option_map (λ p. p.1) o)
    (name_missing c.args.names.now c.args.identity c.partition_point-index.result c.requires c.partition_point-index.ensures.bound point
    (λ x is same. elim c.in_default.branch [
      | in_default-via-in-Some+else-name-identity w ↦
          let lt : c.partition_point-index.result < length c.args.names.now = ltb-true _ _ (sym w.in-Some.ensures.lookup.0) in
          let there : slice_get c.args.names.now c.partition_point-index.result ≡ Some w.in-Some.name.now =
          slice_get-get_or c.args.names.now c.partition_point-index.result w.in-Some.name.now lt ∙ ap some_name (sym w.in-Some.ensures.lookup.1) in
          let one : w.in-Some.name.now ≡ x = same_Some _ _ (sym there ∙ is) in
          w.if-name-identity.false (ap (λ (n : ProcName). n.identity) one ∙ same)
      | in_default-via-in_default w ↦
          let lt = slice_get_within c.args.names.now c.partition_point-index.result x is in
          let past = ltb-false _ _ (sym w.in_default.ensures.lookup.0) in
          absurd (omega arith)
    ])))
