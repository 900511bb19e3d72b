use Rattle.std.proofs.Common.{rules, ◌≡◌, ◌-◌, ◌∙◌, leb, ltb, List, length, drop, take, sym, subst, arith}
use Rattle.std.specs.List.Sorted.{IsNonDecreasingBy}
use Rattle.std.proofs.lemmas.List.{length-drop, take_all}
use Rattle.std.proofs.lemmas.List.Sorted.{IsNonDecreasingBy-drop, IsPartitionPoint-from_clause, IsPartitionedBy-leb, IsPartitionedBy-ltb}
use Rattle.struct_listing.specs.declared.listed.ListedInline.{ListedInline}
use Rattle.struct_listing.proofs.Below.{below_and_after, listed_rise, rest_of, taken}
use Rattle.struct_listing.proofs.listed.listed_below.Goals as goal

pub returns : goal.returns
returns c = λ s is.
    let start = c.partition_point-start.result in
    let all : List ListedInline = c.args.inlines.now in
    let rest : List ListedInline = take (length all - start) (drop start all) in
    let behind : rest ≡ drop start all = take_all (length all - start) (drop start all) (omega (arith, length-drop start all)) in
    let rise : IsNonDecreasingBy (λ (l : ListedInline). l.number) all = subst (λ (ls : List ListedInline). IsNonDecreasingBy (λ (l : ListedInline). l.number) ls) (sym is) (listed_rise s) in
    let first =
    IsPartitionPoint-from_clause (λ (l : ListedInline). leb l.number c.args.number) all start c.partition_point-start.ensures.partitioned
    (IsPartitionedBy-leb (λ (l : ListedInline). l.number) all c.args.number rise) (λ a r q k. search rules) in
    let left : rest ≡ below_and_after s c.args.number c.args.item =
    behind ∙ rest_of s c.args.number c.args.item all start is c.partition_point-start.ensures.bound first in
    let rest_rises : IsNonDecreasingBy (λ (l : ListedInline). l.number) rest =
    subst (λ (ls : List ListedInline). IsNonDecreasingBy (λ (l : ListedInline). l.number) ls) (sym behind) (IsNonDecreasingBy-drop (λ (l : ListedInline). l.number) start all rise) in
    let second =
    IsPartitionPoint-from_clause (λ (l : ListedInline). ltb l.number c.args.item.next_after_subtree) rest c.partition_point-count.result c.partition_point-count.ensures.partitioned
    (IsPartitionedBy-ltb (λ (l : ListedInline). l.number) rest c.args.item.next_after_subtree rest_rises) (λ a r q k. search rules) in
    taken s c.args.number c.args.item rest c.partition_point-count.result left c.partition_point-count.ensures.bound second
