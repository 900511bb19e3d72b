use Rattle.std.proofs.Common.{rules}
use Rattle.std.proofs.lemmas.List.Sorted.{IsNonDecreasingBy-from_sort_by_key}
use Rattle.dwarf_inline.specs.declared.identities.ProcName.{ProcName}
use Rattle.dwarf_inline.proofs.identities.sort_names.Goals as goal

pub returns-clause-sorted : goal.returns-clause-sorted
returns-clause-sorted c = IsNonDecreasingBy-from_sort_by_key (λ (n : ProcName). n.identity) _ c.sort_unstable_by_key.ensures.sorted (λ a r q k. search rules)
