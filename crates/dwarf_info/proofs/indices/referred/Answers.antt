use Rattle.std.proofs.Common.{◌≡◌, ◌∙◌, ◌==◌, ◌+◌, ℕ, ap, List, arith}
use Rattle.std.specs.Prelude.{position}
use Rattle.dwarf_info.specs.Queries.{index_at}
use Rattle.dwarf_info.proofs.Indexed.{same_index}
use Rattle.dwarf_info.proofs.indices.referred.Goals as goal

pub returns-in-UnitRef : goal.returns-in-UnitRef
returns-in-UnitRef c entries are =
    let there : c.from.result + c.from-in-UnitRef.result ≡ c.args.start + c.in-UnitRef.offset = (let a = c.from.ensures in let b = c.from-in-UnitRef.ensures in omega arith) in
    rw c.in-UnitRef.is (c.index_of.ensures ∙ ap (λ (os : List ℕ). position (λ o. o == (c.from.result + c.from-in-UnitRef.result)) os) are
    ∙ same_index entries (c.from.result + c.from-in-UnitRef.result) ∙ ap (index_at entries) there)

pub returns-in-InfoRef : goal.returns-in-InfoRef
returns-in-InfoRef c entries are =
    rw c.in-InfoRef.is (c.index_of-in-InfoRef.ensures ∙ ap (λ (os : List ℕ). position (λ o. o == c.from-in-InfoRef.result) os) are
    ∙ same_index entries c.from-in-InfoRef.result ∙ ap (index_at entries) c.from-in-InfoRef.ensures)
