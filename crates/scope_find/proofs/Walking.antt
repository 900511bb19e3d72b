-- A walk over the items finds what the definitions say of an address.
use Rattle.std.proofs.Common.{◌≡◌, ℕ, ◌+◌, ◌<◌, ◌≤◌, Bool, false, ◌&&◌, not, List, ◌∷◌, length, Some, None, ap, subst, inl, inr, arith}
use Rattle.std.specs.Prelude.{slice_get}
use Rattle.std.proofs.lemmas.Bool.{cases_lt}
use Rattle.dwarf_inline.specs.declared.subroutine.Subroutine.{Subroutine}
use Rattle.dwarf_inline.specs.Structure.{ProgramStructure, IsWholeStructure}
use Rattle.scope_find.specs.Found.{Numbered, item_holds, subprogram_at}
use Rattle.scope_find.specs.private.Painted.{owns}
use Rattle.scope_find.specs.private.Spans.{no_item}
use Rattle.scope_find.proofs.Procedures.{find_none}

pub none_owns : (s : ProgramStructure) (address number : ℕ) → ((k : ℕ) → k < number → owns s address k ≡ false) → owns s address number ≡ false → (k : ℕ) → k < number + 1 → owns s address k ≡ false
none_owns s address number none last k lt = elim (cases_lt k number) [
  | inl less ↦ none k less
  | inr ge ↦ let e : number ≡ k = omega arith in subst (λ (j : ℕ). owns s address j ≡ false) e last
]

-- one more call is inlined
pub one_deeper : (levels all : ℕ) (items rest : List Subroutine) (item : Subroutine) → all ≡ levels + length items → items ≡ item ∷ rest → all ≡ levels + 1 + length rest
one_deeper levels all items rest item told first = let e : length items ≡ length (item ∷ rest) = ap (λ (is : List Subroutine). length is) first in omega arith

pub no_owner : (s : ProgramStructure) (address count : ℕ) → length s.items ≤ count → ((k : ℕ) → k < count → owns s address k ≡ false) → subprogram_at s address ≡ None
no_owner s address count le none = find_none owned s.items 0 no_item (λ k lt. none k (omega arith))
  where
    owned : Numbered → Bool
    owned i = not i.1.inlined && item_holds s address i.1

pub end_within : (s : ProgramStructure) → IsWholeStructure s → (number : ℕ) (item : Subroutine) → slice_get s.items number ≡ Some item → item.next_after_subtree ≤ length s.items
end_within s whole number item there = (whole.after number item there).1
