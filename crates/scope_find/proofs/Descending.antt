-- One pass over the items is by descendants.
use Rattle.std.proofs.Common.{◌≡◌, ℕ, zero, suc, ◌+◌, ◌-◌, ◌≤◌, ◌<◌, Bool, true, false, cond, List, [], length, take, drop, Option, Some, None, refl, sym, ap, ◌∙◌, subst, inl, inr, arith}
use Rattle.std.proofs.lemmas.Bool.{cases_lt}
use Rattle.std.proofs.lemmas.List.FromFn.{length-enumerate_from}
use Rattle.dwarf_inline.specs.Structure.{ProgramStructure}
use Rattle.scope_find.specs.Found.{Numbered, numbered}
use Rattle.scope_find.specs.Laws.{first_inlined, inlined_with, InlinedByDescendants}
use Rattle.scope_find.specs.private.Spans.{inlined_from, item_at, called}
use Rattle.scope_find.proofs.Chains.{past_drop, number_drop, at_end, at_all, skip, call}

none_first : (s : ProgramStructure) (address n : ℕ) → first_inlined s address (take n []) ≡ None
none_first s address zero = refl
none_first s address (suc n) = refl

past_all : (s : ProgramStructure) (low : ℕ) → length s.items ≤ low → drop low (numbered s) ≡ []
past_all s low ge = past_drop (numbered s) low (subst (λ (m : ℕ). m ≤ low) (sym (length-enumerate_from 0 s.items)) ge)

-- of the items from `low` up to `end`, the first inlined subroutine that holds the address, and then what is inlined
-- into it
abbrev then_into : ProgramStructure → ℕ → ℕ → ℕ → Type 0
then_into s address low end = inlined_from s address low end ≡ inlined_with s address (first_inlined s address (take (end - low) (drop low (numbered s))))

behind_all : (s : ProgramStructure) (address low end : ℕ) → length s.items ≤ low → then_into s address low end
behind_all s address low end ge =
    at_all s address low end ge
    ∙ sym (ap (inlined_with s address) (ap (λ (items : List Numbered). first_inlined s address (take (end - low) items)) (past_all s low ge) ∙ none_first s address (end - low)))

behind_end : (s : ProgramStructure) (address low end : ℕ) → end ≤ low → then_into s address low end
behind_end s address low end le =
    let none : zero ≡ end - low = omega arith in
    at_end s address low end le ∙ ap (λ (n : ℕ). inlined_with s address (first_inlined s address (take n (drop low (numbered s))))) none

one_more : (s : ProgramStructure) (address low end : ℕ) → low < end → low < length s.items → then_into s address (low + 1) end → then_into s address low end
one_more s address low end lt within again =
    let some : end - low ≡ suc (end - (low + 1)) = omega arith in
    by (called s address low) refl
    ∙ ap (λ (items : List Numbered). inlined_with s address (first_inlined s address items)) (sym (ap (λ (n : ℕ). take n (drop low (numbered s))) some ∙ ap (λ (items : List Numbered). take (suc (end - (low + 1))) items) (number_drop s low within)))
  where
    rest : Option Numbered
    rest = first_inlined s address (take (end - (low + 1)) (drop (low + 1) (numbered s)))

    by : (b : Bool) → called s address low ≡ b → inlined_from s address low end ≡ inlined_with s address (cond b (Some (low, item_at s low)) rest)
    by true is = call s address low end lt within is
    by false fails = skip s address low end lt within fails ∙ again

from_low : (m : ℕ) (s : ProgramStructure) (address low end : ℕ) → length s.items ≤ low + m → then_into s address low end
from_low zero s address low end le = behind_all s address low end (omega arith)
from_low (suc m) s address low end le =
    elim (cases_lt low (length s.items)) [
      | inr ge ↦ behind_all s address low end ge
      | inl within ↦ elim (cases_lt low end) [
        | inr ge ↦ behind_end s address low end ge
        | inl lt ↦ one_more s address low end lt within (from_low m s address (low + 1) end (omega arith))
      ]
    ]

pub by_descendants : InlinedByDescendants
by_descendants s address i = from_low (length s.items) s address (i.0 + 1) i.1.next_after_subtree (omega arith)
