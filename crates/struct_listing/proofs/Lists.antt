-- Lists that are filtered, and items beside their numbers.
use Rattle.std.proofs.Common.{◌≡◌, ℕ, ◌+◌, ◌<◌, Bool, true, false, cond, List, [], ◌∷◌, ◌++◌, length, get_or, Some, refl, sym, ap, ◌∙◌, subst, arith}
use Rattle.std.specs.Prelude.{filter, slice_get}
use Rattle.std.specs.List.{flat_map}
use Rattle.std.proofs.lemmas.List.FromFn.{length-enumerate_from, get_or-enumerate_from}
use Rattle.std.proofs.lemmas.Option.{slice_get_within, get_or_from_slice_get}
use Rattle.dwarf_inline.specs.declared.subroutine.Subroutine.{Subroutine}
use Rattle.dwarf_inline.specs.Structure.{ProgramStructure}
use Rattle.scope_find.specs.Found.{Numbered, numbered}

-- what a filter leaves gives, each of the others gives nothing
pub flat_filter : {X : Type 0} (g : X → Bool) (f : X → List ℕ) (xs : List X) → flat_map f (filter g xs) ≡ flat_map (λ x. cond (g x) (f x) []) xs
flat_filter g f [] = refl
flat_filter g f (x ∷ xs) =
    elim (g x) as (λ b. flat_map f (cond b (x ∷ filter g xs) (filter g xs)) ≡ cond b (f x) [] ++ flat_map (λ y. cond (g y) (f y) []) xs) [
      | true ↦ ap (λ (l : List ℕ). f x ++ l) (flat_filter g f xs)
      | false ↦ flat_filter g f xs
    ]

pub numbered_within : (s : ProgramStructure) (number : ℕ) (item : Subroutine) → slice_get s.items number ≡ Some item → number < length (numbered s)
numbered_within s number item there =
    subst (λ (m : ℕ). number < m) (sym (length-enumerate_from 0 s.items)) (slice_get_within s.items number item there)

pub numbered_at : (s : ProgramStructure) (number : ℕ) (item : Subroutine) (d : Numbered) → slice_get s.items number ≡ Some item → get_or (numbered s) number d ≡ (number, item)
numbered_at s number item d there =
    let lt : number < length s.items = slice_get_within s.items number item there in
    let e : 0 + number ≡ number = omega arith in
    get_or-enumerate_from 0 s.items number d lt ∙ (λ j. (e j, get_or_from_slice_get s.items number item d.1 there j))
