-- What an interval has is what the definitions say of its addresses.
use Rattle.std.proofs.Common.{◌≡◌, ℕ, ◌-◌, ◌<◌, List, [], ◌∷◌, ◌++◌, map, length, Option, Some, None, refl, sym, ap, ◌∙◌, subst, arith, append_assoc}
use Rattle.std.specs.Prelude.{slice_get, unwrap_or, IfSome}
use Rattle.std.proofs.lemmas.List.{length-map, map_push, append-nil}
use Rattle.std.proofs.lemmas.Option.{slice_get_within, get_or_from_slice_get}
use Rattle.scope_types.specs.declared.scope.ProcId.{ProcId}
use Rattle.scope_types.specs.declared.scope.ProcId.TheVariants.{Die}
use Rattle.scope_types.specs.declared.scope.LineId.{LineId}
use Rattle.scope_types.specs.declared.scope.LineId.TheVariants.{Address}
use Rattle.scope_types.specs.Expansion.{FoundAt}
use Rattle.dwarf_line.specs.Sequences.{line_at}
use Rattle.dwarf_inline.specs.declared.subroutine.Subroutine.{Subroutine}
use Rattle.dwarf_inline.specs.Structure.{ProgramStructure}
use Rattle.scope_find.specs.declared.intervals.AddressInterval.{AddressInterval}
use Rattle.scope_find.specs.declared.calls.NextCall.{NextCall}
use Rattle.scope_find.specs.Found.{ProgramScopes, subprogram_at, inlined_into, inline_scope, procedure_at, inlines_at, found_at}
use Rattle.scope_find.specs.declared.found.InlineAt.{InlineAt}
use Rattle.scope_find.specs.Views.{inline_view}
use Rattle.scope_find.specs.private.Spans.{IsProcedureAt, no_item, item_at, into_number, calls_at}
use Rattle.scope_find.specs.private.Calls.{HasCallsAt}
use Rattle.scope_find.specs.private.Intervals.{interval_at, IsRightAt, IsFoundIn}
use Rattle.scope_find.specs.private.KnownPlaces.{HasLevelsAt, HasInlinesAt}
use Rattle.scope_find.specs.private.Scopes.{subprogram_in, levels_in, procedure_by}

into_item : (s : ProgramStructure) (address number : ℕ) (item : Subroutine) → slice_get s.items number ≡ Some item → into_number s address number ≡ inlined_into s address (number, item)
into_item s address number item there = ap (λ (i : Subroutine). inlined_into s address (number, i)) (get_or_from_slice_get s.items number item no_item there)

module _ (p : ProgramScopes) (address : ℕ) where
  pub procedure_by_number : (o : Option ℕ) → IsProcedureAt p.structure address o → procedure_by p.structure p.image address o ≡ procedure_at p address (subprogram_at p.structure address)
  procedure_by_number None is = ap (procedure_at p address) (sym is)
  procedure_by_number (Some number) is =
      ap (λ (i : Subroutine). Die i.identity) (get_or_from_slice_get p.structure.items number is.item no_item is.there) ∙ ap (procedure_at p address) (sym is.found)

  calls_by_number : (o : Option ℕ) → IsProcedureAt p.structure address o → map inline_scope (calls_at p.structure address o) ≡ inlines_at p address (subprogram_at p.structure address)
  calls_by_number None is = ap (inlines_at p address) (sym is)
  calls_by_number (Some number) is =
      ap (λ (items : List Subroutine). map inline_scope items) (into_item p.structure address number is.item is.there) ∙ ap (inlines_at p address) (sym is.found)

  pub number_within : (o : Option ℕ) → IsProcedureAt p.structure address o → IfSome o (λ number. number < length p.structure.items)
  number_within None is = tt
  number_within (Some number) is = slice_get_within p.structure.items number is.item is.there

  pub levels_found : (levels : ℕ) → HasLevelsAt p.structure address levels → levels ≡ length (inlines_at p address (subprogram_at p.structure address))
  levels_found levels has =
      has.count
      ∙ sym (length-map (calls_at p.structure address has.number) inline_scope)
      ∙ ap (λ (is : List (ProcId × LineId)). length is) (calls_by_number has.number has.procedure)

  pub inlines_found : (inlines : List InlineAt) → HasInlinesAt p.structure address inlines → map inline_view inlines ≡ inlines_at p address (subprogram_at p.structure address)
  inlines_found inlines has = has.told ∙ calls_by_number has.number has.procedure

  pub same_found : (f : FoundAt) → f.procedure ≡ procedure_at p address (subprogram_at p.structure address) → f.inlines ≡ inlines_at p address (subprogram_at p.structure address) → f.line ≡ unwrap_or (line_at p.lines.sequences address) (Address address) → f ≡ found_at p address
  same_found f a b c = λ i. record { procedure = a i; inlines = b i; line = c i }

module _ (s : ProgramStructure) (address : ℕ) (calls : List NextCall) where
  pub interval_procedure : (interval : Option AddressInterval) → IsRightAt s calls address interval → IsProcedureAt s address (subprogram_in interval)
  interval_procedure None right = right
  interval_procedure (Some q) right = right.procedure

  pub interval_has : (interval : Option AddressInterval) → IsRightAt s calls address interval → HasCallsAt s calls address (subprogram_in interval)
  interval_has None right = tt
  interval_has (Some q) right = right.has

  pub interval_count : (interval : Option AddressInterval) → IsRightAt s calls address interval → levels_in interval ≡ length (calls_at s address (subprogram_in interval))
  interval_count None right = refl
  interval_count (Some q) right = right.levels_are

-- one more call
pub scopes_more : (s : ProgramStructure) (address number next : ℕ) (item : Subroutine) (before after : List InlineAt) (one : InlineAt) (all : List (ProcId × LineId)) → slice_get s.items next ≡ Some item → inline_view one ≡ inline_scope item
    → after ≡ before ++ one ∷ [] → into_number s address number ≡ item_at s next ∷ into_number s address next → all ≡ map inline_view before ++ map inline_scope (into_number s address number)
    → all ≡ map inline_view after ++ map inline_scope (into_number s address next)
scopes_more s address number next item before after one all there view pushed first so_far =
    let rest : List (ProcId × LineId) = map inline_scope (into_number s address next) in
    let g : item_at s next ≡ item = get_or_from_slice_get s.items next item no_item there in
    so_far
    ∙ ap (λ (items : List Subroutine). map inline_view before ++ map inline_scope items) first
    ∙ ap (λ (x : ProcId × LineId). map inline_view before ++ x ∷ rest) (ap inline_scope g ∙ sym view)
    ∙ sym (append_assoc (map inline_view before) (inline_view one ∷ []) rest)
    ∙ ap (λ (xs : List (ProcId × LineId)). xs ++ rest) (sym (ap (λ (is : List InlineAt). map inline_view is) pushed ∙ map_push inline_view before one))

pub scopes_all : (before : List InlineAt) (items : List Subroutine) (all : List (ProcId × LineId)) → items ≡ [] → all ≡ map inline_view before ++ map inline_scope items → map inline_view before ≡ all
scopes_all before items all none so_far =
    sym (so_far ∙ ap (λ (is : List Subroutine). map inline_view before ++ map inline_scope is) none ∙ append-nil (map inline_view before))

pub levels_less : (left : ℕ) (items rest : List Subroutine) (item : Subroutine) → items ≡ item ∷ rest → left ≡ length items → left - 1 ≡ length rest
levels_less left items rest item first all = let e : left ≡ length (item ∷ rest) = all ∙ ap (λ (is : List Subroutine). length is) first in omega arith

-- what a finder keeps says what is so at an address
pub right_at : (s : ProgramStructure) (intervals seen : List AddressInterval) (calls : List NextCall) (address : ℕ) (interval : Option AddressInterval) → IsFoundIn s intervals calls → interval ≡ interval_at seen address → seen ≡ intervals → IsRightAt s calls address interval
right_at s intervals seen calls address interval found at same =
    subst (λ (o : Option AddressInterval). IsRightAt s calls address o) (sym (at ∙ ap (λ (ps : List AddressInterval). interval_at ps address) same)) (found.intervals_are.right address)
