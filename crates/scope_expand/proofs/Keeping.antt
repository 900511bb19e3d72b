-- What a memo keeps, as it is read and cut.
use Rattle.std.proofs.Common.{◌≡◌, ◌<◌, ◌≤◌, ℕ, List, ◌++◌, Contains, length, take, drop, sym, ap, ◌∙◌, arith}
use Rattle.std.specs.List.{flat_map}
use Rattle.std.proofs.lemmas.List.{take-append-drop, take-append-le, length-take, get_or-take}
use Rattle.std.proofs.lemmas.List.Concat.{flat_map-append}
use Rattle.std.proofs.lemmas.List.Elements.{All-contains}
use Rattle.std.proofs.Math.Seq.{take-append_seam}
use Rattle.scope_find.specs.declared.found.Found.{Found}
use Rattle.scope_find.specs.Found.{ProgramScopes, found_at}
use Rattle.scope_find.specs.Views.{found_view}
use Rattle.scope_types.specs.declared.scope.Scope.{Scope}
use Rattle.scope_types.specs.declared.scope.Scope.TheVariants.{Call}
use Rattle.scope_types.specs.Expansion.{frame_scopes}
use Rattle.scope_expand.specs.declared.memo.KeptFound.{KeptFound}
use Rattle.scope_expand.specs.declared.memo.KeptCaller.{KeptCaller}
use Rattle.scope_expand.specs.Kept.{FoundFits, CallersFit, scopes_of_kept}

-- what is kept of an address is what is found there
pub found_hit : (program : ProgramScopes) (kept : List KeptFound) (pc : ℕ) (found : Found) → FoundFits program kept
    → Contains kept (record { pc = pc; found = found }) → found_view found ≡ found_at program pc
found_hit program kept pc found fits there =
    All-contains (λ (k : KeptFound). found_view k.found ≡ found_at program k.pc) kept (record { pc = pc; found = found }) fits.found there

module _ (program : ProgramScopes) where
  abbrev called : KeptCaller → List Scope
  called caller = frame_scopes Call (found_at program caller.pc)

  take_twice : (k n : ℕ) (callers : List KeptCaller) → k ≤ length (take n callers) → take k (take n callers) ≡ take k callers
  take_twice k n callers within = sym (take-append-le k (take n callers) (drop n callers) within) ∙ ap (take k) (take-append-drop n callers)

  front_scopes : (n : ℕ) (callers : List KeptCaller) → take (length (flat_map called (take n callers))) (flat_map called callers) ≡ flat_map called (take n callers)
  front_scopes n callers =
      let parts : flat_map called callers ≡ flat_map called (take n callers) ++ flat_map called (drop n callers) =
      sym (ap (flat_map called) (take-append-drop n callers)) ∙ flat_map-append called (take n callers) (drop n callers) in
      ap (take (length (flat_map called (take n callers)))) parts ∙ take-append_seam (flat_map called (take n callers)) (flat_map called (drop n callers))

-- the outermost callers with their scopes
pub callers_cut : (program : ProgramScopes) (callers : List KeptCaller) (scopes : List Scope) (n end : ℕ) → CallersFit program callers scopes
    → end ≡ length (scopes_of_kept program (take n callers)) → CallersFit program (take n callers) (take end scopes)
callers_cut program callers scopes n end fits is = record {
  scopes = ap (λ (e : ℕ). take e scopes) is ∙ ap (take (length (scopes_of_kept program (take n callers)))) fits.scopes ∙ front_scopes program n callers;
  begins = λ k none lt.
      let both = length-take n callers in
      let less : k < n = omega (arith, lt, both) in
      let inside : k < length callers = omega (arith, lt, both) in
      let within : k ≤ length (take n callers) = omega (arith, lt) in
      ap (λ (c : KeptCaller). c.begin) (get_or-take n callers k none less) ∙ fits.begins k none inside
      ∙ ap (λ (cs : List KeptCaller). length (scopes_of_kept program cs)) (sym (take_twice program k n callers within));
}
