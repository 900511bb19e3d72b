-- The subprograms' lines, an item at a time.
use Rattle.std.proofs.Common.{◌≡◌, ℕ, ◌+◌, ◌≤◌, List, ◌++◌, length, take, Some, sym, ap, ◌∙◌, arith}
use Rattle.std.specs.Prelude.{filter, slice_get}
use Rattle.std.specs.List.{flat_map}
use Rattle.std.proofs.lemmas.List.{take_all}
use Rattle.std.proofs.lemmas.List.FromFn.{length-enumerate_from}
use Rattle.prof_bytes.proofs.Appending.{append_more}
use Rattle.dwarf_inline.specs.declared.subroutine.Subroutine.{Subroutine}
use Rattle.scope_find.specs.Found.{Numbered, ProgramScopes, numbered}
use Rattle.struct_listing.specs.Listing.{is_listed_subprogram, subprogram_lines}
use Rattle.struct_listing.specs.private.Parts.{subprogram_part}
use Rattle.struct_listing.proofs.Lists.{flat_filter, numbered_at, numbered_within}

pub subprogram_more : (p : ProgramScopes) (number : ℕ) (item : Subroutine) (start now after : List ℕ) → slice_get p.structure.items number ≡ Some item
    → now ≡ start ++ flat_map (subprogram_part p) (take number (numbered p.structure)) → after ≡ now ++ subprogram_part p (number, item)
    → after ≡ start ++ flat_map (subprogram_part p) (take (number + 1) (numbered p.structure))
subprogram_more p number item start now after there so_far one =
    let d : Numbered = (number, item) in
    append_more (subprogram_part p) start now after (numbered p.structure) number d (numbered_within p.structure number item there) (sym (numbered_at p.structure number item d there)) so_far one

pub all_subprograms : (p : ProgramScopes) (number : ℕ) → length p.structure.items ≤ number
    → flat_map (subprogram_part p) (take number (numbered p.structure)) ≡ flat_map (subprogram_lines p) (filter is_listed_subprogram (numbered p.structure))
all_subprograms p number le =
    ap (flat_map (subprogram_part p)) (take_all number (numbered p.structure) (omega (arith, length-enumerate_from 0 p.structure.items)))
    ∙ sym (flat_filter is_listed_subprogram (subprogram_lines p) (numbered p.structure))
