-- The places of the items' details.
use Rattle.std.proofs.Common.{◌≡◌, ℕ, ◌+◌, ◌<◌, List, [], ◌∷◌, ◌++◌, length, get_or, Some, inl, inr, refl, sym, ap, ◌∙◌, arith, length-append}
use Rattle.std.specs.Prelude.{slice_get, Option}
use Rattle.std.proofs.Math.Seq.{get_or-append_seam}
use Rattle.std.proofs.lemmas.List.{get_or_append_left}
use Rattle.std.proofs.lemmas.Bool.{cases_lt}
use Rattle.std.proofs.lemmas.Option.{slice_get_within}
use Rattle.elf_image.specs.Image.{ProgramImage}
use Rattle.dwarf_info.specs.Subroutines.{Indexed, SubroutineEntry, item_entries, subroutine_entry}
use Rattle.dwarf_info.specs.Units.{DebugInfo}
use Rattle.dwarf_line.specs.Lines.{Lines}
use Rattle.dwarf_inline.specs.declared.details.Detail.{Detail}
use Rattle.dwarf_inline.specs.Structure.{ranges_before}
use Rattle.dwarf_inline.specs.private.Details.{detail_of, IsPlaced, ArePlaced}
use Rattle.dwarf_inline.proofs.Lists.{any_default}
use Rattle.dwarf_inline.proofs.KeptEntries.{nothing}

some_detail : Detail → Option Detail
some_detail d = Some d

pub none_placed : (info : DebugInfo) (lines : Lines) (image : ProgramImage) → ArePlaced info lines image 0 [] []
none_placed info lines image = record { long = refl; few = omega arith; are = λ k d lt. absurd (omega arith) }

pub one_placed : (info : DebugInfo) (lines : Lines) (image : ProgramImage) (k at first : ℕ) (item : SubroutineEntry) (places places' : List ℕ) (details details' : List Detail)
    → k < length (item_entries info) → ArePlaced info lines image k places details → first ≡ ranges_before info image (get_or (item_entries info) k nothing).0
    → item ≡ subroutine_entry (get_or (item_entries info) k nothing) → IsPlaced places details (detail_of info lines image at first item) places' details'
    → ArePlaced info lines image (k + 1) places' details'
unfolding some_detail
one_placed info lines image k at first item places places' details details' within old before same new =
    let all : List Indexed = item_entries info in
    let count : length places ≡ k = old.long in
    record {
      long = let l = ap length new.pushed ∙ length-append places (new.place ∷ []) in omega arith;
      few = let a = old.few in let b = new.few in omega arith;
      are = λ j d lt. elim (cases_lt j k) [
        | inl less ↦
            let left : get_or places' j 0 ≡ get_or places j 0 = ap (λ (ps : List ℕ). get_or ps j 0) new.pushed ∙ get_or_append_left places (new.place ∷ []) 0 j (omega arith) in
            let was = old.are j d less in
            let there : get_or places j 0 < length details = slice_get_within details (get_or places j 0) _ was.1 in (was.0, ap (slice_get details') left ∙ new.keeps (get_or places j 0) there ∙ was.1)
        | inr ge ↦
            let one : j ≡ k = omega arith in
            let last : get_or places' j 0 ≡ new.place =
            ap (λ (ps : List ℕ). get_or ps j 0) new.pushed ∙ ap (λ (n : ℕ). get_or (places ++ new.place ∷ []) n 0) (let e : j ≡ length places = omega arith in e)
            ∙ get_or-append_seam places new.place [] 0 in
            let here : get_or all k nothing ≡ get_or all j d = any_default all k nothing d within ∙ ap (λ (n : ℕ). get_or all n d) (sym one) in (
              at,
              ap (slice_get details') last ∙ new.there
                  ∙ ap (λ (n : ℕ). some_detail (detail_of info lines image at n item)) before
                  ∙ ap (λ (s : SubroutineEntry). some_detail (detail_of info lines image at (ranges_before info image (get_or all k nothing).0) s)) same
                  ∙ ap (λ (e : Indexed). some_detail (detail_of info lines image at (ranges_before info image e.0) (subroutine_entry e))) here,
            )
      ];
    }
