-- The files of several measurements.
use Rattle.std.proofs.Common.{◌≡◌, ℕ, ◌+◌, ◌<◌, ◌≤◌, List, [], ◌∷◌, ◌++◌, length, map, replicate, take, take_all, get_or, refl, sym, ap, ◌∙◌}
use Rattle.std.proofs.lemmas.List.{map-append, take_more}
use Rattle.command_line.specs.declared.kind.FileKind.{FileKind}
use Rattle.command_line.specs.declared.kind.FileKind.TheVariants as kinds
use Rattle.command_line.specs.declared.kind.Want.{Want}
use Rattle.command_line.specs.Kind.{Wanted, kinds_of, view_want}
use Rattle.command_line.specs.Words.{wanted}

-- the kinds of measurements of these names
pub measured_kinds : (names : List (List ℕ)) → kinds_of (map (wanted kinds.Measurement) names) ≡ replicate (length names) kinds.Measurement
measured_kinds [] = refl
measured_kinds (name ∷ names) = ap (λ (l : List FileKind). kinds.Measurement ∷ l) (measured_kinds names)

-- the kinds of a program's file and of these
pub merged_kinds : (reads : List Wanted) (elf : List ℕ) (names : List (List ℕ)) → reads ≡ wanted kinds.Program elf ∷ map (wanted kinds.Measurement) names → kinds_of reads ≡ kinds.Program ∷ replicate (length names) kinds.Measurement
merged_kinds reads elf names are = ap kinds_of are ∙ ap (λ (l : List FileKind). kinds.Program ∷ l) (measured_kinds names)

-- one measurement more
pub file_more : (elf : List ℕ) (names : List (List ℕ)) (i : ℕ) (d : List ℕ) (before after : List Want) (w : Want) → i < length names → map view_want before ≡ wanted kinds.Program elf ∷ map (wanted kinds.Measurement) (take i names)
    → view_want w ≡ wanted kinds.Measurement (get_or names i d) → after ≡ before ++ w ∷ [] → map view_want after ≡ wanted kinds.Program elf ∷ map (wanted kinds.Measurement) (take (i + 1) names)
file_more elf names i d before after w within so_far is more =
    ap (map view_want) more ∙ map-append view_want before (w ∷ []) ∙ (λ k. so_far k ++ is k ∷ [])
    ∙ sym (ap (λ (l : List Wanted). wanted kinds.Program elf ∷ l) (ap (map (wanted kinds.Measurement)) (take_more names i d within) ∙ map-append (wanted kinds.Measurement) (take i names) (get_or names i d ∷ [])))

pub all_files : (elf : List ℕ) (names : List (List ℕ)) (i : ℕ) (reads : List Wanted) → length names ≤ i → reads ≡ wanted kinds.Program elf ∷ map (wanted kinds.Measurement) (take i names) → reads ≡ wanted kinds.Program elf ∷ map (wanted kinds.Measurement) names
all_files elf names i reads past so_far = so_far ∙ ap (λ (l : List (List ℕ)). wanted kinds.Program elf ∷ map (wanted kinds.Measurement) l) (take_all i names past)

pub ruleset file_steps = (file_more, all_files, merged_kinds)
