-- The segments of an image end low, and its functions start low.
use Rattle.std.proofs.Common.{◌≡◌, ℕ, ◌+◌, ◌^◌, ◌<◌, ◌≤◌, ◌==◌, ◌&&◌, not, Bool, true, false, List, [], filter, Option, Some, None, Ok, refl, subst, arith}
use Rattle.std.specs.List.{AllByRecursion}
use Rattle.std.proofs.lemmas.List.Elements.{recursion_from_All}
use Rattle.prof_bytes.specs.Outcome.{◌>>=◌}
use Rattle.prof_bytes.proofs.Outcomes.{bind_ok, ok_same}
use Rattle.elf_image.specs.declared.elf.TheConstants.{SHN_UNDEF, STT_FUNC}
use Rattle.elf_image.specs.declared.part.Segment.{Segment}
use Rattle.elf_image.specs.Headers.{function_symbol, functions, functions_of, has_bytes, is_function, segments, symbol_table, symbols_of}
use Rattle.elf_image.specs.Image.{FunctionSymbol, IsWithin, ProgramImage, counts}
use Rattle.elf_image.specs.Reading.{checked_all_segments, checked_header, checked_sections, checked_symbols, image_of, image_of_file}
use Rattle.elf_image.proofs.LoadHeaders.{all_within}
use Rattle.hpc_laws.proofs.EachOf.{Domain, each_map, each_passes, each_weaker}
use Rattle.hpc_laws.proofs.ItemNumbers.{AreLowSegments, counts_low}

-- a section's header, and a symbol
abbrev SectionHeader : Type 0
SectionHeader = Domain has_bytes

abbrev Symbol : Type 0
Symbol = Domain (is_function [])

abbrev pub StartsLow : FunctionSymbol → Type 0
StartsLow f = f.start < 2 ^ 32

functions_low : (file : List ℕ) (table : Option SectionHeader) → AreLowSegments (segments file) → AllByRecursion StartsLow (functions_of file table)
functions_low file None low = tt
functions_low file (Some table) low =
    each_map StartsLow (function_symbol file table) (filter (is_function (segments file)) (symbols_of file table))
    (each_passes (λ (s : Symbol). s.st_value < 2 ^ 32) (is_function (segments file)) (λ s is. counts_low (segments file) low s.st_value (s.st_value + s.st_size) (counted s is)) (symbols_of file table))
  where
    last : (a b c : Bool) → (a && b && c) ≡ true → c ≡ true
    last true true true e = refl
    last true true false e = absurd cc
    last true false c e = absurd cc
    last false b c e = absurd cc

    counted : (s : Symbol) → is_function (segments file) s ≡ true → counts (segments file) s.st_value (s.st_value + s.st_size) ≡ true
    counted s is = last (s.st_type == STT_FUNC) (not (s.st_shndx == SHN_UNDEF)) (counts (segments file) s.st_value (s.st_value + s.st_size)) is

-- what the image of a file is, and that its segments were checked
abbrev pub WasChecked : List ℕ → ProgramImage → Type 0
WasChecked file image = (checked_all_segments file ≡ Ok tt) × (image_of_file file ≡ image)

pub was_checked : (file : List ℕ) (image : ProgramImage) → image_of file ≡ Ok image → WasChecked file image
unfolding image_of
was_checked file image is =
    let a = bind_ok (checked_header file) (λ _. checked_all_segments file >>= λ _. checked_sections file >>= λ _. checked_symbols file (symbol_table file) >>= λ _. Ok (image_of_file file)) image is in
    let b = bind_ok (checked_all_segments file) (λ _. checked_sections file >>= λ _. checked_symbols file (symbol_table file) >>= λ _. Ok (image_of_file file)) image a.2 in
    let c = bind_ok (checked_sections file) (λ _. checked_symbols file (symbol_table file) >>= λ _. Ok (image_of_file file)) image b.2 in
    let d = bind_ok (checked_symbols file (symbol_table file)) (λ _. Ok (image_of_file file)) image c.2 in
    (b.1, ok_same (image_of_file file) image d.2)

-- an image whose segments end low, and whose functions start low
pub record IsLowImage (image : ProgramImage) : Type 0 where
  pub segments : AreLowSegments image.segments
  pub functions : AllByRecursion StartsLow image.functions

file_low : (file : List ℕ) → checked_all_segments file ≡ Ok tt → IsLowImage (image_of_file file)
unfolding functions
file_low file checked =
    let within : AllByRecursion (IsWithin file) (segments file) = recursion_from_All (IsWithin file) (segments file) (all_within file checked) in
    let low : AreLowSegments (segments file) = each_weaker (IsWithin file) (λ (s : Segment). s.end ≤ 2 ^ 32) (λ s is. (let le = is.low in omega (arith, le))) (segments file) within in
    record { segments = low; functions = functions_low file (symbol_table file) low }

pub image_low : (file : List ℕ) (image : ProgramImage) → image_of file ≡ Ok image → IsLowImage image
image_low file image is = (let was = was_checked file image is in subst IsLowImage was.1 (file_low file was.0))
