-- How many bytes a unit and its header take.
use Rattle.std.proofs.Common.{◌≡◌, ℕ, ◌+◌, ◌≤◌, Bool, true, false, inl, inr, [], length, take, Option, Some, None, Result, Ok, Err}
use Rattle.std.proofs.Common.{refl, sym, ap, ◌∙◌, arith, ◌==◌, ◌&&◌}
use Rattle.std.specs.Prelude.{nat_lt, nat_le, ◌||◌, if◌then◌else◌}
use Rattle.std.proofs.lemmas.Bool.{cases_lt, lt-ltb}
use Rattle.std.proofs.lemmas.List.{length-drop, length-take}
use Rattle.prof_bytes.specs.Fields.{Input, number_from, part_from, first_reserved_length}
use Rattle.prof_bytes.specs.Reading.{left_of, moved, up_to}
use Rattle.prof_bytes.specs.Outcome.{◌>>=◌}
use Rattle.dwarf_forms.proofs.Moves.{Moves, number_moves, moves_then, moves_if, moves_less, stays}
use Rattle.dwarf_info.specs.declared.constants.TheConstants.{DW_UT_type}
use Rattle.dwarf_forms.specs.Runs.{RunStep}
use Rattle.dwarf_info.specs.declared.entry.UnitContext.{UnitContext}
use Rattle.dwarf_info.specs.declared.unit_header.UnitHeader.{UnitHeader}
use Rattle.dwarf_info.specs.declared.fault.InfoFault.{InfoFault}
use Rattle.dwarf_info.specs.declared.fault.InfoFault.TheVariants.{BadUnit}
use Rattle.dwarf_info.specs.UnitHeaders.{checked_unit_header, fields_from, version5_from, by_version, unit_header_from}
use Rattle.dwarf_info.specs.Units.{unit_from, read_unit}
use Rattle.dwarf_info.specs.Sections.{Sections}

-- the part and what is after it are in the same bytes, after the length
abbrev pub Parts : {F : Type 0} → Input F → Result (Input F × Input F) F → Type 0
Parts input (Ok r) = (r.1.at.whole ≡ input.at.whole) × (length (left_of r.0.at) + length (left_of r.1.at) + 4 ≤ length (left_of input.at))
Parts input (Err fault) = Unit {0}

pub parts : {F : Type 0} (input : Input F) → Parts input (part_from input)
parts {F = F} input = measured (number_from 4 input) (number_moves 4 input)
  where
    counted : (size : ℕ) (body : Input F) (b : Bool) → (b ≡ false → size ≤ length (left_of body.at)) → Moves 4 input (Ok (size, body))
        → Parts input ((if b then Err input.missing else Ok (size, body)) >>= (λ (size, body). Ok (record body { at = up_to (body.at.offset + size) body.at }, record body { at = moved size body.at })))
    counted size body true fits moves = tt
    counted size body false fits moves =
        let le = fits refl in
        let whole = length-drop body.at.offset body.at.whole in
        let front = length-take (body.at.offset + size) body.at.whole in
        let part = length-drop body.at.offset (take (body.at.offset + size) body.at.whole) in
        let behind = length-drop (body.at.offset + size) body.at.whole in
        let took = moves.1 in
        (moves.0, omega arith)

    within : (size long : ℕ) (reserved : Bool) → (reserved || nat_lt long size) ≡ false → size ≤ long
    within size long true e = absurd cc
    within size long false e =
        elim (cases_lt long size) [
          | inl lt ↦ let t : nat_lt long size ≡ true = lt-ltb long size lt in absurd cc
          | inr ge ↦ ge
        ]

    measured : (found : Result (ℕ × Input F) F) → Moves 4 input found
        → Parts input ((found >>= (λ (size, body). if nat_le first_reserved_length size || nat_lt (length (left_of body.at)) size then Err input.missing else Ok (size, body)))
        >>= (λ (size, body). Ok (record body { at = up_to (body.at.offset + size) body.at }, record body { at = moved size body.at })))
    measured (Err fault) moves = tt
    measured (Ok r) moves = counted r.0 r.1 (nat_le first_reserved_length r.0 || nat_lt (length (left_of r.1.at)) r.0) (within r.0 (length (left_of r.1.at)) (nat_le first_reserved_length r.0)) moves

fields_move : (offset end unit_type : ℕ) (input : Input InfoFault) → Moves 0 input (fields_from offset end unit_type input)
fields_move offset end unit_type input =
    moves_then 0 0 input (number_from 1 input) _ (moves_less 1 0 input (number_from 1 input) (omega arith) (number_moves 1 input)) (λ size.
    moves_then 0 0 size.1 (number_from 4 size.1) _ (moves_less 4 0 size.1 (number_from 4 size.1) (omega arith) (number_moves 4 size.1)) (λ abbrevs.
    checked abbrevs.1 (checked_unit_header unit_type size.0 (record { offset = offset; end = end; debug_abbrev_offset = abbrevs.0; first_entry = abbrevs.1.at.offset }))))
  where
    checked : (after : Input InfoFault) (header : Result UnitHeader InfoFault) → Moves 0 after (header >>= (λ h. Ok (Some h, after)))
    checked after (Ok header) = stays after (Some header)
    checked after (Err fault) = tt

abbrev nothing : Option UnitHeader
nothing = None

version5_moves : (offset end : ℕ) (input : Input InfoFault) → Moves 0 input (version5_from offset end input)
unfolding version5_from
version5_moves offset end input =
    moves_then 0 0 input (number_from 1 input) _ (moves_less 1 0 input (number_from 1 input) (omega arith) (number_moves 1 input)) (λ kind.
    moves_if 0 kind.1 (kind.0 == DW_UT_type) (Ok (nothing, kind.1)) (fields_from offset end kind.0 kind.1) (stays kind.1 nothing) (fields_move offset end kind.0 kind.1))

by_version_moves : (version offset end : ℕ) (input : Input InfoFault) → Moves 0 input (by_version version offset end input)
by_version_moves version offset end input =
    moves_if 0 input (version == 5) (version5_from offset end input) _ (version5_moves offset end input)
    (moves_if 0 input (nat_le 2 version && nat_le version 4) (Ok (nothing, input)) (Err input.missing) (stays input nothing) tt)

pub header_moves : (offset end : ℕ) (input : Input InfoFault) → Moves 2 input (unit_header_from offset end input)
unfolding unit_header_from
header_moves offset end input =
    moves_then 2 0 input (number_from 2 input) _ (number_moves 2 input) (λ version. by_version_moves version.0 offset end version.1)

-- a unit that is passed over
pub unit_passed : (sections : Sections) (index offset end : ℕ) (input set part next after : Input InfoFault)
    → offset ≡ input.at.offset → set ≡ record input { missing = BadUnit offset } → part_from set ≡ Ok (part, next) → end ≡ next.at.offset
    → unit_header_from offset end part ≡ Ok (None, after) → unit_from sections index input ≡ Ok ([], index, next)
unfolding unit_from read_unit
unit_passed sections index offset end input set part next after offset_is set_is parted end_is headed =
    let same : record input { missing = BadUnit input.at.offset } ≡ set = ap (λ (o : ℕ). record input { missing = BadUnit o }) (sym offset_is) ∙ sym set_is in
    let here : unit_header_from input.at.offset next.at.offset part ≡ Ok (None, after) = ap (λ (o : ℕ). unit_header_from o next.at.offset part) (sym offset_is) ∙ ap (λ (e : ℕ). unit_header_from offset e part) (sym end_is) ∙ headed in
    ap (λ (r : Result (Input InfoFault × Input InfoFault) InfoFault). r >>= (λ (part, next). unit_header_from input.at.offset next.at.offset part >>= (λ (header, body). read_unit sections index header >>= (λ units. Ok (units, index + length units, next))))) (ap part_from same ∙ parted)
    ∙ ap (λ (r : Result (Option UnitHeader × Input InfoFault) InfoFault). r >>= (λ (header, body). read_unit sections index header >>= (λ units. Ok (units, index + length units, next)))) here ∙ ap given (let e : index + 0 ≡ index = omega arith in e)
  where
    given : ℕ → RunStep ℕ UnitContext InfoFault
    given n = Ok ([], n, next)
