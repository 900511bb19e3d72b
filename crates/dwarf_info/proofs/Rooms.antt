-- Each entry, unit and entry of a range list takes a byte or more, so more room than there are bytes changes nothing.
use Rattle.std.proofs.Common.{◌≡◌, ℕ, ◌+◌, ◌≤◌, List, [], ◌∷◌, length, Option, Some, None, Result, Ok, Err, arith, ◌==◌}
use Rattle.prof_bytes.specs.Fields.{Input, number_from, uleb_from}
use Rattle.prof_bytes.specs.Reading.{left_of}
use Rattle.prof_bytes.specs.Outcome.{◌>>=◌}
use Rattle.dwarf_forms.specs.declared.declaration.Abbrev.{Abbrev}
use Rattle.dwarf_forms.specs.declared.declaration.Spec.{Spec}
use Rattle.dwarf_forms.specs.Lists.{list_from}
use Rattle.dwarf_forms.specs.Runs.{run_from}
use Rattle.dwarf_forms.specs.Values.{value_from}
use Rattle.dwarf_forms.proofs.FormMoves.{value_moves}
use Rattle.dwarf_forms.proofs.Moves.{Moves, number_moves, uleb_moves, moves_then, moves_less, moves_if, stays}
use Rattle.dwarf_forms.proofs.Rooms.{Takes, Misses, StepMoves, step_then, step_if, same_list, same_run, byte_misses, misses_first}
use Rattle.dwarf_info.specs.declared.constants.TheConstants.{DW_RLE_end_of_list, DW_RLE_base_addressx, DW_RLE_startx_endx, DW_RLE_startx_length}
use Rattle.dwarf_info.specs.declared.constants.TheConstants.{DW_RLE_offset_pair, DW_RLE_base_address, DW_RLE_start_end, DW_RLE_start_length}
use Rattle.dwarf_info.specs.declared.entry.UnitContext.{UnitContext}
use Rattle.dwarf_info.specs.declared.unit_header.UnitHeader.{UnitHeader}
use Rattle.dwarf_info.specs.declared.fault.InfoFault.{InfoFault}
use Rattle.dwarf_info.specs.declared.fault.InfoFault.TheVariants.{BadUnit, UnknownForm}
use Rattle.dwarf_info.specs.declared.ranges.Absent.{Absent}
use Rattle.dwarf_info.specs.declared.ranges.RangeListEntry.{RangeListEntry}
use Rattle.dwarf_info.specs.declared.ranges.RangeListEntry.TheVariants.{BaseAddress, StartEnd, OffsetPair}
use Rattle.dwarf_info.specs.Sections.{Sections, element_in}
use Rattle.dwarf_info.specs.Values.{passed_from, declaration_of}
use Rattle.dwarf_info.specs.Entries.{declared_entry, entry_from, entries_from}
use Rattle.dwarf_info.specs.UnitHeaders.{unit_header_from}
use Rattle.dwarf_info.specs.Units.{read_unit, unit_from, info_input, units_of}
use Rattle.dwarf_info.specs.Ranges.{Field, or_absent, indexed_from, target_address_from, one_field, two_fields, start_length, kind_from, range_entry_from, range_list_from}
use Rattle.dwarf_info.proofs.UnitMoves.{Parts, parts}
use Rattle.prof_bytes.specs.Fields.{part_from}

-- ---- entries

pub passed_moves : (unknown : InfoFault) (specs : List Spec) (input : Input InfoFault) → Moves 0 input (passed_from unknown specs input)
unfolding passed_from
passed_moves unknown [] input = stays {X = Unit {0}} input tt
passed_moves unknown (spec ∷ specs) input =
    moves_then 0 0 input (value_from unknown spec.form spec.implicit input) _ (value_moves unknown spec.form spec.implicit input) (λ r. passed_moves unknown specs r.1)

declared_moves : (index depth offset : ℕ) (found : Option Abbrev) (input : Input InfoFault) → StepMoves 0 input (declared_entry index depth offset found input)
declared_moves index depth offset None input = tt
declared_moves index depth offset (Some d) input =
    step_then 0 0 input (passed_from (UnknownForm offset) d.specs input) _ (passed_moves (UnknownForm offset) d.specs input) (λ r. omega arith)

pub entry_moves : (declared : List Abbrev) (index depth : ℕ) (input : Input InfoFault) → StepMoves 1 input (entry_from declared index depth input)
unfolding entry_from
entry_moves declared index depth input =
    let set : Input InfoFault = record input { missing = BadUnit input.at.offset } in
    step_then 1 0 set (uleb_from set) _ (uleb_moves set) (λ code.
    step_if 0 code.1 (code.0 == 0) _ (declared_entry index depth input.at.offset (declaration_of declared code.0) code.1) (omega arith)
    (declared_moves index depth input.at.offset (declaration_of declared code.0) code.1))

pub entries : (declared : List Abbrev) (index room : ℕ) (input : Input InfoFault) → length (left_of input.at) ≤ room
    → run_from (entry_from declared index) room 0 input ≡ entries_from declared index input
entries declared index room input le = same_run (entry_from declared index) (entry_moves declared index) room (length (left_of input.at)) 0 input le (omega arith)

-- ---- units

unit_moves : (sections : Sections) (index : ℕ) (input : Input InfoFault) → StepMoves 1 input (unit_from sections index input)
unfolding unit_from
unit_moves sections index input = parted (part_from (record input { missing = BadUnit input.at.offset })) (parts (record input { missing = BadUnit input.at.offset }))
  where
    given : (next : Input InfoFault) → length (left_of next.at) + 1 ≤ length (left_of input.at) → (read : Result (List UnitContext) InfoFault)
        → StepMoves 1 input (read >>= (λ found. Ok (found, index + length found, next)))
    given next le (Err fault) = tt
    given next le (Ok units) = le

    headed : (next : Input InfoFault) → length (left_of next.at) + 1 ≤ length (left_of input.at) → (read : Result (Option UnitHeader × Input InfoFault) InfoFault)
        → StepMoves 1 input (read >>= (λ (header, body). read_unit sections index header >>= (λ found. Ok (found, index + length found, next))))
    headed next le (Err fault) = tt
    headed next le (Ok h) = given next le (read_unit sections index h.0)

    parted : (read : Result (Input InfoFault × Input InfoFault) InfoFault) → Parts input read
        → StepMoves 1 input (read >>= (λ (part, next). unit_header_from input.at.offset next.at.offset part >>= (λ (header, body). read_unit sections index header >>= (λ found. Ok (found, index + length found, next)))))
    parted (Err fault) p = tt
    parted (Ok r) p = headed r.1 (let l = p.1 in omega arith) (unit_header_from input.at.offset r.1.at.offset r.0)

pub units : (sections : Sections) (room : ℕ) → length sections.info ≤ room → run_from (unit_from sections) room 0 (info_input sections) ≡ units_of sections
units sections room le = same_run (unit_from sections) (unit_moves sections) room (length (left_of (info_input sections).at)) 0 (info_input sections) le (omega arith)

-- ---- range lists

abbrev Passes : Field → Type 0
Passes field = (input : Input Absent) → Moves 0 input (field input)

uleb_passes : Passes uleb_from
uleb_passes input = moves_less 1 0 input (uleb_from input) (omega arith) (uleb_moves input)

address_passes : Passes target_address_from
address_passes input = moves_less 4 0 input (number_from 4 input) (omega arith) (number_moves 4 input)

indexed_passes : (sections : Sections) (addr_base : Option ℕ) → Passes (indexed_from sections addr_base)
indexed_passes sections addr_base input =
    moves_then 0 0 input (uleb_from input) _ (uleb_passes input) (λ i. found i.1 (or_absent (element_in sections.addr addr_base i.0)))
  where
    found : (after : Input Absent) (address : Result ℕ Absent) → Moves 0 after (address >>= (λ a. Ok (a, after)))
    found after (Err fault) = tt
    found after (Ok a) = stays after a

one_passes : (field : Field) → Passes field → (entry : ℕ → RangeListEntry) (input : Input Absent) → Moves 0 input (one_field field entry input)
one_passes field passes entry input = moves_then 0 0 input (field input) _ (passes input) (λ a. stays {X = Option RangeListEntry} a.1 (Some (entry a.0)))

two_pass : (first second : Field) → Passes first → Passes second → (entry : ℕ → ℕ → RangeListEntry) (input : Input Absent) → Moves 0 input (two_fields first second entry input)
two_pass first second one two entry input =
    moves_then 0 0 input (first input) _ (one input) (λ a. moves_then 0 0 a.1 (second a.1) _ (two a.1) (λ b. stays {X = Option RangeListEntry} b.1 (Some (entry a.0 b.0))))

kind_moves : (sections : Sections) (addr_base : Option ℕ) (kind : ℕ) (input : Input Absent) → Moves 0 input (kind_from sections addr_base kind input)
kind_moves sections addr_base kind input =
    let x : Field = indexed_from sections addr_base in
    let xs : Passes x = indexed_passes sections addr_base in
    moves_if 0 input (kind == DW_RLE_end_of_list) _ _ (stays {X = Option RangeListEntry} input None)
    (moves_if 0 input (kind == DW_RLE_base_addressx) _ _ (one_passes x xs BaseAddress input)
    (moves_if 0 input (kind == DW_RLE_startx_endx) _ _ (two_pass x x xs xs StartEnd input)
    (moves_if 0 input (kind == DW_RLE_startx_length) _ _ (two_pass x uleb_from xs uleb_passes start_length input)
    (moves_if 0 input (kind == DW_RLE_offset_pair) _ _ (two_pass uleb_from uleb_from uleb_passes uleb_passes OffsetPair input)
    (moves_if 0 input (kind == DW_RLE_base_address) _ _ (one_passes target_address_from address_passes BaseAddress input)
    (moves_if 0 input (kind == DW_RLE_start_end) _ _ (two_pass target_address_from target_address_from address_passes address_passes StartEnd input)
    (moves_if 0 input (kind == DW_RLE_start_length) _ _ (two_pass target_address_from uleb_from address_passes uleb_passes start_length input) tt)))))))

range_takes : (sections : Sections) (addr_base : Option ℕ) → Takes (range_entry_from sections addr_base)
unfolding range_entry_from
range_takes sections addr_base input = moves_then 1 0 input (number_from 1 input) _ (number_moves 1 input) (λ kind. kind_moves sections addr_base kind.0 kind.1)

range_misses : (sections : Sections) (addr_base : Option ℕ) → Misses (range_entry_from sections addr_base)
unfolding range_entry_from
range_misses sections addr_base input none = misses_first (number_from 1 input) _ input.missing (byte_misses input none)

pub ranges : (sections : Sections) (addr_base : Option ℕ) (room : ℕ) (input : Input Absent) → length (left_of input.at) ≤ room
    → list_from (range_entry_from sections addr_base) room input ≡ range_list_from sections addr_base input
ranges sections addr_base room input le =
    same_list (range_entry_from sections addr_base) (range_takes sections addr_base) (range_misses sections addr_base) room (length (left_of input.at)) input le (omega arith)
