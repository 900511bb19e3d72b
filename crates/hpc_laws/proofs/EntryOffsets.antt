-- The offsets of entries are no larger than their section's number of bytes.
use Rattle.std.proofs.Common.{◌≡◌, ℕ, zero, suc, ◌<◌, ◌≤◌, ◌==◌, Bool, true, false, List, [], length, Option, Some, None, Result, Ok, Err, IfOk, refl, ap, arith}
use Rattle.std.specs.List.{AllByRecursion}
use Rattle.std.specs.Prelude.{if◌then◌else◌}
use Rattle.std.proofs.lemmas.Bool.Decides.{nat_tests}
use Rattle.std.proofs.lemmas.List.{length-drop, length-take}
use Rattle.prof_bytes.specs.Fields.{Input, uleb_from}
use Rattle.prof_bytes.specs.Outcome.{◌>>=◌}
use Rattle.prof_bytes.specs.Reading.{left_of}
use Rattle.dwarf_forms.specs.declared.declaration.Abbrev.{Abbrev}
use Rattle.dwarf_forms.specs.Runs.{before, is_end, run_from}
use Rattle.dwarf_forms.proofs.Moves.{Moves, uleb_moves}
use Rattle.dwarf_info.specs.declared.entry.InfoEntry.{InfoEntry}
use Rattle.dwarf_info.specs.declared.entry.UnitContext.{UnitContext}
use Rattle.dwarf_info.specs.declared.fault.InfoFault.{InfoFault}
use Rattle.dwarf_info.specs.declared.fault.InfoFault.TheVariants.{BadUnit, UnknownForm}
use Rattle.dwarf_info.specs.Entries.{declared_entry, entry_from, entries_from}
use Rattle.dwarf_info.specs.Sections.{Sections}
use Rattle.dwarf_info.specs.Units.{DebugInfo, debug_info_of, declared_in, entries_in, or_none, unit_body, units_of}
use Rattle.dwarf_info.specs.Values.{declaration_of, passed_from}
use Rattle.dwarf_info.proofs.Rooms.{passed_moves}
use Rattle.hpc_laws.proofs.EachOf.{ok_then, ok_on, ok_if, each_append, each_flat, each_weaker}

abbrev In : Type 0
In = Input InfoFault

-- ---- an entry

-- what a step from an input gives: an input in as few bytes, and entries at the first one's offset
abbrev StepsWithin : ℕ → ℕ → List InfoEntry × ℕ × In → Type 0
StepsWithin most offset taken = (length taken.2.at.whole ≤ most) × AllByRecursion (λ (e : InfoEntry). e.offset ≡ offset) taken.0

moved : {X Y : Type 0} (P : Y → Type 0) (count : ℕ) (input : In) (first : Result (X × In) InfoFault) (next : X × In → Result Y InfoFault)
    → Moves count input first → ((r : X × In) → r.1.at.whole ≡ input.at.whole → IfOk (next r) P) → IfOk (first >>= next) P
moved P count input (Ok r) next moves each = each r moves.0
moved P count input (Err fault) next moves each = tt

shorter : (most : ℕ) (one other : In) → one.at.whole ≡ other.at.whole → length other.at.whole ≤ most → length one.at.whole ≤ most
shorter most one other same le = (let long = ap length same in omega (arith, long, le))

declared_steps : (most index depth offset : ℕ) (found : Option Abbrev) (input : In) → length input.at.whole ≤ most → IfOk (declared_entry index depth offset found input) (StepsWithin most offset)
declared_steps most index depth offset None input le = tt
declared_steps most index depth offset (Some d) input le =
    moved (StepsWithin most offset) 0 input (passed_from (UnknownForm offset) d.specs input) _ (passed_moves (UnknownForm offset) d.specs input) (λ r same. (shorter most r.1 input same le, (refl, tt)))

entry_steps : (most : ℕ) (declared : List Abbrev) (index depth : ℕ) (input : In) → length input.at.whole ≤ most → IfOk (entry_from declared index depth input) (StepsWithin most input.at.offset)
unfolding entry_from
entry_steps most declared index depth input le =
    let set : In = record input { missing = BadUnit input.at.offset } in
    moved (StepsWithin most input.at.offset) 1 set (uleb_from set) _ (uleb_moves set) (λ code same.
    ok_if (StepsWithin most input.at.offset) (code.0 == 0) _ (declared_entry index depth input.at.offset (declaration_of declared code.0) code.1)
    (shorter most code.1 set same le, tt)
    (declared_steps most index depth input.at.offset (declaration_of declared code.0) code.1 (shorter most code.1 set same le)))

-- ---- all entries

abbrev IsOffsetWithin : ℕ → InfoEntry → Type 0
IsOffsetWithin most e = e.offset ≤ most

abbrev AreOffsetsWithin : ℕ → List InfoEntry → Type 0
AreOffsetsWithin most entries = AllByRecursion (IsOffsetWithin most) entries

some_left : (n : ℕ) → (n == 0) ≡ false → 0 < n
some_left n e = grind (arith, nat_tests)

-- where bytes are left, the input's offset is within them
offset_within : (most : ℕ) (input : In) → length input.at.whole ≤ most → is_end input ≡ false → input.at.offset ≤ most
offset_within most input le more =
    let some = some_left (length (left_of input.at)) more in
    let left = length-drop input.at.offset input.at.whole in
    omega (arith, some, left, le)

run_within : (most : ℕ) (declared : List Abbrev) (index room depth : ℕ) (input : In) → length input.at.whole ≤ most → IfOk (run_from (entry_from declared index) room depth input) (AreOffsetsWithin most)
unfolding run_from
run_within most declared index zero depth input le = tt
run_within most declared index (suc room) depth input le = go (is_end input) refl (λ next after fits. run_within most declared index room next after fits)
  where
    go : (ends : Bool) → is_end input ≡ ends
        → ((next : ℕ) (after : In) → length after.at.whole ≤ most → IfOk (run_from (entry_from declared index) room next after) (AreOffsetsWithin most))
        → IfOk (let read : Result (List InfoEntry) InfoFault = if ends then Ok [] else entry_from declared index depth input >>= (λ taken. before taken.0 (run_from (entry_from declared index) room taken.1 taken.2)) in read) (AreOffsetsWithin most)
    go true is again = tt
    go false is again =
        ok_on (StepsWithin most input.at.offset) (AreOffsetsWithin most) (entry_from declared index depth input) _ (entry_steps most declared index depth input le) (λ taken steps.
        ok_on (AreOffsetsWithin most) (AreOffsetsWithin most) (run_from (entry_from declared index) room taken.1 taken.2) _ (again taken.1 taken.2 steps.0) (λ others all.
        each_append (IsOffsetWithin most) taken.0 others
        (each_weaker (λ (e : InfoEntry). e.offset ≡ input.at.offset) (IsOffsetWithin most) (λ e at. (let within = offset_within most input le is in omega (arith, at, within))) taken.0 steps.1) all))

-- ---- all units

kept : (most : ℕ) (read : Result (List InfoEntry) InfoFault) → IfOk read (AreOffsetsWithin most) → AreOffsetsWithin most (or_none read)
kept most (Ok entries) all = all
kept most (Err fault) all = tt

unit_within : (sections : Sections) (context : UnitContext) → AreOffsetsWithin (length sections.info) (entries_in sections context)
unit_within sections context =
    let body : In = unit_body sections context.header in
    let le : length body.at.whole ≤ length sections.info = (let long = length-take context.header.end sections.info in omega (arith, long)) in
    kept (length sections.info) (entries_from (declared_in sections context) context.index body) (run_within (length sections.info) (declared_in sections context) context.index (length (left_of body.at)) 0 body le)

pub entries_within : (sections : Sections) → IfOk (debug_info_of sections) (λ info. AllByRecursion (λ e. e.offset ≤ length sections.info) info.entries)
unfolding debug_info_of
entries_within sections =
    ok_then (λ (info : DebugInfo). AreOffsetsWithin (length sections.info) info.entries) (units_of sections) _ (λ units. each_flat (IsOffsetWithin (length sections.info)) (entries_in sections) (unit_within sections) units)
