-- Links lead to entries, and the ranges of a list are no more than its bytes.
use Rattle.std.proofs.Common.{◌≡◌, ℕ, zero, suc, ◌<◌, ◌≤◌, ◌^◌, Bool, true, false, cond, List, [], ◌∷◌, length, Option, Some, None, Result, Ok, Err, refl, lit<, lit≤, arith, length-append, length-drop}
use Rattle.std.specs.Prelude.{option_and_then, ◌==◌, position, nat_lt, nat_le, unwrap_or, IfSome, IfOk}
use Rattle.std.specs.Option.{option_or}
use Rattle.std.proofs.lemmas.Bool.{ltb-true}
use Rattle.std.proofs.lemmas.Bool.Decides.{nat_tests}
use Rattle.std.specs.List.{position_or_len}
use Rattle.prof_bytes.specs.Fields.{Input}
use Rattle.prof_bytes.specs.Reading.{left_of}
use Rattle.prof_bytes.specs.Outcome.{◌>>=◌}
use Rattle.dwarf_forms.specs.Lists.{list_from, with_first}
use Rattle.dwarf_info.specs.declared.constants.TheConstants.{DW_AT_abstract_origin, DW_AT_specification, DW_AT_ranges}
use Rattle.dwarf_info.specs.declared.ranges.RangeListEntry.{RangeListEntry}
use Rattle.dwarf_info.specs.declared.ranges.RangeListEntry.TheVariants.{BaseAddress, StartEnd, OffsetPair}
use Rattle.dwarf_info.specs.declared.ranges.Absent.{Absent}
use Rattle.dwarf_info.specs.Sections.{Sections}
use Rattle.dwarf_info.specs.Units.{DebugInfo}
use Rattle.dwarf_info.specs.Queries.{UnitEntry, unit_entry, index_at, reference_value, attribute_value, attribute_entry, link_of}
use Rattle.dwarf_info.specs.Ranges.{ranges_by, base_by, ranges_from, range_entry_from, range_list_from, list_ranges, rnglist_offset, ranges_at, entry_ranges, ranges_of, one_or_none, attribute_ranges, low_high_of, absent}

-- ---- links

first_within : (k n : ℕ) (b : Bool) → nat_lt k n ≡ b → IfSome (cond b (Some k) None) (λ j. j < n)
first_within k n true e = ltb-true k n e
first_within k n false e = tt

position_within : {X : Type 0} (p : X → Bool) (xs : List X) → IfSome (position p xs) (λ j. j < length xs)
position_within p xs = first_within (position_or_len p xs) (length xs) _ refl

then_within : {X : Type 0} (n : ℕ) (f : X → Option ℕ) (o : Option X) → ((x : X) → IfSome (f x) (λ j. j < n)) → IfSome (option_and_then f o) (λ j. j < n)
then_within n f None all = tt
then_within n f (Some x) all = all x

or_within : (n : ℕ) (a b : Option ℕ) → IfSome a (λ j. j < n) → IfSome b (λ j. j < n) → IfSome (option_or a b) (λ j. j < n)
or_within n None b one other = other
or_within n (Some a) b one other = one

attribute_within : (info : DebugInfo) (attribute : ℕ) (e : UnitEntry) → IfSome (attribute_entry info attribute e) (λ j. j < length info.entries)
attribute_within info attribute e =
    then_within (length info.entries) (index_at info.entries) (option_and_then (reference_value e.context.header.offset) (attribute_value info attribute e))
    (λ offset. position_within (λ d. d.offset == offset) info.entries)

-- a link leads to an entry
pub link_bound : (info : DebugInfo) (i : ℕ) → IfSome (link_of info i) (λ j. j < length info.entries)
link_bound info i =
    then_within (length info.entries)
    (λ e. option_or (attribute_entry info DW_AT_abstract_origin e) (attribute_entry info DW_AT_specification e)) (unit_entry info i)
    (λ e. or_within (length info.entries) (attribute_entry info DW_AT_abstract_origin e) (attribute_entry info DW_AT_specification e)
    (attribute_within info DW_AT_abstract_origin e) (attribute_within info DW_AT_specification e))

-- ---- ranges

abbrev Pairs : Type 0
Pairs = List (ℕ × ℕ)

abbrev Few : {X : Type 0} → ℕ → Result (List X × Input Absent) Absent → Type 0
Few n read = IfOk read (λ r. length r.0 ≤ n)

cons_few : {X : Type 0} (n : ℕ) (x : X) (read : Result (List X × Input Absent) Absent) → Few n read → Few (suc n) (read >>= (λ (others, end). Ok (x ∷ others, end)))
cons_few n x (Ok r) le = omega arith
cons_few n x (Err f) le = tt

first_few : {X : Type 0} (n : ℕ) (first : Option X) (after : Input Absent) (rest : Input Absent → Result (List X × Input Absent) Absent)
    → ((input : Input Absent) → Few n (rest input)) → Few (suc n) (with_first first after rest)
first_few n None after rest all = omega arith
first_few n (Some x) after rest all = cons_few n x (rest after) (all after)

read_few : {X : Type 0} (n : ℕ) (read : Result (Option X × Input Absent) Absent) (rest : Input Absent → Result (List X × Input Absent) Absent)
    → ((input : Input Absent) → Few n (rest input)) → Few (suc n) (read >>= (λ (first, after). with_first first after rest))
read_few n (Ok r) rest all = first_few n r.0 r.1 rest all
read_few n (Err f) rest all = tt

list_few : {X : Type 0} (item : Input Absent → Result (Option X × Input Absent) Absent) (room : ℕ) (input : Input Absent) → Few room (list_from item room input)
unfolding list_from
list_few item zero input = tt
list_few item (suc room) input = read_few room (item input) (list_from item room) (list_few item room)

one_at_most : (base : ℕ) (entry : RangeListEntry) → length (ranges_by base entry) ≤ 1
one_at_most base (BaseAddress address) = lit≤ tt
one_at_most base (StartEnd start end) = lit≤ tt
one_at_most base (OffsetPair start end) = lit≤ tt

one_each : (base : ℕ) (entries : List RangeListEntry) → length (ranges_from base entries) ≤ length entries
unfolding ranges_from
one_each base [] = lit≤ tt
one_each base (entry ∷ entries) =
    omega (arith, length-append (ranges_by base entry) (ranges_from (base_by base entry) entries), one_at_most base entry, one_each (base_by base entry) entries)

listed_few : (n base : ℕ) (read : Result (List RangeListEntry × Input Absent) Absent) → Few n read → IfSome (list_ranges base read) (λ v. length v ≤ n)
listed_few n base (Ok r) le = omega (arith, one_each base r.0)
listed_few n base (Err f) le = tt

placed_few : (sections : Sections) (addr_base : Option ℕ) (offset : ℕ) (b : Bool)
    → Few (length sections.rnglists) (cond b (Ok (record { at = record { whole = sections.rnglists; offset = offset }; missing = absent })) (Err absent) >>= range_list_from sections addr_base)
placed_few sections addr_base offset false = tt
placed_few sections addr_base offset true =
    let input : Input Absent = record { at = record { whole = sections.rnglists; offset = offset }; missing = absent } in
    fewer _ _ _ (omega (arith, length-drop offset sections.rnglists)) (list_few (range_entry_from sections addr_base) (length (left_of input.at)) input)
  where
    fewer : (m n : ℕ) (read : Result (List RangeListEntry × Input Absent) Absent) → m ≤ n → Few m read → Few n read
    fewer m n (Ok r) le few = omega arith
    fewer m n (Err f) le few = tt

abbrev Below : ℕ → Option Pairs → Type 0
Below n o = IfSome o (λ v. length v < n)

below : (m n : ℕ) (o : Option Pairs) → m < n → IfSome o (λ v. length v ≤ m) → Below n o
below m n None lt le = tt
below m n (Some v) lt le = omega arith

then_below : {X : Type 0} (n : ℕ) (f : X → Option Pairs) (o : Option X) → ((x : X) → Below n (f x)) → Below n (option_and_then f o)
then_below n f None all = tt
then_below n f (Some x) all = all x

one_below : (n : ℕ) (range : Option (ℕ × ℕ)) → 1 < n → length (one_or_none range) < n
one_below n None lt = omega arith
one_below n (Some r) lt = omega arith

or_below : (n : ℕ) (o : Option Pairs) (other : Pairs) → Below n o → length other < n → length (unwrap_or o other) < n
or_below n None other one two = two
or_below n (Some v) other one two = one

entry_below : (n : ℕ) (info : DebugInfo) (o : Option UnitEntry) → length info.sections.rnglists < n → 1 < n → length (entry_ranges info o) < n
entry_below n info None lists some = omega arith
entry_below n info (Some e) lists some =
    or_below n (attribute_ranges info e) (one_or_none (low_high_of info e))
    (then_below n (ranges_at info.sections e.context.addr_base (unwrap_or e.context.low_pc 0))
    (option_and_then (rnglist_offset info.sections e.context.rnglists_base) (attribute_value info DW_AT_ranges e))
    (λ offset. below (length info.sections.rnglists) n (ranges_at info.sections e.context.addr_base (unwrap_or e.context.low_pc 0) offset) lists
    (listed_few (length info.sections.rnglists) (unwrap_or e.context.low_pc 0) _ (placed_few info.sections e.context.addr_base offset (nat_le offset (length info.sections.rnglists))))))
    (one_below n (low_high_of info e) some)

-- an entry has fewer ranges than the section of range lists has bytes, or one
pub ranges_bound : (info : DebugInfo) (i : ℕ) → length info.sections.rnglists < 2 ^ 31 → length (ranges_of info i) < 2 ^ 31
ranges_bound info i lists = entry_below (2 ^ 31) info (unit_entry info i) lists (lit< tt)

-- no list begins behind the section's end
pub behind_end : (sections : Sections) (addr_base : Option ℕ) (base offset : ℕ) → length sections.rnglists < offset → ranges_at sections addr_base base offset ≡ None
behind_end sections addr_base base offset past =
    let test : nat_le offset (length sections.rnglists) ≡ false = grind (arith, nat_tests) in
    rw test refl
