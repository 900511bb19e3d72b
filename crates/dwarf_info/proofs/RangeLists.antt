-- Reading the ranges of a list one by one, as a loop does.
use Rattle.std.proofs.Common.{◌≡◌, ℕ, suc, ◌-◌, ◌+◌, ◌≤◌, ◌<◌, List, [], ◌∷◌, ◌++◌, Option, Some, None, Result, Ok, Err, refl, sym, ap, ◌∙◌, append_assoc, arith}
use Rattle.std.specs.Prelude.{option_map}
use Rattle.std.proofs.lemmas.List.{append-nil}
use Rattle.prof_bytes.specs.Fields.{Input}
use Rattle.prof_bytes.specs.Outcome.{◌>>=◌}
use Rattle.dwarf_forms.specs.Lists.{list_from}
use Rattle.dwarf_info.specs.declared.ranges.RangeListEntry.{RangeListEntry}
use Rattle.dwarf_info.specs.declared.ranges.Absent.{Absent}
use Rattle.dwarf_info.specs.Ranges.{ranges_by, base_by, ranges_from, list_ranges}

abbrev pub Pairs : Type 0
Pairs = List (ℕ × ℕ)

abbrev pub Item : Type 0
Item = Input Absent → Result (Option RangeListEntry × Input Absent) Absent

abbrev pub behind : Pairs → Option Pairs → Option Pairs
behind front pairs = option_map (λ ps. front ++ ps) pairs

one_more : (front : Pairs) (base : ℕ) (entry : RangeListEntry) (read : Result (List RangeListEntry × Input Absent) Absent)
    → behind front (list_ranges base (read >>= (λ (others, end). Ok (entry ∷ others, end)))) ≡ behind (front ++ ranges_by base entry) (list_ranges (base_by base entry) read)
unfolding ranges_from
one_more front base entry (Ok r) = ap Some (sym (append_assoc front (ranges_by base entry) (ranges_from (base_by base entry) r.0)))
one_more front base entry (Err f) = refl

pub goes_on : (item : Item) (front : Pairs) (base room i : ℕ) (input after : Input Absent) (entry : RangeListEntry) (total : Option Pairs)
    → i < room → item input ≡ Ok (Some entry, after)
    → behind front (list_ranges base (list_from item (room - i) input)) ≡ total
    → behind (front ++ ranges_by base entry) (list_ranges (base_by base entry) (list_from item (room - (i + 1)) after)) ≡ total
unfolding list_from
goes_on item front base room i input after entry total lt read so_far =
    let k : room - i ≡ suc (room - (i + 1)) = omega arith in
    let one : behind front (list_ranges base (list_from item (room - i) input)) ≡ behind (front ++ ranges_by base entry) (list_ranges (base_by base entry) (list_from item (room - (i + 1)) after)) =
    rw (k, read) (one_more front base entry (list_from item (room - (i + 1)) after)) in
    sym one ∙ so_far

pub closes : (item : Item) (front : Pairs) (base room i : ℕ) (input after : Input Absent) (total : Option Pairs)
    → i < room → item input ≡ Ok (None, after) → behind front (list_ranges base (list_from item (room - i) input)) ≡ total → Some front ≡ total
unfolding list_from ranges_from
closes item front base room i input after total lt read so_far =
    let k : room - i ≡ suc (room - (i + 1)) = omega arith in
    let one : behind front (list_ranges base (list_from item (room - i) input)) ≡ Some front = rw (k, read) (ap Some (append-nil front)) in
    sym one ∙ so_far

pub stops : (found : Absent) (item : Item) (front : Pairs) (base room i : ℕ) (input : Input Absent) (total : Option Pairs)
    → i < room → item input ≡ Err found → behind front (list_ranges base (list_from item (room - i) input)) ≡ total → None ≡ total
unfolding list_from
stops found item front base room i input total lt read so_far =
    let k : room - i ≡ suc (room - (i + 1)) = omega arith in
    let one : behind front (list_ranges base (list_from item (room - i) input)) ≡ None = rw (k, read) refl in
    sym one ∙ so_far

pub runs_out : (item : Item) (front : Pairs) (base room i : ℕ) (input : Input Absent) (total : Option Pairs)
    → room ≤ i → behind front (list_ranges base (list_from item (room - i) input)) ≡ total → None ≡ total
unfolding list_from
runs_out item front base room i input total le so_far =
    let k : room - i ≡ 0 = omega arith in
    let one : behind front (list_ranges base (list_from item (room - i) input)) ≡ None = rw k refl in
    sym one ∙ so_far

pub nothing_behind : (pairs : Option Pairs) → behind [] pairs ≡ pairs
nothing_behind None = refl
nothing_behind (Some ps) = refl
