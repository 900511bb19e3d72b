-- The schedule of a guest is read line by line.
use Rattle.std.proofs.Common.{◌≡◌, ℕ, suc, ◌+◌, ◌-◌, ◌*◌, ◌%◌, ◌^◌, ◌<◌, ◌≤◌, ◌==◌, inl, not, nat_lt, Bool, true, false, cond, List, [], ◌∷◌, ◌++◌, length, map, take, drop, position, decimal, codes, Option, Some, None, Result, Ok, refl, ap, ◌∙◌, append_assoc, arith}
use Rattle.std.specs.List.{flat_map, list_all, position_or_len, range_with_len}
use Rattle.std.proofs.Math.Seq.{drop-append-add, take-append_seam}
use Rattle.std.proofs.lemmas.Bool.{and_from, and_parts, lt-ltb, not_from_false, not-true}
use Rattle.std.proofs.lemmas.List.{length-append}
use Rattle.std.proofs.lemmas.List.Folds.{list_all-append}
use Rattle.std.proofs.lemmas.List.FromFn.{length-range_with_len}
use Rattle.prof_bytes.specs.Numerals.{decimal_in, is_digit}
use Rattle.prof_bytes.specs.Outcome.{◌>>=◌}
use Rattle.rv_run.specs.declared.schedule.Slice.{Slice}
use Rattle.rv_run.specs.declared.schedule.ScheduleFault.{ScheduleFault}
use Rattle.rv_run.specs.Schedule.{NumberedLine, Scheduled, entries, is_entry, lines, most_instructions, numbered_lines, on_line, schedule_of, slice_by, slice_cut, slice_in, slices_before, slices_of, with_first_byte}
use Rattle.guest_gen.specs.Draws.{draw, draw_state}
use Rattle.guest_gen.specs.Code.{function_count}
use Rattle.guest_gen.specs.Guest.{drawn_line, guest_of, slice_line, slice_lines, slices}
use Rattle.guest_laws.specs.Read.{drawn_slice, drawn_slices, guest_scheduled, slice_at}
use Rattle.guest_laws.proofs.Spelled.{decimal_read, no_digit, spells}

-- ---- lines

-- no byte is a line feed
abbrev plain : ℕ → Bool
plain byte = not (byte == 10)

-- no byte is a space
abbrev unspaced : ℕ → Bool
unspaced byte = not (byte == 32)

line_ends : (line rest : List ℕ) → list_all plain line ≡ true → lines (line ++ 10 ∷ rest) ≡ line ∷ lines rest
unfolding lines
line_ends [] rest bare = refl
line_ends (byte ∷ line) rest bare =
    let parts = and_parts (plain byte) (list_all plain line) bare in
    let other : (byte == 10) ≡ false = not-true (byte == 10) parts.0 in
    let more : lines (line ++ 10 ∷ rest) ≡ line ∷ lines rest = line_ends line rest parts.1 in
    let after : List (List ℕ) → List (List ℕ) = λ ls. cond (byte == 10) ([] ∷ lines (line ++ 10 ∷ rest)) (with_first_byte byte ls) in
    ap after more ∙ ap (λ (b : Bool). cond b ([] ∷ lines (line ++ 10 ∷ rest)) (with_first_byte byte (line ∷ lines rest))) other

-- ---- a space

before_space : (a b : List ℕ) → list_all unspaced a ≡ true → position_or_len (λ byte. byte == 32) (a ++ 32 ∷ b) ≡ length a
before_space [] b bare = refl
before_space (byte ∷ a) b bare =
    let parts = and_parts (unspaced byte) (list_all unspaced a) bare in
    let more = before_space a b parts.1 in
    ap (λ (t : Bool). cond t (1 + position_or_len (λ byte. byte == 32) (a ++ 32 ∷ b)) 0) parts.0 ∙ (let e : 1 + position_or_len (λ byte. byte == 32) (a ++ 32 ∷ b) ≡ suc (length a) = omega (arith, more) in e)

space_at : (a b : List ℕ) → list_all unspaced a ≡ true → position (λ byte. byte == 32) (a ++ 32 ∷ b) ≡ Some (length a)
space_at a b bare =
    let long : length (a ++ 32 ∷ b) ≡ length a + suc (length b) = length-append a (32 ∷ b) in
    let within : nat_lt (length a) (length (a ++ 32 ∷ b)) ≡ true = lt-ltb (length a) (length (a ++ 32 ∷ b)) (omega arith) in
    ap (λ (n : ℕ). cond (nat_lt n (length (a ++ 32 ∷ b))) (Some n) None) (before_space a b bare)
    ∙ ap (λ (t : Bool). cond t (Some (length a)) None) within

-- ---- a slice

-- a line is two numbers with a space between them
cut : (harts used : ℕ) (a b : List ℕ) (hart count : ℕ) → list_all unspaced a ≡ true → decimal_in 0 (harts - 1) a ≡ Some hart → decimal_in 1 (most_instructions - used) b ≡ Some count
    → slice_in harts used (a ++ 32 ∷ b) ≡ Some (record { hart = hart; count = count })
cut harts used a b hart count bare is_hart is_count =
    let front : take (length a) (a ++ 32 ∷ b) ≡ a = take-append_seam a (32 ∷ b) in
    let back : drop (length a + 1) (a ++ 32 ∷ b) ≡ b = drop-append-add a (32 ∷ b) 1 in
    ap (slice_cut harts used (a ++ 32 ∷ b)) (space_at a b bare)
    ∙ ap (λ (l : List ℕ). slice_by (decimal_in 0 (harts - 1) l) (decimal_in 1 (most_instructions - used) (drop (length a + 1) (a ++ 32 ∷ b)))) front
    ∙ ap (λ (l : List ℕ). slice_by (decimal_in 0 (harts - 1) a) (decimal_in 1 (most_instructions - used) l)) back
    ∙ ap (λ (o : Option ℕ). slice_by o (decimal_in 1 (most_instructions - used) b)) is_hart
    ∙ ap (λ (o : Option ℕ). slice_by (Some hart) o) is_count

all_are : (p q : ℕ → Bool) (word : List ℕ) → ((byte : ℕ) → p byte ≡ true → q byte ≡ true) → list_all p word ≡ true → list_all q word ≡ true
all_are p q [] each is = refl
all_are p q (byte ∷ word) each is =
    let parts = and_parts (p byte) (list_all p word) is in
    and_from (q byte) (list_all q word) (each byte parts.0) (all_are p q word each parts.1)

digit_plain : (byte : ℕ) → is_digit byte ≡ true → plain byte ≡ true
digit_plain byte is = not_from_false (byte == 10) (no_digit byte 10 is (inl (omega arith)))

digit_unspaced : (byte : ℕ) → is_digit byte ≡ true → unspaced byte ≡ true
digit_unspaced byte is = not_from_false (byte == 32) (no_digit byte 32 is (inl (omega arith)))

-- what a line of these numbers is, and what it is read as
record IsLine (body : List ℕ) (hart count : ℕ) : Type 0 where
  unbroken : list_all plain body ≡ true
  entry : (number : ℕ) → is_entry (record { number = number; bytes = body }) ≡ true
  read : (harts used : ℕ) → hart < harts → count + used ≤ most_instructions → slice_in harts used body ≡ Some (record { hart = hart; count = count })

begins : (body rest : List ℕ) (first : ℕ) → body ≡ first ∷ rest → is_digit first ≡ true → (number : ℕ) → is_entry (record { number = number; bytes = body }) ≡ true
begins body rest first is digit number =
    ap (λ (l : List ℕ). is_entry (record { number = number; bytes = l })) is ∙ not_from_false (first == 35) (no_digit first 35 digit (inl (omega arith)))

a_line : (hart count : ℕ) → hart < 2 ^ 32 → 0 < count → count < 2 ^ 32 → IsLine (decimal hart ++ 32 ∷ decimal count) hart count
a_line hart count few some small =
    let a = spells hart (omega arith) in
    let b = spells count (omega arith) in
    let da : list_all is_digit (decimal hart) ≡ true = ap (list_all is_digit) a.is ∙ a.digits in
    let db : list_all is_digit (decimal count) ≡ true = ap (list_all is_digit) b.is ∙ b.digits in
    let pa = all_are is_digit plain (decimal hart) digit_plain da in
    let pb = all_are is_digit plain (decimal count) digit_plain db in
    let ua = all_are is_digit unspaced (decimal hart) digit_unspaced da in
    let first = and_parts (is_digit a.first) (list_all is_digit a.rest) a.digits in
    record {
      unbroken = list_all-append plain (decimal hart) (32 ∷ decimal count) ∙ and_from (list_all plain (decimal hart)) (list_all plain (decimal count)) pa pb;
      entry = begins (decimal hart ++ 32 ∷ decimal count) (a.rest ++ 32 ∷ decimal count) a.first (ap (λ (l : List ℕ). l ++ 32 ∷ decimal count) a.is) first.0;
      read = λ harts used within left.
          cut harts used (decimal hart) (decimal count) hart count ua (decimal_read hart 0 (harts - 1) (omega arith) (omega arith) (omega arith))
          (decimal_read count 1 (most_instructions - used) (omega arith) (omega arith) (omega arith));
    }

-- ---- the slices

-- a line as it is drawn: its numbers, and a line feed
drawn : (a b rest : List ℕ) → (((a ++ codes " ") ++ b) ++ codes "\n") ++ rest ≡ (a ++ 32 ∷ b) ++ 10 ∷ rest
drawn a b rest =
    append_assoc ((a ++ codes " ") ++ b) (codes "\n") rest
    ∙ ap (λ (l : List ℕ). l ++ 10 ∷ rest) (append_assoc a (codes " ") b)

slice_more : (used number : ℕ) (body : List ℕ) (slice : Slice) (rest : List NumberedLine) (more : List Slice) → slice_in 4 used body ≡ Some slice → slices_of 4 (used + slice.count) rest ≡ Ok more
    → slices_of 4 used (record { number = number; bytes = body } ∷ rest) ≡ Ok (slice ∷ more)
unfolding slices_of
slice_more used number body slice rest more is next =
    let after : Slice → Result (List Slice) ScheduleFault = λ s. slices_before (s ∷ []) (slices_of 4 (used + s.count) rest) in
    let read : Option Slice → Result (List Slice) ScheduleFault = λ o. on_line number o >>= after in
    ap read is ∙ ap (slices_before (slice ∷ [])) next

-- the entries of a line and of those after it
entries_more : (number : ℕ) (body : List ℕ) (rest : List (List ℕ)) → is_entry (record { number = number; bytes = body }) ≡ true
    → entries (numbered_lines number (body ∷ rest)) ≡ record { number = number; bytes = body } ∷ entries (numbered_lines (number + 1) rest)
unfolding numbered_lines
entries_more number body rest counts =
    let line : NumberedLine = record { number = number; bytes = body } in
    ap (λ (t : Bool). cond t (line ∷ entries (numbered_lines (number + 1) rest)) (entries (numbered_lines (number + 1) rest))) counts

line_drawn : (s : ℕ) → IsLine (decimal (draw s 0 % 4) ++ 32 ∷ decimal (1 + draw s 1 % 997)) (draw s 0 % 4) (1 + draw s 1 % 997)
line_drawn s = a_line (draw s 0 % 4) (1 + draw s 1 % 997) (omega arith) (omega arith) (omega arith)

one_slice : (s used number : ℕ) (rest : List ℕ) (more : List Slice) → 997 + used ≤ most_instructions
    → slices_of 4 (used + (drawn_slice s).count) (entries (numbered_lines (number + 1) (lines rest))) ≡ Ok more
    → slices_of 4 used (entries (numbered_lines number (lines (drawn_line s ++ rest)))) ≡ Ok (drawn_slice s ∷ more)
one_slice s used number rest more left next =
    let hart : ℕ = draw s 0 % 4 in
    let count : ℕ = 1 + draw s 1 % 997 in
    let body : List ℕ = decimal hart ++ 32 ∷ decimal count in
    let line = line_drawn s in
    let cut_off : lines (drawn_line s ++ rest) ≡ body ∷ lines rest = ap lines (drawn (decimal hart) (decimal count) rest) ∙ line_ends body rest line.unbroken in
    ap (λ (ls : List (List ℕ)). slices_of 4 used (entries (numbered_lines number ls))) cut_off
    ∙ ap (slices_of 4 used) (entries_more number body (lines rest) (line.entry number))
    ∙ slice_more used number body (drawn_slice s) (entries (numbered_lines (number + 1) (lines rest))) more (line.read 4 used (omega arith) (omega arith)) next

slices_read : (s used number : ℕ) (js : List ℕ) → 997 * length js + used ≤ most_instructions
    → slices_of 4 used (entries (numbered_lines number (lines (flat_map (slice_line s) js)))) ≡ Ok (map (slice_at s) js)
unfolding slices_of lines numbered_lines slice_line slice_at
slices_read s used number [] left = refl
slices_read s used number (j ∷ js) left =
    let at : ℕ = draw_state (2 * j) s in
    let most : 997 * suc (length js) + used ≤ most_instructions = left in
    one_slice at used number (flat_map (slice_line s) js) (map (slice_at s) js) (omega arith)
    (slices_read s (used + (drawn_slice at).count) (number + 1) js (omega arith))

all_slices_read : (s count : ℕ) → 997 * count ≤ most_instructions → slices_of 4 0 (entries (numbered_lines 2 (lines (slice_lines s count)))) ≡ Ok (drawn_slices s count)
unfolding slice_lines drawn_slices
all_slices_read s count few = (let many = length-range_with_len 0 count in slices_read s 0 2 (range_with_len 0 count) (omega (arith, many, few)))

-- ---- the whole schedule

whole_read : (rest : List ℕ) (all : List Slice) → slices_of 4 0 (entries (numbered_lines 2 (lines rest))) ≡ Ok all → schedule_of (codes "harts 4\n" ++ rest) ≡ Ok (record { harts = 4; slices = all })
unfolding lines numbered_lines
whole_read rest all is =
    let scheduled : List Slice → Result Scheduled ScheduleFault = λ slices. Ok (record { harts = 4; slices = slices }) in
    let read : Result (List Slice) ScheduleFault → Result Scheduled ScheduleFault = λ r. r >>= scheduled in
    ap read is

pub schedules_are_read : (number : ℕ) → schedule_of (guest_of number).schedule ≡ Ok (guest_scheduled number)
schedules_are_read number =
    let s : ℕ = draw_state (3 * function_count) number in
    whole_read (slice_lines s slices) (drawn_slices s slices) (all_slices_read s slices (omega arith))
