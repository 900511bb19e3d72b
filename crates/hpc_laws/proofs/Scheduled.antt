-- What is so of every schedule and of every program that was read.
use Rattle.std.proofs.Common.{◌≡◌, ℕ, ◌+◌, ◌-◌, ◌<◌, ◌≤◌, ◌^◌, ◌==◌, ◌&&◌, Bool, true, false, cond, nat_eq, nat_le, List, [], ◌∷◌, ◌++◌, length, take, drop, Option, Some, None, Ok, refl, sym, ap, subst, arith}
use Rattle.std.specs.List.{AllByRecursion, starts_with}
use Rattle.std.specs.Prelude.{position}
use Rattle.std.proofs.lemmas.Bool.{leb-true}
use Rattle.std.proofs.lemmas.List.{get_or-drop}
use Rattle.byteorder.specs.Numbers.{little_from-lt}
use Rattle.prof_bytes.specs.Number.{IsBytes, number_in}
use Rattle.prof_bytes.specs.Outcome.{◌>>=◌}
use Rattle.elf_image.specs.Fields.{number_of, word_at}
use Rattle.elf_image.specs.Image.{ProgramImage}
use Rattle.elf_image.specs.Reading.{image_of, image_of_file}
use Rattle.rv_run.specs.declared.schedule.Slice.{Slice}
use Rattle.rv_run.specs.declared.schedule.ScheduleFault.{ScheduleFault}
use Rattle.prof_bytes.specs.Numerals.{decimal_in, decimal_value, is_decimal}
use Rattle.scope_types.specs.Limits.{most_harts}
use Rattle.rv_run.specs.Schedule.{NumberedLine, Scheduled, slices_before, entries, harts_in, harts_word, lines, most_instructions, numbered_lines, on_line, schedule_in, schedule_of, slice_by, slice_cut, slice_in, slices_of}
use Rattle.command_line.specs.declared.status.InputFault.TheVariants.{Schedule, Program}
use Rattle.program_run.specs.Program.{program, scheduled}
use Rattle.command_line.proofs.Faults.{from_faulted}
use Rattle.prof_bytes.proofs.Outcomes.{bind_ok, ok_same}
use Rattle.hpc_laws.proofs.LowImages.{was_checked}

some_same : {X : Type 0} (x y : X) → ◌≡◌ {A = Option X} (Some x) (Some y) → x ≡ y
some_same x y is = cc

-- ---- numbers

chosen : (t : Bool) (v n : ℕ) → cond t (Some v) None ≡ Some n → (t ≡ true) × (v ≡ n)
chosen true v n is = (refl, some_same v n is)
chosen false v n is = absurd cc

three : (a b c : Bool) → (a && b && c) ≡ true → (b ≡ true) × (c ≡ true)
three true true true is = (refl, refl)
three true true false is = absurd cc
three true false true is = absurd cc
three true false false is = absurd cc
three false b c is = absurd cc

bounds : (low high : ℕ) (word : List ℕ) (n : ℕ) → decimal_in low high word ≡ Some n → (low ≤ n) × (n ≤ high)
bounds low high word n is =
    let v : ℕ = decimal_value word in
    let c = chosen (is_decimal word && nat_le low v && nat_le v high) v n is in
    let t = three (is_decimal word) (nat_le low v) (nat_le v high) c.0 in
    let above : low ≤ v = leb-true low v t.0 in
    let below : v ≤ high = leb-true v high t.1 in
    (subst (λ (m : ℕ). low ≤ m) c.1 above, subst (λ (m : ℕ). m ≤ high) c.1 below)

-- ---- schedules

harts_bounds : (line : List ℕ) (n : ℕ) → harts_in line ≡ Some n → (1 ≤ n) × (n ≤ 64)
harts_bounds line n is = split (starts_with nat_eq line harts_word) is
  where
    split : (t : Bool) → cond t (decimal_in 1 most_harts (drop 6 line)) None ≡ Some n → (1 ≤ n) × (n ≤ 64)
    split true e = bounds 1 most_harts (drop 6 line) n e
    split false e = absurd cc

slice_by_own : (harts : ℕ) (first second : Option ℕ) (slice : Slice) → 1 ≤ harts → ((n : ℕ) → first ≡ Some n → n ≤ harts - 1) → slice_by first second ≡ Some slice → slice.hart < harts
slice_by_own harts (Some h) (Some c) slice some bound is =
    let same : h ≡ slice.hart = ap (λ (s : Slice). s.hart) (some_same (record { hart = h; count = c }) slice is) in
    let le = bound h refl in
    omega (arith, some, same, le)
slice_by_own harts (Some h) None slice some bound is = absurd cc
slice_by_own harts None second slice some bound is = absurd cc

slice_own : (harts used : ℕ) (line : List ℕ) (space : Option ℕ) (slice : Slice) → 1 ≤ harts → slice_cut harts used line space ≡ Some slice → slice.hart < harts
slice_own harts used line None slice some is = absurd cc
slice_own harts used line (Some space) slice some is =
    slice_by_own harts (decimal_in 0 (harts - 1) (take space line)) (decimal_in 1 (most_instructions - used) (drop (space + 1) line)) slice some (λ n e. (bounds 0 (harts - 1) (take space line) n e).1) is

fault_ok : {X : Type 0} (line : ℕ) (o : Option X) (x : X) → on_line line o ≡ Ok x → o ≡ Some x
fault_ok line (Some y) x is = ap Some (ok_same y x is)
fault_ok line None x is = absurd cc

slices_own : (harts used : ℕ) (all : List NumberedLine) (slices : List Slice) → 1 ≤ harts → slices_of harts used all ≡ Ok slices → AllByRecursion (λ slice. slice.hart < harts) slices
unfolding slices_of
slices_own harts used [] slices some is = subst (AllByRecursion (λ (slice : Slice). slice.hart < harts)) (ok_same [] slices is) tt
slices_own harts used (line ∷ rest) slices some is =
    let b = bind_ok (on_line line.number (slice_in harts used line.bytes)) (λ slice. slices_before (slice ∷ []) (slices_of harts (used + slice.count) rest)) slices is in
    let c = bind_ok (slices_of harts (used + b.0.count) rest) (λ more. Ok ((b.0 ∷ []) ++ more)) slices b.2 in
    subst (AllByRecursion (λ (slice : Slice). slice.hart < harts)) (ok_same (b.0 ∷ c.0) slices c.2)
    (slice_own harts used line.bytes (position (λ byte. byte == 32) line.bytes) b.0 some (fault_ok line.number (slice_in harts used line.bytes) b.0 b.1), slices_own harts (used + b.0.count) rest c.0 some c.1)

pub record IsOwn (s : Scheduled) : Type 0 where
  pub some : 1 ≤ s.harts
  pub few : s.harts ≤ 64
  pub slices : AllByRecursion (λ slice. slice.hart < s.harts) s.slices

schedule_own : (end : ℕ) (all : List NumberedLine) (s : Scheduled) → schedule_in end all ≡ Ok s → IsOwn s
schedule_own end [] s is = absurd cc
schedule_own end (first ∷ rest) s is =
    let h = bind_ok (on_line first.number (harts_in first.bytes)) (λ harts. slices_of harts 0 rest >>= λ slices. Ok (record { harts = harts; slices = slices })) s is in
    let l = bind_ok (slices_of h.0 0 rest) (λ slices. Ok (record { harts = h.0; slices = slices })) s h.2 in
    let b = harts_bounds first.bytes h.0 (fault_ok first.number (harts_in first.bytes) h.0 h.1) in
    subst IsOwn (ok_same (record { harts = h.0; slices = l.0 }) s l.2) (record { some = b.0; few = b.1; slices = slices_own h.0 0 rest l.0 b.0 l.1 })

pub scheduled_own : (bytes : List ℕ) (s : Scheduled) → scheduled bytes ≡ Ok s → IsOwn s
scheduled_own bytes s is = schedule_own (length (lines bytes) + 1) (entries (numbered_lines 1 (lines bytes))) s (from_faulted (λ (fault : ScheduleFault). Schedule fault.line) (schedule_of bytes) s is)

-- ---- programs

pub program_loaded : (elf : List ℕ) (image : ProgramImage) → program elf ≡ Ok image → image_of_file elf ≡ image
program_loaded elf image is = (was_checked elf image (from_faulted Program (image_of elf) image is)).1

word_low : (file : List ℕ) (offset : ℕ) → IsBytes file → word_at file offset < 2 ^ 32
unfolding number_of
word_low file offset are =
    let few : number_in 4 (drop offset file) < 256 ^ 4 = little_from-lt 0 4 (drop offset file) (λ i. subst (λ (n : ℕ). n < 256) (sym (get_or-drop offset file i 0)) (are (offset + i))) in
    elim (nat_le (offset + 4) (length file)) as (λ b. cond b (number_in 4 (drop offset file)) 0 < 2 ^ 32) [ true ↦ few | false ↦ (omega arith) ]

pub entry_low : (elf : List ℕ) (image : ProgramImage) → program elf ≡ Ok image → IsBytes elf → image.entry < 2 ^ 32
entry_low elf image is are = subst (λ (q : ProgramImage). q.entry < 2 ^ 32) (program_loaded elf image is) (word_low elf 24 are)
