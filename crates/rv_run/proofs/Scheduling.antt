-- The schedule that a text tells by its first line and those after it.
use Rattle.std.proofs.Common.{◌≡◌, ℕ, ◌+◌, List, [], ◌∷◌, length, Option, Some, None, Result, Ok, Err, refl, sym, ap, ◌∙◌}
use Rattle.prof_bytes.specs.Outcome.{◌>>=◌}
use Rattle.rv_run.specs.declared.schedule.Slice.{Slice}
use Rattle.rv_run.specs.declared.schedule.ScheduleFault.{ScheduleFault}
use Rattle.rv_run.specs.Schedule.{NumberedLine, Scheduled, lines, entries, harts_in, on_line, schedule_in, schedule_of, slices_of}
use Rattle.rv_run.specs.private.Reading.{Unread, to_read, first_or_none, rest_of}

abbrev under : ℕ → Result (List Slice) ScheduleFault → Result Scheduled ScheduleFault
under harts slices = slices >>= λ all. Ok (record { harts = harts; slices = all })

abbrev told : ℕ → List NumberedLine → Option ℕ → Result Scheduled ScheduleFault
told number rest found = on_line number found >>= λ harts. under harts (slices_of harts 0 rest)

no-first : (end : ℕ) (all : List NumberedLine) → None ≡ first_or_none all → schedule_in end all ≡ Err (record { line = end })
no-first end [] none = refl
no-first end (line ∷ rest) none = absurd cc

by-first : (end : ℕ) (all rest : List NumberedLine) (line : NumberedLine) → Some line ≡ first_or_none all → rest ≡ rest_of all → schedule_in end all ≡ told line.number rest (harts_in line.bytes)
by-first end [] rest line first more = absurd cc
by-first end (x ∷ xs) rest line first more =
    let same : line ≡ x = cc in
    ap (λ (l : NumberedLine). told l.number xs (harts_in l.bytes)) (sym same) ∙ ap (λ (ls : List NumberedLine). told line.number ls (harts_in line.bytes)) (sym more)

-- what is to be read of a text before its first line
abbrev Unbegun : List ℕ → Unread → Type 0
Unbegun bytes unread = unread ≡ record { done = 0; rest = lines bytes }

pub none-tells : (bytes : List ℕ) (unread : Unread) → Unbegun bytes unread → None ≡ first_or_none (entries (to_read unread)) → schedule_of bytes ≡ Err (record { line = length (lines bytes) + 1 })
none-tells bytes unread is none = no-first (length (lines bytes) + 1) (entries (to_read (record { done = 0; rest = lines bytes }))) (none ∙ ap (λ (u : Unread). first_or_none (entries (to_read u))) is)

first-tells : (bytes : List ℕ) (unread : Unread) (rest : List NumberedLine) (line : NumberedLine) → Unbegun bytes unread → Some line ≡ first_or_none (entries (to_read unread)) → rest ≡ rest_of (entries (to_read unread))
    → schedule_of bytes ≡ told line.number rest (harts_in line.bytes)
first-tells bytes unread rest line is first more =
    by-first (length (lines bytes) + 1) (entries (to_read (record { done = 0; rest = lines bytes }))) rest line
    (first ∙ ap (λ (u : Unread). first_or_none (entries (to_read u))) is) (more ∙ ap (λ (u : Unread). rest_of (entries (to_read u))) is)

pub tells-no-harts : (bytes : List ℕ) (unread : Unread) (rest : List NumberedLine) (line : NumberedLine) → Unbegun bytes unread → Some line ≡ first_or_none (entries (to_read unread)) → rest ≡ rest_of (entries (to_read unread)) → None ≡ harts_in line.bytes
    → schedule_of bytes ≡ Err (record { line = line.number })
tells-no-harts bytes unread rest line is first more none = first-tells bytes unread rest line is first more ∙ ap (told line.number rest) (sym none)

pub tells-harts : (bytes : List ℕ) (unread : Unread) (rest : List NumberedLine) (line : NumberedLine) (harts : ℕ) → Unbegun bytes unread → Some line ≡ first_or_none (entries (to_read unread)) → rest ≡ rest_of (entries (to_read unread)) → Some harts ≡ harts_in line.bytes
    → schedule_of bytes ≡ (slices_of harts 0 rest >>= λ slices. Ok (record { harts = harts; slices = slices }))
tells-harts bytes unread rest line harts is first more some = first-tells bytes unread rest line is first more ∙ ap (told line.number rest) (sym some)
