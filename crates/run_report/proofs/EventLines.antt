-- The lines of a run's events, one event more at a time.
use Rattle.std.proofs.Common.{◌≡◌, ℕ, zero, suc, ◌+◌, ◌<◌, ◌≤◌, true, false, Bool, List, [], ◌∷◌, ◌++◌, length, get_or, take, take_all, refl, sym, ap, ◌∙◌, arith, append-nil, append_assoc}
use Rattle.std.specs.Prelude.{if◌then◌else◌}
use Rattle.std.specs.List.{enumerate_from, flat_map}
use Rattle.std.proofs.lemmas.List.FromFn.{length-enumerate_from}
use Rattle.scope_types.specs.declared.event.EventPeriod.{EventPeriod}
use Rattle.scope_types.specs.Distinct.{ColumnRaw}
use Rattle.scope_types.specs.Events.{is_retired_alone}
use Rattle.run_report.specs.Report.{event_line, event_lines, samples_by_event}
use Rattle.run_report.specs.private.Counted.{counted_line}

-- ---- one event more

event_more : (f : ℕ × EventPeriod → List ℕ) (events : List EventPeriod) (first place : ℕ) (d : EventPeriod) → place < length events
    → flat_map f (take (place + 1) (enumerate_from first events)) ≡ flat_map f (take place (enumerate_from first events)) ++ f (first + place, get_or events place d)
event_more f [] first place d within = absurd (omega (arith, within))
event_more f (e ∷ events) first zero d within =
    let one : zero + 1 ≡ suc zero = omega arith in
    let here : first ≡ first + 0 = omega arith in
    ap (λ (n : ℕ). flat_map f (take n (enumerate_from first (e ∷ events)))) one ∙ append-nil (f (first, e)) ∙ ap (λ (n : ℕ). f (n, e)) here
event_more f (e ∷ events) first (suc place) d within =
    let one : suc place + 1 ≡ suc (place + 1) = omega arith in
    let there : first + 1 + place ≡ first + suc place = omega arith in
    ap (λ (n : ℕ). flat_map f (take n (enumerate_from first (e ∷ events)))) one
    ∙ ap (λ (l : List ℕ). f (first, e) ++ l) (event_more f events (first + 1) place d (omega (arith, within)) ∙ ap (λ (n : ℕ). flat_map f (take place (enumerate_from (first + 1) events)) ++ f (n, get_or events place d)) there)
    ∙ sym (append_assoc (f (first, e)) (flat_map f (take place (enumerate_from (first + 1) events))) (f (first + suc place, get_or events place d)))

-- what was put of the first events, from this text on
abbrev pub put_so_far : ℕ → List ColumnRaw → List EventPeriod → ℕ → List ℕ → List ℕ
put_so_far count samples events place out = out ++ flat_map (counted_line count samples) (take place (enumerate_from 0 events))

pub nothing_put : (count : ℕ) (samples : List ColumnRaw) (events : List EventPeriod) (out : List ℕ) → out ≡ put_so_far count samples events 0 out
nothing_put count samples events out = sym (append-nil out)

pub event_put : (count : ℕ) (samples : List ColumnRaw) (events : List EventPeriod) (place many : ℕ) (d : EventPeriod) (start before after : List ℕ) → place < length events → before ≡ put_so_far count samples events place start
    → many ≡ samples_by_event count samples place → after ≡ before ++ event_line (get_or events place d) many → after ≡ put_so_far count samples events (place + 1) start
event_put count samples events place many d start before after within so_far is more =
    let here : place ≡ 0 + place = omega arith in
    more ∙ (λ i. so_far i ++ event_line (get_or events place d) (is i))
    ∙ append_assoc start (flat_map (counted_line count samples) (take place (enumerate_from 0 events))) (event_line (get_or events place d) (samples_by_event count samples place))
    ∙ ap (λ (l : List ℕ). start ++ l) (ap (λ (n : ℕ). flat_map (counted_line count samples) (take place (enumerate_from 0 events)) ++ counted_line count samples (n, get_or events place d)) here ∙ sym (event_more (counted_line count samples) events 0 place d within))

pub all_put : (count : ℕ) (samples : List ColumnRaw) (events : List EventPeriod) (place : ℕ) (start out : List ℕ) → length events ≤ place → out ≡ put_so_far count samples events place start → out ≡ start ++ flat_map (counted_line count samples) (enumerate_from 0 events)
all_put count samples events place start out past so_far =
    let long = length-enumerate_from 0 events in
    so_far ∙ ap (λ (l : List (ℕ × EventPeriod)). start ++ flat_map (counted_line count samples) l) (take_all place (enumerate_from 0 events) (omega (arith, long, past)))

-- ---- all events

pub lines_alone : (events : List EventPeriod) (samples : List ColumnRaw) → is_retired_alone events ≡ true → event_lines events samples ≡ []
lines_alone [] samples alone = refl
lines_alone (e ∷ []) samples alone = ap (λ (b : Bool). (if b then [] else counted_line 1 samples (0, e)) ++ []) alone
lines_alone (e ∷ f ∷ rest) samples alone = absurd cc

pub lines_several : (events : List EventPeriod) (samples : List ColumnRaw) → is_retired_alone events ≡ false → event_lines events samples ≡ flat_map (counted_line (length events) samples) (enumerate_from 0 events)
lines_several events samples several =
    ap (λ (b : Bool). flat_map (λ (numbered : ℕ × EventPeriod). if b then [] else counted_line (length events) samples numbered) (enumerate_from 0 events)) several

pub ruleset lines_by_case = (lines_alone, lines_several)
