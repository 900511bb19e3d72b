-- The lines of a run's events, as they are made.
use Rattle.std.proofs.Common.{◌≡◌, ℕ, zero, suc, ◌+◌, ◌<◌, ◌≤◌, Bool, true, false, List, [], ◌∷◌, ◌++◌, length, get_or, map, take, take_all, sym, ap, ◌∙◌, arith}
use Rattle.std.specs.Prelude.{if◌then◌else◌}
use Rattle.std.specs.List.{enumerate_from}
use Rattle.std.proofs.lemmas.List.{length-append}
use Rattle.std.proofs.lemmas.List.FromFn.{length-enumerate_from}
use Rattle.run_report.specs.Report.{event_line, samples_by_event}
use Rattle.scope_types.specs.declared.event.EventPeriod.{EventPeriod}
use Rattle.scope_types.specs.Distinct.{ColumnRaw}
use Rattle.scope_types.specs.Events.{is_retired_alone}
use Rattle.run_profile.specs.EventTexts.{counted_line, lines_of_events}

-- one event more
pub event_more : (f : ℕ × EventPeriod → List ℕ) (events : List EventPeriod) (first place : ℕ) (d : EventPeriod) → place < length events
    → map f (take (place + 1) (enumerate_from first events)) ≡ map f (take place (enumerate_from first events)) ++ f (first + place, get_or events place d) ∷ []
event_more f [] first place d within = absurd (omega (arith, within))
event_more f (e ∷ events) first zero d within =
    let one : zero + 1 ≡ suc zero = omega arith in
    let here : first ≡ first + 0 = omega arith in
    ap (λ (n : ℕ). map f (take n (enumerate_from first (e ∷ events)))) one ∙ ap (λ (n : ℕ). (let l : List (List ℕ) = f (n, e) ∷ [] in l)) here
event_more f (e ∷ events) first (suc place) d within =
    let one : suc place + 1 ≡ suc (place + 1) = omega arith in
    let there : first + 1 + place ≡ first + suc place = omega arith in
    ap (λ (n : ℕ). map f (take n (enumerate_from first (e ∷ events)))) one
    ∙ ap (λ (l : List (List ℕ)). f (first, e) ∷ l) (event_more f events (first + 1) place d (omega (arith, within)) ∙ ap (λ (n : ℕ). map f (take place (enumerate_from (first + 1) events)) ++ f (n, get_or events place d) ∷ []) there)

-- the line of one event more
pub line_more : (count : ℕ) (samples : List ColumnRaw) (events : List EventPeriod) (place : ℕ) (d : EventPeriod) (before after : List (List ℕ)) (line : List ℕ) → place < length events → before ≡ map (counted_line count samples) (take place (enumerate_from 0 events))
    → line ≡ event_line (get_or events place d) (samples_by_event count samples place) → after ≡ before ++ line ∷ [] → after ≡ map (counted_line count samples) (take (place + 1) (enumerate_from 0 events))
line_more count samples events place d before after line within so_far is more =
    let here : place ≡ 0 + place = omega arith in
    more ∙ (λ i. so_far i ++ is i ∷ []) ∙ ap (λ (n : ℕ). map (counted_line count samples) (take place (enumerate_from 0 events)) ++ counted_line count samples (n, get_or events place d) ∷ []) here
    ∙ sym (event_more (counted_line count samples) events 0 place d within)

pub many_more : (before after : List (List ℕ)) (line : List ℕ) (place : ℕ) → length before ≡ place → after ≡ before ++ line ∷ [] → length after ≡ place + 1
many_more before after line place many more = (let long = length-append before (line ∷ []) in let same = ap (λ (l : List (List ℕ)). length l) more in omega (arith, many, long, same))

-- the lines of all events
pub lines_all : (count : ℕ) (samples : List ColumnRaw) (events : List EventPeriod) (place : ℕ) (lines : List (List ℕ)) → length events ≤ place → lines ≡ map (counted_line count samples) (take place (enumerate_from 0 events)) → lines ≡ map (counted_line count samples) (enumerate_from 0 events)
lines_all count samples events place lines past so_far =
    let long = length-enumerate_from 0 events in
    so_far ∙ ap (map (counted_line count samples)) (take_all place (enumerate_from 0 events) (omega (arith, long, past)))

pub lines_alone : (events : List EventPeriod) (samples : List ColumnRaw) → is_retired_alone events ≡ true → lines_of_events events samples ≡ [] ∷ []
lines_alone [] samples alone = absurd cc
lines_alone (e ∷ []) samples alone = ap (λ (b : Bool). (let l : List (List ℕ) = (if b then [] else counted_line 1 samples (0, e)) ∷ [] in l)) alone
lines_alone (e ∷ f ∷ rest) samples alone = absurd cc

pub lines_several : (events : List EventPeriod) (samples : List ColumnRaw) → is_retired_alone events ≡ false → lines_of_events events samples ≡ map (counted_line (length events) samples) (enumerate_from 0 events)
lines_several events samples several =
    ap (λ (b : Bool). map (λ (numbered : ℕ × EventPeriod). if b then [] else counted_line (length events) samples numbered) (enumerate_from 0 events)) several

pub ruleset lines_by_case = (lines_alone, lines_several)
