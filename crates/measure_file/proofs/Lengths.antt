-- How long a measurement is.
use Rattle.std.proofs.Common.{◌≡◌, ℕ, ◌+◌, ◌*◌, ◌<◌, ◌≤◌, List, [], ◌∷◌, ◌++◌, length, sum_by, All, refl, ap, arith}
use Rattle.std.specs.List.{flat_map}
use Rattle.std.proofs.lemmas.List.{length-append, length-map}
use Rattle.std.proofs.lemmas.List.Elements.{All-head, All-tail}
use Rattle.std.proofs.lemmas.List.Sums.{sum_by-cons}
use Rattle.std.proofs.lemmas.Nat.{mul-le}
use Rattle.scope_types.specs.declared.event.EventPeriod.{EventPeriod}
use Rattle.scope_types.specs.declared.frame.Counted.{Counted}
use Rattle.scope_types.specs.declared.frame.Frame.{Frame}
use Rattle.scope_types.specs.Distinct.{frames_in, samples_in}
use Rattle.scope_types.specs.Limits.{most_frames_in_all, most_harts, most_samples}
use Rattle.measure_file.specs.declared.head.EventHead.{EventHead}
use Rattle.measure_file.specs.declared.head.MeasureVersion.{MeasureVersion}
use Rattle.measure_file.specs.declared.head.MeasureVersion.TheVariants.{One, Two}
use Rattle.scope_types.specs.Events.{event_words}
use Rattle.scope_types.specs.Ends.{end_number}
use Rattle.measure_file.specs.Spelling.{frame_bytes, path_bytes, column_bytes, events_words, head_bytes, measure_magic, measure_version, event_measurement_spelling, measurement_limit}
use Rattle.prof_bytes.specs.Number.{word, words}

abbrev HasCount : Counted → Type 0
HasCount c = 0 < c.count

abbrev count_of : Counted → ℕ
count_of c = c.count

abbrev frames_of : Counted → ℕ
frames_of c = length c.path.frames

frames_long : (fs : List Frame) → length (flat_map frame_bytes fs) ≡ 4 * length fs
frames_long [] = refl
frames_long (f ∷ fs) = (let parts = length-append (frame_bytes f) (flat_map frame_bytes fs) in let rest = frames_long fs in omega (arith, parts, rest))

path_long : (c : Counted) → length (path_bytes c) ≡ 12 + 4 * frames_of c
path_long c =
    let front : List ℕ = word c.count ++ word (end_number c.path.end) ++ word (length c.path.frames) in
    let twelve : length front ≡ 12 = refl in
    let parts = length-append front (flat_map frame_bytes c.path.frames) in
    let rest = frames_long c.path.frames in
    omega (arith, parts, rest, twelve)

paths_long : (cs : List Counted) → All HasCount cs → length (flat_map path_bytes cs) ≤ 12 * sum_by count_of cs + 4 * sum_by frames_of cs
paths_long [] all = omega arith
paths_long (c ∷ cs) all =
    let parts = length-append (path_bytes c) (flat_map path_bytes cs) in
    let one = path_long c in
    let rest = paths_long cs (All-tail HasCount c cs all) in
    let some : 0 < count_of c = All-head HasCount c cs all in
    let counts = sum_by-cons count_of c cs in
    let frames = sum_by-cons frames_of c cs in
    omega (arith, parts, one, rest, some, counts, frames)

columns_long : (tables : List (List Counted)) → All (All HasCount) tables → length (flat_map column_bytes tables) ≤ 4 * length tables + 12 * samples_in tables + 4 * frames_in tables
columns_long [] all = omega arith
columns_long (table ∷ tables) all =
    let parts = length-append (column_bytes table) (flat_map column_bytes tables) in
    let own = length-append (word (length table)) (flat_map path_bytes table) in
    let one = paths_long table (All-head (All HasCount) table tables all) in
    let rest = columns_long tables (All-tail (All HasCount) table tables all) in
    let counts = sum_by-cons (sum_by count_of) table tables in
    let frames = sum_by-cons (sum_by frames_of) table tables in
    omega (arith, parts, own, one, rest, counts, frames)

-- ---- the head

words_long : (numbers : List ℕ) → length (words numbers) ≡ 4 * length numbers
words_long [] = refl
words_long (n ∷ numbers) = (let parts = length-append (word n) (words numbers) in let rest = words_long numbers in omega (arith, parts, rest))

numbered_long : (events : List EventPeriod) → length (flat_map event_words events) ≡ 2 * length events
numbered_long [] = refl
numbered_long (e ∷ events) = (let parts = length-append (event_words e) (flat_map event_words events) in let rest = numbered_long events in omega (arith, parts, rest))

events_long : (version : MeasureVersion) (events : List EventPeriod) → length events ≤ 4 → length (events_words version events) ≤ 9
events_long One events few = (let same = length-map events (λ (e : EventPeriod). e.period) in omega (arith, same, few))
events_long Two events few = (let same = numbered_long events in omega (arith, same, few))

magic_long : (version : MeasureVersion) → length (measure_magic version) ≡ 8
magic_long One = refl
magic_long Two = refl

head_long : (head : EventHead) → length head.events ≤ 4 → length (head_bytes head) ≤ 56
head_long head few =
    let version : MeasureVersion = measure_version head.events in
    let numbers : List ℕ = head.length ∷ head.entry ∷ events_words version head.events ++ head.harts ∷ [] in
    let magic = magic_long version in
    let parts = length-append (measure_magic version) (words numbers) in
    let own = words_long numbers in
    let events = events_long version head.events few in
    let last = length-append (events_words version head.events) (head.harts ∷ []) in
    omega (arith, magic, parts, own, events, last)

pub spelling_short : (head : EventHead) (tables : List (List Counted)) (text : List ℕ) → text ≡ event_measurement_spelling head tables → head.harts ≤ most_harts → length head.events ≤ 4 → length tables ≡ head.harts * length head.events → samples_in tables ≤ most_samples → All (All (λ c. 0 < c.count)) tables → frames_in tables ≤ most_frames_in_all → length text ≤ measurement_limit
unfolding event_measurement_spelling
spelling_short head tables text is harts few columns samples counted frames =
    let long = ap (λ (l : List ℕ). length l) is in
    let parts = length-append (head_bytes head) (flat_map column_bytes tables) in
    let rest = columns_long tables counted in
    let front = head_long head few in
    let most : head.harts * length head.events ≤ most_harts * 4 = mul-le head.harts (length head.events) most_harts 4 harts few in
    omega (arith, long, parts, rest, front, columns, most, samples, frames)
