-- How long a trace's file is.
use Rattle.std.proofs.Common.{◌≡◌, ℕ, ◌+◌, ◌*◌, ◌≤◌, List, [], ◌∷◌, ◌++◌, length, refl, ap, arith}
use Rattle.std.specs.List.{flat_map}
use Rattle.std.proofs.lemmas.List.{length-append}
use Rattle.std.proofs.lemmas.List.Sums.{sum_by-cons}
use Rattle.prof_bytes.specs.Number.{number_bytes, word}
use Rattle.scope_types.specs.declared.frame.Frame.{Frame}
use Rattle.scope_types.specs.Raw.{Raw}
use Rattle.scope_types.specs.Ends.{end_number}
use Rattle.measure_file.specs.Spelling.{frame_bytes}
use Rattle.trace_lines.specs.Traces.{HartTrace, IsTrace, Traced, distinct_paths, frames_traced, samples_traced}
use Rattle.trace_lines.specs.Reading.{frames_of_paths}
use Rattle.trace_lines.specs.Spelling.{hart_bytes, place_among, places_bytes, trace_head_bytes, trace_limit, trace_spelling, traced_path_bytes, traced_paths_bytes}
use Rattle.trace_lines.proofs.HartSums.{frames_cons, samples_cons}
use Rattle.trace_lines.proofs.Kept.{few_distinct}

abbrev frames_of : Raw → ℕ
frames_of raw = length raw.frames

frames_long : (fs : List Frame) → length (flat_map frame_bytes fs) ≡ 4 * length fs
frames_long [] = refl
frames_long (f ∷ fs) = (let parts = length-append (frame_bytes f) (flat_map frame_bytes fs) in let rest = frames_long fs in omega (arith, parts, rest))

path_long : (raw : Raw) → length (traced_path_bytes raw) ≡ 8 + 4 * length raw.frames
path_long raw =
    let front : List ℕ = word (end_number raw.end) ++ word (length raw.frames) in
    let eight : length front ≡ 8 = refl in
    let parts = length-append front (flat_map frame_bytes raw.frames) in
    let rest = frames_long raw.frames in
    omega (arith, parts, rest, eight)

paths_long : (raws : List Raw) → length (flat_map traced_path_bytes raws) ≡ 8 * length raws + 4 * frames_of_paths raws
paths_long [] = refl
paths_long (raw ∷ raws) =
    let parts = length-append (traced_path_bytes raw) (flat_map traced_path_bytes raws) in
    let one = path_long raw in
    let rest = paths_long raws in
    let frames = sum_by-cons frames_of raw raws in
    omega (arith, parts, one, rest, frames)

words_long : (f : Raw → ℕ) (raws : List Raw) → length (flat_map (λ raw. word (f raw)) raws) ≡ 4 * length raws
words_long f [] = refl
words_long f (raw ∷ raws) = (let parts = length-append (word (f raw)) (flat_map (λ raw. word (f raw)) raws) in let rest = words_long f raws in omega (arith, parts, rest))

hart_long : (h : HartTrace) → length (hart_bytes h) ≤ 16 + 12 * length h.samples + 4 * frames_of_paths (distinct_paths h.samples)
hart_long h =
    let paths : List Raw = distinct_paths h.samples in
    let each : List ℕ = flat_map traced_path_bytes paths in
    let places : List ℕ = flat_map (λ raw. word (place_among paths raw)) h.samples in
    let front : List ℕ = number_bytes 8 h.retired ++ traced_paths_bytes paths in
    let all = length-append front (places_bytes paths h.samples) in
    let first = length-append (number_bytes 8 h.retired) (traced_paths_bytes paths) in
    let eight : length (number_bytes 8 h.retired) ≡ 8 = refl in
    let second = length-append (word (length paths)) each in
    let third = length-append (word (length h.samples)) places in
    let four : length (word (length paths)) ≡ 4 = refl in
    let four_again : length (word (length h.samples)) ≡ 4 = refl in
    let few = few_distinct h.samples in
    let long = paths_long paths in
    let words = words_long (place_among paths) h.samples in
    omega (arith, all, first, eight, second, third, four, four_again, few, long, words)

harts_long : (harts : List HartTrace) → length (flat_map hart_bytes harts) ≤ 16 * length harts + 12 * samples_traced harts + 4 * frames_traced harts
harts_long [] = omega arith
harts_long (h ∷ harts) =
    let parts = length-append (hart_bytes h) (flat_map hart_bytes harts) in
    let one = hart_long h in
    let rest = harts_long harts in
    let samples = samples_cons h harts in
    let frames = frames_cons h harts in
    omega (arith, parts, one, rest, samples, frames)

-- no command refuses a trace for its length
pub trace_short : (t : Traced) (text : List ℕ) → IsTrace t → text ≡ trace_spelling t → length text ≤ trace_limit
unfolding trace_spelling
trace_short t text is same =
    let parts = length-append (trace_head_bytes t) (flat_map hart_bytes t.harts) in
    let head : length (trace_head_bytes t) ≡ 24 = refl in
    let long = harts_long t.harts in
    let few = is.few in
    let samples = is.samples in
    let frames = is.frames in
    let all = ap (λ (l : List ℕ). length l) same in
    omega (arith, parts, head, long, few, samples, frames, all)
