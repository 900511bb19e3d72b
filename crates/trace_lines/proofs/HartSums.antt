-- What one hart more adds to the sums of a trace, and what holds of its distinct raw paths.
use Rattle.std.proofs.Common.{◌≡◌, ℕ, ◌+◌, ◌-◌, List, [], ◌∷◌, ◌++◌, length, map, not, sum_by, All, refl, sym, ap, ◌∙◌, arith}
use Rattle.std.proofs.lemmas.List.{map-append}
use Rattle.std.proofs.lemmas.List.Elements.{All-cons, All-filter, All-head, All-map, All-nil, All-tail}
use Rattle.std.proofs.lemmas.List.Sums.{sum_by-append, sum_by-cons}
use Rattle.scope_types.specs.declared.frame.Counted.{Counted}
use Rattle.scope_types.specs.Raw.{Raw, same_raw}
use Rattle.scope_types.specs.Distinct.{counted_paths, frames_in}
use Rattle.trace_lines.specs.Traces.{HartTrace, distinct_paths, frames_traced, samples_traced, traced_tables}
use Rattle.trace_lines.specs.Reading.{frames_of_paths}
use Rattle.trace_lines.specs.private.Paths.{ArePathsOf, samples_at}

abbrev path_of : Counted → Raw
path_of c = c.path

abbrev frames_of : Raw → ℕ
frames_of raw = length raw.frames

abbrev counted_frames : Counted → ℕ
counted_frames c = length c.path.frames

abbrev samples_of : HartTrace → ℕ
samples_of h = length h.samples

abbrev table_of : HartTrace → List Counted
table_of h = counted_paths h.samples

paths_frames : (cs : List Counted) → frames_of_paths (map path_of cs) ≡ sum_by counted_frames cs
paths_frames [] = refl
paths_frames (c ∷ cs) =
    let one = sum_by-cons frames_of c.path (map path_of cs) in
    let same = sum_by-cons counted_frames c cs in
    let rest = paths_frames cs in
    omega (arith, one, same, rest)

pub frames_cons : (h : HartTrace) (harts : List HartTrace) → frames_traced (h ∷ harts) ≡ frames_of_paths (distinct_paths h.samples) + frames_traced harts
frames_cons h harts =
    let parts = sum_by-cons (sum_by counted_frames) (table_of h) (traced_tables harts) in
    let own = paths_frames (table_of h) in
    omega (arith, parts, own)

pub samples_cons : (h : HartTrace) (harts : List HartTrace) → samples_traced (h ∷ harts) ≡ length h.samples + samples_traced harts
samples_cons h harts = sum_by-cons samples_of h harts

pub frames_with : (harts : List HartTrace) (h : HartTrace) → frames_traced (harts ++ h ∷ []) ≡ frames_traced harts + frames_of_paths (distinct_paths h.samples)
frames_with harts h =
    let split = ap frames_in (map-append table_of harts (h ∷ [])) in
    let parts = sum_by-append (sum_by counted_frames) (traced_tables harts) (table_of h ∷ []) in
    let last = sum_by-cons (sum_by counted_frames) (table_of h) [] in
    let own = paths_frames (table_of h) in
    omega (arith, split, parts, last, own)

pub samples_with : (harts : List HartTrace) (h : HartTrace) → samples_traced (harts ++ h ∷ []) ≡ samples_traced harts + length h.samples
samples_with harts h =
    let parts = sum_by-append samples_of harts (h ∷ []) in
    let last = sum_by-cons samples_of h [] in
    omega (arith, parts, last)

counted_all : (P : Raw → Type 0) (samples : List Raw) → All P samples → All (λ (c : Counted). P c.path) (counted_paths samples)
counted_all P [] all = All-nil (λ (c : Counted). P c.path)
counted_all P (r ∷ samples) all =
    let Q : Counted → Type 0 = λ c. P c.path in
    All-cons Q _ _ (All-head P r samples all) (All-filter (λ (c : Counted). not (same_raw r c.path)) Q (counted_paths samples) (counted_all P samples (All-tail P r samples all)))

-- what holds of each sample's path holds of each distinct one
pub distinct_all : (P : Raw → Type 0) (samples : List Raw) → All P samples → All P (distinct_paths samples)
distinct_all P samples all = All-map P path_of (counted_paths samples) (counted_all P samples all)

-- a hart whose distinct raw paths were read with their frames
pub read_frames : (harts : List HartTrace) (h : HartTrace) (paths : List Raw) (places : List ℕ) (before frames : ℕ) → ArePathsOf paths places → h.samples ≡ samples_at paths places → before ≡ frames_traced harts
    → frames ≡ before + frames_of_paths paths → frames_traced harts + (frames - before) ≡ frames_traced (harts ++ h ∷ [])
read_frames harts h paths places before frames are samples before_is frames_is =
    let all = frames_with harts h in
    let own = ap frames_of_paths (are.distinct ∙ ap distinct_paths (sym samples)) in
    omega (arith, all, own, before_is, frames_is)
