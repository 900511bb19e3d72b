-- What was written is read as the same: harts, and the whole file.
use Rattle.std.proofs.Common.{◌≡◌, ℕ, ◌+◌, ◌/◌, ◌≤◌, nat_le, true, List, [], ◌∷◌, ◌++◌, length, All, Ok, refl, sym, ap, ◌∙◌, append_assoc, append-nil, arith}
use Rattle.std.specs.List.{flat_map}
use Rattle.std.proofs.lemmas.Bool.{and_from, eq-eqb, le-leb}
use Rattle.std.proofs.lemmas.List.Elements.{All-head, All-tail}
use Rattle.prof_bytes.specs.Number.{number_bytes, word}
use Rattle.prof_bytes.specs.Format.{magic_or}
use Rattle.prof_bytes.specs.Reading.{At, left_of}
use Rattle.prof_bytes.specs.Repeated.{times}
use Rattle.prof_bytes.proofs.Written.{Comes, magic_comes}
use Rattle.scope_types.specs.Limits.{most_frames_in_all, most_harts, most_samples}
use Rattle.scope_types.specs.Raw.{HasFrames, Raw}
use Rattle.measure_file.specs.Reading.{is_harts, is_period}
use Rattle.trace_lines.specs.Traces.{HartTrace, IsStorable, IsStorableHart, Traced, distinct_paths, frames_traced, samples_traced}
use Rattle.trace_lines.specs.Fields.{fault_at}
use Rattle.trace_lines.specs.Reading.{frames_of_paths, hart_from, harts_from, is_sample_count, trace_in}
use Rattle.trace_lines.specs.Spelling.{hart_bytes, places_bytes, trace_magic, trace_spelling, traced_paths_bytes}
use Rattle.trace_lines.proofs.Distinct.{are_distinct}
use Rattle.trace_lines.proofs.Forth.{IsSpelled, long_forth, paths_forth, ruled_forth, word_forth}
use Rattle.trace_lines.proofs.ForthSamples.{samples_forth}
use Rattle.trace_lines.proofs.HartSums.{distinct_all, frames_cons, frames_with, samples_cons, samples_with}
use Rattle.trace_lines.proofs.Kept.{few_distinct}

abbrev HaveAll : HartTrace → Type 0
HaveAll h = All (λ raw. HasFrames raw.frames) h.samples

hart_forth : (period : ℕ) (before : List HartTrace) (h : HartTrace) (at : At) (text : List ℕ) → IsStorableHart period h → HaveAll h → samples_traced before + length h.samples ≤ most_samples
    → frames_traced before + frames_of_paths (distinct_paths h.samples) ≤ most_frames_in_all → left_of at ≡ hart_bytes h ++ text → Comes (hart_from period before at) (before ++ h ∷ []) text
unfolding hart_from
hart_forth period before h at text is has few short left =
    let samples : List Raw = h.samples in
    let paths : List Raw = distinct_paths samples in
    let few_paths = few_distinct samples in
    let counts : is_sample_count period h.retired (samples_traced before) (length samples) ≡ true =
    and_from _ _ (eq-eqb (length samples) (h.retired / period) is.finished) (le-leb (samples_traced before + length samples) most_samples few) in
    let each : All IsSpelled paths = distinct_all IsSpelled samples (λ i d less. record { frames = has i d less; addresses = is.addresses i d less }) in
    let seam = append_assoc (traced_paths_bytes paths) (places_bytes paths samples) text in
    let a = long_forth at h.retired (traced_paths_bytes paths ++ (places_bytes paths samples ++ text)) is.retired (left ∙ ap (λ (l : List ℕ). number_bytes 8 h.retired ++ l) seam) in
    let b = paths_forth (frames_traced before) paths a.0 (places_bytes paths samples ++ text) each (are_distinct samples) short (omega (arith, few_paths, few)) a.2 in
    let c = samples_forth (is_sample_count period h.retired (samples_traced before)) samples b.0 text counts (omega (arith, few)) (omega (arith, few_paths, few)) b.2 in
    (c.0, rw (a.1, b.1, c.1) refl, c.2)

each_forth : (period : ℕ) (harts : List HartTrace) (i : ℕ) (before : List HartTrace) (at : At) (text : List ℕ) → All (IsStorableHart period) harts → All HaveAll harts
    → samples_traced before + samples_traced harts ≤ most_samples → frames_traced before + frames_traced harts ≤ most_frames_in_all → left_of at ≡ flat_map hart_bytes harts ++ text
    → Comes (times (λ i. hart_from period) (length harts) i before at) (before ++ harts) text
unfolding times
each_forth period [] i before at text are has few short left = (at, ap (λ (l : List HartTrace). Ok (l, at)) (sym (append-nil before)), left)
each_forth period (h ∷ harts) i before at text are has few short left =
    let samples = samples_cons h harts in
    let frames = frames_cons h harts in
    let more_samples = samples_with before h in
    let more_frames = frames_with before h in
    let first = hart_forth period before h at (flat_map hart_bytes harts ++ text) (All-head (IsStorableHart period) h harts are) (All-head HaveAll h harts has) (omega (arith, samples, few)) (omega (arith, frames, short))
    (left ∙ append_assoc (hart_bytes h) (flat_map hart_bytes harts) text) in
    let joined : (before ++ h ∷ []) ++ harts ≡ before ++ h ∷ harts = append_assoc before (h ∷ []) harts in
    let more = each_forth period harts (i + 1) (before ++ h ∷ []) first.0 text (All-tail (IsStorableHart period) h harts are) (All-tail HaveAll h harts has) (omega (arith, samples, more_samples, few))
    (omega (arith, frames, more_frames, short)) first.2 in (
      more.0,
      rw first.1 (more.1 ∙ ap (λ (l : List HartTrace). Ok (l, more.0)) joined),
      more.2,
    )

harts_forth : (t : Traced) (at : At) → IsStorable t → left_of at ≡ flat_map hart_bytes t.harts → harts_from t.period (length t.harts) at ≡ Ok t.harts
unfolding harts_from
harts_forth t at is left =
    let few = is.trace.samples in
    let short = is.trace.frames in
    let read = each_forth t.period t.harts 0 [] at [] is.harts is.trace.paths (omega (arith, few)) (omega (arith, short)) (left ∙ sym (append-nil (flat_map hart_bytes t.harts))) in
    rw (read.1, read.2) refl

pub written_read : (t : Traced) → IsStorable t → trace_in (trace_spelling t) ≡ Ok t
unfolding trace_in trace_spelling
written_read t is =
    let text : List ℕ = flat_map hart_bytes t.harts in
    let behind_period : List ℕ = word (length t.harts) ++ text in
    let behind_entry : List ℕ = word t.period ++ behind_period in
    let rest : List ℕ = word t.length ++ (word t.entry ++ behind_entry) in
    let few = is.trace.few in
    let some = is.trace.some in
    let start : At = record { whole = trace_magic ++ rest; offset = 8 } in
    let front : magic_or (fault_at 0) trace_magic (trace_magic ++ rest) ≡ Ok start = magic_comes (fault_at 0) trace_magic rest refl refl in
    let harts : is_harts (length t.harts) ≡ true = and_from (nat_le 1 (length t.harts)) (nat_le (length t.harts) most_harts) (le-leb 1 (length t.harts) some) (le-leb (length t.harts) most_harts few) in
    let a = word_forth start t.length (word t.entry ++ behind_entry) is.length refl in
    let b = word_forth a.0 t.entry behind_entry is.entry a.2 in
    let c = ruled_forth is_period b.0 t.period behind_period (le-leb 1 t.period is.trace.period) is.period b.2 in
    let d = ruled_forth is_harts c.0 (length t.harts) text harts (omega (arith, few)) c.2 in
    let e = harts_forth t d.0 is d.2 in
    rw (front, a.1, b.1, c.1, d.1, e) refl
