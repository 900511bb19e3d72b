-- The bytes of a trace in this project's format, version 1 (docs/FORMATS.md, Trace).
use Rattle.std.specs.Prelude.{ℕ, List, ◌++◌, length, codes}
use Rattle.std.specs.List.{flat_map, position_or_len}
use Rattle.prof_bytes.specs.Number.{number_bytes, word}
use Rattle.scope_types.specs.Raw.{Raw, same_raw}
use Rattle.scope_types.specs.Ends.{end_number}
use Rattle.measure_file.specs.Spelling.{frame_bytes}
use Rattle.trace_lines.specs.Traces.{HartTrace, Traced, distinct_paths}

-- what a file begins with
abbrev pub trace_magic : List ℕ
trace_magic = codes "HPCTRAC1"

-- the end, and the frames, the innermost first, with their number before them
abbrev pub traced_path_bytes : Raw → List ℕ
traced_path_bytes raw = word (end_number raw.end) ++ word (length raw.frames) ++ flat_map frame_bytes raw.frames

-- how many raw paths there are, and each
abbrev pub traced_paths_bytes : List Raw → List ℕ
traced_paths_bytes paths = word (length paths) ++ flat_map traced_path_bytes paths

-- the place of a raw path among distinct ones, from 0: how many come before it
abbrev pub place_among : List Raw → Raw → ℕ
place_among paths raw = position_or_len (same_raw raw) paths

-- how many samples there are, and for each the place of its path
abbrev pub places_bytes : List Raw → List Raw → List ℕ
places_bytes paths samples = word (length samples) ++ flat_map (λ raw. word (place_among paths raw)) samples

-- a hart: the instructions that it retired in eight bytes, its distinct raw paths in order of first sample, its samples
abbrev pub hart_bytes : HartTrace → List ℕ
hart_bytes h = number_bytes 8 h.retired ++ traced_paths_bytes (distinct_paths h.samples)
    ++ places_bytes (distinct_paths h.samples) h.samples

-- the head: the program's length and entry, the period, and the number of harts
abbrev pub trace_head_bytes : Traced → List ℕ
trace_head_bytes t = trace_magic ++ word t.length ++ word t.entry ++ word t.period ++ word (length t.harts)

-- all bytes of a trace: its head, and each hart
unfoldable pub trace_spelling : Traced → List ℕ
trace_spelling t = trace_head_bytes t ++ flat_map hart_bytes t.harts

-- the most bytes of a trace that any command reads
abbrev pub trace_limit : ℕ
trace_limit = 67108864
