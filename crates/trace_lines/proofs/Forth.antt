-- What was written is read as the same: numbers, frames and the raw paths of a hart.
use Rattle.std.proofs.Common.{◌≡◌, ℕ, ◌+◌, ◌^◌, ◌<◌, ◌≤◌, ◌||◌, Bool, true, false, cond, List, [], ◌∷◌, ◌++◌, length, All, Ok, Err, refl, sym, ap, subst, ◌∙◌, append_assoc, append-nil, arith}
use Rattle.std.specs.List.{AllByRecursion, IsDistinct, flat_map}
use Rattle.std.proofs.lemmas.Bool.{and_from, le-leb}
use Rattle.std.proofs.lemmas.List.{map-id}
use Rattle.std.proofs.lemmas.List.Elements.{All-head, All-tail}
use Rattle.std.proofs.lemmas.List.Sums.{sum_by-append, sum_by-cons}
use Rattle.prof_bytes.specs.Number.{number_bytes, word}
use Rattle.prof_bytes.specs.Reading.{At, left_of}
use Rattle.prof_bytes.specs.Repeated.{adding, times}
use Rattle.prof_bytes.proofs.Lists.{Reads, items_come}
use Rattle.prof_bytes.proofs.Written.{Comes, number_comes, word_comes}
use Rattle.scope_types.specs.declared.frame.Frame.{Frame}
use Rattle.scope_types.specs.declared.frame.End.{End}
use Rattle.scope_types.specs.declared.frame.End.TheVariants.{Whole, Partial}
use Rattle.scope_types.specs.declared.frame.PartialCause.TheVariants.{NoFde, NoCfa, Expression, Unmapped, Depth}
use Rattle.scope_types.specs.Limits.{most_frames_in_all, most_frames_of_path}
use Rattle.scope_types.specs.Raw.{HasFrames, Raw, same_raw}
use Rattle.scope_types.specs.private.SameRaw.{raw_equiv}
use Rattle.measure_file.specs.Reading.{is_end_number, is_length}
use Rattle.scope_types.specs.Ends.{end_number, end_of_number}
use Rattle.measure_file.specs.Spelling.{frame_bytes}
use Rattle.trace_lines.specs.Traces.{HasAddress, has_raw}
use Rattle.trace_lines.specs.Fields.{fault_at, long_from, starting_at, word_by, word_from}
use Rattle.trace_lines.specs.Reading.{frames_of_paths, new_path, traced_frame_from, traced_path_from, traced_paths_from}
use Rattle.trace_lines.specs.Spelling.{traced_path_bytes, traced_paths_bytes}

-- ---- numbers

pub word_forth : (at : At) (n : ℕ) (rest : List ℕ) → n < 2 ^ 32 → left_of at ≡ word n ++ rest → Comes (word_from at) n rest
word_forth at n rest few left = word_comes starting_at at n rest few left

pub long_forth : (at : At) (n : ℕ) (rest : List ℕ) → n < 2 ^ 64 → left_of at ≡ number_bytes 8 n ++ rest → Comes (long_from at) n rest
long_forth at n rest few left = number_comes starting_at 8 at n rest (omega (arith, few)) left

pub ruled_forth : (rule : ℕ → Bool) (at : At) (n : ℕ) (rest : List ℕ) → rule n ≡ true → n < 2 ^ 32 → left_of at ≡ word n ++ rest → Comes (word_by rule at) n rest
ruled_forth rule at n rest passes few left = (let read = word_forth at n rest few left in (read.0, rw (read.1, passes) refl, read.2))

-- ---- frames

frame_forth : (at : At) (frame : Frame) (rest : List ℕ) → HasAddress frame → left_of at ≡ frame_bytes frame ++ rest → Reads (λ (f : Frame). f) (traced_frame_from at) frame rest
unfolding traced_frame_from
frame_forth at frame rest few left =
    let a = word_forth at frame.pc rest few left in
    record { value = frame; next = a.0; is = rw a.1 refl; same = refl; left = a.2 }

frames_forth : (frames : List Frame) (at : At) (rest : List ℕ) → All HasAddress frames → left_of at ≡ flat_map frame_bytes frames ++ rest → Comes (times (adding traced_frame_from) (length frames) 0 [] at) frames rest
frames_forth frames at rest addresses left =
    let a = items_come traced_frame_from (λ f. f) (λ f. f) frame_bytes HasAddress frame_forth frames 0 [] at rest addresses left in
    (a.next, a.is ∙ ap (λ (fs : List Frame). Ok (fs, a.next)) (sym (map-id a.xs) ∙ a.same ∙ map-id frames), a.left)

-- ---- raw paths

end_back : (end : End) → end_of_number (end_number end) ≡ end
end_back Whole = refl
end_back (Partial NoFde) = refl
end_back (Partial NoCfa) = refl
end_back (Partial Expression) = refl
end_back (Partial Unmapped) = refl
end_back (Partial Depth) = refl

end_few : (end : End) → end_number end ≤ 5
end_few Whole = omega arith
end_few (Partial NoFde) = omega arith
end_few (Partial NoCfa) = omega arith
end_few (Partial Expression) = omega arith
end_few (Partial Unmapped) = omega arith
end_few (Partial Depth) = omega arith

put_forth : (before : List Raw) (raw : Raw) (offset : ℕ) → has_raw raw before ≡ false → new_path offset (record { end = end_of_number (end_number raw.end); frames = raw.frames }) before ≡ Ok (before ++ raw ∷ [])
put_forth before raw offset new =
    ap (λ (end : End). new_path offset (record { end = end; frames = raw.frames }) before) (end_back raw.end)
    ∙ ap (λ (b : Bool). cond b (Err (fault_at offset)) (Ok (before ++ raw ∷ []))) new

-- a raw path that can be written
pub record IsSpelled (raw : Raw) : Type 0 where
  pub frames : HasFrames raw.frames
  pub addresses : All HasAddress raw.frames

path_forth : (frames : ℕ) (before : List Raw) (raw : Raw) (at : At) (text : List ℕ) → IsSpelled raw → has_raw raw before ≡ false
    → frames + frames_of_paths before + length raw.frames ≤ most_frames_in_all → left_of at ≡ traced_path_bytes raw ++ text → Comes (traced_path_from frames before at) (before ++ raw ∷ []) text
unfolding traced_path_from
path_forth frames before raw at text is new short left =
    let own : List Frame = raw.frames in
    let many : ℕ = length own in
    let end : ℕ = end_number raw.end in
    let so_far : ℕ = frames + frames_of_paths before in
    let most = is.frames.few in
    let five = end_few raw.end in
    let lengths : is_length so_far many ≡ true =
    and_from _ _ (and_from _ _ (le-leb 1 many is.frames.some) (le-leb many most_frames_of_path most)) (le-leb (so_far + many) most_frames_in_all short) in
    let text2 : List ℕ = flat_map frame_bytes own ++ text in
    let a = ruled_forth is_end_number at end (word many ++ text2) (le-leb end 5 five) (omega (arith, five)) left in
    let b = ruled_forth (is_length so_far) a.0 many text2 lengths (omega (arith, most)) a.2 in
    let f = frames_forth own b.0 text is.addresses b.2 in
    (f.0, rw (a.1, b.1, f.1, put_forth before raw b.0.offset new) refl, f.2)

-- a raw path is none of those before it
other_than : (p : Raw) (before raws : List Raw) (raw : Raw) → AllByRecursion (λ y. same_raw p y ≡ false) (before ++ raw ∷ raws) → same_raw p raw ≡ false
other_than p [] raws raw others = others.0
other_than p (q ∷ before) raws raw others = other_than p before raws raw others.1

pub absent : (before raws : List Raw) (raw : Raw) → IsDistinct same_raw (before ++ raw ∷ raws) → has_raw raw before ≡ false
unfolding IsDistinct
absent [] raws raw distinct = refl
absent (p ∷ before) raws raw distinct =
    let apart : same_raw raw p ≡ false = raw_equiv.symm raw p ∙ other_than p before raws raw distinct.0 in
    ap (λ (b : Bool). b || has_raw raw before) apart ∙ absent before raws raw distinct.1

distinct_as : {a b : List Raw} → a ≡ b → IsDistinct same_raw b → IsDistinct same_raw a
distinct_as same distinct = subst (IsDistinct same_raw) (sym same) distinct

abbrev frames_of : Raw → ℕ
frames_of raw = length raw.frames

pub frames_one : (before : List Raw) (raw : Raw) → frames_of_paths (before ++ raw ∷ []) ≡ frames_of_paths before + length raw.frames
frames_one before raw =
    let parts = sum_by-append frames_of before (raw ∷ []) in
    let last = sum_by-cons frames_of raw [] in
    omega (arith, parts, last)

each_forth : (frames : ℕ) (raws : List Raw) (i : ℕ) (before : List Raw) (at : At) (text : List ℕ) → All IsSpelled raws → IsDistinct same_raw (before ++ raws)
    → frames + frames_of_paths before + frames_of_paths raws ≤ most_frames_in_all → left_of at ≡ flat_map traced_path_bytes raws ++ text
    → Comes (times (λ i. traced_path_from frames) (length raws) i before at) (before ++ raws) text
unfolding times
each_forth frames [] i before at text are distinct short left = (at, ap (λ (l : List Raw). Ok (l, at)) (sym (append-nil before)), left)
each_forth frames (raw ∷ raws) i before at text are distinct short left =
    let more_frames = sum_by-cons frames_of raw raws in
    let first = path_forth frames before raw at (flat_map traced_path_bytes raws ++ text) (All-head IsSpelled raw raws are) (absent before raws raw distinct) (omega (arith, more_frames, short))
    (left ∙ append_assoc (traced_path_bytes raw) (flat_map traced_path_bytes raws) text) in
    let joined : (before ++ raw ∷ []) ++ raws ≡ before ++ raw ∷ raws = append_assoc before (raw ∷ []) raws in
    let one = frames_one before raw in
    let more = each_forth frames raws (i + 1) (before ++ raw ∷ []) first.0 text (All-tail IsSpelled raw raws are) (distinct_as joined distinct) (omega (arith, more_frames, one, short)) first.2 in (
      more.0,
      rw first.1 (more.1 ∙ ap (λ (l : List Raw). Ok (l, more.0)) joined),
      more.2,
    )

pub paths_forth : (frames : ℕ) (raws : List Raw) (at : At) (text : List ℕ) → All IsSpelled raws → IsDistinct same_raw raws → frames + frames_of_paths raws ≤ most_frames_in_all → length raws < 2 ^ 32
    → left_of at ≡ traced_paths_bytes raws ++ text → Comes (traced_paths_from frames at) raws text
unfolding traced_paths_from
paths_forth frames raws at text are distinct short few left =
    let read = word_forth at (length raws) (flat_map traced_path_bytes raws ++ text) few left in
    let each = each_forth frames raws 0 [] read.0 text are distinct (omega (arith, short)) read.2 in
    (each.0, rw read.1 each.1, each.2)
