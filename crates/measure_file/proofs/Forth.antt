-- What was written is read as the same: words, frames, paths and columns.
use Rattle.std.proofs.Common.{◌≡◌, ℕ, ◌+◌, ◌^◌, ◌<◌, ◌≤◌, Bool, true, false, cond, List, [], ◌∷◌, ◌++◌, length, replicate, sum_by, All, Ok, Err, refl, sym, ap, subst, ◌∙◌, append_assoc, append-nil, arith}
use Rattle.std.specs.List.{flat_map}
use Rattle.std.proofs.lemmas.Bool.{and_from, le-leb, or_from, or_parts}
use Rattle.std.proofs.lemmas.List.{length-append, map-id}
use Rattle.std.proofs.lemmas.List.Elements.{All-head, All-tail}
use Rattle.std.proofs.lemmas.List.Folds.{list_any-append}
use Rattle.std.proofs.lemmas.List.Sums.{sum_by-cons}
use Rattle.prof_bytes.specs.Number.{word}
use Rattle.prof_bytes.proofs.Lists.{Reads, items_come}
use Rattle.prof_bytes.proofs.Written.{Comes, word_comes}
use Rattle.prof_bytes.specs.Reading.{At, left_of}
use Rattle.scope_types.specs.declared.frame.Counted.{Counted}
use Rattle.scope_types.specs.declared.frame.Frame.{Frame}
use Rattle.scope_types.specs.declared.frame.End.{End}
use Rattle.scope_types.specs.declared.frame.End.TheVariants.{Whole, Partial}
use Rattle.scope_types.specs.declared.frame.PartialCause.TheVariants.{NoFde, NoCfa, Expression, Unmapped, Depth}
use Rattle.scope_types.specs.Distinct.{frames_in, samples_in}
use Rattle.scope_types.specs.Limits.{most_frames_in_all, most_frames_of_path, most_samples}
use Rattle.scope_types.specs.Raw.{same_raw}
use Rattle.scope_types.specs.private.SameRaw.{raw_equiv}
use Rattle.thread_cct.specs.Adding.{has_path, of_column, with_path}
use Rattle.thread_cct.proofs.Paths.{paths_below}
use Rattle.prof_bytes.specs.Repeated.{adding, times}
use Rattle.measure_file.specs.Fields.{fault_at, starting_at, word_from, word_by}
use Rattle.measure_file.specs.Measurable.{AreDistinct, HasWord, IsCounted}
use Rattle.measure_file.specs.Reading.{measured_frame_from, column_from, is_count, is_end_number, is_length, new_path, measured_path_from}
use Rattle.scope_types.specs.Ends.{end_number, end_of_number}
use Rattle.measure_file.specs.Spelling.{frame_bytes, path_bytes, column_bytes}
use Rattle.measure_file.proofs.Seams.{Tables, count_of, frames_of, own_of, own_put, own_sum, sum_more}
use Rattle.measure_file.proofs.Sums.{no_sums}

-- ---- words

pub word_forth : (at : At) (n : ℕ) (rest : List ℕ) → n < 2 ^ 32 → left_of at ≡ word n ++ rest → Comes (word_from at) n rest
word_forth at n rest few left = word_comes starting_at at n rest few left

pub ruled_forth : (rule : ℕ → Bool) (at : At) (n : ℕ) (rest : List ℕ) → rule n ≡ true → n < 2 ^ 32 → left_of at ≡ word n ++ rest → Comes (word_by rule at) n rest
ruled_forth rule at n rest passes few left = (let read = word_forth at n rest few left in (read.0, rw (read.1, passes) refl, read.2))

-- ---- frames

frame_forth : (at : At) (frame : Frame) (rest : List ℕ) → HasWord frame → left_of at ≡ frame_bytes frame ++ rest → Reads (λ (f : Frame). f) (measured_frame_from at) frame rest
unfolding measured_frame_from
frame_forth at frame rest few left =
    let a = word_forth at frame.pc rest few left in
    record { value = frame; next = a.0; is = rw a.1 refl; same = refl; left = a.2 }

frames_forth : (frames : List Frame) (at : At) (rest : List ℕ) → All HasWord frames → left_of at ≡ flat_map frame_bytes frames ++ rest → Comes (times (adding measured_frame_from) (length frames) 0 [] at) frames rest
frames_forth frames at rest words left =
    let a = items_come measured_frame_from (λ f. f) (λ f. f) frame_bytes HasWord frame_forth frames 0 [] at rest words left in
    (a.next, a.is ∙ ap (λ (fs : List Frame). Ok (fs, a.next)) (sym (map-id a.xs) ∙ a.same ∙ map-id frames), a.left)

-- ---- paths

end_back : (end : End) → end_of_number (end_number end) ≡ end
end_back Whole = refl
end_back (Partial NoFde) = refl
end_back (Partial NoCfa) = refl
end_back (Partial Expression) = refl
end_back (Partial Unmapped) = refl
end_back (Partial Depth) = refl

end_few : (end : End) → end_number end ≤ 5
end_few Whole = omega arith
end_few (Partial NoFde) = omega arith
end_few (Partial NoCfa) = omega arith
end_few (Partial Expression) = omega arith
end_few (Partial Unmapped) = omega arith
end_few (Partial Depth) = omega arith

put_forth : (done rest : Tables) (own : List Counted) (c : Counted) (offset : ℕ) → has_path c.path own ≡ false
    → new_path (length done) offset (record { path = record { end = end_of_number (end_number c.path.end); frames = c.path.frames }; count = c.count }) (done ++ own ∷ rest) ≡ Ok (done ++ (own ++ c ∷ []) ∷ rest)
put_forth done rest own c offset new =
    let tables : Tables = done ++ own ∷ rest in
    let column : ℕ = length done in
    let absent : has_path c.path (of_column tables column) ≡ false = subst (λ (cs : List Counted). has_path c.path cs ≡ false) (sym (own_of done rest own)) new in
    ap (λ (end : End). new_path column offset (record { path = record { end = end; frames = c.path.frames }; count = c.count }) tables) (end_back c.path.end)
    ∙ ap (λ (b : Bool). cond b (Err (fault_at offset)) (Ok (with_path tables column c))) absent ∙ ap (λ (t : Tables). Ok t) (own_put done rest own c)

path_forth : (done rest : Tables) (own : List Counted) (c : Counted) (at : At) (text : List ℕ) → IsCounted c → has_path c.path own ≡ false
    → samples_in (done ++ own ∷ rest) + c.count ≤ most_samples → frames_in (done ++ own ∷ rest) + length c.path.frames ≤ most_frames_in_all
    → left_of at ≡ path_bytes c ++ text → Comes (measured_path_from (length done) (done ++ own ∷ rest) at) (done ++ (own ++ c ∷ []) ∷ rest) text
unfolding measured_path_from
path_forth done rest own c at text is new few short left =
    let tables : Tables = done ++ own ∷ rest in
    let frames : List Frame = c.path.frames in
    let many : ℕ = length frames in
    let end : ℕ = end_number c.path.end in
    let most = is.frames.few in
    let five = end_few c.path.end in
    let counts : is_count (samples_in tables) c.count ≡ true = and_from _ _ (le-leb 1 c.count is.count) (le-leb (samples_in tables + c.count) most_samples few) in
    let lengths : is_length (frames_in tables) many ≡ true =
    and_from _ _ (and_from _ _ (le-leb 1 many is.frames.some) (le-leb many most_frames_of_path most)) (le-leb (frames_in tables + many) most_frames_in_all short) in
    let text3 : List ℕ = flat_map frame_bytes frames ++ text in
    let a = ruled_forth (is_count (samples_in tables)) at c.count (word end ++ (word many ++ text3)) counts (omega (arith, few)) left in
    let b = ruled_forth is_end_number a.0 end (word many ++ text3) (le-leb end 5 five) (omega (arith, five)) a.2 in
    let d = ruled_forth (is_length (frames_in tables)) b.0 many text3 lengths (omega (arith, most)) b.2 in
    let f = frames_forth frames d.0 text is.addresses d.2 in
    (f.0, rw (a.1, b.1, d.1, f.1, put_forth done rest own c d.0.offset new) refl, f.2)

-- a path is none of those before it
new_behind : (own cs : List Counted) (c : Counted) → AreDistinct (own ++ c ∷ cs) → has_path c.path own ≡ false
new_behind [] cs c are = refl
new_behind (d ∷ own) cs c are =
    let parts = or_parts (has_path d.path own) (has_path d.path (c ∷ cs)) (sym (list_any-append (λ (x : Counted). same_raw d.path x.path) own (c ∷ cs)) ∙ are.0) in
    let apart = or_parts (same_raw d.path c.path) (has_path d.path cs) parts.1 in
    or_from (same_raw c.path d.path) (has_path c.path own) (raw_equiv.symm c.path d.path ∙ apart.0) (new_behind own cs c are.1)

paths_forth : (cs : List Counted) (i : ℕ) (done rest : Tables) (own : List Counted) (at : At) (text : List ℕ) → All IsCounted cs → AreDistinct (own ++ cs)
    → samples_in (done ++ own ∷ rest) + sum_by count_of cs ≤ most_samples → frames_in (done ++ own ∷ rest) + sum_by frames_of cs ≤ most_frames_in_all
    → left_of at ≡ flat_map path_bytes cs ++ text → Comes (times (λ i. measured_path_from (length done)) (length cs) i (done ++ own ∷ rest) at) (done ++ (own ++ cs) ∷ rest) text
unfolding times
paths_forth [] i done rest own at text are apart few short left = (at, ap (λ (l : List Counted). Ok (done ++ l ∷ rest, at)) (sym (append-nil own)), left)
paths_forth (c ∷ cs) i done rest own at text are apart few short left =
    let counts = sum_by-cons count_of c cs in
    let frames = sum_by-cons frames_of c cs in
    let first = path_forth done rest own c at (flat_map path_bytes cs ++ text) (All-head IsCounted c cs are) (new_behind own cs c apart) (omega (arith, counts, few)) (omega (arith, frames, short))
    (left ∙ append_assoc (path_bytes c) (flat_map path_bytes cs) text) in
    let mid : At = first.0 in
    let joined : (own ++ c ∷ []) ++ cs ≡ own ++ c ∷ cs = append_assoc own (c ∷ []) cs in
    let counts_more = sum_more count_of done rest own c in
    let frames_more = sum_more frames_of done rest own c in
    let more = paths_forth cs (i + 1) done rest (own ++ c ∷ []) mid text (All-tail IsCounted c cs are) (subst AreDistinct (sym joined) apart) (omega (arith, counts, few, counts_more))
    (omega (arith, frames, short, frames_more)) first.2 in (
      more.0,
      rw first.1 (more.1 ∙ ap (λ (l : List Counted). Ok (done ++ l ∷ rest, more.0)) joined),
      more.2,
    )

-- ---- columns

column_forth : (cs : List Counted) (done rest : Tables) (at : At) (text : List ℕ) → All IsCounted cs → AreDistinct cs
    → samples_in (done ++ [] ∷ rest) + sum_by count_of cs ≤ most_samples → frames_in (done ++ [] ∷ rest) + sum_by frames_of cs ≤ most_frames_in_all
    → left_of at ≡ column_bytes cs ++ text → Comes (column_from (length done) (done ++ [] ∷ rest) at) (done ++ cs ∷ rest) text
unfolding column_from
column_forth cs done rest at text are apart few short left =
    let below = paths_below cs (λ k d lt. (are k d lt).count) in
    let read = word_forth at (length cs) (flat_map path_bytes cs ++ text) (omega (arith, below, few)) left in
    let paths = paths_forth cs 0 done rest [] read.0 text are apart few short read.2 in
    (paths.0, rw read.1 paths.1, paths.2)

pub columns_forth : (more done : Tables) (at : At) (text : List ℕ) → All (All IsCounted) more → All AreDistinct more → samples_in done + samples_in more ≤ most_samples
    → frames_in done + frames_in more ≤ most_frames_in_all → left_of at ≡ flat_map column_bytes more ++ text
    → Comes (times column_from (length more) (length done) (done ++ replicate (length more) []) at) (done ++ more) text
unfolding times
columns_forth [] done at text are apart few short left = (at, refl, left)
columns_forth (cs ∷ more) done at text are apart few short left =
    let rest : Tables = replicate (length more) [] in
    let none = no_sums rest (length more) refl in
    let no_samples = none.samples in
    let no_frames = none.frames in
    let counts = sum_by-cons (sum_by count_of) cs more in
    let frames = sum_by-cons (sum_by frames_of) cs more in
    let start_counts = own_sum count_of done rest [] in
    let start_frames = own_sum frames_of done rest [] in
    let first = column_forth cs done rest at (flat_map column_bytes more ++ text) (All-head (All IsCounted) cs more are) (All-head AreDistinct cs more apart)
    (omega (arith, no_samples, counts, start_counts, few)) (omega (arith, no_frames, frames, start_frames, short)) (left ∙ append_assoc (column_bytes cs) (flat_map column_bytes more) text) in
    let mid : At = first.0 in
    let seam : done ++ cs ∷ rest ≡ (done ++ cs ∷ []) ++ rest = sym (append_assoc done (cs ∷ []) rest) in
    let later : length done + 1 ≡ length (done ++ cs ∷ []) = (let parts = length-append done (cs ∷ []) in omega (arith, parts)) in
    let new_counts = own_sum count_of done [] cs in
    let new_frames = own_sum frames_of done [] cs in
    let others = columns_forth more (done ++ cs ∷ []) mid text (All-tail (All IsCounted) cs more are) (All-tail AreDistinct cs more apart) (omega (arith, counts, new_counts, few))
    (omega (arith, frames, new_frames, short)) first.2 in (
      others.0,
      rw first.1 (ap (λ (t : Tables). times column_from (length more) (length done + 1) t mid) seam ∙ ap (λ (k : ℕ). times column_from (length more) k ((done ++ cs ∷ []) ++ rest) mid) later
          ∙ others.1 ∙ ap (λ (t : Tables). Ok (t, others.0)) (append_assoc done (cs ∷ []) more)),
      others.2,
    )
