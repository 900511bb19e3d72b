-- What was read has just these bytes: numbers, frames and the raw paths of a hart.
use Rattle.std.proofs.Common.{◌≡◌, ℕ, zero, suc, ◌+◌, ◌^◌, ◌<◌, ◌≤◌, Bool, true, false, List, [], ◌∷◌, ◌++◌, length, All, Result, Ok, refl, sym, ap, subst, ◌∙◌, append_assoc, append-nil, arith}
use Rattle.std.specs.List.{AllByRecursion, IsDistinct, flat_map}
use Rattle.std.proofs.lemmas.Bool.{and_parts, leb-true, or_parts}
use Rattle.std.proofs.lemmas.List.Elements.{All-cons, All-nil}
use Rattle.byteorder.specs.Numbers.{little_from-lt}
use Rattle.prof_bytes.specs.Number.{IsBytes, number_bytes, number_in, word}
use Rattle.prof_bytes.specs.Outcome.{◌>>=◌}
use Rattle.prof_bytes.specs.Reading.{At, left_of}
use Rattle.prof_bytes.specs.Repeated.{adding, times}
use Rattle.prof_bytes.proofs.Lists.{ItemsTook, items_took}
use Rattle.prof_bytes.proofs.Outcomes.{bind_ok, guard_ok, ok_same, pass_ok}
use Rattle.prof_bytes.proofs.Took.{Took, bytes_left, bytes_on, given, number_moved, number_took, took_both, took_none}
use Rattle.scope_types.specs.declared.frame.Frame.{Frame}
use Rattle.scope_types.specs.Limits.{most_frames_in_all, most_frames_of_path}
use Rattle.scope_types.specs.Raw.{Raw, same_raw}
use Rattle.scope_types.specs.private.SameRaw.{raw_equiv}
use Rattle.measure_file.specs.Reading.{is_end_number, is_length}
use Rattle.scope_types.specs.Ends.{end_number, end_of_number}
use Rattle.measure_file.specs.Spelling.{frame_bytes}
use Rattle.trace_lines.specs.declared.fault.TraceFault.{TraceFault}
use Rattle.trace_lines.specs.Traces.{HasAddress, has_raw}
use Rattle.trace_lines.specs.Fields.{fault_at, long_from, starting_at, word_by, word_from}
use Rattle.trace_lines.specs.Reading.{frames_of_paths, new_path, traced_frame_from, traced_path_from, traced_paths_from}
use Rattle.trace_lines.specs.Spelling.{traced_path_bytes, traced_paths_bytes}
use Rattle.trace_lines.proofs.Forth.{IsSpelled, frames_one}

-- ---- numbers

-- a word of a rule that was read on the way to a value, and what was read after it
pub record WordBehind {Y : Type 0} (rule : ℕ → Bool) (at : At) (rest : ℕ × At → Result Y TraceFault) (y : Y) : Type 0 where
  pub value : ℕ
  pub next : At
  pub took : Took at next (word value)
  pub bytes : IsBytes next.whole
  pub few : value < 2 ^ 32
  pub passes : rule value ≡ true
  pub is : rest (value, next) ≡ Ok y

word_back : (at next : At) (n : ℕ) → IsBytes at.whole → word_from at ≡ Ok (n, next) → Took at next (word n) × (n < 2 ^ 32)
word_back at next n bytes is =
    let n_is = (number_moved starting_at 4 at next n is).1 in
    let few : number_in 4 (left_of at) < 256 ^ 4 = little_from-lt 0 4 (left_of at) (λ i. bytes_left at bytes i) in
    (number_took starting_at 4 at next n bytes is, omega (arith, few, n_is))

pub word_behind : {Y : Type 0} (at : At) (rest : ℕ × At → Result Y TraceFault) (y : Y) → IsBytes at.whole → (word_from at >>= rest) ≡ Ok y → WordBehind (λ n. true) at rest y
word_behind at rest y bytes is =
    let a = bind_ok (word_from at) rest y is in
    let back = word_back at a.0.1 a.0.0 bytes a.1 in
    record { value = a.0.0; next = a.0.1; took = back.0; bytes = bytes_on back.0 bytes; few = back.1; passes = refl; is = a.2 }

pub ruled_behind : {Y : Type 0} (rule : ℕ → Bool) (at : At) (rest : ℕ × At → Result Y TraceFault) (y : Y) → IsBytes at.whole → (word_by rule at >>= rest) ≡ Ok y → WordBehind rule at rest y
ruled_behind rule at rest y bytes is =
    let a = bind_ok (word_by rule at) rest y is in
    let b = word_behind at _ _ bytes a.1 in
    let passed = pass_ok (rule b.value) (starting_at at) (Ok (b.value, b.next)) a.0 b.is in
    given (λ n next. rest (n, next) ≡ Ok y → WordBehind rule at rest y) b.value a.0.0 b.next a.0.1 passed.1
    (λ more. record { value = b.value; next = b.next; took = b.took; bytes = b.bytes; few = b.few; passes = passed.0; is = more }) a.2

-- a number of eight bytes that was read on the way to a value, and what was read after it
pub record LongBehind {Y : Type 0} (at : At) (rest : ℕ × At → Result Y TraceFault) (y : Y) : Type 0 where
  pub value : ℕ
  pub next : At
  pub took : Took at next (number_bytes 8 value)
  pub bytes : IsBytes next.whole
  pub few : value < 2 ^ 64
  pub is : rest (value, next) ≡ Ok y

pub long_behind : {Y : Type 0} (at : At) (rest : ℕ × At → Result Y TraceFault) (y : Y) → IsBytes at.whole → (long_from at >>= rest) ≡ Ok y → LongBehind at rest y
long_behind at rest y bytes is =
    let a = bind_ok (long_from at) rest y is in
    let n_is = (number_moved starting_at 8 at a.0.1 a.0.0 a.1).1 in
    let few : number_in 8 (left_of at) < 256 ^ 8 = little_from-lt 0 8 (left_of at) (λ i. bytes_left at bytes i) in
    let took = number_took starting_at 8 at a.0.1 a.0.0 bytes a.1 in
    record { value = a.0.0; next = a.0.1; took = took; bytes = bytes_on took bytes; few = omega (arith, few, n_is); is = a.2 }

-- ---- frames

frame_back : (at next : At) (frame : Frame) → IsBytes at.whole → traced_frame_from at ≡ Ok (frame, next) → Took at next (frame_bytes frame) × HasAddress frame
unfolding traced_frame_from
frame_back at next frame bytes is =
    let a = word_behind at _ _ bytes is in
    given (λ frame next. Took at next (frame_bytes frame) × HasAddress frame) _ frame _ next a.is (a.took, a.few)

frames_back : (n : ℕ) (frames : List Frame) (at next : At) → IsBytes at.whole → times (adding traced_frame_from) n 0 [] at ≡ Ok (frames, next) → ItemsTook frame_bytes HasAddress n at next [] frames
frames_back n frames at next bytes is = items_took traced_frame_from frame_bytes HasAddress frame_back n 0 [] frames at next bytes is

-- ---- raw paths

length_rule : (before n : ℕ) → is_length before n ≡ true → (1 ≤ n) × (n ≤ most_frames_of_path) × (before + n ≤ most_frames_in_all)
length_rule before n e =
    let parts = and_parts _ _ e in
    let first = and_parts _ _ parts.0 in
    (leb-true 1 n first.0, leb-true n most_frames_of_path first.1, leb-true (before + n) most_frames_in_all parts.1)

end_again : (n : ℕ) → is_end_number n ≡ true → end_number (end_of_number n) ≡ n
end_again zero e = refl
end_again (suc zero) e = refl
end_again (suc (suc zero)) e = refl
end_again (suc (suc (suc zero))) e = refl
end_again (suc (suc (suc (suc zero)))) e = refl
end_again (suc (suc (suc (suc (suc zero))))) e = refl
end_again (suc (suc (suc (suc (suc (suc n)))))) e = (let few = leb-true (suc (suc (suc (suc (suc (suc n)))))) 5 e in absurd (omega (arith, few)))

-- a raw path that was put after those before it
record PathBack (frames : ℕ) (before new : List Raw) (at next : At) (raw : Raw) : Type 0 where
  pub is : new ≡ before ++ raw ∷ []
  pub spelled : IsSpelled raw
  pub absent : has_raw raw before ≡ false
  pub few : frames + frames_of_paths (before ++ raw ∷ []) ≤ most_frames_in_all
  pub took : Took at next (traced_path_bytes raw)

path_back : (frames : ℕ) (before : List Raw) (at next : At) (new : List Raw) → IsBytes at.whole → traced_path_from frames before at ≡ Ok (new, next) → (raw : Raw) × PathBack frames before new at next raw
unfolding traced_path_from
path_back frames before at next new bytes is =
    let a = ruled_behind is_end_number at _ _ bytes is in
    let b = ruled_behind (is_length (frames + frames_of_paths before)) a.next _ _ a.bytes a.is in
    let f = bind_ok (times (adding traced_frame_from) b.value 0 [] b.next) _ _ b.is in
    let own : List Frame = f.0.0 in
    let read = frames_back b.value own b.next f.0.1 b.bytes f.1 in
    let raw : Raw = record { end = end_of_number a.value; frames = own } in
    let p = bind_ok (new_path b.next.offset raw before) _ _ f.2 in
    let g = guard_ok (has_raw raw before) (fault_at b.next.offset) (Ok (before ++ raw ∷ [])) p.0 p.1 in
    let long : length own ≡ b.value = ap (λ (fs : List Frame). length fs) read.is ∙ read.many in
    let lengths = length_rule (frames + frames_of_paths before) b.value b.passes in
    let one = frames_one before raw in
    let end_took : Took at a.next (word (end_number raw.end)) = subst (λ (n : ℕ). Took at a.next (word n)) (sym (end_again a.value a.passes)) a.took in
    let length_took : Took a.next b.next (word (length own)) = subst (λ (n : ℕ). Took a.next b.next (word n)) (sym long) b.took in
    let frames_took : Took b.next f.0.1 (flat_map frame_bytes own) = subst (λ (fs : List Frame). Took b.next f.0.1 (flat_map frame_bytes fs)) (sym read.is) read.took in (
      raw,
      given (λ new next. PathBack frames before new at next raw) p.0 new f.0.1 next p.2 (record {
        is = sym (ok_same (before ++ raw ∷ []) p.0 g.1);
        spelled = record {
          frames = record { some = (let l = lengths.0 in omega (arith, l, long)); few = (let l = lengths.1 in omega (arith, l, long)) };
          addresses = subst (All HasAddress) (sym read.is) read.fit;
        };
        absent = g.0;
        few = (let l = lengths.2 in omega (arith, l, long, one));
        took = took_both end_took (took_both length_took frames_took);
      }),
    )

-- a raw path that is not there goes last
other_more : (p raw : Raw) (raws : List Raw) → same_raw p raw ≡ false → AllByRecursion (λ y. same_raw p y ≡ false) raws → AllByRecursion (λ y. same_raw p y ≡ false) (raws ++ raw ∷ [])
other_more p raw [] apart others = (apart, tt)
other_more p raw (q ∷ raws) apart others = (others.0, other_more p raw raws apart others.1)

pub distinct_more : (raws : List Raw) (raw : Raw) → has_raw raw raws ≡ false → IsDistinct same_raw raws → IsDistinct same_raw (raws ++ raw ∷ [])
unfolding IsDistinct
distinct_more [] raw new distinct = (tt, tt)
distinct_more (p ∷ raws) raw new distinct =
    let parts = or_parts (same_raw raw p) (has_raw raw raws) new in
    (other_more p raw raws (raw_equiv.symm p raw ∙ parts.0) distinct.0, distinct_more raws raw parts.1 distinct.1)

-- raw paths that were put after those before them
pub record PathsBack (frames : ℕ) (before : List Raw) (n : ℕ) (new : List Raw) (at next : At) (raws : List Raw) : Type 0 where
  pub is : new ≡ before ++ raws
  pub many : length raws ≡ n
  pub spelled : All IsSpelled raws
  pub distinct : IsDistinct same_raw (before ++ raws)
  pub few : frames + frames_of_paths (before ++ raws) ≤ most_frames_in_all
  pub took : Took at next (flat_map traced_path_bytes raws)

each_back : (frames n i : ℕ) (before : List Raw) (at next : At) (new : List Raw) → IsBytes at.whole → IsDistinct same_raw before → frames + frames_of_paths before ≤ most_frames_in_all
    → times (λ i. traced_path_from frames) n i before at ≡ Ok (new, next) → (raws : List Raw) × PathsBack frames before n new at next raws
unfolding times
each_back frames zero i before at next new bytes distinct few is =
    let none : before ≡ before ++ [] = sym (append-nil before) in (
      [],
      given (λ new next. PathsBack frames before 0 new at next []) before new at next is (record {
        is = none;
        many = refl;
        spelled = All-nil IsSpelled;
        distinct = subst (IsDistinct same_raw) none distinct;
        few = subst (λ (l : List Raw). frames + frames_of_paths l ≤ most_frames_in_all) none few;
        took = took_none at;
      }),
    )
each_back frames (suc n) i before at next new bytes distinct few is =
    let one = bind_ok (traced_path_from frames before at) _ _ is in
    let mid : List Raw × At = one.0 in
    let first = path_back frames before at mid.1 mid.0 bytes one.1 in
    let raw : Raw = first.0 in
    let back = first.1 in
    let more = each_back frames n (i + 1) (before ++ raw ∷ []) mid.1 next new (bytes_on back.took bytes) (distinct_more before raw back.absent distinct) back.few
    (subst (λ (l : List Raw). times (λ i. traced_path_from frames) n (i + 1) l mid.1 ≡ Ok (new, next)) back.is one.2) in
    let raws : List Raw = more.0 in
    let joined : (before ++ raw ∷ []) ++ raws ≡ before ++ raw ∷ raws = append_assoc before (raw ∷ []) raws in
    let long = more.1.many in (
      raw ∷ raws,
      record {
        is = more.1.is ∙ joined;
        many = omega (arith, long);
        spelled = All-cons IsSpelled raw raws back.spelled more.1.spelled;
        distinct = subst (IsDistinct same_raw) joined more.1.distinct;
        few = subst (λ (l : List Raw). frames + frames_of_paths l ≤ most_frames_in_all) joined more.1.few;
        took = took_both back.took more.1.took;
      },
    )

no_paths_distinct : IsDistinct same_raw []
unfolding IsDistinct
no_paths_distinct = tt

-- the raw paths of a hart
pub record HartPathsBack (frames : ℕ) (at next : At) (raws : List Raw) : Type 0 where
  pub spelled : All IsSpelled raws
  pub distinct : IsDistinct same_raw raws
  pub few : frames + frames_of_paths raws ≤ most_frames_in_all
  pub took : Took at next (traced_paths_bytes raws)

pub paths_back : (frames : ℕ) (at next : At) (raws : List Raw) → IsBytes at.whole → frames ≤ most_frames_in_all → traced_paths_from frames at ≡ Ok (raws, next) → HartPathsBack frames at next raws
unfolding traced_paths_from
paths_back frames at next raws bytes short is =
    let a = word_behind at _ _ bytes is in
    let each = each_back frames a.value 0 [] a.next next raws a.bytes no_paths_distinct (omega (arith, short)) a.is in
    let own : List Raw = each.0 in
    let counted : Took at a.next (word (length own)) = subst (λ (n : ℕ). Took at a.next (word n)) (sym each.1.many) a.took in
    subst (λ (l : List Raw). HartPathsBack frames at next l) (sym each.1.is) (record {
      spelled = each.1.spelled;
      distinct = each.1.distinct;
      few = each.1.few;
      took = took_both counted each.1.took;
    })
