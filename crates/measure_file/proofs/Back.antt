-- What was read has just these bytes: words and frames.
use Rattle.std.proofs.Common.{◌≡◌, ℕ, zero, suc, ◌+◌, ◌^◌, ◌<◌, ◌≤◌, Bool, true, List, [], Result, Ok, refl, arith}
use Rattle.std.proofs.lemmas.Bool.{and_parts, leb-true}
use Rattle.byteorder.specs.Numbers.{little_from-lt}
use Rattle.prof_bytes.specs.Number.{IsBytes, number_in, word}
use Rattle.prof_bytes.specs.Outcome.{◌>>=◌}
use Rattle.prof_bytes.specs.Reading.{At, left_of}
use Rattle.prof_bytes.specs.Repeated.{adding, times}
use Rattle.prof_bytes.proofs.Lists.{ItemsTook, items_took}
use Rattle.prof_bytes.proofs.Outcomes.{bind_ok, pass_ok}
use Rattle.prof_bytes.proofs.Took.{Took, bytes_left, bytes_on, given, number_moved, number_took}
use Rattle.scope_types.specs.Limits.{most_frames_in_all, most_frames_of_path, most_samples}
use Rattle.scope_types.specs.declared.frame.Frame.{Frame}
use Rattle.measure_file.specs.declared.fault.MeasureFault.{MeasureFault}
use Rattle.measure_file.specs.Fields.{starting_at, word_by, word_from}
use Rattle.measure_file.specs.Measurable.{HasWord}
use Rattle.measure_file.specs.Reading.{measured_frame_from, is_count, is_end_number, is_length}
use Rattle.scope_types.specs.Ends.{end_number, end_of_number}
use Rattle.measure_file.specs.Spelling.{frame_bytes}

-- ---- words

-- a word of a rule that was read on the way to a value, and what was read after it
pub record WordBehind {Y : Type 0} (rule : ℕ → Bool) (at : At) (rest : ℕ × At → Result Y MeasureFault) (y : Y) : Type 0 where
  pub value : ℕ
  pub next : At
  pub took : Took at next (word value)
  pub bytes : IsBytes next.whole
  pub few : value < 2 ^ 32
  pub passes : rule value ≡ true
  pub is : rest (value, next) ≡ Ok y

word_back : (at next : At) (n : ℕ) → IsBytes at.whole → word_from at ≡ Ok (n, next) → Took at next (word n) × (n < 2 ^ 32)
word_back at next n bytes is =
    let n_is = (number_moved starting_at 4 at next n is).1 in
    let few : number_in 4 (left_of at) < 256 ^ 4 = little_from-lt 0 4 (left_of at) (λ i. bytes_left at bytes i) in
    (number_took starting_at 4 at next n bytes is, omega (arith, few, n_is))

pub word_behind : {Y : Type 0} (at : At) (rest : ℕ × At → Result Y MeasureFault) (y : Y) → IsBytes at.whole → (word_from at >>= rest) ≡ Ok y → WordBehind (λ n. true) at rest y
word_behind at rest y bytes is =
    let a = bind_ok (word_from at) rest y is in
    let back = word_back at a.0.1 a.0.0 bytes a.1 in
    record { value = a.0.0; next = a.0.1; took = back.0; bytes = bytes_on back.0 bytes; few = back.1; passes = refl; is = a.2 }

pub ruled_behind : {Y : Type 0} (rule : ℕ → Bool) (at : At) (rest : ℕ × At → Result Y MeasureFault) (y : Y) → IsBytes at.whole → (word_by rule at >>= rest) ≡ Ok y → WordBehind rule at rest y
ruled_behind rule at rest y bytes is =
    let a = bind_ok (word_by rule at) rest y is in
    let b = word_behind at _ _ bytes a.1 in
    let passed = pass_ok (rule b.value) (starting_at at) (Ok (b.value, b.next)) a.0 b.is in
    given (λ n next. rest (n, next) ≡ Ok y → WordBehind rule at rest y) b.value a.0.0 b.next a.0.1 passed.1
    (λ more. record { value = b.value; next = b.next; took = b.took; bytes = b.bytes; few = b.few; passes = passed.0; is = more }) a.2

-- ---- frames

frame_back : (at next : At) (frame : Frame) → IsBytes at.whole → measured_frame_from at ≡ Ok (frame, next) → Took at next (frame_bytes frame) × HasWord frame
unfolding measured_frame_from
frame_back at next frame bytes is =
    let a = word_behind at _ _ bytes is in
    given (λ frame next. Took at next (frame_bytes frame) × HasWord frame) _ frame _ next a.is (a.took, a.few)

pub frames_back : (n : ℕ) (frames : List Frame) (at next : At) → IsBytes at.whole → times (adding measured_frame_from) n 0 [] at ≡ Ok (frames, next) → ItemsTook frame_bytes HasWord n at next [] frames
frames_back n frames at next bytes is = items_took measured_frame_from frame_bytes HasWord frame_back n 0 [] frames at next bytes is

-- ---- what the rules of single words say

pub count_rule : (before n : ℕ) → is_count before n ≡ true → (1 ≤ n) × (before + n ≤ most_samples)
count_rule before n e = (let parts = and_parts _ _ e in (leb-true 1 n parts.0, leb-true (before + n) most_samples parts.1))

pub length_rule : (before n : ℕ) → is_length before n ≡ true → (1 ≤ n) × (n ≤ most_frames_of_path) × (before + n ≤ most_frames_in_all)
length_rule before n e =
    let parts = and_parts _ _ e in
    let first = and_parts _ _ parts.0 in
    (leb-true 1 n first.0, leb-true n most_frames_of_path first.1, leb-true (before + n) most_frames_in_all parts.1)

pub end_again : (n : ℕ) → is_end_number n ≡ true → end_number (end_of_number n) ≡ n
end_again zero e = refl
end_again (suc zero) e = refl
end_again (suc (suc zero)) e = refl
end_again (suc (suc (suc zero))) e = refl
end_again (suc (suc (suc (suc zero)))) e = refl
end_again (suc (suc (suc (suc (suc zero))))) e = refl
end_again (suc (suc (suc (suc (suc (suc n)))))) e = (let few = leb-true (suc (suc (suc (suc (suc (suc n)))))) 5 e in absurd (omega (arith, few)))
