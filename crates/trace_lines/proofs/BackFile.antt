-- What was read has just these bytes: harts, and the whole file.
use Rattle.std.proofs.Common.{◌≡◌, ℕ, zero, suc, ◌+◌, ◌/◌, ◌≤◌, true, nat_lt, List, [], ◌∷◌, ◌++◌, length, All, Ok, refl, sym, ap, subst, ◌∙◌, append_assoc, append-nil, arith}
use Rattle.std.specs.List.{flat_map}
use Rattle.std.proofs.lemmas.Bool.{and_parts, eqb-true, leb-true, ltb-false}
use Rattle.std.proofs.lemmas.List.{nil_from_length}
use Rattle.std.proofs.lemmas.List.Elements.{All-append, All-cons, All-nil}
use Rattle.prof_bytes.specs.Format.{magic_or}
use Rattle.prof_bytes.specs.Number.{IsBytes, word}
use Rattle.prof_bytes.specs.Reading.{At, left_of}
use Rattle.prof_bytes.specs.Repeated.{times}
use Rattle.prof_bytes.proofs.Outcomes.{bind_ok, guard_ok, ok_same}
use Rattle.prof_bytes.proofs.Took.{Took, bytes_on, given, magic_took, took_both, took_none}
use Rattle.scope_types.specs.Limits.{most_frames_in_all, most_harts, most_samples}
use Rattle.scope_types.specs.Raw.{HasFrames, Raw}
use Rattle.measure_file.specs.Reading.{is_harts, is_period}
use Rattle.trace_lines.specs.Traces.{HartTrace, IsStorable, IsStorableHart, Traced, distinct_paths, frames_traced, samples_traced}
use Rattle.trace_lines.specs.Fields.{fault_at, starting_at}
use Rattle.trace_lines.specs.Reading.{frames_of_paths, hart_from, harts_from, is_sample_count, samples_from, trace_in, traced_paths_from}
use Rattle.trace_lines.specs.Spelling.{hart_bytes, places_bytes, trace_magic, trace_spelling, traced_paths_bytes}
use Rattle.trace_lines.proofs.Back.{long_behind, paths_back, ruled_behind, word_behind}
use Rattle.trace_lines.proofs.BackSamples.{SamplesBack, samples_back}
use Rattle.trace_lines.proofs.Forth.{IsSpelled}
use Rattle.trace_lines.proofs.HartSums.{frames_with, samples_with}

abbrev HaveAll : HartTrace → Type 0
HaveAll h = All (λ raw. HasFrames raw.frames) h.samples

-- harts that were read so far
record AreRead (period : ℕ) (harts : List HartTrace) : Type 0 where
  pub storable : All (IsStorableHart period) harts
  pub paths : All HaveAll harts
  pub samples : samples_traced harts ≤ most_samples
  pub frames : frames_traced harts ≤ most_frames_in_all

-- a hart after those before it
record HartBack (period : ℕ) (before new : List HartTrace) (at next : At) (h : HartTrace) : Type 0 where
  pub is : new ≡ before ++ h ∷ []
  pub are : AreRead period (before ++ h ∷ [])
  pub took : Took at next (hart_bytes h)

hart_back : (period : ℕ) (before : List HartTrace) (at next : At) (new : List HartTrace) → IsBytes at.whole → AreRead period before → hart_from period before at ≡ Ok (new, next)
    → (h : HartTrace) × HartBack period before new at next h
unfolding hart_from
hart_back period before at next new bytes are is =
    let a = long_behind at _ _ bytes is in
    let rule = is_sample_count period a.value (samples_traced before) in
    let f = bind_ok (traced_paths_from (frames_traced before) a.next) _ _ a.is in
    let paths : List Raw = f.0.0 in
    let p = paths_back (frames_traced before) a.next f.0.1 paths a.bytes are.frames f.1 in
    let g = bind_ok (samples_from rule paths f.0.1) _ _ f.2 in
    let samples : List Raw = g.0.0 in
    let s : SamplesBack rule paths f.0.1 g.0.1 samples = samples_back rule paths f.0.1 g.0.1 samples (bytes_on p.took a.bytes) p.distinct g.1 in
    let h : HartTrace = record { retired = a.value; samples = samples } in
    let counts = and_parts _ _ s.count in
    let fits = leb-true (samples_traced before + length samples) most_samples counts.1 in
    let each : All IsSpelled samples = s.each p.spelled in
    let storable : IsStorableHart period h = record { finished = eqb-true (length samples) (a.value / period) counts.0; retired = a.few; addresses = λ i d less. (each i d less).addresses } in
    let has : HaveAll h = λ i d less. (each i d less).frames in
    let more_samples = samples_with before h in
    let more_frames = frames_with before h in
    let short = p.few in
    let same = ap frames_of_paths s.distinct in
    let paths_took : Took a.next f.0.1 (traced_paths_bytes (distinct_paths samples)) = subst (λ (l : List Raw). Took a.next f.0.1 (traced_paths_bytes l)) s.distinct p.took in
    let places_took : Took f.0.1 g.0.1 (places_bytes (distinct_paths samples) samples) = subst (λ (l : List Raw). Took f.0.1 g.0.1 (places_bytes l samples)) s.distinct s.took in
    let took : Took at g.0.1 (hart_bytes h) = took_both (took_both a.took paths_took) places_took in (
      h,
      given (λ new next. HartBack period before new at next h) (before ++ h ∷ []) new g.0.1 next g.2 (record {
        is = refl;
        are = record {
          storable = All-append (IsStorableHart period) before (h ∷ []) are.storable (All-cons (IsStorableHart period) h [] storable (All-nil (IsStorableHart period)));
          paths = All-append HaveAll before (h ∷ []) are.paths (All-cons HaveAll h [] has (All-nil HaveAll));
          samples = omega (arith, more_samples, fits);
          frames = omega (arith, more_frames, short, same);
        };
        took = took;
      }),
    )

-- harts after those before them
record HartsBack (period : ℕ) (before : List HartTrace) (n : ℕ) (new : List HartTrace) (at next : At) (more : List HartTrace) : Type 0 where
  pub is : new ≡ before ++ more
  pub many : length more ≡ n
  pub are : AreRead period (before ++ more)
  pub took : Took at next (flat_map hart_bytes more)

each_back : (period n i : ℕ) (before : List HartTrace) (at next : At) (new : List HartTrace) → IsBytes at.whole → AreRead period before → times (λ i. hart_from period) n i before at ≡ Ok (new, next)
    → (more : List HartTrace) × HartsBack period before n new at next more
unfolding times
each_back period zero i before at next new bytes are is =
    let none : before ≡ before ++ [] = sym (append-nil before) in (
      [],
      given (λ new next. HartsBack period before 0 new at next []) before new at next is (record { is = none; many = refl; are = subst (AreRead period) none are; took = took_none at }),
    )
each_back period (suc n) i before at next new bytes are is =
    let one = bind_ok (hart_from period before at) _ _ is in
    let mid : List HartTrace × At = one.0 in
    let first = hart_back period before at mid.1 mid.0 bytes are one.1 in
    let h : HartTrace = first.0 in
    let more = each_back period n (i + 1) (before ++ h ∷ []) mid.1 next new (bytes_on first.1.took bytes) first.1.are
    (subst (λ (l : List HartTrace). times (λ i. hart_from period) n (i + 1) l mid.1 ≡ Ok (new, next)) first.1.is one.2) in
    let harts : List HartTrace = more.0 in
    let joined : (before ++ h ∷ []) ++ harts ≡ before ++ h ∷ harts = append_assoc before (h ∷ []) harts in
    let long = more.1.many in (
      h ∷ harts,
      record {
        is = more.1.is ∙ joined;
        many = omega (arith, long);
        are = subst (AreRead period) joined more.1.are;
        took = took_both first.1.took more.1.took;
      },
    )

none_read : (period : ℕ) → AreRead period []
none_read period = record { storable = All-nil (IsStorableHart period); paths = All-nil HaveAll; samples = omega arith; frames = omega arith }

-- all harts, up to the end of the file
record RestBack (period n : ℕ) (at : At) (harts : List HartTrace) : Type 0 where
  pub are : AreRead period harts
  pub many : length harts ≡ n
  pub left : left_of at ≡ flat_map hart_bytes harts

harts_back : (period n : ℕ) (at : At) (harts : List HartTrace) → IsBytes at.whole → harts_from period n at ≡ Ok harts → RestBack period n at harts
unfolding harts_from
harts_back period n at harts bytes is =
    let read = bind_ok (times (λ i. hart_from period) n 0 [] at) _ _ is in
    let found : List HartTrace = read.0.0 in
    let end : At = read.0.1 in
    let whole = guard_ok (nat_lt 0 (length (left_of end))) (starting_at end) (Ok found) harts read.2 in
    let found_is : found ≡ harts = ok_same found harts whole.1 in
    let short : length (left_of end) ≤ 0 = ltb-false 0 (length (left_of end)) whole.0 in
    let none : left_of end ≡ [] = nil_from_length (left_of end) (omega (arith, short)) in
    let back = each_back period n 0 [] at end found bytes (none_read period) read.1 in
    let more : List HartTrace = back.0 in
    subst (λ (l : List HartTrace). RestBack period n at l) (sym back.1.is ∙ found_is) (record {
      are = back.1.are;
      many = back.1.many;
      left = back.1.took.left ∙ ap (λ (l : List ℕ). flat_map hart_bytes more ++ l) none ∙ append-nil (flat_map hart_bytes more);
    })

harts_rule : (n : ℕ) → is_harts n ≡ true → (1 ≤ n) × (n ≤ most_harts)
harts_rule n e = (let parts = and_parts _ _ e in (leb-true 1 n parts.0, leb-true n most_harts parts.1))

-- ---- the file

abbrev FileBack : List ℕ → Traced → Type 0
FileBack bytes t = IsStorable t × (bytes ≡ trace_spelling t)

file_back : (bytes : List ℕ) (t : Traced) → IsBytes bytes → trace_in bytes ≡ Ok t → FileBack bytes t
unfolding trace_in trace_spelling
file_back bytes t are is =
    let front = bind_ok (magic_or (fault_at 0) trace_magic bytes) _ _ is in
    let behind = magic_took (fault_at 0) trace_magic bytes front.0 front.1 in
    let a = word_behind front.0 _ _ (subst IsBytes (ap (λ (at : At). at.whole) behind.0) are) front.2 in
    let b = word_behind a.next _ _ a.bytes a.is in
    let c = ruled_behind is_period b.next _ _ b.bytes b.is in
    let d = ruled_behind is_harts c.next _ _ c.bytes c.is in
    let e = bind_ok (harts_from c.value d.value d.next) _ _ d.is in
    let harts : List HartTrace = e.0 in
    let many = harts_rule d.value d.passes in
    let some = many.0 in
    let few = many.1 in
    let rest = harts_back c.value d.value d.next harts d.bytes e.1 in
    let long = rest.many in
    let made : Traced = record { length = a.value; entry = b.value; period = c.value; harts = harts } in
    let harts_took : Took c.next d.next (word (length harts)) = subst (λ (n : ℕ). Took c.next d.next (word n)) (sym rest.many) d.took in
    let took = took_both a.took (took_both b.took (took_both c.took harts_took)) in
    let storable : IsStorable made = record {
      trace = record {
        period = leb-true 1 c.value c.passes;
        some = omega (arith, some, long);
        few = omega (arith, few, long);
        paths = rest.are.paths;
        samples = rest.are.samples;
        frames = rest.are.frames;
      };
      length = a.few;
      entry = b.few;
      period = c.few;
      harts = rest.are.storable;
    } in
    let spelled : bytes ≡ trace_spelling made = behind.1
    ∙ ap (λ (l : List ℕ). trace_magic ++ l) (ap left_of behind.0 ∙ took.left ∙ ap (λ (l : List ℕ). word a.value ++ (word b.value ++ (word c.value ++ (word (length harts) ++ l)))) rest.left) in
    subst (FileBack bytes) (ok_same made t e.2) (storable, spelled)

pub read_storable : (bytes : List ℕ) (t : Traced) → IsBytes bytes → trace_in bytes ≡ Ok t → IsStorable t
read_storable bytes t are is = (file_back bytes t are is).0

pub read_bytes : (bytes : List ℕ) (t : Traced) → IsBytes bytes → trace_in bytes ≡ Ok t → bytes ≡ trace_spelling t
read_bytes bytes t are is = (file_back bytes t are is).1
