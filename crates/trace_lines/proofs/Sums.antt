-- What the harts of a trace have together, a sample at a time.
use Rattle.std.proofs.Common.{◌≡◌, ℕ, ◌+◌, ◌<◌, ◌≤◌, Bool, true, false, cond, not, ◌&&◌, ◌||◌, nat_lt, List, [], ◌∷◌, ◌++◌, length, sum_by, All, Ok, Err, refl, sym, ap, subst, ◌∙◌, arith}
use Rattle.std.specs.Prelude.{slice_set}
use Rattle.std.proofs.Math.Seq.{map-set_same}
use Rattle.std.proofs.lemmas.Bool.{le-ltb, lt-ltb}
use Rattle.std.proofs.lemmas.List.{get_or-map, get_or-replicate, length-append, length-map, length-replicate, length-set, map-set, same_lists}
use Rattle.std.proofs.lemmas.List.Elements.{All-append, All-cons, All-get_or, All-head, All-nil, All-set, All-tail, All-weaker}
use Rattle.std.proofs.lemmas.List.Sums.{sum_by-append, sum_by-cons, sum_by-set}
use Rattle.scope_types.specs.declared.frame.Counted.{Counted}
use Rattle.scope_types.specs.Raw.{Raw, HasFrames, same_raw}
use Rattle.scope_types.specs.private.SameRaw.{raw_decides}
use Rattle.scope_types.specs.Distinct.{ColumnRaw, counted_paths, frames_in}
use Rattle.scope_types.specs.Limits.{most_frames_in_all, most_harts, most_samples}
use Rattle.thread_cct.specs.Adding.{count_one, count_sample, has_path, of_column}
use Rattle.thread_cct.proofs.Paths.{paths_more}
use Rattle.thread_cct.proofs.Tables.{frames_more}
use Rattle.trace_lines.specs.Traces.{HartTrace, frames_traced, hart_in, has_raw, idle_hart, idle_harts, retired_by, sampled, sampled_once, samples_traced, trace_full, traced_tables, with_retired, with_sample}
use Rattle.trace_lines.specs.private.Paths.{AreHarts}
use Rattle.trace_lines.proofs.Distinct.{has_distinct}

abbrev samples_of : HartTrace → ℕ
samples_of h = length h.samples

abbrev table_of : HartTrace → List Counted
table_of h = counted_paths h.samples

abbrev frames_in_path : Counted → ℕ
frames_in_path c = length c.path.frames

abbrev own_sample : ℕ → Raw → ColumnRaw
own_sample hart raw = record { column = hart; raw = raw }

-- ---- the tables of counted paths

own_table : (harts : List HartTrace) (hart : ℕ) → hart < length harts → of_column (traced_tables harts) hart ≡ counted_paths (hart_in harts hart).samples
own_table harts hart own = get_or-map table_of harts hart idle_hart [] own

tables_sampled : (harts : List HartTrace) (hart : ℕ) (raw : Raw) → hart < length harts → traced_tables (sampled harts hart raw) ≡ count_sample (traced_tables harts) (own_sample hart raw)
tables_sampled harts hart raw own =
    map-set table_of harts hart (with_sample (hart_in harts hart) raw)
    ∙ ap (slice_set (traced_tables harts) hart) (sym (paths_more (hart_in harts hart).samples raw) ∙ sym (ap (count_one raw) (own_table harts hart own)))

-- whether the path is new
known_there : (harts : List HartTrace) (hart : ℕ) (raw : Raw) → hart < length harts → has_path raw (of_column (traced_tables harts) hart) ≡ has_raw raw (hart_in harts hart).samples
known_there harts hart raw own = ap (has_path raw) (own_table harts hart own) ∙ sym (has_distinct raw (hart_in harts hart).samples)

frames_sampled : (harts : List HartTrace) (hart : ℕ) (raw : Raw) → hart < length harts → frames_traced (sampled harts hart raw) ≡ frames_traced harts + cond (has_raw raw (hart_in harts hart).samples) 0 (length raw.frames)
frames_sampled harts hart raw own =
    let within : hart < length (traced_tables harts) = (let same = length-map harts table_of in omega (arith, own, same)) in
    ap frames_in (tables_sampled harts hart raw own) ∙ frames_more (traced_tables harts) (own_sample hart raw) within
    ∙ ap (λ (b : Bool). frames_traced harts + cond b 0 (length raw.frames)) (known_there harts hart raw own)

pub frames_known : (harts : List HartTrace) (hart : ℕ) (raw : Raw) → hart < length harts → has_raw raw (hart_in harts hart).samples ≡ true → frames_traced (sampled harts hart raw) ≡ frames_traced harts
frames_known harts hart raw own there =
    let all = frames_sampled harts hart raw own in
    let none = ap (λ (b : Bool). cond b 0 (length raw.frames)) there in
    omega (arith, all, none)

pub frames_new : (harts : List HartTrace) (hart : ℕ) (raw : Raw) → hart < length harts → has_raw raw (hart_in harts hart).samples ≡ false → frames_traced (sampled harts hart raw) ≡ frames_traced harts + length raw.frames
frames_new harts hart raw own new =
    let all = frames_sampled harts hart raw own in
    let some = ap (λ (b : Bool). cond b 0 (length raw.frames)) new in
    omega (arith, all, some)

-- ---- as contracts see harts

pub own_in : (harts now : List HartTrace) (hart : ℕ) → harts ≡ now → hart < length now → hart < length harts
own_in harts now hart view own = subst (λ (l : List HartTrace). hart < length l) (sym view) own

pub room_in : (harts now : List HartTrace) (samples frames : ℕ) → harts ≡ now → AreHarts harts samples frames → samples_traced now < most_samples → samples < most_samples
room_in harts now samples frames view are room =
    let is = are.samples_are in
    let same = ap samples_traced view in
    omega (arith, is, same, room)

pub sampled_is : (old new : List HartTrace) (hart : ℕ) (raw : Raw) (found : Bool) → new ≡ cond found (sampled old hart raw) old → found ≡ true → new ≡ sampled old hart raw
sampled_is old new hart raw found added there = added ∙ ap (λ (b : Bool). cond b (sampled old hart raw) old) there

pub stays : (old new : List HartTrace) (hart : ℕ) (raw : Raw) (found : Bool) → new ≡ cond found (sampled old hart raw) old → found ≡ false → new ≡ old
stays old new hart raw found added absent = added ∙ ap (λ (b : Bool). cond b (sampled old hart raw) old) absent

pub put_is : (old again new : List HartTrace) (hart : ℕ) (raw copy : Raw) → again ≡ old → copy ≡ raw → new ≡ sampled again hart copy → new ≡ sampled old hart raw
put_is old again new hart raw copy same is put = put ∙ ap (λ (l : List HartTrace). sampled l hart copy) same ∙ ap (sampled old hart) is

-- ---- one sample more

pub samples_sampled : (harts : List HartTrace) (hart : ℕ) (raw : Raw) → hart < length harts → samples_traced (sampled harts hart raw) ≡ samples_traced harts + 1
samples_sampled harts hart raw own =
    let all = sum_by-set samples_of harts hart (with_sample (hart_in harts hart) raw) idle_hart own in
    let parts = length-append (hart_in harts hart).samples (raw ∷ []) in
    omega (arith, all, parts)

abbrev HaveAll : HartTrace → Type 0
HaveAll h = All (λ raw. HasFrames raw.frames) h.samples

paths_sampled : (harts : List HartTrace) (hart : ℕ) (raw : Raw) → hart < length harts → HasFrames raw.frames → All HaveAll harts → All HaveAll (sampled harts hart raw)
paths_sampled harts hart raw own has all =
    let P : Raw → Type 0 = λ r. HasFrames r.frames in
    All-set HaveAll harts hart (with_sample (hart_in harts hart) raw)
    (All-append P (hart_in harts hart).samples (raw ∷ []) (All-get_or HaveAll harts hart idle_hart own all) (All-cons P raw [] has (All-nil P))) all

-- what holds of all samples' paths holds of one that is among them
from_has : (P : Raw → Type 0) (raw : Raw) (samples : List Raw) → has_raw raw samples ≡ true → All P samples → P raw
from_has P raw [] there all = absurd cc
from_has P raw (s ∷ samples) there all =
    elim (same_raw raw s) as (λ b. same_raw raw s ≡ b → (b || has_raw raw samples) ≡ true → P raw) [
      | true ↦ λ is e. subst P (sym ((raw_decides raw s).0 is)) (All-head P s samples all)
      | false ↦ λ is e. from_has P raw samples e (All-tail P s samples all)
    ] refl there

pub harts_known : (harts new : List HartTrace) (hart samples frames : ℕ) (raw : Raw) → hart < length harts → AreHarts harts samples frames → samples < most_samples
    → has_raw raw (hart_in harts hart).samples ≡ true → new ≡ sampled harts hart raw → AreHarts new (samples + 1) frames
harts_known harts new hart samples frames raw own are room there is =
    let has : HasFrames raw.frames = from_has (λ r. HasFrames r.frames) raw (hart_in harts hart).samples there (All-get_or HaveAll harts hart idle_hart own are.paths) in
    let one = samples_sampled harts hart raw own in
    let same = frames_known harts hart raw own there in
    let many = length-set harts hart (with_sample (hart_in harts hart) raw) in
    let few = are.few in
    let samples_are = are.samples_are in
    let frames_are = are.frames_are in
    subst (λ (hs : List HartTrace). AreHarts hs (samples + 1) frames) (sym is) (record {
      few = omega (arith, few, many);
      paths = paths_sampled harts hart raw own has are.paths;
      samples_are = omega (arith, one, samples_are);
      few_samples = omega (arith, room);
      frames_are = omega (arith, same, frames_are);
      few_frames = are.few_frames;
    })

pub harts_new : (harts new : List HartTrace) (hart samples frames more : ℕ) (raw : Raw) → hart < length harts → AreHarts harts samples frames → samples < most_samples → HasFrames raw.frames
    → has_raw raw (hart_in harts hart).samples ≡ false → more ≡ frames + length raw.frames → more ≤ most_frames_in_all → new ≡ sampled harts hart raw → AreHarts new (samples + 1) more
harts_new harts new hart samples frames more raw own are room has absent is_more fits is =
    let one = samples_sampled harts hart raw own in
    let grown = frames_new harts hart raw own absent in
    let many = length-set harts hart (with_sample (hart_in harts hart) raw) in
    let few = are.few in
    let samples_are = are.samples_are in
    let frames_are = are.frames_are in
    subst (λ (hs : List HartTrace). AreHarts hs (samples + 1) more) (sym is) (record {
      few = omega (arith, few, many);
      paths = paths_sampled harts hart raw own has are.paths;
      samples_are = omega (arith, one, samples_are);
      few_samples = omega (arith, room);
      frames_are = omega (arith, grown, frames_are, is_more);
      few_frames = fits;
    })

-- ---- what is answered

pub once_known : (harts : List HartTrace) (hart : ℕ) (raw : Raw) → has_raw raw (hart_in harts hart).samples ≡ true → sampled_once harts hart raw ≡ Ok (sampled harts hart raw)
once_known harts hart raw there = ap (λ (b : Bool). cond (not b && nat_lt most_frames_in_all (frames_traced harts + length raw.frames)) (Err trace_full) (Ok (sampled harts hart raw))) there

once_new : (harts : List HartTrace) (hart more : ℕ) (raw : Raw) → has_raw raw (hart_in harts hart).samples ≡ false → more ≡ frames_traced harts + length raw.frames
    → sampled_once harts hart raw ≡ cond (nat_lt most_frames_in_all more) (Err trace_full) (Ok (sampled harts hart raw))
once_new harts hart more raw absent is =
    ap (λ (b : Bool). cond (not b && nat_lt most_frames_in_all (frames_traced harts + length raw.frames)) (Err trace_full) (Ok (sampled harts hart raw))) absent
    ∙ ap (λ (n : ℕ). cond (nat_lt most_frames_in_all n) (Err trace_full) (Ok (sampled harts hart raw))) (sym is)

pub once_full : (harts : List HartTrace) (hart more : ℕ) (raw : Raw) → has_raw raw (hart_in harts hart).samples ≡ false → more ≡ frames_traced harts + length raw.frames → most_frames_in_all < more → sampled_once harts hart raw ≡ Err trace_full
once_full harts hart more raw absent is many = once_new harts hart more raw absent is ∙ ap (λ (b : Bool). cond b (Err trace_full) (Ok (sampled harts hart raw))) (lt-ltb most_frames_in_all more many)

pub once_few : (harts : List HartTrace) (hart more : ℕ) (raw : Raw) → has_raw raw (hart_in harts hart).samples ≡ false → more ≡ frames_traced harts + length raw.frames → more ≤ most_frames_in_all → sampled_once harts hart raw ≡ Ok (sampled harts hart raw)
once_few harts hart more raw absent is few = once_new harts hart more raw absent is ∙ ap (λ (b : Bool). cond b (Err trace_full) (Ok (sampled harts hart raw))) (le-ltb most_frames_in_all more few)

-- ---- no samples yet, and the retired instructions

pub idle_samples : (harts : List HartTrace) → All (λ h. h ≡ idle_hart) harts → samples_traced harts ≡ 0
idle_samples [] idle = refl
idle_samples (h ∷ harts) idle =
    let parts = sum_by-cons samples_of h harts in
    let first = ap samples_of (All-head (λ h. h ≡ idle_hart) h harts idle) in
    let rest = idle_samples harts (All-tail (λ h. h ≡ idle_hart) h harts idle) in
    omega (arith, parts, first, rest)

idle_frames : (harts : List HartTrace) → All (λ h. h ≡ idle_hart) harts → frames_traced harts ≡ 0
idle_frames [] idle = refl
idle_frames (h ∷ harts) idle =
    let parts = sum_by-cons (sum_by frames_in_path) (table_of h) (traced_tables harts) in
    let first = ap (λ (k : HartTrace). sum_by frames_in_path (table_of k)) (All-head (λ h. h ≡ idle_hart) h harts idle) in
    let rest = idle_frames harts (All-tail (λ h. h ≡ idle_hart) h harts idle) in
    omega (arith, parts, first, rest)

-- harts without samples
pub idle_are : (harts : List HartTrace) (count : ℕ) → length harts ≡ count → count ≤ most_harts → All (λ h. h ≡ idle_hart) harts → AreHarts harts 0 0
idle_are harts count many few idle =
    let samples = idle_samples harts idle in
    let frames = idle_frames harts idle in
    record {
      few = omega (arith, many, few);
      paths = All-weaker (λ h. h ≡ idle_hart) HaveAll (λ h is. subst HaveAll (sym is) (All-nil (λ raw. HasFrames raw.frames))) harts idle;
      samples_are = sym samples;
      few_samples = omega arith;
      frames_are = sym frames;
      few_frames = omega arith;
    }

pub idle_is : (harts : List HartTrace) (count : ℕ) → length harts ≡ count → All (λ h. h ≡ idle_hart) harts → harts ≡ idle_harts count
idle_is harts count many idle =
    same_lists harts (idle_harts count) (many ∙ sym (length-replicate count idle_hart))
    (λ k d less. All-get_or (λ h. h ≡ idle_hart) harts k d less idle ∙ sym (get_or-replicate count k idle_hart d (let l = less in let e = many in omega (arith, l, e))))

-- a hart that retired some instructions has the samples that it had
retired_samples : (harts : List HartTrace) (hart retired : ℕ) → hart < length harts → samples_traced (retired_by harts hart retired) ≡ samples_traced harts
retired_samples harts hart retired own =
    let all = sum_by-set samples_of harts hart (with_retired (hart_in harts hart) retired) idle_hart own in
    omega (arith, all)

retired_tables : (harts : List HartTrace) (hart retired : ℕ) → hart < length harts → traced_tables (retired_by harts hart retired) ≡ traced_tables harts
retired_tables harts hart retired own = map-set_same table_of harts hart (with_retired (hart_in harts hart) retired) idle_hart refl

pub retired_are : (harts new : List HartTrace) (hart retired samples frames : ℕ) → hart < length harts → AreHarts harts samples frames → new ≡ retired_by harts hart retired → AreHarts new samples frames
retired_are harts new hart retired samples frames own are is =
    let h : HartTrace = with_retired (hart_in harts hart) retired in
    let many = length-set harts hart h in
    let few = are.few in
    let samples_are = are.samples_are in
    let frames_are = are.frames_are in
    let same = retired_samples harts hart retired own in
    let same_frames = ap frames_in (retired_tables harts hart retired own) in
    subst (λ (hs : List HartTrace). AreHarts hs samples frames) (sym is) (record {
      few = omega (arith, few, many);
      paths = All-set HaveAll harts hart h (All-get_or HaveAll harts hart idle_hart own are.paths) are.paths;
      samples_are = omega (arith, samples_are, same);
      few_samples = are.few_samples;
      frames_are = omega (arith, frames_are, same_frames);
      few_frames = are.few_frames;
    })

pub retired_samples_stay : (harts now new : List HartTrace) (hart retired : ℕ) → harts ≡ now → hart < length now → new ≡ retired_by harts hart retired → samples_traced new ≡ samples_traced now
retired_samples_stay harts now new hart retired view own is =
    ap samples_traced is ∙ retired_samples harts hart retired (subst (λ (l : List HartTrace). hart < length l) (sym view) own) ∙ ap samples_traced view

-- one hart more
pub pushed_are : (harts now new : List HartTrace) (h : HartTrace) (samples more frames more_frames : ℕ) → harts ≡ now → AreHarts harts samples frames → length now < most_harts → HaveAll h → more ≡ length h.samples
    → samples_traced now + length h.samples ≤ most_samples → frames_traced now + more_frames ≡ frames_traced (now ++ h ∷ []) → frames_traced now + more_frames ≤ most_frames_in_all → new ≡ harts ++ h ∷ []
    → AreHarts new (samples + more) (frames + more_frames)
pushed_are harts now new h samples more frames more_frames view are room has more_is few sums short is =
    let many = length-append harts (h ∷ []) in
    let count = ap (λ (l : List HartTrace). length l) view in
    let samples_are = are.samples_are in
    let frames_are = are.frames_are in
    let samples_now = ap samples_traced view in
    let frames_now = ap frames_traced view in
    let frames_new = ap (λ (l : List HartTrace). frames_traced (l ++ h ∷ [])) view in
    let parts = sum_by-append samples_of harts (h ∷ []) in
    let last = sum_by-cons samples_of h [] in
    subst (λ (hs : List HartTrace). AreHarts hs (samples + more) (frames + more_frames)) (sym is) (record {
      few = omega (arith, many, count, room);
      paths = All-append HaveAll harts (h ∷ []) are.paths (All-cons HaveAll h [] has (All-nil HaveAll));
      samples_are = omega (arith, samples_are, parts, last, more_is);
      few_samples = omega (arith, samples_are, samples_now, more_is, few);
      frames_are = omega (arith, frames_are, frames_now, frames_new, sums);
      few_frames = omega (arith, frames_are, frames_now, short);
    })

pub none_are : AreHarts [] 0 0
none_are = record { few = omega arith; paths = All-nil HaveAll; samples_are = refl; few_samples = omega arith; frames_are = refl; few_frames = omega arith }
