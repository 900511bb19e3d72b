-- Addresses one after another.
use Rattle.std.proofs.Common.{◌≡◌, ℕ, zero, suc, ◌+◌, ◌^◌, ◌<◌, ◌≤◌, ◌&&◌, Bool, true, List, [], ◌∷◌, ◌++◌, length, map, take, drop, get_or, slice_set, nat_le, refl, sym, ap, ap₂, subst, ◌∙◌, arith}
use Rattle.std.specs.List.{All, range_with_len}
use Rattle.std.proofs.lemmas.Bool.{and_parts, leb-true, le-leb}
use Rattle.std.proofs.lemmas.List.FromFn.{get_or-range_with_len, length-range_with_len, length-map-range_with_len, map-range_with_len_more}
use Rattle.rv_memory.proofs.Contiguous.{all-range}
use Rattle.std.proofs.lemmas.List.Sums.{AllPass-from_list_all}
use Rattle.elf_image.specs.declared.elf.TheConstants.{PF_R}
use Rattle.rv_memory.specs.AddressSpace.{AddressSpace, may, may_all, byte_at}
use Rattle.elf_image.specs.Image.{ProgramImage}
use Rattle.scope_types.specs.Limits.{most_harts}
use Rattle.rv_run.specs.declared.schedule.Slice.{Slice}
use Rattle.rv_run.specs.Schedule.{Scheduled, IsSchedule, IsSlice}
use Rattle.rv_run.specs.State.{HartState, MachineState, hart_in, first_hart, first_state, is_running}
use Rattle.rv_run.specs.Calls.{all_readable, memory_bytes}
use Rattle.rv_run.specs.Progress.{Progress, IsFresh}
use Rattle.rv_run.specs.private.Queue.{IsReady, FirstCanGoOn}

pub each-readable : (memory : AddressSpace) (at count place : ℕ) → may_all PF_R memory at count ≡ true → place < count → may PF_R memory.regions (at + place) ≡ true
each-readable memory at count place all less =
    sym (ap (may PF_R memory.regions) (get_or-range_with_len at count place 0 less))
    ∙ AllPass-from_list_all (may PF_R memory.regions) (range_with_len at count) all place 0 (omega (arith, length-range_with_len at count))

pub fewer-readable : (memory : AddressSpace) (at count few : ℕ) → few ≤ count → all_readable memory at count ≡ true → all_readable memory at few ≡ true
fewer-readable memory at count few less all =
    let parts : (nat_le (at + count) (2 ^ 32) ≡ true) × (may_all PF_R memory at count ≡ true) = and_parts _ _ all in
    let low : at + count ≤ 2 ^ 32 = leb-true (at + count) (2 ^ 32) parts.0 in
    ap₂ (λ (a b : Bool). a && b) (le-leb (at + few) (2 ^ 32) (omega arith))
    (all-range (may PF_R memory.regions) at few (λ i l. each-readable memory at count i parts.1 (omega arith)))

pub readable-each : (memory : AddressSpace) (at count place : ℕ) → all_readable memory at count ≡ true → place < count → may PF_R memory.regions (at + place) ≡ true
readable-each memory at count place all less =
    let parts : (nat_le (at + count) (2 ^ 32) ≡ true) × (may_all PF_R memory at count ≡ true) = and_parts _ _ all in
    each-readable memory at count place parts.1 less

-- a byte more that was copied
pub copied-more : (memory : AddressSpace) (at place : ℕ) (bytes : List ℕ) (byte : ℕ) → bytes ≡ memory_bytes memory at place → byte ≡ byte_at memory (at + place) → bytes ++ byte ∷ [] ≡ memory_bytes memory at (place + 1)
copied-more memory at place bytes byte so_far is =
    ap₂ (λ (xs : List ℕ) (b : ℕ). xs ++ b ∷ []) so_far is ∙ sym (map-range_with_len_more (byte_at memory) at place (at + place) refl)

-- harts one after another
pub firsts-more : (entry harts hart : ℕ) (cores : List HartState) (core : HartState) → cores ≡ map (first_hart entry harts) (range_with_len 0 hart) → core ≡ first_hart entry harts hart → cores ++ core ∷ [] ≡ map (first_hart entry harts) (range_with_len 0 (hart + 1))
firsts-more entry harts hart cores core so_far is =
    ap₂ (λ (xs : List HartState) (x : HartState). xs ++ x ∷ []) so_far is ∙ sym (map-range_with_len_more (first_hart entry harts) 0 hart hart (omega arith))

first-retired : (entry harts : ℕ) (numbers : List ℕ) (hart : ℕ) → (hart_in (map (first_hart entry harts) numbers) hart).retired ≡ 0
first-retired entry harts [] hart = refl
first-retired entry harts (n ∷ numbers) zero = refl
first-retired entry harts (n ∷ numbers) (suc hart) = first-retired entry harts numbers hart

first-running : (entry harts : ℕ) (numbers : List ℕ) (hart : ℕ) → is_running (hart_in (map (first_hart entry harts) numbers) hart) ≡ true
first-running entry harts [] hart = refl
first-running entry harts (n ∷ numbers) zero = refl
first-running entry harts (n ∷ numbers) (suc hart) = first-running entry harts numbers hart

first-length : (entry harts : ℕ) → length (map (first_hart entry harts) (range_with_len 0 harts)) ≡ harts
first-length entry harts = length-map-range_with_len (first_hart entry harts) 0 harts

pub fresh-start : (program : ProgramImage) (harts : ℕ) (input : List ℕ) → harts ≤ most_harts → IsFresh (first_state program harts input)
fresh-start program harts input few =
    record { few = omega (arith, first-length program.entry harts); none = λ hart. first-retired program.entry harts (range_with_len 0 harts) hart }

pub ready-start : (program : ProgramImage) (schedule : Scheduled) (input : List ℕ) → IsSchedule schedule → IsReady (record { state = first_state program schedule.harts input; left = schedule.slices })
ready-start program schedule input is =
    record {
      harts = λ k d few. subst (λ (n : ℕ). (get_or schedule.slices k d).hart < n) (sym (first-length program.entry schedule.harts)) (is.slices k d few).hart;
      room = λ hart. omega (arith, is.instructions, first-retired program.entry schedule.harts (range_with_len 0 schedule.harts) hart);
      next = at schedule.slices is.slices;
    }
  where
    at : (slices : List Slice) → All (IsSlice schedule.harts) slices → FirstCanGoOn (first_state program schedule.harts input) slices
    at [] all = tt
    at (slice ∷ rest) all = ((all 0 slice (omega arith)).count, first-running program.entry schedule.harts (range_with_len 0 schedule.harts) slice.hart)

-- each hart that runs ends, one after another
pub grouped-one : (f : HartState → HartState) (harts : List HartState) (i : ℕ) (d : HartState) → i < length harts → slice_set (map f (take i harts) ++ drop i harts) i (f (get_or (map f (take i harts) ++ drop i harts) i d)) ≡ map f (take (suc i) harts) ++ drop (suc i) harts
grouped-one f [] i d less = absurd (omega arith)
grouped-one f (h ∷ harts) zero d less = refl
grouped-one f (h ∷ harts) (suc i) d less = ap (λ (hs : List HartState). f h ∷ hs) (grouped-one f harts i d (omega arith))

pub grouped-step : (f : HartState → HartState) (start harts : List HartState) (i : ℕ) (old new : HartState) → harts ≡ map f (take i start) ++ drop i start → i < length start → old ≡ get_or harts i old → new ≡ f old
    → slice_set harts i new ≡ map f (take (i + 1) start) ++ drop (i + 1) start
grouped-step f start harts i old new so_far less is made =
    ap (slice_set harts i) (made ∙ ap f is)
    ∙ ap (λ (hs : List HartState). slice_set hs i (f (get_or hs i old))) so_far
    ∙ grouped-one f start i old less
    ∙ ap (λ (n : ℕ). map f (take n start) ++ drop n start) (let e : suc i ≡ i + 1 = omega arith in e)

pub ready-is : (program : ProgramImage) (schedule : Scheduled) (input : List ℕ) (harts : ℕ) (environment : MachineState) (left : List Slice) → IsSchedule schedule → harts ≡ schedule.harts → environment ≡ first_state program harts input → left ≡ schedule.slices
    → IsReady (record { state = environment; left = left })
ready-is program schedule input harts environment left is few state slices =
    subst (λ (p : Progress). IsReady p) (ap₂ (λ (s : MachineState) (l : List Slice). record { state = s; left = l }) (sym (state ∙ ap (λ (n : ℕ). first_state program n input) few)) (sym slices)) (ready-start program schedule input is)

pub fresh-is : (program : ProgramImage) (schedule : Scheduled) (input : List ℕ) (harts : ℕ) (environment : MachineState) → IsSchedule schedule → harts ≡ schedule.harts → environment ≡ first_state program harts input → IsFresh environment
fresh-is program schedule input harts environment is few state =
    subst (λ (s : MachineState). IsFresh s) (sym (state ∙ ap (λ (n : ℕ). first_state program n input) few)) (fresh-start program schedule.harts input is.few)
