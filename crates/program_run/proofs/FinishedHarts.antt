-- The harts of a trace, of which it is noted how many instructions they retired.
use Rattle.std.proofs.Common.{◌≡◌, ℕ, zero, suc, ◌+◌, ◌/◌, ◌<◌, ◌≤◌, List, [], ◌∷◌, ◌++◌, length, get_or, map, take, drop, take_all, All, refl, sym, ap, subst, ◌∙◌, arith, append-nil}
use Rattle.std.specs.List.{enumerate_from, range_with_len}
use Rattle.std.proofs.lemmas.List.{drop_all, get_or-map, length-map}
use Rattle.std.proofs.lemmas.List.Elements.{All-from_get_or}
use Rattle.std.proofs.lemmas.List.FromFn.{get_or-enumerate_from, length-enumerate_from}
use Rattle.rv_run.specs.State.{MachineState, hart_of}
use Rattle.trace_lines.specs.Traces.{HartTrace, IsFinished, Traced, hart_in, idle_hart, retired_by, with_harts, with_retired}
use Rattle.program_run.specs.Measured.{Measured}
use Rattle.program_run.specs.commands.Trace.{hart_traced}
use Rattle.program_run.specs.private.Tracing.{finished_in, retired_in_machine}
use Rattle.program_run.proofs.SamplesTraced.{hart_of_samples}

-- ---- one hart after another

-- harts that are numbered from a given number: the first ones are finished, and the others are as they were
abbrev pub partly : MachineState → ℕ → ℕ → List HartTrace → List HartTrace
partly s first done harts = map (retired_in_machine s) (enumerate_from first (take done harts)) ++ drop done harts

pub partly_long : (s : MachineState) (first done : ℕ) (harts : List HartTrace) → length (partly s first done harts) ≡ length harts
partly_long s first zero harts = refl
partly_long s first (suc done) [] = refl
partly_long s first (suc done) (h ∷ harts) = ap (λ (n : ℕ). suc n) (partly_long s (first + 1) done harts)

-- the next hart is as it was
pub partly_next : (s : MachineState) (first done : ℕ) (harts : List HartTrace) → done < length harts → hart_in (partly s first done harts) done ≡ hart_in harts done
partly_next s first done [] less = absurd (omega arith)
partly_next s first zero (h ∷ harts) less = refl
partly_next s first (suc done) (h ∷ harts) less = partly_next s (first + 1) done harts (omega arith)

one_finished : (s : MachineState) (first done : ℕ) (harts : List HartTrace) → done < length harts → retired_by (partly s first done harts) done (hart_of s (first + done)).retired ≡ partly s first (suc done) harts
one_finished s first done [] less = absurd (omega arith)
one_finished s first zero (h ∷ harts) less =
    let here : first + 0 ≡ first = omega arith in
    ap (λ (n : ℕ). (let l : List HartTrace = with_retired h (hart_of s n).retired ∷ harts in l)) here
one_finished s first (suc done) (h ∷ harts) less =
    let there : first + suc done ≡ first + 1 + done = omega arith in
    let rest : List HartTrace = partly s (first + 1) done harts in
    let whole : List HartTrace = retired_in_machine s (first, h) ∷ rest in
    ap (λ (n : ℕ). retired_by whole (suc done) (hart_of s n).retired) there
    ∙ ap (λ (l : List HartTrace). retired_in_machine s (first, h) ∷ l) (one_finished s (first + 1) done harts (omega arith))

-- one hart more is finished
pub more_finished : (s : MachineState) (t old new : Traced) (hart retired : ℕ) → old ≡ with_harts t (partly s 0 hart t.harts) → hart < length t.harts → retired ≡ (hart_of s hart).retired
    → new ≡ with_harts old (retired_by old.harts hart retired) → new ≡ with_harts t (partly s 0 (hart + 1) t.harts)
more_finished s t old new hart retired so_far less is noted =
    let own : retired ≡ (hart_of s (0 + hart)).retired = is ∙ ap (λ (n : ℕ). (hart_of s n).retired) (let e : hart ≡ 0 + hart = omega arith in e) in
    noted
    ∙ ap (λ (u : Traced). with_harts u (retired_by u.harts hart retired)) so_far
    ∙ ap (λ (n : ℕ). with_harts t (retired_by (partly s 0 hart t.harts) hart n)) own
    ∙ ap (with_harts t) (one_finished s 0 hart t.harts less)
    ∙ ap (λ (n : ℕ). with_harts t (partly s 0 n t.harts)) (let e : suc hart ≡ hart + 1 = omega arith in e)

-- all are
pub all_finished : (s : MachineState) (t new : Traced) (hart : ℕ) → new ≡ with_harts t (partly s 0 hart t.harts) → length t.harts ≤ hart → new ≡ with_harts t (finished_in s t.harts)
all_finished s t new hart so_far past =
    so_far
    ∙ ap (λ (l : List HartTrace). with_harts t (map (retired_in_machine s) (enumerate_from 0 l) ++ drop hart t.harts)) (take_all hart t.harts past)
    ∙ ap (λ (l : List HartTrace). with_harts t (finished_in s t.harts ++ l)) (drop_all hart t.harts past)
    ∙ ap (with_harts t) (append-nil (finished_in s t.harts))

-- each has the samples that its instructions give
pub are_finished : (s : MachineState) (period : ℕ) (harts : List HartTrace) → ((hart : ℕ) → hart < length harts → length (hart_in harts hart).samples ≡ (hart_of s hart).retired / period)
    → All (IsFinished period) (finished_in s harts)
are_finished s period harts each =
    All-from_get_or (IsFinished period) (finished_in s harts) idle_hart
    (λ hart less.
    let many = length-map (enumerate_from 0 harts) (retired_in_machine s) in
    let long = length-enumerate_from 0 harts in
    let own : hart < length harts = (let l = less in omega (arith, l, many, long)) in
    let numbered : ℕ × HartTrace = (0, idle_hart) in
    let place : 0 + hart ≡ hart = omega arith in
    let at : get_or (finished_in s harts) hart idle_hart ≡ retired_in_machine s (0 + hart, get_or harts hart idle_hart) =
    get_or-map (retired_in_machine s) (enumerate_from 0 harts) hart numbered idle_hart (omega (arith, own, long)) ∙ ap (retired_in_machine s) (get_or-enumerate_from 0 harts hart numbered own) in
    subst (IsFinished period) (sym at) (subst (λ (n : ℕ). IsFinished period (retired_in_machine s (n, get_or harts hart idle_hart))) (sym place) (each hart own)))

-- the harts of a run are finished
pub traced_finished : (m : Measured) (first harts : ℕ) → map (retired_in_machine m.final) (enumerate_from first (map (hart_of_samples m.samples) (range_with_len first harts))) ≡ map (hart_traced m) (range_with_len first harts)
traced_finished m first zero = refl
traced_finished m first (suc harts) = ap (λ (l : List HartTrace). hart_traced m first ∷ l) (traced_finished m (first + 1) harts)
