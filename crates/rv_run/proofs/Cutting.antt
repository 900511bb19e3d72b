-- Slices that are cut in two, and harts that have ended.
use Rattle.std.proofs.Common.{◌≡◌, ℕ, zero, suc, ◌+◌, ◌<◌, ◌≤◌, Bool, true, false, cond, List, [], ◌∷◌, refl, sym, ap, ◌∙◌, append-nil, arith}
use Rattle.rv_run.specs.State.{MachineState, hart_of, is_running}
use Rattle.rv_run.specs.Run.{Instant, Run, finished, preceded, joined, next_instant, state_after, run_slice}
use Rattle.rv_run.specs.Progress.{retires_plainly, plain_count}

pub ended_is_still : (count hart : ℕ) (s : MachineState) → is_running (hart_of s hart) ≡ false → run_slice count hart s ≡ finished s
unfolding run_slice
ended_is_still zero hart s ended = refl
ended_is_still (suc count) hart s ended = ap (λ (b : Bool). cond b (preceded (next_instant hart s ∷ []) (run_slice count hart (state_after hart s))) (finished s)) ended

pub cut_slice : (first second hart : ℕ) (s : MachineState) → run_slice (first + second) hart s ≡ joined (run_slice first hart s) (run_slice second hart)
unfolding run_slice
cut_slice zero second hart s = ap (λ (n : ℕ). run_slice n hart s) (let e : 0 + second ≡ second = omega arith in e)
cut_slice (suc first) second hart s =
    ap (λ (n : ℕ). run_slice n hart s) (let e : suc first + second ≡ suc (first + second) = omega arith in e)
    ∙ elim (is_running (hart_of s hart)) as (λ b. is_running (hart_of s hart) ≡ b
    → cond b (preceded (next_instant hart s ∷ []) (run_slice (first + second) hart (state_after hart s))) (finished s)
    ≡ joined (cond b (preceded (next_instant hart s ∷ []) (run_slice first hart (state_after hart s))) (finished s)) (run_slice second hart)) [
      | true ↦ λ e. ap (preceded (next_instant hart s ∷ [])) (cut_slice first second hart (state_after hart s))
      | false ↦ λ e. sym (ended_is_still second hart s e)
    ] refl

pub longer_slice : (count more hart : ℕ) (s : MachineState) → is_running (hart_of (run_slice count hart s).final hart) ≡ false → run_slice (count + more) hart s ≡ run_slice count hart s
longer_slice count more hart s ended =
    cut_slice count more hart s
    ∙ ap (λ (r : Run). preceded (run_slice count hart s).instants r) (ended_is_still more hart (run_slice count hart s).final ended)
    ∙ ap (λ (l : List Instant). record { instants = l; final = (run_slice count hart s).final }) (append-nil (run_slice count hart s).instants)

pub few_plain : (most hart : ℕ) (s : MachineState) → plain_count most hart s ≤ most
unfolding plain_count
few_plain zero hart s = omega arith
few_plain (suc most) hart s =
    elim (retires_plainly hart s) as (λ b. cond b (suc (plain_count most hart (state_after hart s))) 0 ≤ suc most) [
      | true ↦ let rest = few_plain most hart (state_after hart s) in omega (arith, rest)
      | false ↦ omega arith
    ]

pub longer_plain : (most more hart : ℕ) (s : MachineState) → plain_count most hart s < most → plain_count (most + more) hart s ≡ plain_count most hart s
unfolding plain_count
longer_plain zero more hart s less = absurd (omega arith)
longer_plain (suc most) more hart s less =
    ap (λ (n : ℕ). plain_count n hart s) (let e : suc most + more ≡ suc (most + more) = omega arith in e)
    ∙ by_case (retires_plainly hart s) (λ few. longer_plain most more hart (state_after hart s) few) less
  where
    by_case : (b : Bool) → (plain_count most hart (state_after hart s) < most → plain_count (most + more) hart (state_after hart s) ≡ plain_count most hart (state_after hart s))
        → cond b (suc (plain_count most hart (state_after hart s))) 0 < suc most
        → cond b (suc (plain_count (most + more) hart (state_after hart s))) 0 ≡ cond b (suc (plain_count most hart (state_after hart s))) 0
    by_case true rest less = ap (λ (n : ℕ). suc n) (rest (omega arith))
    by_case false rest less = refl
