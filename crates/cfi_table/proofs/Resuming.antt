-- A run by one limit, and what it says of the runs by later ones.
use Rattle.std.proofs.Common.{◌≡◌, ℕ, ◌≤◌, ◌<◌, ◌^◌, Bool, true, false, cond, List, length, Option, Some, Result, Ok, refl, sym, ap, ◌∙◌, arith}
use Rattle.std.specs.Prelude.{nat_lt}
use Rattle.std.proofs.lemmas.Bool.Decides.{nat_tests}
use Rattle.prof_bytes.specs.Outcome.{FailsBy}
use Rattle.prof_bytes.specs.Reading.{left_of}
use Rattle.prof_bytes.specs.Fields.{Input}
use Rattle.prof_bytes.specs.declared.fail.Fail.{Fail}
use Rattle.cfi_table.specs.declared.fault.FrameFault.{FrameFault}
use Rattle.cfi_table.specs.declared.instruction.AlignmentFactors.{AlignmentFactors}
use Rattle.cfi_table.specs.declared.rules.Rule.{Rule}
use Rattle.cfi_table.specs.Rules.{FrameState, execute, is_past, step_by, run_all}
use Rattle.cfi_table.specs.private.Resuming.{resumed}
use Rattle.cfi_table.proofs.Runs.{Keeps, step_moves, keeps_short, run_end, begins, turns, stops_here, fails_by, ends_here}
use Rattle.cfi_table.proofs.Room.{instructions_have_room}

-- what a loop over instructions keeps, by the limit and by each later one
pub record Running (limit : Option ℕ) (initial : List Rule) (f : AlignmentFactors) (first input : Input FrameFault) (s0 s : FrameState) : Type 0 where
  pub now : Keeps (execute initial) (is_past limit) f first input s0 s
  pub later : (address later : ℕ) → limit ≡ Some address → address ≤ later → Keeps (execute initial) (is_past (Some later)) f first input s0 s

not_later : (limit : Option ℕ) (address later : ℕ) (t : FrameState) → limit ≡ Some address → address ≤ later → is_past limit t ≡ false → is_past (Some later) t ≡ false
not_later limit address later t is le goes =
    let below : nat_lt address t.location ≡ false = ap (λ (l : Option ℕ). is_past l t) (sym is) ∙ goes in
    let above : nat_lt later t.location ≡ false = grind (arith, nat_tests) in
    above

pub starts : (limit : Option ℕ) (initial : List Rule) (f : AlignmentFactors) (first : Input FrameFault) (s0 : FrameState) → Running limit initial f first first s0 s0
starts limit initial f first s0 = record {
  now = begins (execute initial) (is_past limit) f first s0;
  later = λ address later is le. begins (execute initial) (is_past (Some later)) f first s0;
}

pub goes_on : (limit : Option ℕ) (initial : List Rule) (f : AlignmentFactors) (first input next : Input FrameFault) (s0 s t : FrameState) → 0 < length (left_of input.at) → step_by (execute initial) f input s ≡ Ok (t, next) → is_past limit t ≡ false
    → Running limit initial f first input s0 s → Running limit initial f first next s0 t
goes_on limit initial f first input next s0 s t some is goes running = record {
  now = turns (execute initial) (is_past limit) f first input next s0 s t some is goes running.now;
  later = λ address later at le. turns (execute initial) (is_past (Some later)) f first input next s0 s t some is (not_later limit address later t at le goes) (running.later address later at le);
}

pub short_next : (limit : Option ℕ) (initial : List Rule) (f : AlignmentFactors) (first input next : Input FrameFault) (s0 s t : FrameState) → step_by (execute initial) f input s ≡ Ok (t, next) → length first.at.whole < 2 ^ 32
    → Running limit initial f first input s0 s → length next.at.whole < 2 ^ 32
short_next limit initial f first input next s0 s t is lt running =
    let len : length next.at.whole ≡ length input.at.whole = ap (λ (xs : List ℕ). length xs) (step_moves (execute initial) f input next s t is).0 in
    let short = keeps_short (execute initial) (is_past limit) f first input s0 s running.now lt in
    omega arith

pub later_at_stop : (limit : Option ℕ) (initial : List Rule) (f : AlignmentFactors) (first input next : Input FrameFault) (s0 s t : FrameState) → 0 < length (left_of input.at) → step_by (execute initial) f input s ≡ Ok (t, next)
    → Running limit initial f first input s0 s → (address later : ℕ) → limit ≡ Some address → address ≤ later
    → run_all (Some later) initial f first s0 ≡ resumed (Some later) initial f next t
later_at_stop limit initial f first input next s0 s t some is running address later at le = go (is_past (Some later) t) refl
  where
    here : Keeps (execute initial) (is_past (Some later)) f first input s0 s
    here = running.later address later at le

    go : (b : Bool) → is_past (Some later) t ≡ b → run_all (Some later) initial f first s0 ≡ cond b (Ok t) (run_all (Some later) initial f next t)
    go true past = stops_here (execute initial) (is_past (Some later)) f first input next s0 s t some is past here
    go false past =
        let after : Keeps (execute initial) (is_past (Some later)) f first next s0 t = turns (execute initial) (is_past (Some later)) f first input next s0 s t some is past here in
        sym after.so_far ∙ instructions_have_room after.count (Some later) initial f next t after.enough

-- where no instruction is left, each limit gives the same
pub resumed_at_end : (limit : Option ℕ) (initial : List Rule) (f : AlignmentFactors) (input : Input FrameFault) (s : FrameState) → length (left_of input.at) ≡ 0 → resumed limit initial f input s ≡ Ok s
resumed_at_end limit initial f input s none = go (is_past limit s)
  where
    go : (b : Bool) → (let r : Result FrameState FrameFault = cond b (Ok s) (run_all limit initial f input s) in r) ≡ Ok s
    go true = refl
    go false = run_end (execute initial) (is_past limit) (length (left_of input.at)) f input s none

pub later_at_end : (limit : Option ℕ) (initial : List Rule) (f : AlignmentFactors) (first input : Input FrameFault) (s0 s : FrameState) → length (left_of input.at) ≡ 0
    → Running limit initial f first input s0 s → (address later : ℕ) → limit ≡ Some address → address ≤ later
    → run_all (Some later) initial f first s0 ≡ resumed (Some later) initial f input s
later_at_end limit initial f first input s0 s none running address later at le =
    ends_here (execute initial) (is_past (Some later)) f first input s0 s none (running.later address later at le) ∙ sym (resumed_at_end (Some later) initial f input s none)

pub later_fails : (limit : Option ℕ) (initial : List Rule) (f : AlignmentFactors) (first input : Input FrameFault) (s0 s : FrameState) (fail : Fail FrameFault) → 0 < length (left_of input.at) → FailsBy fail (step_by (execute initial) f input s)
    → Running limit initial f first input s0 s → (address later : ℕ) → limit ≡ Some address → address ≤ later
    → FailsBy fail (run_all (Some later) initial f first s0)
later_fails limit initial f first input s0 s fail some is running address later at le =
    fails_by (execute initial) (is_past (Some later)) f first input s0 s fail some is (running.later address later at le)

-- ---- from one row of an FDE to the next

pub resumed_here : (address : ℕ) (initial : List Rule) (f : AlignmentFactors) (input : Input FrameFault) (s : FrameState) → s.location ≤ address → resumed (Some address) initial f input s ≡ run_all (Some address) initial f input s
resumed_here address initial f input s le =
    let before : nat_lt address s.location ≡ false = grind (arith, nat_tests) in
    rw before refl

pub resumed_past : (address : ℕ) (initial : List Rule) (f : AlignmentFactors) (input : Input FrameFault) (s : FrameState) → address < s.location → resumed (Some address) initial f input s ≡ Ok s
resumed_past address initial f input s lt =
    let past : nat_lt address s.location ≡ true = grind (arith, nat_tests) in
    rw past refl
