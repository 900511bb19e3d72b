-- How many frames a path has, and that their addresses have 32 bits.
use Rattle.std.proofs.Common.{ℕ, zero, suc, ◌^◌, ◌<◌, ◌≤◌, ◌%◌, List, ◌∷◌, length, All, Option, Some, None, arith}
use Rattle.std.specs.List.{AllByRecursion}
use Rattle.std.proofs.lemmas.List.Elements.{All-from_recursion}
use Rattle.scope_types.specs.declared.frame.End.{End}
use Rattle.scope_types.specs.declared.frame.Frame.{Frame}
use Rattle.scope_types.specs.Raw.{HasFrames}
use Rattle.cfi_unwind.specs.declared.caller.Activation.{Activation}
use Rattle.cfi_unwind.specs.Caller.{Words, Unwinding, caller_of, caller_by, end_tests, first_end, rules_or_none, unwound_as}
use Rattle.cfi_unwind.specs.Path.{outside, path_from, path_of}

abbrev IsWord : ℕ → Type 0
IsWord n = n < 2 ^ 32

abbrev HasWord : Frame → Type 0
HasWord frame = IsWord frame.pc

mod_word : (n : ℕ) → IsWord (n % 2 ^ 32)
mod_word n = omega arith

outer_words : (u : Unwinding) (words : Words) (n : ℕ) (end : Option End) (caller : Activation) → IsWord caller.pc → ((c : Activation) → IsWord c.pc → AllByRecursion HasWord (path_from n u words c).frames)
    → AllByRecursion HasWord (outside (λ c. path_from n u words c) (unwound_as end caller)).frames
outer_words u words n None caller low again = again caller low
outer_words u words n (Some end) caller low again = tt

path_words : (n : ℕ) (u : Unwinding) (words : Words) (here : Activation) → IsWord here.pc → AllByRecursion HasWord (path_from n u words here).frames
unfolding path_from caller_of
path_words zero u words here low = tt
path_words (suc n) u words here low =
    (low, outer_words u words n (first_end (end_tests u words here (u.rules here.pc))) (caller_by words here (rules_or_none (u.rules here.pc))) (mod_word _) (λ c within. path_words n u words c within))

one_frame : (frame : Frame) (frames : List Frame) → 1 ≤ length (frame ∷ frames)
one_frame frame frames = omega arith

frame_more : (frame : Frame) (frames : List Frame) (n : ℕ) → length frames ≤ n → length (frame ∷ frames) ≤ suc n
frame_more frame frames n few = omega (arith, few)

outer_few : (u : Unwinding) (words : Words) (n : ℕ) (end : Option End) (caller : Activation) → ((c : Activation) → length (path_from n u words c).frames ≤ n) → length (outside (λ c. path_from n u words c) (unwound_as end caller)).frames ≤ n
outer_few u words n None caller again = again caller
outer_few u words n (Some end) caller again = omega arith

path_few : (n : ℕ) (u : Unwinding) (words : Words) (here : Activation) → length (path_from n u words here).frames ≤ n
unfolding path_from caller_of
path_few zero u words here = omega arith
path_few (suc n) u words here =
    frame_more (record { pc = here.pc }) _ n
    (outer_few u words n (first_end (end_tests u words here (u.rules here.pc))) (caller_by words here (rules_or_none (u.rules here.pc))) (λ c. path_few n u words c))

path_some : (n : ℕ) (u : Unwinding) (words : Words) (here : Activation) → 1 ≤ length (path_from (suc n) u words here).frames
unfolding path_from
path_some n u words here = one_frame (record { pc = here.pc }) (outside (λ c. path_from n u words c) (caller_of u words here)).frames

pub path_frames : (u : Unwinding) (pc : ℕ) (registers : List ℕ) (words : Words) → HasFrames (path_of u pc registers words).frames
path_frames u pc registers words = record {
  some = path_some 511 u words (record { pc = pc; registers = registers });
  few = path_few 512 u words (record { pc = pc; registers = registers });
}

pub paths_words : (u : Unwinding) (pc : ℕ) (registers : List ℕ) (words : Words) → IsWord pc → All HasWord (path_of u pc registers words).frames
paths_words u pc registers words low = All-from_recursion HasWord (path_of u pc registers words).frames (path_words 512 u words (record { pc = pc; registers = registers }) low)
