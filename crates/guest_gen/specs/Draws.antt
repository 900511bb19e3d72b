-- Numbers that are drawn from a state of 32 bits: the linear congruential generator of Numerical Recipes, section 7.1.
use Rattle.std.specs.Prelude.{ℕ, zero, suc, ◌+◌, ◌*◌, ◌/◌, ◌%◌, ◌^◌}

-- the state after a draw
abbrev pub next_state : ℕ → ℕ
next_state s = (1664525 * s + 1013904223) % 2 ^ 32

-- the state after a given number of draws
unfoldable pub draw_state : ℕ → ℕ → ℕ
draw_state zero s = s
draw_state (suc n) s = next_state (draw_state n s)

-- a draw, numbered from 0: the upper half of the state after it
abbrev pub draw : ℕ → ℕ → ℕ
draw s k = draw_state (k + 1) s / 65536
