-- What is drawn at one turn of a loop.
use Rattle.std.proofs.Common.{◌≡◌, ℕ, ◌*◌, ap}
use Rattle.std.specs.List.{flat_map}
use Rattle.guest_gen.specs.Code.{function_bytes, drawn_function, function_words}
use Rattle.prof_bytes.specs.Number.{word}
use Rattle.guest_gen.specs.Draws.{draw_state}
use Rattle.guest_gen.specs.Guest.{drawn_line, slice_line}

pub function_at : (start s i : ℕ) → s ≡ draw_state (3 * i) start → flat_map word (function_words i (drawn_function s i)) ≡ function_bytes start i
unfolding function_bytes
function_at start s i is = ap (λ (s : ℕ). flat_map word (function_words i (drawn_function s i))) is

pub line_at : (start s j : ℕ) → s ≡ draw_state (2 * j) start → drawn_line s ≡ slice_line start j
unfolding slice_line
line_at start s j is = ap drawn_line is
