-- States, one draw after another.
use Rattle.std.proofs.Common.{◌≡◌, ℕ, zero, suc, ◌+◌, ◌*◌, ap, ◌∙◌, arith}
use Rattle.guest_gen.specs.Draws.{next_state, draw_state}

both : (m n s : ℕ) → draw_state m (draw_state n s) ≡ draw_state (m + n) s
unfolding draw_state
both zero n s = ap (λ (k : ℕ). draw_state k s) (let e : n ≡ 0 + n = omega arith in e)
both (suc m) n s = ap next_state (both m n s) ∙ ap (λ (k : ℕ). draw_state k s) (let e : suc (m + n) ≡ suc m + n = omega arith in e)

-- after one turn more of so many draws
pub turns_more : (k i s : ℕ) → draw_state k (draw_state (k * i) s) ≡ draw_state (k * (i + 1)) s
turns_more k i s = both k (k * i) s ∙ ap (λ (n : ℕ). draw_state n s) (turns k i)
  where
    turns : (k i : ℕ) → k + k * i ≡ k * (i + 1)
    turns k i = grind arith
