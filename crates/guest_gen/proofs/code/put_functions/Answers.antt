use Rattle.std.proofs.Common.{List, ℕ, ◌++◌, ◌∙◌, ap, refl, ◌*◌, append-nil, arith, sym}
use Rattle.guest_gen.specs.Code.{function_bytes, functions_bytes}
use Rattle.guest_gen.specs.Draws.{draw_state}
use Rattle.guest_gen.proofs.Loops.{put_all, put_more}
use Rattle.guest_gen.proofs.Steps.{function_at}
use Rattle.guest_gen.proofs.Turns.{turns_more}
use Rattle.guest_gen.proofs.code.put_functions.Goals as goal

pub loop-number-preserved : goal.loop-number-preserved
loop-number-preserved c =
    let start : ℕ = c.args.draws.now.state in
    let i : ℕ = c.loop-number.number in
    let test = c.loop-number-test.true in
    record {
      code = put_more (function_bytes start) c.args.out.now.items c.loop-number.out.items _ i c.loop-number.invariant.code
          (c.in_ok-put_function.ensures.code ∙ ap (λ (l : List ℕ). c.loop-number.out.items ++ l) (function_at start c.loop-number.draws.state i c.loop-number.invariant.state));
      state = c.in_ok-put_function.ensures.state ∙ ap (draw_state 3) c.loop-number.invariant.state ∙ turns_more 3 i start;
      few = omega (arith, test);
    }

pub loop-number-init : goal.loop-number-init
unfolding draw_state
loop-number-init c = record { code = sym (append-nil c.args.out.now.items); state = refl; few = omega arith }

pub returns-clause-code : goal.returns-clause-code
unfolding functions_bytes
returns-clause-code c = put_all (function_bytes c.args.draws.now.state) _ _ c.loop-number.number c.args.count c.loop-number.invariant.code c.loop-number.invariant.few c.loop-number-test.false

pub returns-clause-state : goal.returns-clause-state
returns-clause-state c =
    let few = c.loop-number.invariant.few in
    let done = c.loop-number-test.false in
    c.loop-number.invariant.state ∙ ap (λ (n : ℕ). draw_state (3 * n) c.args.draws.now.state) (omega (arith, few, done))
