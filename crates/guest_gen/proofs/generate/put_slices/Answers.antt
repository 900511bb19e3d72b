use Rattle.std.proofs.Common.{List, ℕ, ◌++◌, ◌∙◌, ap, refl, append-nil, arith, sym}
use Rattle.guest_gen.specs.Draws.{draw_state}
use Rattle.guest_gen.specs.Guest.{slice_line, slice_lines}
use Rattle.guest_gen.proofs.Loops.{put_all, put_more}
use Rattle.guest_gen.proofs.Steps.{line_at}
use Rattle.guest_gen.proofs.Turns.{turns_more}
use Rattle.guest_gen.proofs.generate.put_slices.Goals as goal

pub loop-preserved : goal.loop-preserved
loop-preserved c =
    let start : ℕ = c.args.draws.now.state in
    let i : ℕ = c.loop.counter in
    let test = c.loop-test.true in
    record {
      lines = put_more (slice_line start) c.args.out.now.items c.loop.out.items _ i c.loop.invariant.lines
          (c.in_ok-put_slice.ensures.line ∙ ap (λ (l : List ℕ). c.loop.out.items ++ l) (line_at start c.loop.draws.state i c.loop.invariant.state));
      state = c.in_ok-put_slice.ensures.state ∙ ap (draw_state 2) c.loop.invariant.state ∙ turns_more 2 i start;
      few = omega (arith, test);
    }

pub loop-init : goal.loop-init
unfolding draw_state
loop-init c = record { lines = sym (append-nil c.args.out.now.items); state = refl; few = omega arith }

pub returns : goal.returns
unfolding slice_lines
returns c = put_all (slice_line c.args.draws.now.state) _ _ c.loop.counter c.args.count c.loop.invariant.lines c.loop.invariant.few c.loop-test.false
