use Rattle.std.proofs.Common.{◌≡◌, ℕ, ◌+◌, ◌-◌, ◌≤◌, ◌++◌, List, [], ◌∷◌, length, Option, None, Some, ap, ◌∙◌, refl, sym, subst, arith}
use Rattle.std.proofs.lemmas.List.{append-nil, length-append}
use Rattle.std.specs.Option.{option_or}
use Rattle.address_ranges.specs.declared.ranges.Step.{Step}
use Rattle.address_ranges.specs.private.Steps.{past, holder_from, next_start, IsAscending}
use Rattle.address_ranges.proofs.Steps.{merged, merged_value, merged_ascends, merged_more, merged_end, one_less}
use Rattle.address_ranges.proofs.ranges.overlay.Goals as goal

-- one turn of the loop, over plain lists
turn : (start : ℕ) (x y h x' y' : Option ℕ) (xs ys xs' ys' all bll front front' : List Step)
    → Some start ≡ next_start xs ys → (x', xs') ≡ past start x xs → (y', ys') ≡ past start y ys → h ≡ option_or x' y' → front' ≡ front ++ record { start = start; holder = h } ∷ []
    → length front + (length xs + length ys) ≤ length all + length bll
    → front ++ merged (length all + length bll - length front) x xs y ys ≡ merged (length all + length bll) None all None bll
    → (length front' + (length xs' + length ys') ≤ length all + length bll)
    × (front' ++ merged (length all + length bll - length front') x' xs' y' ys' ≡ merged (length all + length bll) None all None bll)
turn start x y h x' y' xs ys xs' ys' all bll front front' next px py ph pushed room so_far =
    let n = length all + length bll in
    let e = sym next in
    let less = one_less start x y xs ys e in
    let ex : xs' ≡ (past start x xs).1 = ap (λ (p : Option ℕ × List Step). p.1) px in
    let ey : ys' ≡ (past start y ys).1 = ap (λ (p : Option ℕ × List Step). p.1) py in
    let hx : x' ≡ (past start x xs).0 = ap (λ (p : Option ℕ × List Step). p.0) px in
    let hy : y' ≡ (past start y ys).0 = ap (λ (p : Option ℕ × List Step). p.0) py in
    let hh : h ≡ option_or (past start x xs).0 (past start y ys).0 = ph ∙ rw (hx, hy) refl in
    let len : length front' ≡ length front + 1 = ap (λ (zs : List Step). length zs) pushed ∙ length-append front (record { start = start; holder = h } ∷ []) in
    let more = merged_more n (length front) start x y xs ys front e refl room in
    let lx : length xs' ≡ length (past start x xs).1 = ap (λ (zs : List Step). length zs) ex in
    let ly : length ys' ≡ length (past start y ys).1 = ap (λ (zs : List Step). length zs) ey in
    (omega arith, rw (len, pushed, hh, hx, hy, ex, ey) (more ∙ so_far))

pub loop-start-preserved : goal.loop-start-preserved
loop-start-preserved c =
    let t = turn c.in-Some.start c.loop-start.upper_holder c.loop-start.lower_holder c.or-holder.result c.past.result.0 c.past-in-Some.result.0 c.loop-start.upper_left.now c.loop-start.lower_left.now c.past.result.1.now c.past-in-Some.result.1.now c.args.upper.now c.args.lower.now c.loop-start.steps.items c.push.new.self.items
    c.in-Some.ensures c.past.ensures c.past-in-Some.ensures c.or-holder.ensures c.in_ok-push.ensures.items c.loop-start.invariant.room c.loop-start.invariant.so_far in
    record { room = t.0; so_far = t.1 }

-- nothing is left to be laid over
done : (x y : Option ℕ) (xs ys all bll front : List Step) → None ≡ next_start xs ys
    → front ++ merged (length all + length bll - length front) x xs y ys ≡ merged (length all + length bll) None all None bll
    → front ≡ merged (length all + length bll) None all None bll
done x y xs ys all bll front none so_far =
    sym (append-nil front) ∙ ap (λ (zs : List Step). front ++ zs) (sym (merged_end _ x y xs ys (sym none))) ∙ so_far

pub returns-clause-ascending : goal.returns-clause-ascending
returns-clause-ascending c =
    let all = done c.loop-start.upper_holder c.loop-start.lower_holder c.loop-start.upper_left.now c.loop-start.lower_left.now c.args.upper.now c.args.lower.now c.loop-start.steps.items c.in_default.ensures c.loop-start.invariant.so_far in
    subst (λ (zs : List Step). IsAscending 0 zs) (sym all) (merged_ascends _ 0 None None c.args.upper.now c.args.lower.now c.requires.upper c.requires.lower)

pub returns-clause-holders : goal.returns-clause-holders
returns-clause-holders c address =
    let all = done c.loop-start.upper_holder c.loop-start.lower_holder c.loop-start.upper_left.now c.loop-start.lower_left.now c.args.upper.now c.args.lower.now c.loop-start.steps.items c.in_default.ensures c.loop-start.invariant.so_far in
    ap (λ (zs : List Step). holder_from None zs address) all ∙ merged_value _ address None None c.args.upper.now c.args.lower.now (omega arith)
