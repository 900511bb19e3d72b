use Rattle.std.proofs.Common.{ℕ, [], ◌∷◌, ◌++◌, ap, ◌∙◌, arith}
use Rattle.trace_lines.proofs.Kept.{few_paths, new_of, new_samples}
use Rattle.trace_lines.proofs.paths.put_new.Goals as goal

pub overflow_cast-len : goal.overflow_cast-len
overflow_cast-len c =
    let few = few_paths c.args.paths.now.keys c.args.places.now.items c.requires.paths in
    let room = c.requires.few in
    let long = c.len.ensures.len in
    omega (arith, few, room, long)

pub returns-clause-paths : goal.returns-clause-paths
returns-clause-paths c =
    new_of c.args.paths.now.keys _ c.args.places.now.items _ c.args.raw c.requires.paths c.requires.new c.requires.few c.in_default.ensures.keys
    (c.in_ok-push.ensures.items ∙ ap (λ (n : ℕ). c.args.places.now.items ++ n ∷ []) c.len.ensures.len)

pub returns-clause-ok : goal.returns-clause-ok
returns-clause-ok c =
    new_samples c.args.paths.now.keys c.insert.new.self.keys c.args.places.now.items c.push.new.self.items c.args.raw c.requires.paths c.requires.new c.in_default.ensures.keys
    (c.in_ok-push.ensures.items ∙ ap (λ (n : ℕ). c.args.places.now.items ++ n ∷ []) c.len.ensures.len)
