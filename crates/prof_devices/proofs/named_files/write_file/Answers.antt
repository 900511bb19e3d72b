use Rattle.std.proofs.Common.{◌≡◌, ◌∙◌, ap, sym, subst, None, List, ℕ, [], ◌∷◌, ◌++◌}
use Rattle.std.specs.Prelude.{position}
use Rattle.prof_devices.specs.Files.{Files, Holds, has_name}
use Rattle.prof_devices.proofs.Places.{rewritten_as, pushed}
use Rattle.prof_devices.proofs.named_files.write_file.Goals as goal

pub returns-in-Some-clause-ok : goal.returns-in-Some-clause-ok
returns-in-Some-clause-ok c =
    rewritten_as c.args.files.now.items _ _ _ _ c.index_mut.ensures.value (c.in-Some.ensures ∙ ap (λ (fs : Files). position (has_name c.args.name.now) fs) c.deref.ensures.value)

pub returns-in_ok-push-in-None-clause-ok : goal.returns-in_ok-push-in-None-clause-ok
returns-in_ok-push-in-None-clause-ok c =
    let fs = c.args.files.now.items in
    let none : position (has_name c.args.name.now) fs ≡ None = ap (λ (fs : Files). position (has_name c.args.name.now) fs) (sym c.deref.ensures.value) ∙ sym c.in-None.ensures in
    let now : c.push.new.self.items ≡ fs ++ (c.args.name.now, c.args.text) ∷ [] =
    c.in_ok-push-in-None.ensures.items ∙ ap (λ (name : List ℕ). fs ++ (name, c.args.text) ∷ []) c.in_ok-of-in-None.ensures in
    subst (λ new. Holds fs new c.args.name.now c.args.text) (sym now) (pushed fs c.args.name.now c.args.text none)
