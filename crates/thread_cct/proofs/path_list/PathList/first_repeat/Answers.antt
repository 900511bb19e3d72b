use Rattle.std.proofs.Common.{◌≡◌, List, length, MatchOption, subst, ◌∙◌}
use Rattle.scope_types.specs.declared.frame.Counted.{Counted}
use Rattle.thread_cct.specs.declared.repeats.NumberedPath.{NumberedPath}
use Rattle.thread_cct.specs.private.Keys.{AreKeys, HasNoTie, IsLeastTie}
use Rattle.thread_cct.specs.private.Listed.{listed_paths}
use Rattle.thread_cct.proofs.FirstRepeat.{first_found}
use Rattle.thread_cct.proofs.path_list.PathList.first_repeat.Goals as goal

pub returns : goal.returns
returns c =
    let paths : listed_paths c.as_slice-3.result.now c.as_slice-4.result.now ≡ c.args.self.now = (λ i. listed_paths (c.as_slice-3.ensures.value i) (c.as_slice-4.ensures.value i)) ∙ c.self.view_is in
    let are : AreKeys c.args.self.now c.in_ok-keys.keys.items = subst (λ (cs : List Counted). AreKeys cs c.in_ok-keys.keys.items) paths c.in_ok-keys.ensures in
    let told = subst (λ (ks : List NumberedPath). MatchOption c.least_tie.result (HasNoTie ks (length ks)) (IsLeastTie ks (length ks))) c.as_slice-5.ensures.value c.least_tie.ensures in
    first_found c.args.self.now c.in_ok-keys.keys.items c.sort.new.keys.items are c.sort.ensures.moved c.sort.ensures.sorted c.least_tie.result told
